-- The set of seen variables grows with the group of entries.
use Rattle.std.proofs.Common.{◌≡◌, ℕ, zero, suc, ◌<◌, Bool, true, false, ◌||◌, eqb, ◌≢◌, List, [], ◌∷◌, ◌++◌, length, get_or, set, replicate, sym, refl, ap, ◌∙◌, get_or-set_other, get_or-set_same}
use Rattle.std.proofs.lemmas.Bool.{eqb-true, eqb-false}
use Rattle.tables.specs.declared.records.Entry.{Entry}
use Rattle.sections.specs.Entries.{names}

or_swap : (a b c : Bool) → (a || (b || c)) ≡ (b || (a || c))
or_swap true true c = refl
or_swap true false c = refl
or_swap false true c = refl
or_swap false false c = refl

pub names-push : (v : ℕ) (es : List Entry) (e : Entry) → names v (es ++ e ∷ []) ≡ (eqb e.variable v || names v es)
names-push v [] e = refl
names-push v (x ∷ xs) e = ap (λ z. eqb x.variable v || z) (names-push v xs e) ∙ or_swap (eqb x.variable v) (eqb e.variable v) (names v xs)

pub unmarked : (n v : ℕ) → get_or (replicate n false) v false ≡ false
unmarked zero v = refl
unmarked (suc n) zero = refl
unmarked (suc n) (suc v) = unmarked n v

pub marked-push : (marks : List Bool) (group : List Entry) (e : Entry) → e.variable < length marks → (v : ℕ) → get_or marks v false ≡ names v group → get_or (set marks e.variable true) v false ≡ names v (group ++ e ∷ [])
marked-push marks group e inside v h = by (eqb e.variable v) refl
  where
    by : (t : Bool) → eqb e.variable v ≡ t → get_or (set marks e.variable true) v false ≡ names v (group ++ e ∷ [])
    by true k =
        let same : e.variable ≡ v = eqb-true e.variable v k in
        rw (names-push v group e, k, ← same) (get_or-set_same marks e.variable true false inside)
    by false k =
        let other : e.variable ≢ v = eqb-false e.variable v k in
        rw (names-push v group e, k) (get_or-set_other marks e.variable v true false (λ z. other (sym z)) ∙ h)
