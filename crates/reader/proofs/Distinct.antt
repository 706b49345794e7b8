-- Groups of entries that name no variable twice, as they grow.
use Rattle.std.proofs.Common.{◌≡◌, ℕ, zero, suc, ◌+◌, ◌<◌, ◌≤◌, Bool, true, false, ◌||◌, eqb, ◌⊎◌, List, [], ◌∷◌, ◌++◌, length, get_or, sym, refl, ap, ◌∙◌, inl, inr, add-zero, arith}
use Rattle.std.proofs.lemmas.List.{length-append, get_or_append_left, get_or-append-add}
use Rattle.std.proofs.lemmas.Bool.{eqb-false, ne_eqb, cases_lt}
use Rattle.tables.specs.declared.records.Entry.{Entry}
use Rattle.tables.specs.Records.{zero_entry}
use Rattle.tables.specs.Rules.{Distinct}
use Rattle.sections.specs.Entries.{names}

pub names-none : (v : ℕ) (es : List Entry) → ((k : ℕ) → k < length es → (get_or es k zero_entry).variable ≡ v → ⊥) → names v es ≡ false
names-none v [] h = refl
names-none v (e ∷ es) h =
    let first : eqb e.variable v ≡ false = ne_eqb e.variable v (h 0 (omega arith)) in
    let ih = names-none v es (λ k l. h (suc k) (omega arith)) in
    rw (first, ih)

or-false : (a b : Bool) → (a || b) ≡ false → (a ≡ false) × (b ≡ false)
or-false false b h = (refl, h)
or-false true b h = let bad : ◌≡◌ {A = ℕ} 0 1 = cc in let no_way : ⊥ = omega arith in absurd no_way

pub names-absent : (v : ℕ) (es : List Entry) → names v es ≡ false → (k : ℕ) → k < length es → (get_or es k zero_entry).variable ≡ v → ⊥
names-absent v [] h k l e = omega arith
names-absent v (x ∷ es) h zero l e = eqb-false x.variable v (or-false (eqb x.variable v) (names v es) h).0 e
names-absent v (x ∷ es) h (suc k) l e = names-absent v es (or-false (eqb x.variable v) (names v es) h).1 k (omega arith) e

at-end : (g : List Entry) (e : Entry) (xs : List Entry) → get_or (g ++ e ∷ xs) (length g) zero_entry ≡ e
at-end g e xs = rw (add-zero (length g)) at (get_or-append-add g (e ∷ xs) 0 zero_entry)

pub new_in : (g : List Entry) (e : Entry) (xs : List Entry) → Distinct (g ++ e ∷ xs) → names e.variable g ≡ false
new_in g e xs d =
    let long : length (g ++ e ∷ xs) ≡ length g + suc (length xs) = length-append g (e ∷ xs) in
    names-none e.variable g (λ k l h.
    let left = get_or_append_left g (e ∷ xs) zero_entry k l in
    d k (length g) l (omega arith) (ap (λ z. z.variable) left ∙ (h ∙ sym (ap (λ z. z.variable) (at-end g e xs)))))

pub distinct_push : (g : List Entry) (e : Entry) → Distinct g → names e.variable g ≡ false → Distinct (g ++ e ∷ [])
distinct_push g e d new i j below inside same =
    let long : length (g ++ e ∷ []) ≡ length g + 1 = length-append g (e ∷ []) in
    let left : i < length g = omega arith in
    let i-is = ap (λ z. z.variable) (get_or_append_left g (e ∷ []) zero_entry i left) in
    by left i-is (cases_lt j (length g))
  where
    by : i < length g → (get_or (g ++ e ∷ []) i zero_entry).variable ≡ (get_or g i zero_entry).variable → (j < length g) ⊎ (length g ≤ j) → ⊥
    by left i-is (inl before) =
        let j-is = ap (λ z. z.variable) (get_or_append_left g (e ∷ []) zero_entry j before) in
        d i j below before (sym i-is ∙ (same ∙ j-is))
    by left i-is (inr after) =
        let long : length (g ++ e ∷ []) ≡ length g + 1 = length-append g (e ∷ []) in
        let last : j ≡ length g = omega arith in
        let j-is : (get_or (g ++ e ∷ []) j zero_entry).variable ≡ e.variable = rw last (ap (λ z. z.variable) (at-end g e [])) in
        names-absent e.variable g new i left (sym i-is ∙ (same ∙ j-is))

pub distinct_none : Distinct []
distinct_none i j below inside same = omega arith

pub distinct-front : (g xs : List Entry) → Distinct (g ++ xs) → Distinct g
distinct-front g xs d i j below inside same =
    let long : length (g ++ xs) ≡ length g + length xs = length-append g xs in
    let left : i < length g = omega arith in
    let i-is = ap (λ z. z.variable) (get_or_append_left g xs zero_entry i left) in
    let j-is = ap (λ z. z.variable) (get_or_append_left g xs zero_entry j inside) in
    d i j below (omega arith) (i-is ∙ (same ∙ sym j-is))
