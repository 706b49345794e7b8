-- Where no variable is named twice, the first fact or effect on a variable is all that is said of it.
use Rattle.std.proofs.Common.{◌≡◌, ℕ, zero, suc, ◌<◌, cond, eqb, ◌⊎◌, List, [], ◌∷◌, length, get_or, Some, None, Option, sym, refl, ap, ◌∙◌, inl, inr, ⊎_elim, arith}
use Rattle.std.specs.Option.{option_map}
use Rattle.std.proofs.lemmas.Bool.{cases_eq, eq-eqb, ne_eqb, cond-true, cond-false}
use Rattle.tables.specs.declared.records.Entry.{Entry}
use Rattle.tables.specs.Records.{zero_entry}
use Rattle.tables.specs.Rules.{Distinct}
use Rattle.task.specs.Model.{Admits}
use Rattle.abstraction.specs.Parts.{HoldsAt, AdmitsAt, value_after, first_on, value_on}

-- no entry names the variable v
abbrev pub Free : ℕ → List Entry → Type 0
Free v es = (k : ℕ) → k < length es → (get_or es k zero_entry).variable ≡ v → ⊥

-- the entry k is on the variable v
pub record On (v : ℕ) (es : List Entry) (k : ℕ) : Type 0 where
  pub inside : k < length es
  pub names : (get_or es k zero_entry).variable ≡ v

-- the two ways of a test for equality
ways : {A : Type 0} (a b : ℕ) (x y : A) → ((a ≡ b) × (cond (eqb a b) x y ≡ x)) ⊎ ((a ≡ b → ⊥) × (cond (eqb a b) x y ≡ y))
ways a b x y = ⊎_elim (λ q. inl (q, cond-true (eqb a b) x y (eq-eqb a b q))) (λ n. inr (n, cond-false (eqb a b) x y (ne_eqb a b n))) (cases_eq a b)

pub some≢none : {A : Type 0} {x : A} → ◌≡◌ {A = Option A} (Some x) None → ⊥
some≢none e = let z : ◌≡◌ {A = ℕ} 0 1 = cc in omega arith

some_same : {A : Type 0} {x y : A} → ◌≡◌ {A = Option A} (Some x) (Some y) → x ≡ y
some_same e = cc

distinct-rest : (e : Entry) (es : List Entry) → Distinct (e ∷ es) → Distinct es
distinct-rest e es h i j l m q = h (suc i) (suc j) (omega arith) (omega arith) q

distinct-first : (e : Entry) (es : List Entry) (v : ℕ) → Distinct (e ∷ es) → e.variable ≡ v → Free v es
distinct-first e es v h q k l w = h 0 (suc k) (omega arith) (omega arith) (q ∙ sym w)

distinct-later : (e : Entry) (es : List Entry) (v k : ℕ) → Distinct (e ∷ es) → On v es k → e.variable ≡ v → ⊥
distinct-later e es v k h o q = let l = o.inside in h 0 (suc k) (omega arith) (omega arith) (q ∙ sym o.names)

free-rest : (e : Entry) (es : List Entry) (v : ℕ) → Free v (e ∷ es) → Free v es
free-rest e es v f k l = f (suc k) (omega arith)

on_rest : (e : Entry) (es : List Entry) (v k : ℕ) → On v (e ∷ es) (suc k) → On v es k
on_rest e es v k o = record { inside = (let l = o.inside in omega arith); names = o.names }

pub free-holds : (v x : ℕ) (es : List Entry) → Free v es → HoldsAt v x es
free-holds v x [] f = tt
free-holds v x (e ∷ es) f = ((λ q. absurd (f 0 (omega arith) q)), free-holds v x es (free-rest e es v f))

pub free-admits : (v x : ℕ) (es : List Entry) → Free v es → AdmitsAt v x es
free-admits v x [] f = tt
free-admits v x (e ∷ es) f = ((λ q. absurd (f 0 (omega arith) q)), free-admits v x es (free-rest e es v f))

pub free-after : (v x : ℕ) (es : List Entry) → Free v es → value_after v x es ≡ x
free-after v x [] f = refl
free-after v x (e ∷ es) f =
    ap (λ z. value_after v z es) (cond-false (eqb e.variable v) e.value x (ne_eqb e.variable v (f 0 (omega arith))))
    ∙ free-after v x es (free-rest e es v f)

-- what the facts and effects say of the variable of the entry k
holds-here : (v x : ℕ) (es : List Entry) (k : ℕ) → On v es k → HoldsAt v x es → x ≡ (get_or es k zero_entry).value
holds-here v x [] k o h = absurd (let l = o.inside in omega arith)
holds-here v x (e ∷ es) zero o h = h.0 o.names
holds-here v x (e ∷ es) (suc k) o h = holds-here v x es k (on_rest e es v k o) h.1

pub admits-here : (v x : ℕ) (es : List Entry) (k : ℕ) → On v es k → AdmitsAt v x es → Admits x (get_or es k zero_entry).required
admits-here v x [] k o h = absurd (let l = o.inside in omega arith)
admits-here v x (e ∷ es) zero o h = h.0 o.names
admits-here v x (e ∷ es) (suc k) o h = admits-here v x es k (on_rest e es v k o) h.1

-- which is all that they say of it
holds-only : (v x : ℕ) (es : List Entry) (k : ℕ) → Distinct es → On v es k → x ≡ (get_or es k zero_entry).value → HoldsAt v x es
holds-only v x [] k d o h = tt
holds-only v x (e ∷ es) zero d o h = ((λ q. h), free-holds v x es (distinct-first e es v d o.names))
holds-only v x (e ∷ es) (suc k) d o h =
    let rest : On v es k = on_rest e es v k o in
    ((λ q. absurd (distinct-later e es v k d rest q)), holds-only v x es k (distinct-rest e es d) rest h)

pub admits-only : (v x : ℕ) (es : List Entry) (k : ℕ) → Distinct es → On v es k → Admits x (get_or es k zero_entry).required → AdmitsAt v x es
admits-only v x [] k d o h = tt
admits-only v x (e ∷ es) zero d o h = ((λ q. h), free-admits v x es (distinct-first e es v d o.names))
admits-only v x (e ∷ es) (suc k) d o h =
    let rest : On v es k = on_rest e es v k o in
    ((λ q. absurd (distinct-later e es v k d rest q)), admits-only v x es k (distinct-rest e es d) rest h)

pub after-only : (v x : ℕ) (es : List Entry) (k : ℕ) → Distinct es → On v es k → (get_or es k zero_entry).value ≡ value_after v x es
after-only v x [] k d o = absurd (let l = o.inside in omega arith)
after-only v x (e ∷ es) zero d o = sym (ap (λ z. value_after v z es) (cond-true (eqb e.variable v) e.value x (eq-eqb e.variable v o.names)) ∙ free-after v e.value es (distinct-first e es v d o.names))
after-only v x (e ∷ es) (suc k) d o =
    let rest : On v es k = on_rest e es v k o in
    after-only v x es k (distinct-rest e es d) rest ∙ ap (λ z. value_after v z es) (sym (cond-false (eqb e.variable v) e.value x (ne_eqb e.variable v (distinct-later e es v k d rest))))

-- where none is first, none is on the variable
pub on_none : {A : Type 0} (f : Entry → A) (v : ℕ) (es : List Entry) → option_map f (first_on v es) ≡ None → Free v es
on_none f v [] h = λ k l q. absurd (omega arith)
on_none f v (e ∷ es) h = ⊎_elim
    (λ w. absurd (some≢none (sym (ap (option_map f) w.1) ∙ h)))
    (λ w. each w.0 (on_none f v es (sym (ap (option_map f) w.1) ∙ h)))
    (ways e.variable v (Some e) (first_on v es))
  where
    each : (e.variable ≡ v → ⊥) → Free v es → Free v (e ∷ es)
    each n f zero l q = n q
    each n f (suc k) l q = f k (omega arith) q

pub on_some : {A : Type 0} (f : Entry → A) (v : ℕ) (es : List Entry) (p : A) → option_map f (first_on v es) ≡ Some p → (k : ℕ) × On v es k × (p ≡ f (get_or es k zero_entry))
on_some f v [] p h = absurd (some≢none (sym h))
on_some f v (e ∷ es) p h = ⊎_elim
    (λ w. (0, record { inside = omega arith; names = w.0 }, some_same (sym h ∙ ap (option_map f) w.1)))
    (λ w. let r = on_some f v es p (sym (ap (option_map f) w.1) ∙ h) in (suc r.0, record { inside = (let l = r.1.inside in omega arith); names = r.1.names }, r.2))
    (ways e.variable v (Some e) (first_on v es))

pub value-needed : (v x : ℕ) (es : List Entry) → HoldsAt v x es → Admits x (value_on v es)
value-needed v x es h = go (value_on v es) refl
  where
    go : (o : Option ℕ) → value_on v es ≡ o → Admits x o
    go None q = tt
    go (Some y) q = let r = on_some (λ e. e.value) v es y q in holds-here v x es r.0 r.1 h ∙ sym r.2

pub value-enough : (v x : ℕ) (es : List Entry) → Distinct es → Admits x (value_on v es) → HoldsAt v x es
value-enough v x es d h = go (value_on v es) refl h
  where
    go : (o : Option ℕ) → value_on v es ≡ o → Admits x o → HoldsAt v x es
    go None q m = free-holds v x es (on_none (λ e. e.value) v es q)
    go (Some y) q m = let r = on_some (λ e. e.value) v es y q in holds-only v x es r.0 d r.1 (m ∙ r.2)
