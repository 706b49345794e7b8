-- Facts, effects and steps of an abstract task, place by place.
use Rattle.std.proofs.Common.{◌≡◌, ℕ, ◌+◌, ◌*◌, ◌<◌, ◌≤◌, cond, eqb, List, [], ◌∷◌, length, get_or, drop, set, Some, None, Option, sym, refl, ap, ◌∙◌, subst, ap₂, ⊎_elim, arith, length-set, get_or-set_other, get_or-set_same}
use lib.ListN.{length-map}
use Rattle.std.proofs.lemmas.List.{get_or-map}
use Rattle.std.proofs.lemmas.Bool.{cases_eq, eq-eqb, ne_eqb, cond-true, cond-false}
use Rattle.tables.specs.declared.records.Entry.{Entry}
use Rattle.task.specs.Model.{Model, IsState, AllHold, Admits, AllAdmit, updated, operator, IsGoal, Applies, applied, model, action}
use Rattle.tables.proofs.Lists.{domain-at}
use Rattle.abstraction.specs.declared.abstract_task.AbstractTask.{AbstractTask}
use Rattle.abstraction.specs.Projected.{kept_at, cut_down, cut_action}
use Rattle.abstraction.specs.Parts.{MayFollow, HoldsAt, AdmitsAt, value_after, or_else}
use Rattle.abstraction.specs.Standing.{unused, part_at}
use Rattle.abstraction.specs.AbstractTasks.{abstract_of, MayLeadTo}
use Rattle.abstraction.specs.Ranks.{product}
use Rattle.abstraction.specs.Lawful.Cutting.{place_found}
use Rattle.abstraction.specs.Lawful.Projecting.{operator-cut}
use Rattle.abstraction.proofs.Ranks.{state-fit, rank_lt, lead, lead-more, lead-le, Digit, digit_at}

-- each entry's variable is below n
abbrev pub Inside : ℕ → List Entry → Type 0
Inside n [] = Unit {0}
Inside n (e ∷ es) = (e.variable < n) × Inside n es

pub cut_inside : (pattern : List ℕ) (es : List Entry) → Inside (length pattern) (cut_down pattern es)
cut_inside pattern [] = tt
cut_inside pattern (e ∷ es) = ⊎_elim
    (λ f. subst (λ z. Inside (length pattern) (kept_at z e (cut_down pattern es))) (sym f.1.is) (f.1.inside, cut_inside pattern es))
    (λ f. subst (λ z. Inside (length pattern) (kept_at z e (cut_down pattern es))) (sym f.is) (cut_inside pattern es))
    (place_found pattern e.variable)

pub hold-each : (s : List ℕ) (v : ℕ) (es : List Entry) → AllHold s es → HoldsAt v (get_or s v 0) es
hold-each s v [] m = tt
hold-each s v (e ∷ es) m = ((λ q. ap (λ z. get_or s z 0) (sym q) ∙ m.0), hold-each s v es m.1)

pub admit-each : (s : List ℕ) (v : ℕ) (es : List Entry) → AllAdmit s es → AdmitsAt v (get_or s v 0) es
admit-each s v [] m = tt
admit-each s v (e ∷ es) m = ((λ q. subst (λ z. Admits (get_or s z 0) e.required) q m.0), admit-each s v es m.1)

pub hold-all : (s : List ℕ) (n : ℕ) (es : List Entry) → Inside n es → ((v : ℕ) → v < n → HoldsAt v (get_or s v 0) es) → AllHold s es
hold-all s n [] i h = tt
hold-all s n (e ∷ es) i h = ((h e.variable i.0).0 refl, hold-all s n es i.1 (λ v l. (h v l).1))

pub admit-all : (s : List ℕ) (n : ℕ) (es : List Entry) → Inside n es → ((v : ℕ) → v < n → AdmitsAt v (get_or s v 0) es) → AllAdmit s es
admit-all s n [] i h = tt
admit-all s n (e ∷ es) i h = ((h e.variable i.0).0 refl, admit-all s n es i.1 (λ v l. (h v l).1))

set-one : (s : List ℕ) (w x v : ℕ) → v < length s → get_or (set s w x) v 0 ≡ cond (eqb w v) x (get_or s v 0)
set-one s w x v h = ⊎_elim
    (λ e. ap (λ z. get_or (set s z x) v 0) e ∙ get_or-set_same s v x 0 h ∙ sym (cond-true (eqb w v) x (get_or s v 0) (eq-eqb w v e)))
    (λ n. get_or-set_other s w v x 0 (λ e. n (sym e)) ∙ sym (cond-false (eqb w v) x (get_or s v 0) (ne_eqb w v n)))
    (cases_eq w v)

pub updated-at : (s : List ℕ) (v : ℕ) (es : List Entry) → v < length s → get_or (updated s es) v 0 ≡ value_after v (get_or s v 0) es
updated-at s v [] h = refl
updated-at s v (e ∷ es) h =
    updated-at (set s e.variable e.value) v es (let l = length-set s e.variable e.value in omega arith)
    ∙ ap (λ z. value_after v z es) (set-one s e.variable e.value v h)

pub updated-long : (s : List ℕ) (es : List Entry) → length (updated s es) ≡ length s
updated-long s [] = refl
updated-long s (e ∷ es) = updated-long (set s e.variable e.value) es ∙ length-set s e.variable e.value

pub places : (A : AbstractTask) → length (abstract_of A).domains ≡ length A.pattern.now
places A = length-map A.pattern.now (λ v. get_or (model A.task.now).domains v 0)

pub operators-long : (A : AbstractTask) → length (abstract_of A).operators ≡ length A.task.now.operators.now
operators-long A =
    let t = A.task.now in
    length-map (model t).operators (cut_action A.pattern.now) ∙ length-map t.operators.now (action t.entries.now)

pub operators-low : (A : AbstractTask) → length (abstract_of A).operators ≤ 256
operators-low A = let a = operators-long A in let c = A.task.now.listed in omega arith

pub number-low : (A : AbstractTask) (o : ℕ) → o < length (abstract_of A).operators → o < 256
number-low A o h = let l = operators-low A in omega arith

pub domain-low : (A : AbstractTask) (i : ℕ) → i < length A.pattern.now → get_or (abstract_of A).domains i 0 ≤ 255
domain-low A i h =
    let t = A.task.now in
    let v = get_or A.pattern.now i 0 in
    let l = length-map t.variables.now (λ w. w.domain) in
    let k = A.stands.pattern.within i h in
    let w = (t.variables_fit v (omega arith)).3 in
    let e = domain-at t.variables.now v in
    let f = get_or-map (λ u. get_or (model t).domains u 0) A.pattern.now i 0 0 h in
    omega arith

or_lt : (v : Option ℕ) (x d : ℕ) → ((y : ℕ) → v ≡ Some y → y < d) → x < d → or_else v x < d
or_lt None x d f h = h
or_lt (Some y) x d f h = f y refl

-- what an operator leads to from an abstract state, by place
pub applied-at : (A : AbstractTask) (s : List ℕ) (o i : ℕ) → o < length (abstract_of A).operators → IsState (abstract_of A) s → i < length A.pattern.now
    → get_or (applied (abstract_of A) s o) i 0 ≡ or_else (part_at A.operators o i).value (get_or s i 0)
unfolding applied
applied-at A s o i h is l =
    let n = length-map A.pattern.now (λ v. get_or (model A.task.now).domains v 0) in
    let k : i < length s = (let q = is.long in omega arith) in
    updated-at s i (operator (abstract_of A) o).effects k ∙ sym ((A.stands.parts o i h l).after (get_or s i 0))

-- which is again an abstract state
pub applied-state : (A : AbstractTask) (s : List ℕ) (o : ℕ) → o < length (abstract_of A).operators → IsState (abstract_of A) s → IsState (abstract_of A) (applied (abstract_of A) s o)
unfolding applied
applied-state A s o h is =
    let n = length-map A.pattern.now (λ v. get_or (model A.task.now).domains v 0) in
    let l = updated-long s (operator (abstract_of A) o).effects in
    record {
      long = l ∙ is.long;
      within = λ i k.
          let q = is.long in
          let p : i < length A.pattern.now = omega arith in
          subst (λ z. z < get_or (abstract_of A).domains i 0) (sym (applied-at A s o i h is p))
          (or_lt (part_at A.operators o i).value (get_or s i 0) (get_or (abstract_of A).domains i 0) (A.stands.parts o i h p).value_fits (is.within i (omega arith)));
    }

-- an operator applies where each place has the value that its part requires
pub applies-each : (A : AbstractTask) (s : List ℕ) (o : ℕ) → o < length (abstract_of A).operators
    → ((i : ℕ) → i < length A.pattern.now → Admits (get_or s i 0) (part_at A.operators o i).required) → Applies (abstract_of A) s o
unfolding Applies
applies-each A s o h each =
    let T = model A.task.now in
    let P = A.pattern.now in
    let l = length-map T.operators (cut_action P) in
    let is = operator-cut T P o (omega arith) in (
      h,
      hold-all s (length P) (operator (abstract_of A) o).conditions (subst (λ z. Inside (length P) z.conditions) (sym is) (cut_inside P (operator T o).conditions))
          (λ i k. ((A.stands.parts o i h k).enough (get_or s i 0) (each i k)).0),
      admit-all s (length P) (operator (abstract_of A) o).effects (subst (λ z. Inside (length P) z.effects) (sym is) (cut_inside P (operator T o).effects))
          (λ i k. ((A.stands.parts o i h k).enough (get_or s i 0) (each i k)).1),
    )

pub applies-at : (A : AbstractTask) (s : List ℕ) (o i : ℕ) → i < length A.pattern.now → Applies (abstract_of A) s o → Admits (get_or s i 0) (part_at A.operators o i).required
unfolding Applies
applies-at A s o i k a = (A.stands.parts o i a.0 k).needed (get_or s i 0) (hold-each s i (operator (abstract_of A) o).conditions a.1) (admit-each s i (operator (abstract_of A) o).effects a.2)

pub applies-number : (P : Model) (s : List ℕ) (o : ℕ) → Applies P s o → o < length P.operators
unfolding Applies
applies-number P s o a = a.0

pub goal-each : (A : AbstractTask) (s : List ℕ) → ((i : ℕ) → i < length A.pattern.now → Admits (get_or s i 0) ((get_or A.places i unused).goal)) → IsGoal (abstract_of A) s
unfolding IsGoal
goal-each A s each =
    let P = A.pattern.now in
    hold-all s (length P) (abstract_of A).goal (cut_inside P (model A.task.now).goal) (λ i k. (A.stands.places i k).goal.enough (get_or s i 0) (each i k))

pub goal-at : (A : AbstractTask) (s : List ℕ) (i : ℕ) → i < length A.pattern.now → IsGoal (abstract_of A) s → Admits (get_or s i 0) ((get_or A.places i unused).goal)
unfolding IsGoal
goal-at A s i k g = (A.stands.places i k).goal.needed (get_or s i 0) (hold-each s i (abstract_of A).goal g)

-- the digit of a place, where `rest` is left of a rank
pub digit-of : (A : AbstractTask) (i rest : ℕ) → i < length A.pattern.now → rest < product (drop i (abstract_of A).domains) → Digit (abstract_of A).domains i rest (get_or A.places i unused).weight
digit-of A i rest h l = let n = places A in digit_at (abstract_of A).domains i rest (get_or A.places i unused).weight (omega arith) ((A.stands.places i h).weight) l

-- one more place of what an operator leads to
pub rank_step : (A : AbstractTask) (s : List ℕ) (o i r y : ℕ) → o < length (abstract_of A).operators → IsState (abstract_of A) s → i < length A.pattern.now
    → r ≡ lead (abstract_of A).domains (applied (abstract_of A) s o) i → y ≡ or_else (part_at A.operators o i).value (get_or s i 0)
    → (r + y * (get_or A.places i unused).weight ≡ lead (abstract_of A).domains (applied (abstract_of A) s o) (i + 1)) × (r + y * (get_or A.places i unused).weight < 65536)
rank_step A s o i r y h is l e f =
    let P = abstract_of A in
    let b = applied P s o in
    let bs = applied-state A s o h is in
    let n = places A in
    let a = lead-more P.domains b i in
    let w : y * (get_or A.places i unused).weight ≡ get_or b i 0 * product (drop (i + 1) P.domains) = ap₂ (λ u v. u * v) (f ∙ sym (applied-at A s o i h is l)) ((A.stands.places i l).weight) in
    let q : r + y * (get_or A.places i unused).weight ≡ lead P.domains b (i + 1) = omega arith in
    let c = lead-le P.domains b (i + 1) bs.long (omega arith) in
    let d = rank_lt P.domains b (state-fit P b bs) in
    let g = A.stands.few in
    (q, omega arith)

follows : (required value : Option ℕ) (x : ℕ) → Admits x required → MayFollow required value (or_else value x)
follows required None x h = h
follows required (Some y) x h = refl

-- an operator leads only to states whose values may follow it
pub leads-only : (A : AbstractTask) (s : List ℕ) (o : ℕ) → IsState (abstract_of A) s → Applies (abstract_of A) s o → MayLeadTo A o (applied (abstract_of A) s o)
leads-only A s o is a i h =
    let p = part_at A.operators o i in
    subst (MayFollow p.required p.value) (sym (applied-at A s o i (applies-number (abstract_of A) s o a) is h)) (follows p.required p.value (get_or s i 0) (applies-at A s o i h a))
