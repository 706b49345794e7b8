-- The operators and the goal of a task, cut down to one variable.
use Rattle.std.proofs.Common.{◌≡◌, ℕ, ◌+◌, ◌-◌, ◌<◌, ◌≤◌, List, length, get_or, drop, Some, None, Option, sym, ap, ◌∙◌, subst, arith, length-drop, length-take}
use mathlib.Core.Logic.{∥∥₁_elim}
use Rattle.tables.specs.declared.records.Entry.{Entry}
use Rattle.tables.specs.declared.records.Operator.{Operator}
use Rattle.task.specs.declared.task.Task.{Task}
use Rattle.tables.specs.Records.{zero_entry, zero_operator, part, effects_at, end_at}
use Rattle.tables.specs.Rules.{Distinct, OperatorsDistinct}
use Rattle.task.specs.Model.{Admits, model, operator, action}
use Rattle.tables.proofs.Lists.{domain-at, part_at}
use Rattle.task.proofs.Actions.{action-at}
use Rattle.abstraction.specs.declared.part.OperatorPart.{OperatorPart}
use Rattle.abstraction.specs.Parts.{value_on, effect_part, effect_on, PartOf}
use Rattle.abstraction.proofs.Parts.{Free, some≢none, free-holds, free-admits, free-after, admits-here, admits-only, after-only, on_none, on_some, value-needed, value-enough}

distinct-out : (es : List Entry) (os : List Operator) → ∥ OperatorsDistinct es os ∥₁ → OperatorsDistinct es os
distinct-out es os h k l i j m n e = ∥∥₁_elim h (λ x y. absurd x) (λ d. d k l i j m n e)

-- entries a to c, of which a to b come first: those of the two parts differ
part-distinct : (es : List Entry) (a b c : ℕ) → Distinct (part es a c) → a ≤ b → b ≤ c → c ≤ length es
    → Distinct (part es a b) × Distinct (part es b c) × ((i j : ℕ) → i < length (part es a b) → j < length (part es b c) → (get_or (part es a b) i zero_entry).variable ≡ (get_or (part es b c) j zero_entry).variable → ⊥)
part-distinct es a b c d h1 h2 h3 =
    let all : length (part es a c) ≡ c - a = long a c (omega arith) h3 in
    let fst : length (part es a b) ≡ b - a = long a b h1 (omega arith) in
    let snd : length (part es b c) ≡ c - b = long b c h2 h3 in (
      (λ i j l m q. d i j l (omega arith)
          (ap (λ z. z.variable) (at a c i (omega arith)) ∙ sym (ap (λ z. z.variable) (at a b i (omega arith))) ∙ q ∙ ap (λ z. z.variable) (at a b j m) ∙ sym (ap (λ z. z.variable) (at a c j (omega arith))))),
      (λ i j l m q. d (b - a + i) (b - a + j) (omega arith) (omega arith)
          (ap (λ z. z.variable) (later i (omega arith)) ∙ q ∙ sym (ap (λ z. z.variable) (later j m)))),
      (λ i j l m q. d i (b - a + j) (omega arith) (omega arith)
          (ap (λ z. z.variable) (at a c i (omega arith)) ∙ sym (ap (λ z. z.variable) (at a b i l)) ∙ q ∙ sym (ap (λ z. z.variable) (later j m)))),
    )
  where
    long : (x y : ℕ) → x ≤ y → y ≤ length es → length (part es x y) ≡ y - x
    long x y p q = omega (arith, length-take (y - x) (drop x es), length-drop x es)

    at : (x y k : ℕ) → k < length (part es x y) → get_or (part es x y) k zero_entry ≡ get_or es (x + k) zero_entry
    at x y k l = (part_at es x y k zero_entry l).2

    later : (j : ℕ) → j < length (part es b c) → get_or (part es a c) (b - a + j) zero_entry ≡ get_or (part es b c) j zero_entry
    later j m =
        let s : a + (b - a + j) ≡ b + j = omega arith in
        at a c (b - a + j) (let p = long a c (omega arith) h3 in let q = long b c h2 h3 in omega arith) ∙ ap (λ z. get_or es z zero_entry) s ∙ sym (at b c j m)

-- a value of an entry on the variable v is one of the variable's
entry-fits : (t : Task) (a b v k : ℕ) → k < length (part t.entries.now a b) → (get_or (part t.entries.now a b) k zero_entry).variable ≡ v
    → (get_or (part t.entries.now a b) k zero_entry).value < get_or (model t).domains v 0
entry-fits t a b v k l q =
    let es = t.entries.now in
    let p = part_at es a b k zero_entry l in
    let e : Entry = get_or es (a + k) zero_entry in
    let w : e.value < get_or (model t).domains e.variable 0 = subst (λ z. e.value < z) (sym (domain-at t.variables.now e.variable)) (t.entries_fit (a + k) p.1).1 in
    subst (λ z. z.value < get_or (model t).domains v 0) (sym p.2) (subst (λ z. e.value < get_or (model t).domains z 0) (sym (ap (λ z. z.variable) p.2) ∙ q) w)

required_fits : (t : Task) (a b v k x : ℕ) → k < length (part t.entries.now a b) → (get_or (part t.entries.now a b) k zero_entry).variable ≡ v
    → (get_or (part t.entries.now a b) k zero_entry).required ≡ Some x → x < get_or (model t).domains v 0
required_fits t a b v k x l q r =
    let es = t.entries.now in
    let p = part_at es a b k zero_entry l in
    let e : Entry = get_or es (a + k) zero_entry in
    let w : x < get_or (model t).domains e.variable 0 = subst (λ z. x < z) (sym (domain-at t.variables.now e.variable)) (t.required_fit (a + k) p.1 x (sym (ap (λ z. z.required) p.2) ∙ r)) in
    subst (λ z. x < get_or (model t).domains z 0) (sym (ap (λ z. z.variable) p.2) ∙ q) w

-- the place of an operator's entries
record Parted (t : Task) (o : ℕ) : Type 0 where
  is : operator (model t) o ≡ action t.entries.now (get_or t.operators.now o zero_operator)
  conditions : Distinct (part t.entries.now (get_or t.operators.now o zero_operator).first (effects_at (get_or t.operators.now o zero_operator)))
  effects : Distinct (part t.entries.now (effects_at (get_or t.operators.now o zero_operator)) (end_at (get_or t.operators.now o zero_operator)))
  apart : (i j : ℕ) → i < length (part t.entries.now (get_or t.operators.now o zero_operator).first (effects_at (get_or t.operators.now o zero_operator)))
      → j < length (part t.entries.now (effects_at (get_or t.operators.now o zero_operator)) (end_at (get_or t.operators.now o zero_operator)))
      → (get_or (part t.entries.now (get_or t.operators.now o zero_operator).first (effects_at (get_or t.operators.now o zero_operator))) i zero_entry).variable
      ≡ (get_or (part t.entries.now (effects_at (get_or t.operators.now o zero_operator)) (end_at (get_or t.operators.now o zero_operator))) j zero_entry).variable → ⊥

parted : (t : Task) (o : ℕ) → o < length t.operators.now → Parted t o
parted t o h =
    let es = t.entries.now in
    let r : Operator = get_or t.operators.now o zero_operator in
    let end : end_at r ≤ length es = (t.operators_fit o h).2 in
    let d = part-distinct es r.first (effects_at r) (end_at r) (distinct-out es t.operators.now t.operators_distinct o h) (omega arith) (omega arith) end in
    record { is = action-at es t.operators.now o h; conditions = d.0; effects = d.1; apart = d.2 }

-- an effect on the variable is the part, since no condition is on it too
pub part-effect : (t : Task) (o v : ℕ) (p : OperatorPart) → o < length t.operators.now
    → effect_on v (part t.entries.now (effects_at (get_or t.operators.now o zero_operator)) (end_at (get_or t.operators.now o zero_operator))) ≡ Some p
    → PartOf (operator (model t) o) v (get_or (model t).domains v 0) p
part-effect t o v p h some =
    let es = t.entries.now in
    let r : Operator = get_or t.operators.now o zero_operator in
    let w = parted t o h in
    let cs : List Entry = part es r.first (effects_at r) in
    let fs : List Entry = part es (effects_at r) (end_at r) in
    let at = on_some effect_part v fs p some in
    let k = at.0 in
    let free : Free v cs = λ i l q. w.apart i k l at.1.inside (q ∙ sym at.1.names) in
    subst (λ z. PartOf z v (get_or (model t).domains v 0) p) (sym w.is) (subst (PartOf _ v _) (sym at.2) (record {
      needed = λ x a b. admits-here v x fs k at.1 b;
      enough = λ x a. (free-holds v x cs free, admits-only v x fs k w.effects at.1 a);
      after = λ x. after-only v x fs k w.effects at.1;
      required_fits = λ x e. required_fits t (effects_at r) (end_at r) v k x at.1.inside at.1.names e;
      value_fits = λ x e.
          let is : (get_or fs k zero_entry).value ≡ x = cc in
          subst (λ z. z < get_or (model t).domains v 0) is (entry-fits t (effects_at r) (end_at r) v k at.1.inside at.1.names);
    }))

-- without an effect on the variable the part is the condition on it
pub part-condition : (t : Task) (o v : ℕ) (q : Option ℕ) → o < length t.operators.now
    → effect_on v (part t.entries.now (effects_at (get_or t.operators.now o zero_operator)) (end_at (get_or t.operators.now o zero_operator))) ≡ None
    → q ≡ value_on v (part t.entries.now (get_or t.operators.now o zero_operator).first (effects_at (get_or t.operators.now o zero_operator)))
    → PartOf (operator (model t) o) v (get_or (model t).domains v 0) (record { required = q; value = None })
part-condition t o v q h none e =
    let es = t.entries.now in
    let r : Operator = get_or t.operators.now o zero_operator in
    let w = parted t o h in
    let cs : List Entry = part es r.first (effects_at r) in
    let fs : List Entry = part es (effects_at r) (end_at r) in
    let free : Free v fs = on_none effect_part v fs none in
    subst (λ z. PartOf z v (get_or (model t).domains v 0) (record { required = q; value = None })) (sym w.is) (record {
      needed = λ x a b. subst (Admits x) (sym e) (value-needed v x cs a);
      enough = λ x a. (value-enough v x cs w.conditions (subst (Admits x) e a), free-admits v x fs free);
      after = λ x. sym (free-after v x fs free);
      required_fits = λ x k.
          let at = on_some (λ z. z.value) v cs x (sym e ∙ k) in
          subst (λ z. z < get_or (model t).domains v 0) (sym at.2) (entry-fits t r.first (effects_at r) v at.0 at.1.inside at.1.names);
      value_fits = λ x k. absurd (some≢none (sym k));
    })
