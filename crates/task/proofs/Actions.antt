-- What operators do, by place; and that a task's states are closed under them.
use Rattle.std.proofs.Common.{◌≡◌, ◌≢◌, ℕ, Bool, true, false, zero, suc, ◌+◌, ◌<◌, ◌≤◌, List, [], ◌∷◌, map, length, get_or, set, sym, refl, ap, ◌∙◌, suc-le-suc, le_of_suc-le-suc, not-suc-le-zero, arith, length-set, get_or-set_other, get_or-set_same}
use native.Mathlib.Decide.{ℕ_discrete}
use lib.ListN.{length-map}
use Rattle.tables.specs.declared.records.Variable.{Variable}
use Rattle.tables.specs.declared.records.Operator.{Operator}
use Rattle.tables.specs.declared.records.Entry.{Entry}
use Rattle.task.specs.declared.task.Task.{Task}
use Rattle.tables.specs.Records.{zero_operator, zero_entry, part, effects_at, end_at}
use Rattle.std.specs.Bool.{OnTrue, OnFalse}
use Rattle.std.specs.Borrow.{Bor}
use Rattle.std.specs.Fn.{Shared, FnReturnsAt}
use Rattle.task.specs.Answers.{Filled}
use Rattle.task.specs.Model.{Model, model, prices, action, idle, AllHold, Admits, AllAdmit, updated, IsState, Applies, applied, WellFormed, dearest}
use Rattle.tables.proofs.Lists.{domain-at, initial-at, part_at, same-list}

pub hold-from : (s : List ℕ) (es : List Entry) → ((k : ℕ) → k < length es → get_or s (get_or es k zero_entry).variable 0 ≡ (get_or es k zero_entry).value) → AllHold s es
hold-from s [] h = tt
hold-from s (e ∷ es) h = (h 0 (omega arith), hold-from s es (λ k l. h (suc k) (suc-le-suc l)))

pub hold_at : (s : List ℕ) (es : List Entry) (k : ℕ) → k < length es → AllHold s es → get_or s (get_or es k zero_entry).variable 0 ≡ (get_or es k zero_entry).value
hold_at s [] k l m = absurd (not-suc-le-zero l)
hold_at s (e ∷ es) zero l m = m.0
hold_at s (e ∷ es) (suc k) l m = hold_at s es k (le_of_suc-le-suc l) m.1

pub admit-from : (s : List ℕ) (es : List Entry) → ((k : ℕ) → k < length es → Admits (get_or s (get_or es k zero_entry).variable 0) (get_or es k zero_entry).required) → AllAdmit s es
admit-from s [] h = tt
admit-from s (e ∷ es) h = (h 0 (omega arith), admit-from s es (λ k l. h (suc k) (suc-le-suc l)))

pub admit-at : (s : List ℕ) (es : List Entry) (k : ℕ) → k < length es → AllAdmit s es → Admits (get_or s (get_or es k zero_entry).variable 0) (get_or es k zero_entry).required
admit-at s [] k l m = absurd (not-suc-le-zero l)
admit-at s (e ∷ es) zero l m = m.0
admit-at s (e ∷ es) (suc k) l m = admit-at s es k (le_of_suc-le-suc l) m.1

-- an operator's action, by its number
pub action-at : (es : List Entry) (os : List Operator) (i : ℕ) → i < length os → get_or (map (action es) os) i idle ≡ action es (get_or os i zero_operator)
action-at es [] i l = absurd (not-suc-le-zero l)
action-at es (o ∷ os) zero l = refl
action-at es (o ∷ os) (suc i) l = action-at es os i (le_of_suc-le-suc l)

pub price-at : (es : List Entry) (os : List Operator) (i : ℕ) → get_or (map (λ o. o.price) (map (action es) os)) i 0 ≡ (get_or os i zero_operator).price
price-at es [] i = refl
price-at es (o ∷ os) zero = refl
price-at es (o ∷ os) (suc i) = price-at es os i

pub prices-length : (es : List Entry) (os : List Operator) → length (map (λ o. o.price) (map (action es) os)) ≡ length os
prices-length es os = length-map (map (action es) os) (λ o. o.price) ∙ length-map os (action es)

-- each effect gives its variable one of its values
abbrev Within : Model → List Entry → Type 0
Within T [] = Unit {0}
Within T (e ∷ es) = (e.value < get_or T.domains e.variable 0) × Within T es

set-state : (T : Model) (s : List ℕ) (v a : ℕ) → a < get_or T.domains v 0 → IsState T s → IsState T (set s v a)
set-state T s v a l h = record {
  long = length-set s v a ∙ h.long;
  within = λ u m. elim (ℕ_discrete u v) [
    | yes q ↦ here u q (rw (length-set s v a) at m)
    | no d ↦ rw (get_or-set_other s v u a 0 d) (h.within u (rw (length-set s v a) at m))
  ];
}
  where
    here : (u : ℕ) → u ≡ v → u < length s → get_or (set s v a) u 0 < get_or T.domains u 0
    here u q m =
        let k : v < length s = rw q at m in
        rw (q, get_or-set_same s v a 0 k) l

updated-state : (T : Model) (es : List Entry) (s : List ℕ) → Within T es → IsState T s → IsState T (updated s es)
updated-state T [] s w h = h
updated-state T (e ∷ es) s w h = updated-state T es (set s e.variable e.value) w.1 (set-state T s e.variable e.value w.0 h)

within-from : (T : Model) (es : List Entry) → ((k : ℕ) → k < length es → (get_or es k zero_entry).value < get_or T.domains (get_or es k zero_entry).variable 0) → Within T es
within-from T [] h = tt
within-from T (e ∷ es) h = (h 0 (omega arith), within-from T es (λ k l. h (suc k) (suc-le-suc l)))

-- a task's own initial state is a state, and its operators lead from states to states
pub task-well-formed : (t : Task) → WellFormed (model t)
unfolding Applies applied
task-well-formed t = record {
  starts = record {
    long = length-map vs (λ v. v.initial) ∙ sym (length-map vs (λ v. v.domain));
    within = λ v l.
        let m : v < length vs = omega (arith, length-map vs (λ v. v.initial)) in
        rw (initial-at vs v, domain-at vs v) (t.variables_fit v m).2;
  };
  stays = λ s i h a.
      let m : i < length os = omega (arith, length-map os (action es), a.0) in
      rw (action-at es os i m) (updated-state (model t) _ s (effects-within (effects_at (get_or os i zero_operator)) (end_at (get_or os i zero_operator))) h);
}
  where
    vs : List Variable
    vs = t.variables.now

    os : List Operator
    os = t.operators.now

    es : List Entry
    es = t.entries.now

    effects-within : (a b : ℕ) → Within (model t) (part es a b)
    effects-within a b = within-from (model t) (part es a b) (λ k l.
        let p = part_at es a b k zero_entry l in
        rw (p.2, domain-at vs (get_or es (a + k) zero_entry).variable) (t.entries_fit (a + k) p.1).1)

-- no price is above 65,535
pub dearest-low : (t : Task) → dearest (prices (model t)) ≤ 65535
dearest-low t = go t.operators.now (λ k l. (t.operators_fit k l).1)
  where
    go : (os : List Operator) → ((k : ℕ) → k < length os → (get_or os k zero_operator).price ≤ 65535) → dearest (map (λ o. o.price) (map (action t.entries.now) os)) ≤ 65535
    go [] h = omega arith
    go (o ∷ os) h = omega (arith, h 0 (omega arith), go os (λ k l. h (suc k) (suc-le-suc l)))

-- a row of what a closure answers of each record, where that is the number h of it, holds those numbers; any other row stays
pub filled : {F X : Type 0} (g : Shared F (Bor X × Unit {0}) ℕ) (f : F) (h : X → ℕ) (xs : List X) (z : X) (zs row after : List ℕ) (r : Bool) → length zs ≡ length xs → ((k : ℕ) → get_or zs k 0 ≡ h (get_or xs k z)) → OnFalse r ((length row ≢ length xs) × (after ≡ row)) → OnTrue r ((length row ≡ length xs) × (length after ≡ length xs)) → OnTrue r ((k : ℕ) → k < length xs → (d : X) (e : ℕ) → FnReturnsAt g f (get_or xs k d) (get_or after k e)) → ((x : Bor X) (n : ℕ) → g.post f (x, tt) n → n ≡ h x.now) → Filled r row zs after
filled g f h xs z zs row after true l at refused long each is = (
  omega (arith, long.0),
  same-list after zs (omega (arith, long.1)) (λ k m.
      let a = each k (omega (arith, long.1)) z 0 in
      is a.shown _ a.says.met ∙ (ap h a.shows ∙ sym (at k))),
)
filled g f h xs z zs row after false l at refused long each is = (λ e. refused.0 (e ∙ l), refused.1)
