-- The projection keeps the laws.
use Rattle.std.specs.Prelude.{◌≡◌, ℕ, ◌-◌, ◌<◌, ◌≤◌, List, length, Some, None, Ok, Err, Option, slice_index, slice_index_or, refl}
use Rattle.std.proofs.Common.{sym, ap, ◌∙◌, subst, ⊎_elim, zero-le, arith}
use Rattle.std.proofs.lemmas.List.{get_or_past, length-map}
use Rattle.std.proofs.lemmas.Bool.{cases_lt}
use Rattle.task.specs.Model.{Model, IsState}
use Rattle.estimator.specs.Price.{Offer, Shares, Admissible, joined}
use Rattle.estimator.specs.Laws.{Laws}
use Rattle.estimator.specs.Lawful.Rows.{ok-err, length-joined, get_or-joined, held-offer}
use Rattle.estimator.specs.declared.fault.SetFault.{SetFault}
use Rattle.abstraction.specs.Projected.{projected, cut_action}
use Rattle.projection.specs.declared.projection.Projection.{Projection}
use Rattle.projection.specs.Distances.{IsHeld}
use Rattle.projection.specs.Projection.{Unset, Holds, Serves, Accepted, Sets, takes, no_offer, no_pattern, no_room, Answers, unset, no_state, asks, astray, distances, projection}
use Rattle.projection.specs.Lawful.Admissibility.{table-admits}

some≢none : {A : Type 0} {x : A} → ◌≡◌ {A = Option A} (Some x) None → ⊥
some≢none e = let z : ◌≡◌ {A = ℕ} 0 1 = cc in omega arith

some_same : {A : Type 0} {x y : A} → ◌≡◌ {A = Option A} (Some x) (Some y) → x ≡ y
some_same e = cc

less : ℕ → ℕ → ℕ
less x y = x - y

-- what was offered less what is left
pub accepted-holds : {s s' : Projection} {T : Model} {row left : List ℕ} → Offer T row → Accepted s T row left s' → (held : List ℕ) × Holds s' T held × Shares row held left
unfolding less
accepted-holds {s' = s'} {T = T} {row = row} {left = left} o a =
    let held = joined less row left in
    let long = sym a.long in
    let lh : length held ≡ length row = length-joined less row left long in
    let at : (k : ℕ) → slice_index held k ≡ slice_index row k - slice_index_or left k 0 = λ k. get_or-joined less refl row left long k in
    let shares : Shares row held left = record {
      long_held = lh;
      long_left = a.long;
      each = λ k. let x = at k in ⊎_elim
          (λ (h : k < length row). let b = (a.leaves k h).0 in omega arith)
          (λ (h : length row ≤ k). let b = get_or_past row k 0 h in let c = get_or_past left k 0 (let q = a.long in omega arith) in omega arith)
          (cases_lt k (length row));
    } in
    let lo = length-map T.operators (cut_action s'.pattern.now) in (
      held,
      record {
        weights = a.weights;
        ready = a.ready;
        formed = a.formed;
        serves = a.serves;
        offer = held-offer T row held left o shares;
        row = row;
        table = a.table;
        prices = record {
          long = lh ∙ o.long ∙ sym lo;
          each = λ k h. let q = o.long in subst (IsHeld (projected T s'.pattern.now) (distances s' T) k) (sym (at k)) (a.leaves k (omega arith)).1;
        };
      },
      shares,
    )

accepts-law : {s s' : Projection} {T : Model} {row left : List ℕ} {n : ℕ} → Sets s T row n (Ok tt) left s' → (held : List ℕ) × Holds s' T held × Shares row held left
accepts-law (takes o p m r a) = accepted-holds o a
accepts-law (no_offer o r u) = absurd (ok-err r)
accepts-law (no_pattern o p r u) = absurd (ok-err r)
accepts-law (no_room o p m r u) = absurd (ok-err r)

refuses-law : {s s' : Projection} {T : Model} {row left : List ℕ} {n : ℕ} {f : SetFault} → Sets s T row n (Err f) left s' → Unset s' × (left ≡ row)
refuses-law (takes o p m r a) = absurd (ok-err (sym r))
refuses-law (no_offer o r u) = (u.unset, u.stays)
refuses-law (no_pattern o p r u) = (u.unset, u.stays)
refuses-law (no_room o p m r u) = (u.unset, u.stays)

zero-admits : (T : Model) (held state : List ℕ) (a : Option ℕ) → a ≡ Some 0 → Admissible T held state a
zero-admits T held state a e = subst (Admissible T held state) (sym e) (λ p plan. zero-le)

admits-law : {s s' : Projection} {T : Model} {held state : List ℕ} {a : Option ℕ} → Holds s T held → IsState T state → Answers s T state a s' → Admissible T held state a
admits-law {T = T} {held = held} {state = state} {a = a} h st (unset u v e) = zero-admits T held state a v
admits-law {T = T} {held = held} {state = state} {a = a} h st (no_state u v e) = zero-admits T held state a v
admits-law {T = T} {held = held} {state = state} {a = a} h st (astray w u t i n v e) = zero-admits T held state a v
admits-law {s = s} {T = T} {held = held} {state = state} {a = a} h st (asks w u t i v k e) =
    let is : h.weights ≡ w = some_same (sym h.ready ∙ u) in
    table-admits T s.pattern.now h.row (distances s T) held state h.formed h.serves.pattern h.table h.prices st a (sym (k (subst (Serves s T) is h.serves)))

same : {s s' : Projection} {T : Model} {state : List ℕ} {a : Option ℕ} → Answers s T state a s' → s' ≡ s
same (unset u v e) = e
same (no_state u v e) = e
same (astray w u t i n v e) = e
same (asks w u t i v k e) = e

idles-law : {s s' : Projection} {T : Model} {state : List ℕ} {a : Option ℕ} → Unset s → Answers s T state a s' → a ≡ Some 0
idles-law q (unset u v e) = v
idles-law q (no_state u v e) = v
idles-law q (astray w u t i n v e) = v
idles-law q (asks w u t i v k e) = absurd (some≢none (sym u ∙ q))

passes-law : {s s' : Projection} {T : Model} {state : List ℕ} {a : Option ℕ} → (IsState T state → ⊥) → Answers s T state a s' → a ≡ Some 0
passes-law o (unset u v e) = v
passes-law o (no_state u v e) = v
passes-law o (astray w u t i n v e) = v
passes-law o (asks w u t i v k e) = absurd (o t)

pub projection-laws : Laws projection
projection-laws = record {
  apart = λ u h. some≢none (sym h.ready ∙ u);
  priced = λ h. h.offer;
  accepts = accepts-law;
  refuses = refuses-law;
  admits = admits-law;
  passes = λ h o x. passes-law o x;
  keeps = λ {s} {s'} {T} {held} h x. subst (λ z. Holds z T held) (sym (same x)) h;
  idles = λ u x. (idles-law u x, ap (λ z. z.weights) (same x) ∙ u);
  unsets = λ x u. sym (ap (λ z. z.weights) (same x)) ∙ u;
}
