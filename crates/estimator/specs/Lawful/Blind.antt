-- The blind estimator keeps the laws.
use Rattle.std.specs.Prelude.{◌≡◌, ℕ, ◌+◌, List, length, replicate, Ok, Err, Option, slice_index, refl}
use Rattle.std.proofs.Common.{sym, ap, ◌∙◌, subst, true≢false, zero-le, zero-add, arith}
use Rattle.std.proofs.lemmas.List.{length-replicate}
use Rattle.task.specs.Model.{Model, IsState}
use Rattle.estimator.specs.Price.{Offer, Shares, Admissible}
use Rattle.estimator.specs.Laws.{Laws}
use Rattle.estimator.specs.Blind.{Unset, Holds, Sets, Answers, takes, no_offer, blind}
use Rattle.estimator.specs.declared.fault.SetFault.{SetFault}
use Rattle.estimator.specs.declared.blind.Blind.{Blind}
use Rattle.estimator.specs.Lawful.Rows.{zeros}

priced-law : {s : Blind} {T : Model} {held : List ℕ} → Holds s T held → Offer T held
priced-law {T = T} {held = held} h = subst (Offer T) (sym h.1) (record {
  long = length-replicate _ _;
  low = λ k i. let z = zeros (length T.operators) k in omega arith;
})

accepts-law : {s s' : Blind} {T : Model} {row left : List ℕ} {n : ℕ} → Sets s T row n (Ok tt) left s' → (held : List ℕ) × Holds s' T held × Shares row held left
accepts-law {T = T} {left = left} (takes o r l e) = (
  replicate (length T.operators) 0,
  (e, refl),
  record {
    long_held = length-replicate _ _ ∙ sym o.long;
    long_left = ap length l;
    each = λ k. ap (λ x. x + slice_index left k) (zeros (length T.operators) k) ∙ zero-add _ ∙ ap (λ x. slice_index x k) l;
  },
)
accepts-law (no_offer o r l e) = cc

refuses-law : {s s' : Blind} {T : Model} {row left : List ℕ} {n : ℕ} {f : SetFault} → Sets s T row n (Err f) left s' → Unset s' × (left ≡ row)
refuses-law (takes o r l e) = cc
refuses-law (no_offer o r l e) = (e, l)

admits-law : {s s' : Blind} {T : Model} {held state : List ℕ} {a : Option ℕ} → Holds s T held → IsState T state → Answers s T state a s' → Admissible T held state a
admits-law {T = T} {held = held} {state = state} h st x = subst (Admissible T held state) (sym x.0) (λ p plan. zero-le)

pub blind-laws : Laws blind
blind-laws = record {
  apart = λ u h. true≢false (sym h.0 ∙ u);
  priced = priced-law;
  accepts = accepts-law;
  refuses = refuses-law;
  admits = admits-law;
  passes = λ h alien x. x.0;
  keeps = λ h x. (ap (λ z. z.ready) x.1 ∙ h.0, h.1);
  idles = λ u x. (x.0, ap (λ z. z.ready) x.1 ∙ u);
  unsets = λ x u. sym (ap (λ z. z.ready) x.1) ∙ u;
}
