-- The leaf keeps the laws.
use Rattle.std.specs.Prelude.{◌≡◌, ℕ, ◌+◌, List, length, Ok, Err, Option, slice_index, refl}
use Rattle.std.proofs.Common.{sym, ap, ◌∙◌, subst, true≢false, zero-le, add-zero}
use Rattle.std.proofs.lemmas.List.{length-replicate}
use Rattle.task.specs.Model.{Model, IsState}
use Rattle.estimator.specs.Price.{Shares, Admissible}
use Rattle.estimator.specs.Laws.{Laws}
use Rattle.estimator.specs.declared.fault.SetFault.{SetFault}
use Rattle.estimator.specs.Lawful.Rows.{zeros}
use Rattle.layers_tests.specs.Leaf.{Unset, Holds, Sets, Answers, no_offer, stubborn, takes, leaf}
use Rattle.layers_tests.specs.declared.leaf.Leaf.{Leaf}

accepts-law : {s s' : Leaf} {T : Model} {row left : List ℕ} {n : ℕ} → Sets s T row n (Ok tt) left s' → (held : List ℕ) × Holds s' T held × Shares row held left
accepts-law (no_offer o r l e) = cc
accepts-law (stubborn o q r l e) = cc
accepts-law {row = row} {left = left} (takes o q r l e) = (
  row,
  (ap (λ z. z.ready) e, o),
  record {
    long_held = refl;
    long_left = ap length l ∙ length-replicate _ _;
    each = λ k. ap (λ x. slice_index row k + slice_index x k) l ∙ ap (λ x. slice_index row k + x) (zeros (length row) k) ∙ add-zero _;
  },
)

refuses-law : {s s' : Leaf} {T : Model} {row left : List ℕ} {n : ℕ} {f : SetFault} → Sets s T row n (Err f) left s' → Unset s' × (left ≡ row)
refuses-law (no_offer o r l e) = (ap (λ z. z.ready) e, l)
refuses-law (stubborn o q r l e) = (ap (λ z. z.ready) e, l)
refuses-law (takes o q r l e) = cc

admits-law : {s s' : Leaf} {T : Model} {held state : List ℕ} {a : Option ℕ} → Holds s T held → IsState T state → Answers s T state a s' → Admissible T held state a
admits-law {T = T} {held = held} {state = state} h st x = subst (Admissible T held state) (sym x.0) (λ p plan. zero-le)

pub leaf-laws : Laws leaf
leaf-laws = record {
  apart = λ u h. true≢false (sym h.0 ∙ u);
  priced = λ h. h.1;
  accepts = accepts-law;
  refuses = refuses-law;
  admits = admits-law;
  passes = λ h alien x. x.0;
  keeps = λ h x. (ap (λ z. z.ready) x.1 ∙ h.0, h.1);
  idles = λ u x. (x.0, ap (λ z. z.ready) x.1 ∙ u);
  unsets = λ x u. sym (ap (λ z. z.ready) x.1) ∙ u;
}
