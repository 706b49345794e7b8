-- That a search is valid has one proof at most, so that a struct can keep it in a ghost field.
use Rattle.std.proofs.Common.{ℕ, List}
use mathlib.Core.Logic.{∥∥₁_elim, ∥∥₁_prop}
use std.HLevel.{Π_prop}
use native.Mathlib.Bridge.{le_prop}
use base.Stored.{coded_ℕ}
use denote.Struct.Props.{≡_prop}
use Rattle.task.specs.Model.{Model}
use Rattle.plain.specs.Plain as plain
use Rattle.plain.specs.Counts.{Budget}
use Rattle.memory.proofs.Props.{consistent-prop}
use Rattle.search.specs.declared.inner.Core.{Core}
use Rattle.search.specs.declared.inner.Status.{Status}
use Rattle.search.specs.declared.inner.Status.TheVariants.{Fresh, Running, Found, NoPlan, Full}
use Rattle.memory.specs.Steps.{WithinLimits}
use Rattle.memory.specs.Trees.{ParentTree}
use Rattle.search.specs.Search.{Standing, Valid}

budget-prop : {N K total : ℕ} {ns : List plain.Node} → IsProp (Budget N K total ns)
budget-prop p q = λ i. record { within = le_prop p.within q.within i; paid = le_prop p.paid q.paid i }

limits-prop : {t : Model} {N total : ℕ} {ns : List plain.Node} → IsProp (WithinLimits t N total ns)
limits-prop p q = λ i. record { low = Π_prop (λ _. Π_prop (λ _. le_prop)) p.low q.low i; budget = budget-prop p.budget q.budget i }

tree-prop : {ns : List plain.Node} → IsProp (ParentTree ns)
tree-prop p q = λ i. record {
  some = le_prop p.some q.some i;
  free = ≡_prop coded_ℕ _ _ p.free q.free i;
  back = Π_prop (λ _. Π_prop (λ _. Π_prop (λ _. (λ a b j. (le_prop a.0 b.0 j, le_prop a.1 b.1 j))))) p.back q.back i;
  paths = Π_prop (λ _. Π_prop (λ _. ∥∥₁_prop)) p.paths q.paths i;
}

stands-prop : (t : Model) (s : Core) (st : Status) → IsProp (Standing t s st)
stands-prop t s Fresh p q = λ i. (≡_prop coded_ℕ _ _ p.0 q.0 i, ≡_prop coded_ℕ _ _ p.1 q.1 i, ≡_prop coded_ℕ _ _ p.2 q.2 i)
stands-prop t s Running p q = λ i. (limits-prop p.0 q.0 i, tree-prop p.1 q.1 i)
stands-prop t s (Found f) p q = λ i. (le_prop p.0 q.0 i, ≡_prop coded_ℕ _ _ p.1 q.1 i, tree-prop p.2 q.2 i)
stands-prop t s NoPlan p q = λ i. tt
stands-prop t s Full p q = λ i. tt

valid_prop : {t : Model} {s : Core} → IsProp (Valid t s)
valid_prop {t} {s} p q = λ i. record { consistent = consistent-prop p.consistent q.consistent i; variables = ≡_prop coded_ℕ _ _ p.variables q.variables i; stands = stands-prop t s s.status p.stands q.stands i }

pub valid-out : {t : Model} {s : Core} → ∥ Valid t s ∥₁ → Valid t s
valid-out h = ∥∥₁_elim h valid_prop (λ s. s)
