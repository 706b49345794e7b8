-- A running search has not passed its limit of expansions.
use Rattle.std.proofs.Common.{◌≡◌, ℕ, ◌+◌, ◌-◌, ◌*◌, ◌≤◌, subst, arith}
use mathlib.Core.Logic.{∥∥₁_elim}
use native.Mathlib.Bridge.{le_prop}
use Rattle.task.specs.declared.task.Task.{Task}
use Rattle.task.specs.Model.{Model, model, prices, dearest}
use Rattle.plain.specs.Plain as plain
use Rattle.plain.proofs.Budget.{budget-total}
use Rattle.memory.specs.Rows.{nodes_of}
use Rattle.search.specs.declared.inner.Core.{Core}
use Rattle.search.specs.declared.inner.Status.{Status}
use Rattle.search.specs.declared.inner.Status.TheVariants as statuses
use Rattle.search.specs.Search.{Valid, Standing, status_of}

pub within-limit : (t : Model) (s : Core) → ∥ Valid t s ∥₁ → status_of s.status ≡ plain.running → s.total ≤ s.memory.capacity * ((s.memory.capacity - 1) * dearest (prices t) + 1)
within-limit t s h e = ∥∥₁_elim h le_prop (λ x. go s.status x.stands e)
  where
    go : (st : Status) → Standing t s st → status_of st ≡ plain.running → s.total ≤ s.memory.capacity * ((s.memory.capacity - 1) * dearest (prices t) + 1)
    go statuses.Running x q = budget-total s.memory.capacity (dearest (prices t)) s.total (nodes_of s.memory) x.0.budget
    go statuses.Fresh x q = absurd (let z : ◌≡◌ {A = ℕ} 0 1 = cc in omega arith)
    go (statuses.Found k) x q = absurd (let z : ◌≡◌ {A = ℕ} 0 1 = cc in omega arith)
    go statuses.NoPlan x q = absurd (let z : ◌≡◌ {A = ℕ} 0 1 = cc in omega arith)
    go statuses.Full x q = absurd (let z : ◌≡◌ {A = ℕ} 0 1 = cc in omega arith)

-- the same by the task and the room that the search was opened with
pub within-limit-of : (t t₀ : Task) (s : Core) (N₀ : ℕ) → t ≡ t₀ → s.memory.capacity ≡ N₀ → ∥ Valid (model t) s ∥₁ → status_of s.status ≡ plain.running → s.total ≤ N₀ * ((N₀ - 1) * dearest (prices (model t₀)) + 1)
within-limit-of t t₀ s N₀ et eN h e =
    subst (λ z. s.total ≤ N₀ * ((N₀ - 1) * dearest (prices (model z)) + 1)) et
    (subst (λ z. s.total ≤ z * ((z - 1) * dearest (prices (model t)) + 1)) eN (within-limit (model t) s h e))
