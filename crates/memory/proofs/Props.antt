-- That a memory is in order has one proof at most, so that its owner can keep it in a ghost field.
use Rattle.std.proofs.Common.{ℕ, List}
use mathlib.Core.Logic.{∥∥₁_prop}
use std.HLevel.{Π_prop}
use native.Mathlib.Bridge.{le_prop}
use base.Stored.{coded_ℕ}
use denote.Struct.Props.{≡_prop}
use Rattle.queue.specs.declared.entries.SearchEntry.{SearchEntry}
use Rattle.memory.specs.declared.memory.Memory.{Memory}
use Rattle.memory.specs.Index.{Indexed}
use Rattle.memory.specs.Rows.{EntryFor, RoomFor, Consistent}

room-prop : {m : Memory} → IsProp (RoomFor m)
room-prop p q = λ i. record {
  small = le_prop p.small q.small i;
  nodes = le_prop p.nodes q.nodes i;
  states = le_prop p.states q.states i;
  index = ≡_prop coded_ℕ _ _ p.index q.index i;
  entries = le_prop p.entries q.entries i;
  places = le_prop p.places q.places i;
}

indexed-prop : {ws : List ℕ} {state : ℕ → List ℕ} {held : ℕ} → IsProp (Indexed ws state held)
indexed-prop p q = λ i. record {
  valid = Π_prop (λ _. Π_prop (λ _. le_prop)) p.valid q.valid i;
  count = ≡_prop coded_ℕ _ _ p.count q.count i;
  found = Π_prop (λ _. Π_prop (λ _. ∥∥₁_prop)) p.found q.found i;
}

entry-prop : {m : Memory} {k : ℕ} {e : SearchEntry} → IsProp (EntryFor m k e)
entry-prop p q = λ i. record { inside = le_prop p.inside q.inside i; sum = ≡_prop coded_ℕ _ _ p.sum q.sum i; node = ≡_prop coded_ℕ _ _ p.node q.node i }

pub consistent-prop : {m : Memory} → IsProp (Consistent m)
consistent-prop p q = λ i. record {
  lent = room-prop p.lent q.lent i;
  within = le_prop p.within q.within i;
  indexed = indexed-prop p.indexed q.indexed i;
  agrees = Π_prop (λ _. Π_prop (λ _. Π_prop (λ _. entry-prop))) p.agrees q.agrees i;
}
