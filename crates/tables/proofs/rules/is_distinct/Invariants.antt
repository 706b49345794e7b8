-- The marks are of the variables that were met, and none of these was met twice.
use Rattle.std.proofs.Common.{◌≡◌, ℕ, ◌<◌, true, false, length, get_or}
use Rattle.tables.specs.Records.{zero_entry}
use Rattle.tables.proofs.rules.is_distinct.Given as goal

abbrev pub invariant-loop-entry : goal.invariant-loop-entry
invariant-loop-entry l = (length l.met ≡ 32)
    × ((k : ℕ) → k < l.entry-index → get_or l.met (get_or l.entries k zero_entry).variable false ≡ true)
    × ((v : ℕ) → get_or l.met v false ≡ true → (k : ℕ) × (k < l.entry-index) × ((get_or l.entries k zero_entry).variable ≡ v))
    × ((i j : ℕ) → i < j → j < l.entry-index → (get_or l.entries i zero_entry).variable ≡ (get_or l.entries j zero_entry).variable → ⊥)
