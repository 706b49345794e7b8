-- What the marks of seen variables say of a group of entries.
use Rattle.std.specs.Prelude.{◌≡◌, ℕ, ◌<◌, false, List, slice_index_or}
use Rattle.tables.specs.declared.records.Entry.{Entry}
use Rattle.sections.specs.declared.seen.Seen.{Seen}
use Rattle.sections.specs.Entries.{names}

-- the seen variables are those that the group names
abbrev pub Marked : Seen → List Entry → Type 0
Marked seen group = (v : ℕ) → v < 32 → slice_index_or seen.marks v false ≡ names v group
