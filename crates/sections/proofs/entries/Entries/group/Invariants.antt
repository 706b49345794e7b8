use Rattle.std.proofs.Common.{◌≡◌, ◌+◌, ◌-◌, length}
use Rattle.lines.specs.Reading.{turns}
use Rattle.lines.specs.Views.{place_of}
use Rattle.sections.specs.Entries.{entry_more, group_of}
use Rattle.sections.specs.Views.{entries_in, SameLender}
use Rattle.sections.proofs.entries.Entries.group.Given as goal

abbrev pub invariant-loop : goal.invariant-loop
invariant-loop g l =
    let numbers = g.S.Shape.numbers_of in
    (group_of numbers l.initial.self.variables.now (length l.initial.self.records.now) l.initial.self.first l.count (entries_in l.initial.self) (place_of l.initial.cursor)
    ≡ turns (l.count - l.counter) (entry_more numbers l.self.variables.now (length l.self.records.now) l.self.first) (entries_in l.self) (place_of l.cursor))
    × SameLender l.initial.self l.self
    × (l.self.first ≡ l.initial.self.first)
    × (l.self.used ≡ l.initial.self.used + l.counter)
