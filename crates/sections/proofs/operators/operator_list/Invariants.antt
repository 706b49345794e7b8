use Rattle.std.proofs.Common.{◌≡◌, ◌-◌, [], length}
use Rattle.lines.specs.Reading.{turns}
use Rattle.lines.specs.Views.{place_of}
use Rattle.sections.specs.Operators.{operator_more}
use Rattle.sections.specs.Held.{held, capacity, SameLoan}
use Rattle.sections.specs.Views.{entries_in, SameLender}
use Rattle.sections.proofs.operators.operator_list.Given as goal

abbrev pub invariant-loop-i : goal.invariant-loop-i
invariant-loop-i l =
    (turns l.count (operator_more l.fn.entries.variables.now (length l.fn.records) (length l.fn.entries.records.now)) ([], entries_in l.fn.entries) (place_of l.fn.cursor)
    ≡ turns (l.count - l.i) (operator_more l.entries.variables.now (capacity l.room) (length l.entries.records.now)) (held l.room, entries_in l.entries) (place_of l.cursor))
    × SameLender l.fn.entries l.entries
    × SameLoan l.initial.room l.room
    × (l.room.used ≡ l.i)
