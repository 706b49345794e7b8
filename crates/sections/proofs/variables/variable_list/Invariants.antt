use Rattle.std.proofs.Common.{◌≡◌, ◌-◌, length}
use Rattle.lines.specs.Reading.{turns}
use Rattle.lines.specs.Views.{place_of}
use Rattle.sections.specs.Variables.{variable_more, variables_of}
use Rattle.sections.specs.Held.{held, capacity, SameLoan}
use Rattle.sections.proofs.variables.variable_list.Given as goal

abbrev pub invariant-loop : goal.invariant-loop
invariant-loop l =
    (variables_of (length l.fn.records) l.count (place_of l.fn.cursor) ≡ turns (l.count - l.counter) (variable_more (capacity l.room)) (held l.room) (place_of l.cursor))
    × SameLoan l.initial.room l.room
    × (l.room.used ≡ l.counter)
