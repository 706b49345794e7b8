use Rattle.std.proofs.Common.{◌≡◌, [], take, drop}
use Rattle.sections.specs.Variables.{initials_of}
use Rattle.lines.specs.Views.{place_of}
use Rattle.sections.proofs.variables.initial_values.Given as goal

abbrev pub invariant-loop-variable : goal.invariant-loop-variable
invariant-loop-variable l =
    initials_of [] l.initial.variables (place_of l.initial.cursor) ≡ initials_of (take l.variable-index l.variables) (drop l.variable-index l.variables) (place_of l.cursor)
