use Rattle.std.proofs.Common.{◌≡◌, ◌-◌}
use Rattle.lines.specs.Reading.{turns, passed}
use Rattle.lines.specs.Views.{place_of}
use Rattle.lines.proofs.cursor.Cursor.skip.Given as goal

abbrev pub invariant-loop : goal.invariant-loop
invariant-loop l = turns l.count passed tt (place_of l.initial.self) ≡ turns (l.count - l.counter) passed tt (place_of l.self)
