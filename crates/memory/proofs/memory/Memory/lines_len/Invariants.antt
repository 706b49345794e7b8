-- The length so far is that of the lines of the operators given so far.
use Rattle.std.proofs.Common.{◌≡◌, ℕ, ◌+◌, ◌*◌, ◌^◌, ◌≤◌, List, ◌++◌, length, reverse}
use Rattle.task.specs.Names.{operator_name}
use Rattle.plain.specs.Plain.{PathTo}
use Rattle.memory.specs.Rows.{nodes_of}
use Rattle.memory.specs.Plans.{lines}
use Rattle.memory.specs.Ways.{way_of}
use Rattle.memory.proofs.memory.Memory.lines_len.Given as goal

abbrev pub invariant-loop-operator : goal.invariant-loop-operator
invariant-loop-operator l =
    (goal.iterator-loop-operator).can_next l.operator-iterator × (goal.iterator-loop-operator).is_finite l.operator-iterator ×
    ((is : List ℕ) × PathTo (nodes_of l.self) l.node is × (l.yielded ++ way_of l.operator-iterator ≡ reverse is)) ×
    (length l.yielded + length (way_of l.operator-iterator) ≤ l.self.held) × (l.len ≤ length l.yielded * 2 ^ 65) × (l.len ≡ length (lines (operator_name l.task) (reverse l.yielded)))
