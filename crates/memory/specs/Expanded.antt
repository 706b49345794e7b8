-- What expanding a node comes to: all operators are applied, in file order, or those before one that leads to a new state without room.
use Rattle.std.specs.Prelude.{ℕ, ◌<◌, List, length, Ok, Err, Result}
use Rattle.task.specs.Model.{Model}
use Rattle.plain.specs.Plain as plain
use Rattle.memory.specs.Steps.{NoRoom}
use Rattle.memory.specs.declared.full.Full.{Full}

abbrev pub ExpandsTo : {E : Type 0} → plain.Kind E → Model → ℕ → ℕ → List plain.Node → E → Result (Unit {0}) Full → List plain.Node → E → Type 0
ExpandsTo est t N x ns e (Ok _) ns' e' = plain.GeneratesAll est t N x 0 (length t.operators) ns e ns' e'
ExpandsTo est t N x ns e (Err full) ns' e' = plain.GeneratesAll est t N x 0 full.operator ns e ns' e' × (full.operator < length t.operators) × NoRoom t N x full.operator ns'
