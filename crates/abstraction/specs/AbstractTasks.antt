-- What an abstract task stands for, and the abstract states that may follow an operator.
use Rattle.std.specs.Prelude.{ℕ, ◌<◌, List, length, slice_index}
use Rattle.task.specs.Model.{Model, model}
use Rattle.abstraction.specs.declared.abstract_task.AbstractTask.{AbstractTask}
use Rattle.abstraction.specs.Projected.{projected}
use Rattle.abstraction.specs.Parts.{MayFollow}
use Rattle.abstraction.specs.Standing.{part_at}

-- the abstract task itself
abbrev pub abstract_of : AbstractTask → Model
abstract_of A = projected (model A.task.now) A.pattern.now

-- each place may have its value in s after operator o
abbrev pub MayLeadTo : AbstractTask → ℕ → List ℕ → Type 0
MayLeadTo A o s = (i : ℕ) → i < length A.pattern.now → MayFollow (part_at A.operators o i).required (part_at A.operators o i).value (slice_index s i)
