-- What planning a task text answers.
use Rattle.std.specs.Prelude.{◌≡◌, ℕ, ◌≤◌, List, Ok, Err, Result}
use Rattle.task.specs.declared.task.Task.{Task}
use Rattle.format.specs.Whole.{room_of, task_of}
use Rattle.reader.specs.Named.{NamedTask, Valid}
use Rattle.reader.specs.Rendering.{render}
use Rattle.reader.specs.Loading.{Shows}
use Rattle.task.specs.Model.{model}
use Rattle.memory.specs.Plans.{plan_text}
use Rattle.planner.specs.Solving.{Ended}
use Rattle.planner.specs.declared.solve.Solution.{Solution}
use Rattle.planner.specs.declared.solve.Solution.TheVariants as solution
use Rattle.planner.specs.declared.plan.PlanError.{PlanError}
use Rattle.planner.specs.declared.plan.PlanError.TheVariants as error

-- the text is that of a valid task, and a search of that task with room for 2,048 states comes to this solution
pub record Planned (text buffer : List ℕ) (s : Solution) (after : List ℕ) : Type 0 where
  pub named : NamedTask
  pub valid : Valid named
  pub stated : text ≡ render named
  pub task : Task
  pub shows : Shows task named
  pub ended : Ended (model task) 2048 (plan_text task) buffer (Ok s) after

-- A text that is refused answers its first fault. The buffer stays unless there is a solution.
abbrev pub Answered : List ℕ → List ℕ → Result Solution PlanError → List ℕ → Type 0
Answered text buffer (Err (error.Text f)) after = (task_of text (room_of 32 256 4096) ≡ Err f) × (after ≡ buffer)
Answered text buffer (Err (error.Memory e)) after = after ≡ buffer
Answered text buffer (Err (error.Search f)) after = after ≡ buffer
Answered text buffer (Ok s) after = Planned text buffer s after

-- a plan's text lies within so many bytes
abbrev pub Within : ℕ → Solution → Type 0
Within bytes (solution.Plan n) = n ≤ bytes
Within bytes solution.NoPlan = Unit {0}
Within bytes solution.Full = Unit {0}
