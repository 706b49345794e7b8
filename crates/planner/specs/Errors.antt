-- What is printed of a planning that fails: of a text its first fault, and of a search the cause that it refuses for. Of an allocation that fails nothing is said.
use Rattle.std.specs.Prelude.{ℕ, List, Some, None, Option}
use Rattle.tables.specs.Causes.{name_of}
use Rattle.tables.specs.Faults.{fault_text}
use Rattle.plain.specs.Faults.{cause_of}
use Rattle.planner.specs.declared.plan.PlanError.{PlanError}
use Rattle.planner.specs.declared.plan.PlanError.TheVariants as error

abbrev pub error_text : PlanError → Option (List ℕ)
error_text (error.Memory e) = None
error_text (error.Text f) = Some (fault_text f)
error_text (error.Search f) = Some (name_of (cause_of f))
