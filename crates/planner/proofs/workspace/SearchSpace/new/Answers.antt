-- Each part is as long as it is made.
use Rattle.std.proofs.Common.{rules}
use Rattle.planner.proofs.workspace.SearchSpace.new.Goals as goal

pub returns : goal.returns
returns c = record { nodes = search rules; states = search rules; index = search rules; waiting = search rules; places = search rules }
