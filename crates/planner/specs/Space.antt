-- What the memory of a planning holds.
use Rattle.std.specs.Prelude.{◌≡◌, vec_len}
use Rattle.planner.specs.declared.workspace.Records.{Records}
use Rattle.planner.specs.declared.workspace.SearchSpace.{SearchSpace}
use Rattle.planner.specs.declared.workspace.Workspace.{Workspace}

-- records for every task
pub record AllRecords (r : Records) : Type 0 where
  pub variables : vec_len r.variables ≡ 32
  pub operators : vec_len r.operators ≡ 256
  pub entries : vec_len r.entries ≡ 4096

-- memory for a search of 2,048 states of any task
pub record Roomy (s : SearchSpace) : Type 0 where
  pub nodes : vec_len s.nodes ≡ 2048
  pub states : vec_len s.states ≡ 65536
  pub index : vec_len s.index ≡ 4096
  pub waiting : vec_len s.waiting ≡ 2048
  pub places : vec_len s.places ≡ 2048

-- the workspace holds both, and prices for all operators
pub record Made (w : Workspace) : Type 0 where
  pub records : AllRecords w.records
  pub search : Roomy w.search
  pub prices : vec_len w.prices ≡ 256
