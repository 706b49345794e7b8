-- The worked example: the numbers that the definitions give for a sofa to carry through a door into the loft.
use Rattle.std.specs.Prelude.{◌≡◌, ℕ, [], ◌∷◌, Some, None}
use Rattle.tables.specs.declared.records.Entry.{Entry}
use Rattle.task.specs.Model.{Model, prices}
use Rattle.estimator.specs.Price.{Shares}
use Rattle.abstraction.specs.Patterns.{abstraction}
use Rattle.abstraction.specs.Projected.{projected}
use Rattle.projection.specs.Distances.{at, IsTable, HeldRow}

abbrev pub fact : ℕ → ℕ → Entry
fact v x = record { variable = v; required = None; value = x }

abbrev pub effect : ℕ → ℕ → ℕ → Entry
effect v x y = record { variable = v; required = Some x; value = y }

-- variable 0 is the sofa (hall, den, loft), variable 1 the door (shut, open); the operators are open, carry hall den, carry
-- den loft and hoist
abbrev pub sofa : Model
sofa = record {
  domains = 3 ∷ 2 ∷ [];
  initial = 0 ∷ 0 ∷ [];
  goal = fact 0 2 ∷ [];
  operators =
      record { price = 1; conditions = []; effects = effect 1 0 1 ∷ [] }
      ∷ record { price = 3; conditions = fact 1 1 ∷ []; effects = effect 0 0 1 ∷ [] }
      ∷ record { price = 2; conditions = []; effects = effect 0 1 2 ∷ [] }
      ∷ record { price = 7; conditions = []; effects = effect 0 0 2 ∷ [] }
      ∷ [];
}

abbrev pub by_sofa : Model
by_sofa = projected sofa (0 ∷ [])

abbrev pub by_door : Model
by_door = projected sofa (1 ∷ [])

-- the projection to the sofa at the task's prices, then the projection to the door on what is left; at the initial state they
-- answer 5 and 0
pub record SofaNumbers : Type 0 where
  pub sofa_table : IsTable by_sofa (prices sofa) (5 ∷ 2 ∷ 0 ∷ [])
  pub sofa_held : HeldRow by_sofa (5 ∷ 2 ∷ 0 ∷ []) (0 ∷ 3 ∷ 2 ∷ 5 ∷ [])
  pub sofa_left : Shares (prices sofa) (0 ∷ 3 ∷ 2 ∷ 5 ∷ []) (1 ∷ 0 ∷ 0 ∷ 2 ∷ [])
  pub sofa_answer : at by_sofa (5 ∷ 2 ∷ 0 ∷ []) (abstraction (0 ∷ []) sofa.initial) ≡ Some 5
  pub door_table : IsTable by_door (1 ∷ 0 ∷ 0 ∷ 2 ∷ []) (0 ∷ 0 ∷ [])
  pub door_held : HeldRow by_door (0 ∷ 0 ∷ []) (0 ∷ 0 ∷ 0 ∷ 0 ∷ [])
  pub door_left : Shares (1 ∷ 0 ∷ 0 ∷ 2 ∷ []) (0 ∷ 0 ∷ 0 ∷ 0 ∷ []) (1 ∷ 0 ∷ 0 ∷ 2 ∷ [])
  pub door_answer : at by_door (0 ∷ 0 ∷ []) (abstraction (1 ∷ []) sofa.initial) ≡ Some 0
