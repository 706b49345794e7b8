-- The faults of the search's calls: the number in the fault table that each has, and the values that it carries.
use Rattle.std.specs.Prelude.{ℕ, List, [], ◌∷◌}
use Rattle.tables.specs.declared.cause.Cause.{Cause}
use Rattle.tables.specs.Causes.{number_of}
use Rattle.plain.specs.declared.fault.Fault.{Fault}
use Rattle.plain.specs.declared.fault.Fault.TheVariants.{Own, Set}

abbrev pub cause_of : Fault → Cause
cause_of (Own c) = c
cause_of (Set f) = f.cause

abbrev pub fault_number : Fault → ℕ
fault_number f = number_of (cause_of f)

-- a fault of the search's own carries no values, one of the estimator's set its kind and its layer
abbrev pub fault_values : Fault → List ℕ
fault_values (Own c) = []
fault_values (Set f) = f.kind ∷ f.layer ∷ []
