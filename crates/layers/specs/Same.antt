-- That two meanings of one type of estimators are the same: what either says of an estimator, the other says.
use Rattle.std.specs.Prelude.{ℕ, List, Option, Result}
use Rattle.task.specs.Model.{Model}
use Rattle.estimator.specs.Laws.{Meaning}
use Rattle.estimator.specs.declared.fault.SetFault.{SetFault}

pub record Implies {E : Type 0} (m k : Meaning E) : Type 0 where
  pub unset : {s : E} → m.unset s → k.unset s
  pub holds : {s : E} {T : Model} {held : List ℕ} → m.holds s T held → k.holds s T held
  pub sets : {s s' : E} {T : Model} {row left : List ℕ} {n : ℕ} {r : Result (Unit {0}) SetFault} → m.sets s T row n r left s' → k.sets s T row n r left s'
  pub answers : {s s' : E} {T : Model} {state : List ℕ} {a : Option ℕ} → m.answers s T state a s' → k.answers s T state a s'

abbrev pub Same : {E : Type 0} → Meaning E → Meaning E → Type 0
Same m k = Implies m k × Implies k m
