-- One expansion, in the words of the plain search.
use Rattle.std.specs.Prelude.{◌≡◌, ℕ, ◌*◌, ◌<◌, ◌≤◌, List, [], ◌∷◌, ◌++◌, length, slice_set, Option}
use Rattle.estimator.specs.Laws.{AnswersT}
use Rattle.task.specs.Model.{Model, prices, dearest, Applies, applied}
use Rattle.plain.specs.Plain as plain
use Rattle.plain.specs.Counts.{Budget}

-- node 0 alone is held: the initial state, with what the estimator answered of it
pub record Rooted {E : Type 0} (answers : AnswersT E) (t : Model) (e : E) (ns : List plain.Node) (e' : E) : Type 0 where
  pub queued : Option ℕ
  pub asked : answers e t t.initial queued e'
  pub nodes : ns ≡ plain.new_node t.initial 0 0 0 queued ∷ []

-- a state s is met at path cost g, by operator i from node x: it is held at no greater cost; it is held at a greater cost, and is
-- reopened at the lesser one; or it is not held, and takes the next node
pub data Reaches {E : Type 0} (est : plain.Kind E) (t : Model) (N : ℕ) (s : List ℕ) (g x i : ℕ) (ns : List plain.Node) (e : E) (ns' : List plain.Node) (e' : E) : Type 0 where
  keeps : (k : ℕ) → plain.Held ns s k → (plain.node ns k).g ≤ g → ns' ≡ ns → e' ≡ e → Reaches est t N s g x i ns e ns' e'
  reopens : (k : ℕ) (a : Option ℕ) → plain.Held ns s k → g < (plain.node ns k).g → est.answers e t s a e' → ns' ≡ slice_set ns k (plain.new_node s g x i a) → Reaches est t N s g x i ns e ns' e'
  adds : (a : Option ℕ) → plain.NotHeld ns s → length ns < N → est.answers e t s a e' → ns' ≡ ns ++ plain.new_node s g x i a ∷ [] → Reaches est t N s g x i ns e ns' e'

-- operator i leads from node x to a state that is not held, and no room is left
pub record NoRoom (t : Model) (N x i : ℕ) (ns : List plain.Node) : Type 0 where
  pub applies : Applies t (plain.node ns x).state i
  pub unheld : plain.NotHeld ns (applied t (plain.node ns x).state i)
  pub filled : N ≤ length ns

-- the cost of node k is at most k times the dearest price
abbrev pub CostsBounded : Model → List plain.Node → Type 0
CostsBounded t ns = (k : ℕ) → k < length ns → (plain.node ns k).g ≤ k * dearest (prices t)

-- what the costs and the count of expansions keep to: a node is expanded at most once more than its cost can fall
pub record WithinLimits (t : Model) (N total : ℕ) (ns : List plain.Node) : Type 0 where
  pub low : CostsBounded t ns
  pub budget : Budget N (dearest (prices t)) total ns
