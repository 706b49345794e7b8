-- The plain search, the manual of the calls: what each of them may do, over any task and any estimator.
use Rattle.std.specs.Prelude.{◌≡◌, ℕ, zero, suc, ◌+◌, ◌<◌, ◌≤◌, max, Bool, true, false, ◌≢◌, List, [], ◌∷◌, ◌++◌, length, drop, Some, None, Ok, Err, Option, slice_index, slice_index_or, slice_set}
use Rattle.tables.specs.declared.cause.Cause.{Cause}
use Rattle.tables.specs.declared.cause.Cause.TheVariants as cause
use Rattle.task.specs.Model.{Model, prices, IsGoal, Applies, applied}
use Rattle.estimator.specs.Laws.{Meaning, Laws}
use Rattle.estimator.specs.declared.fault.SetFault.{SetFault}
use Rattle.plain.specs.declared.fault.Fault.{Fault}
use Rattle.plain.specs.declared.fault.Fault.TheVariants.{Own, Set}

-- a kind of estimator, by what one in a state of E may do
abbrev pub Kind : Type 0 → Type 1
Kind E = Meaning E

-- it keeps to the laws of estimators
abbrev pub Lawful : {E : Type 0} → Kind E → Type 0
Lawful k = Laws k

-- a held state: its path cost g, the node and the operator that it came from at this cost, and its estimate while it is in the open list
pub record Node : Type 0 where
  pub state : List ℕ
  pub g : ℕ
  pub parent : ℕ
  pub operator : ℕ
  pub queued : Option ℕ

-- what stands past the last node
abbrev pub no_node : Node
no_node = record { state = []; g = 0; parent = 0; operator = 0; queued = None }

abbrev pub node : List Node → ℕ → Node
node ns k = slice_index_or ns k no_node

abbrev pub new_node : List ℕ → ℕ → ℕ → ℕ → Option ℕ → Node
new_node s g x i a = record { state = s; g = g; parent = x; operator = i; queued = a }

-- the node without its entry in the open list
abbrev pub dequeued : Node → Node
dequeued n = record { state = n.state; g = n.g; parent = n.parent; operator = n.operator; queued = None }

abbrev pub Held : List Node → List ℕ → ℕ → Type 0
Held ns s k = (k < length ns) × ((node ns k).state ≡ s)

abbrev pub NotHeld : List Node → List ℕ → Type 0
NotHeld ns s = (k : ℕ) → k < length ns → (node ns k).state ≢ s

-- node k is in the open list with the estimate h
abbrev pub Queued : List Node → ℕ → ℕ → Type 0
Queued ns k h = (k < length ns) × ((node ns k).queued ≡ Some h)

-- the order of the open list: by f, then by estimate, then by node number
pub data NoLater (f h k f' h' k' : ℕ) : Type 0 where
  by_f : f < f' → NoLater f h k f' h' k'
  by_estimate : f ≡ f' → h < h' → NoLater f h k f' h' k'
  by_node : f ≡ f' → h ≡ h' → k ≤ k' → NoLater f h k f' h' k'

-- node x, with the estimate h, is the least entry of the open list; f is path cost plus estimate
pub record Least (ns : List Node) (x h : ℕ) : Type 0 where
  pub in_queue : Queued ns x h
  pub first : (k j : ℕ) → Queued ns k j → NoLater ((node ns x).g + h) h x ((node ns k).g + j) j k

-- found: at this goal node
pub data Status : Type 0 where
  fresh running none full : Status
  found : ℕ → Status

-- how a search stands: its status, its nodes, its bound and the total of its expansions
pub record Plain : Type 0 where
  pub status : Status
  pub nodes : List Node
  pub bound : ℕ
  pub total : ℕ

abbrev pub opened : Plain
opened = record { status = fresh; nodes = []; bound = 0; total = 0 }

-- what an advance that found a plan hands out: the goal node, and its cost
pub record Find : Type 0 where
  pub node : ℕ
  pub cost : ℕ

-- a start with the caller's price row, an advance of n, a reading of the bound, a writing of a find into a buffer
pub data Call : Type 0 where
  start : List ℕ → Call
  advance : ℕ → Call
  read : Call
  write : Find → List ℕ → Call

pub data Outcome : Type 0 where
  refused : Fault → Outcome
  started : Outcome
  more : Outcome
  found_plan : Find → Outcome
  no_plan : Outcome
  out_of_room : Outcome
  bound_read : Outcome
  written : List ℕ → Outcome

-- a refusal by a cause of the search's own
abbrev pub refusal : Cause → Outcome
refusal c = refused (Own c)

-- an answer: the outcome, the row after a start or the buffer after a writing, whether a go-ahead is handed out or back, and
-- the bound and the total of expansions that stand after the call
pub record Answer : Type 0 where
  pub outcome : Outcome
  pub after : List ℕ
  pub go : Bool
  pub bound : ℕ
  pub total : ℕ

abbrev pub reports : Outcome → List ℕ → Bool → Plain → Answer
reports o row go p = record { outcome = o; after = row; go = go; bound = p.bound; total = p.total }

-- the operators that lead from node 0 to node k, in order, as the parents tell
pub data PathTo (ns : List Node) : ℕ → List ℕ → Type 0 where
  home : {k : ℕ} {is : List ℕ} → k ≡ 0 → is ≡ [] → PathTo ns k is
  step : {k : ℕ} {is : List ℕ} (js : List ℕ) → k ≢ 0 → k < length ns → PathTo ns (node ns k).parent js → is ≡ js ++ (node ns k).operator ∷ [] → PathTo ns k is

-- the search is found, and the find's node and cost are its own
pub record OwnFind (p : Plain) (f : Find) : Type 0 where
  pub ends : p.status ≡ found f.node
  pub costs : (node p.nodes f.node).g ≡ f.cost

-- a writing of f into the buffer; `text is c` is the text of the plan `is` at the cost c. Bytes beyond the text stay
pub data Writes (text : List ℕ → ℕ → List ℕ) (f : Find) (buffer : List ℕ) (p : Plain) (a : Answer) : Type 0 where
  other : ¬ OwnFind p f → a ≡ reports (refusal cause.Other) buffer false p → Writes text f buffer p a
  short : (is : List ℕ) → OwnFind p f → PathTo p.nodes f.node is → length buffer < length (text is f.cost) →
      a ≡ reports (refusal cause.Short) buffer false p → Writes text f buffer p a
  writes : (is : List ℕ) → OwnFind p f → PathTo p.nodes f.node is → length (text is f.cost) ≤ length buffer →
      a ≡ reports (written (text is f.cost)) (text is f.cost ++ drop (length (text is f.cost)) buffer) false p → Writes text f buffer p a

-- over a kind of estimator, a task and the capacity N; e is the estimator's state before and e' after
module _ {E : Type 0} (est : Kind E) (t : Model) (N : ℕ) where
  abbrev pub price : ℕ → ℕ
  price i = slice_index (prices t) i

  -- operator i on node x: it does not apply; its successor is held at no greater cost; the successor is held at a greater cost
  -- and is reopened at the lesser one; the successor is not held and takes the next node. In the last two cases the estimate is
  -- asked, and the node is in the open list with it, or not at all where it is absent
  pub data Generates (x i : ℕ) (ns : List Node) (e : E) (ns' : List Node) (e' : E) : Type 0 where
    inapplicable : ¬ Applies t (node ns x).state i → ns' ≡ ns → e' ≡ e → Generates x i ns e ns' e'
    not_better : (k : ℕ) → Applies t (node ns x).state i → Held ns (applied t (node ns x).state i) k → (node ns k).g ≤ (node ns x).g + price i →
        ns' ≡ ns → e' ≡ e → Generates x i ns e ns' e'
    reopens : (k : ℕ) (a : Option ℕ) → Applies t (node ns x).state i → Held ns (applied t (node ns x).state i) k →
        (node ns x).g + price i < (node ns k).g → est.answers e t (applied t (node ns x).state i) a e' →
        ns' ≡ slice_set ns k (new_node (applied t (node ns x).state i) ((node ns x).g + price i) x i a) → Generates x i ns e ns' e'
    adds : (a : Option ℕ) → Applies t (node ns x).state i → NotHeld ns (applied t (node ns x).state i) → length ns < N →
        est.answers e t (applied t (node ns x).state i) a e' →
        ns' ≡ ns ++ new_node (applied t (node ns x).state i) ((node ns x).g + price i) x i a ∷ [] → Generates x i ns e ns' e'

  -- the n operators from number i on, one after another
  abbrev pub GeneratesAll : ℕ → ℕ → ℕ → List Node → E → List Node → E → Type 0
  GeneratesAll x i zero ns e ns' e' = (ns' ≡ ns) × (e' ≡ e)
  GeneratesAll x i (suc n) ns e ns' e' = (ms : List Node) × (d : E) × Generates x i ns e ms d × GeneratesAll x (suc i) n ms d ns' e'

  abbrev pub after_expansion : Plain → ℕ → ℕ → List Node → Plain
  after_expansion p x h ns = record { status = running; nodes = ns; bound = max p.bound ((node p.nodes x).g + h); total = p.total + 1 }

  -- one expansion: the least entry is taken, its state is no goal state, and all operators are applied to it
  pub record Expands (p : Plain) (e : E) (p' : Plain) (e' : E) : Type 0 where
    pub x : ℕ
    pub h : ℕ
    pub nodes : List Node
    pub least : Least p.nodes x h
    pub short : ¬ IsGoal t (node p.nodes x).state
    pub generates : GeneratesAll x 0 (length t.operators) (slice_set p.nodes x (dequeued (node p.nodes x))) e nodes e'
    pub after : p' ≡ after_expansion p x h nodes

  abbrev pub Expansions : ℕ → Plain → E → Plain → E → Type 0
  Expansions zero p e p' e' = (p' ≡ p) × (e' ≡ e)
  Expansions (suc n) p e p' e' = (q : Plain) × (d : E) × Expands p e q d × Expansions n q d p' e'

  -- an expansion in which operator i, after those below it, leads to a state that is not held while N are held
  pub record Overflows (p : Plain) (e : E) (p' : Plain) (e' : E) : Type 0 where
    pub x : ℕ
    pub h : ℕ
    pub i : ℕ
    pub nodes : List Node
    pub least : Least p.nodes x h
    pub short : ¬ IsGoal t (node p.nodes x).state
    pub generates : GeneratesAll x 0 i (slice_set p.nodes x (dequeued (node p.nodes x))) e nodes e'
    pub applies : Applies t (node nodes x).state i
    pub unheld : NotHeld nodes (applied t (node nodes x).state i)
    pub filled : N ≤ length nodes
    pub after : p' ≡ record { status = full; nodes = nodes; bound = max p.bound ((node p.nodes x).g + h); total = p.total + 1 }

  -- the least entry is taken, and its state is a goal state
  pub record Finds (p : Plain) (x : ℕ) (p' : Plain) : Type 0 where
    pub h : ℕ
    pub least : Least p.nodes x h
    pub goal : IsGoal t (node p.nodes x).state
    pub after : p' ≡ record { status = found x; nodes = slice_set p.nodes x (dequeued (node p.nodes x)); bound = max p.bound ((node p.nodes x).g + h); total = p.total }

  -- a start with a price row: ORDER, ROOM and ROW leave all; the estimator's refusal leaves the task's prices in the row and the
  -- search as it was; accepted, node 0 is the initial state at path cost 0, and a go-ahead is handed out
  pub data Starts (row : List ℕ) (p : Plain) (e : E) (a : Answer) (p' : Plain) (e' : E) : Type 0 where
    not_fresh : p.status ≢ fresh → a ≡ reports (refusal cause.Order) row false p → p' ≡ p → e' ≡ e → Starts row p e a p' e'
    no_capacity : p.status ≡ fresh → N ≡ 0 → a ≡ reports (refusal cause.Room) row false p → p' ≡ p → e' ≡ e → Starts row p e a p' e'
    wrong_row : p.status ≡ fresh → 0 < N → length row ≢ length t.operators → a ≡ reports (refusal cause.Row) row false p → p' ≡ p → e' ≡ e → Starts row p e a p' e'
    refused_set : (f : SetFault) (left : List ℕ) → p.status ≡ fresh → 0 < N → length row ≡ length t.operators → est.sets e t (prices t) 1 (Err f) left e' →
        a ≡ reports (refused (Set f)) (prices t) false p → p' ≡ p → Starts row p e a p' e'
    begins : (left : List ℕ) (d : E) (w : Option ℕ) → p.status ≡ fresh → 0 < N → length row ≡ length t.operators →
        est.sets e t (prices t) 1 (Ok tt) left d → est.answers d t t.initial w e' →
        p' ≡ record { status = running; nodes = new_node t.initial 0 0 0 w ∷ []; bound = 0; total = 0 } → a ≡ reports started left true p' →
        Starts row p e a p' e'

  -- an advance of n: ORDER leaves all and hands the go-ahead back; n expansions are made, and "more" hands it back; or after fewer
  -- than n the search ends, found, none or full, and the go-ahead is used up
  pub data Advances (n : ℕ) (p : Plain) (e : E) (a : Answer) (p' : Plain) (e' : E) : Type 0 where
    not_running : p.status ≢ running → a ≡ reports (refusal cause.Order) [] true p → p' ≡ p → e' ≡ e → Advances n p e a p' e'
    expands_all : p.status ≡ running → Expansions n p e p' e' → a ≡ reports more [] true p' → Advances n p e a p' e'
    finds : (m x : ℕ) (q : Plain) → p.status ≡ running → m < n → Expansions m p e q e' → Finds q x p' →
        a ≡ reports (found_plan (record { node = x; cost = (node q.nodes x).g })) [] false p' → Advances n p e a p' e'
    exhausts : (m : ℕ) (q : Plain) → p.status ≡ running → m < n → Expansions m p e q e' → ((k h : ℕ) → ¬ Queued q.nodes k h) →
        p' ≡ record { status = none; nodes = q.nodes; bound = q.bound; total = q.total } → a ≡ reports no_plan [] false p' → Advances n p e a p' e'
    overflows : (m : ℕ) (q : Plain) (d : E) → p.status ≡ running → m < n → Expansions m p e q d → Overflows q d p' e' → a ≡ reports out_of_room [] false p' → Advances n p e a p' e'

  -- what a call does: how the search and the estimator stood, the answer, and how they stand after it
  abbrev pub Does : (List ℕ → ℕ → List ℕ) → Call → Plain → E → Answer → Plain → E → Type 0
  Does text (start row) p e a p' e' = Starts row p e a p' e'
  Does text (advance n) p e a p' e' = Advances n p e a p' e'
  Does text read p e a p' e' = (a ≡ reports bound_read [] false p) × (p' ≡ p) × (e' ≡ e)
  Does text (write f buffer) p e a p' e' = Writes text f buffer p a × (p' ≡ p) × (e' ≡ e)
