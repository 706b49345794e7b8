-- Runs of calls, and the law of the search: what holds of every run, in words of plans, costs and reachable states.
use Rattle.std.specs.Prelude.{◌≡◌, ℕ, ◌+◌, ◌-◌, ◌*◌, ◌<◌, ◌≤◌, ◌≢◌, ◌⊎◌, List, [], ◌∷◌, ◌++◌, length, drop}
use Rattle.task.specs.Model.{Model, prices, Applies, applied, Plan, Reachable, Cost, dearest, WellFormed}
use Rattle.plain.specs.Plain.{Kind, Lawful, Plain, opened, Call, Call.advance, Call.write, Find, Node, node, Outcome, Outcome.more, Outcome.found_plan, Outcome.written, Outcome.no_plan, Outcome.out_of_room, Answer, Does}

-- a call and its answer
pub record Exchange : Type 0 where
  pub call : Call
  pub answer : Answer

-- a run: the calls made and their answers, the latest first
abbrev pub Run : Type 0
Run = List Exchange

-- some call of the run had this outcome
abbrev pub Answered : Run → Outcome → Type 0
Answered [] o = ⊥
Answered (x ∷ xs) o = (x.answer.outcome ≡ o) ⊎ Answered xs o

abbrev pub last_bound : Run → ℕ
last_bound [] = 0
last_bound (x ∷ xs) = x.answer.bound

abbrev pub last_total : Run → ℕ
last_total [] = 0
last_total (x ∷ xs) = x.answer.total

-- from a search just opened and the estimator's state e₀ the run leads to the search p and the estimator's state e
abbrev pub Reached : {E : Type 0} → Kind E → Model → ℕ → (List ℕ → ℕ → List ℕ) → E → Run → Plain → E → Type 0
Reached est t N text e₀ [] p e = (p ≡ opened) × (e ≡ e₀)
Reached {E} est t N text e₀ (x ∷ run) p e = (q : Plain) × (d : E) × Reached est t N text e₀ run q d × Does est t N text x.call q d x.answer p e

-- N different reachable states are held, and an operator leads from one of them to a state that is none of them
pub record MemoryFull (t : Model) (N : ℕ) (ns : List Node) : Type 0 where
  pub count : length ns ≡ N
  pub different : (j k : ℕ) → j < N → k < N → (node ns j).state ≡ (node ns k).state → j ≡ k
  pub reached : (k : ℕ) → k < N → Reachable t (node ns k).state
  pub from : ℕ
  pub operator : ℕ
  pub within : from < N
  pub applies : Applies t (node ns from).state operator
  pub outside : (k : ℕ) → k < N → (node ns k).state ≢ applied t (node ns from).state operator

module _ (t : Model) (N : ℕ) (text : List ℕ → ℕ → List ℕ) where
  -- a plan of the cost c, whose text is every text that was written; every plan costs at least c
  pub record Optimal (run : Run) (c : ℕ) : Type 0 where
    pub plan : List ℕ
    pub leads : Plan t t.initial plan
    pub costs : Cost (prices t) plan ≡ c
    pub cheapest : (is : List ℕ) → Plan t t.initial is → c ≤ Cost (prices t) is
    pub texts : (w : List ℕ) → Answered run (written w) → w ≡ text plan c

  -- the buffer after a writing begins with the text, and is as before beyond it
  pub record WrittenInto (buffer after w : List ℕ) : Type 0 where
    pub fits : length w ≤ length buffer
    pub is : after ≡ w ++ drop (length w) buffer

  -- one exchange, after the run before it: the bound never falls and no plan costs less; "more" after n is exactly n expansions;
  -- the total keeps to its limit; an accepted writing writes nothing but the text
  pub record AnswerLaw (x : Exchange) (before : Run) : Type 0 where
    pub rises : last_bound before ≤ x.answer.bound
    pub below : (is : List ℕ) → Plan t t.initial is → x.answer.bound ≤ Cost (prices t) is
    pub counts : (n : ℕ) → x.call ≡ advance n → x.answer.outcome ≡ more → x.answer.total ≡ last_total before + n
    pub total : x.answer.total ≤ N * ((N - 1) * dearest (prices t) + 1)
    pub buffer : (f : Find) (b w : List ℕ) → x.call ≡ write f b → x.answer.outcome ≡ written w → WrittenInto b x.answer.after w

  abbrev pub EveryAnswer : Run → Type 0
  EveryAnswer [] = Unit {0}
  EveryAnswer (x ∷ run) = AnswerLaw x run × EveryAnswer run

  -- the law of a run that ends in the search p
  pub record Law (run : Run) (p : Plain) : Type 0 where
    -- "found" carries the cost of a plan that no plan undercuts, and every text written is that plan's
    pub finds : (f : Find) → Answered run (found_plan f) → Optimal run f.cost
    -- no text is written without a find
    pub writes : (w : List ℕ) → Answered run (written w) → (f : Find) × Answered run (found_plan f)
    -- "none" means that there is no plan
    pub none : Answered run no_plan → (is : List ℕ) → Plan t t.initial is → ⊥
    -- "full" means that N different reachable states are held, and one more is reachable
    pub full : Answered run out_of_room → MemoryFull t N p.nodes
    pub every : EveryAnswer run

-- The law of the search: over every estimator that keeps its laws, in whatever state it comes, the law holds of every run.
abbrev pub SearchLaw : {E : Type 0} → Kind E → Type 0
SearchLaw {E} est =
    Lawful est → (t : Model) → WellFormed t → (N : ℕ) (text : List ℕ → ℕ → List ℕ) (e₀ : E) (run : Run) (p : Plain) (e : E) →
    Reached est t N text e₀ run p e → Law t N text run p
