-- What the law of the search says of a run that starts, advances to the end and writes.
use Rattle.std.proofs.Common.{◌≡◌, ℕ, zero, suc, ◌+◌, ◌-◌, ◌<◌, ◌≤◌, false, List, [], ◌∷◌, ◌++◌, length, drop, replicate, Ok, Err, Result, sym, refl, ap, ◌∙◌, subst, inl, inr, arith, get_or-set_same}
use lib.ListN.{length-replicate}
use Rattle.tables.specs.declared.cause.Cause.{Cause}
use Rattle.tables.specs.declared.cause.Cause.TheVariants as cause
use Rattle.task.specs.declared.task.Task.{Task}
use Rattle.task.specs.Model.{Model, model, Plan, WellFormed}
use Rattle.task.proofs.Actions.{task-well-formed}
use Rattle.plain.specs.declared.fault.Fault.{Fault}
use Rattle.plain.specs.declared.fault.Fault.TheVariants.{Own}
use Rattle.plain.specs.Plain as plain
use Rattle.plain.specs.Plain.{Kind, Lawful, Plain, Node, Find, Answer, node, dequeued, opened, reports, refusal, Starts, Advances, Expansions, Expands, Finds, Writes, OwnFind, PathTo}
use Rattle.plain.specs.Runs.{Run, Answered, Reached, Optimal, MemoryFull}
use Rattle.plain.proofs.Whole.{search-law}
use Rattle.memory.specs.Plans.{plan_text}
use Rattle.search.specs.Plans.{Written}
use Rattle.planner.specs.Solving.{Cheapest, Ended}
use Rattle.planner.specs.declared.solve.Solution.{Solution}
use Rattle.planner.specs.declared.solve.Solution.TheVariants as solution

-- the ending that a writing's result makes
abbrev pub ending : Result ℕ Cause → Result Solution Fault
ending (Ok n) = Ok (solution.Plan n)
ending (Err c) = Err (Own c)

module _ {E : Type 0} (est : Kind E) (t : Model) (N : ℕ) where
  -- expansions leave a running search running, and count themselves
  turns-running : (n : ℕ) (p p' : Plain) (e e' : E) → p.status ≡ plain.running → Expansions est t N n p e p' e' → p'.status ≡ plain.running
  turns-running zero p p' e e' s r = ap (λ z. z.status) r.0 ∙ s
  turns-running (suc n) p p' e e' s r = turns-running n r.0 p' r.1 e' (ap (λ z. z.status) r.2.after) r.3

  turns-total : (n : ℕ) (p p' : Plain) (e e' : E) → Expansions est t N n p e p' e' → p'.total ≡ p.total + n
  turns-total zero p p' e e' r = let z = ap (λ z. z.total) r.0 in omega arith
  turns-total (suc n) p p' e e' r =
      let a = ap (λ z. z.total) r.2.after in
      let b = turns-total n r.0 p' r.1 e' r.3 in
      omega arith

  -- a find's cost is that of a cheapest plan
  best-cheapest : (text : List ℕ → ℕ → List ℕ) (run : Run) (c : ℕ) (b : Optimal t N text run c) → Cheapest t b.plan
  best-cheapest text run c b = record { plan = b.leads; least = λ q pl. rw b.costs (b.cheapest q pl) }

module _ {E : Type 0} {est : Kind E} {t : Model} {N : ℕ} where
  -- an accepted start
  pub start-reached : {row : List ℕ} {p p' : Plain} {e e' : E} {a : Answer} (text : List ℕ → ℕ → List ℕ) → p ≡ opened → Starts est t N row p e a p' e' → a.outcome ≡ plain.started →
      ((run : Run) × Reached est t N text e run p' e') × (p'.status ≡ plain.running)
  start-reached {row} {p} {p'} {e} {e'} {a} text o d s = ((record { call = plain.start row; answer = a } ∷ [], (p, e, (o, refl), d)), runs d)
    where
      runs : Starts est t N row p e a p' e' → p'.status ≡ plain.running
      runs (Starts.not_fresh ns q ep ee) = let r = ap (λ z. z.outcome) q in absurd cc
      runs (Starts.no_capacity st z q ep ee) = let r = ap (λ z. z.outcome) q in absurd cc
      runs (Starts.wrong_row st z l q ep ee) = let r = ap (λ z. z.outcome) q in absurd cc
      runs (Starts.refused_set f left st z l x q ep) = let r = ap (λ z. z.outcome) q in absurd cc
      runs (Starts.begins left d w st z l x y ep q) = ap (λ z. z.status) ep

  -- an advance that says more goes on running, and made all its expansions
  pub advance-more : {n : ℕ} {p p' : Plain} {e e' : E} {a : Answer} → Advances est t N n p e a p' e' → a.outcome ≡ plain.more → (p'.status ≡ plain.running) × (p'.total ≡ p.total + n)
  advance-more {n} {p} {p'} {e} {e'} (Advances.expands_all st r q) s = (turns-running est t N n p p' e e' st r, turns-total est t N n p p' e e' r)
  advance-more (Advances.not_running ns q ep ee) s = let r = ap (λ z. z.outcome) q in absurd cc
  advance-more (Advances.finds m x y st l r f q) s = let r = ap (λ z. z.outcome) q in absurd cc
  advance-more (Advances.exhausts m y st l r w ep q) s = let r = ap (λ z. z.outcome) q in absurd cc
  advance-more (Advances.overflows m y d st l r o q) s = let r = ap (λ z. z.outcome) q in absurd cc

  -- a find that was just given is the search's own
  pub advance-own : {n : ℕ} {p p' : Plain} {e e' : E} {a : Answer} (f : Find) → Advances est t N n p e a p' e' → a.outcome ≡ plain.found_plan f → OwnFind p' f
  advance-own f (Advances.not_running ns q ep ee) s = let r = ap (λ z. z.outcome) q in absurd cc
  advance-own f (Advances.expands_all st r q) s = let r = ap (λ z. z.outcome) q in absurd cc
  advance-own f (Advances.exhausts m y st l r w ep q) s = let r = ap (λ z. z.outcome) q in absurd cc
  advance-own f (Advances.overflows m y d st l r o q) s = let r = ap (λ z. z.outcome) q in absurd cc
  advance-own {n} {p} {p'} f (Advances.finds m x y st l r w q) s =
      let g : Find = record { node = x; cost = (node y.nodes x).g } in
      let u = ap (λ z. z.outcome) q in
      let k : g ≡ f = cc in
      subst (λ z. OwnFind p' z) k (record {
        ends = ap (λ z. z.status) w.after;
        costs = ap (λ z. (node z.nodes x).g) w.after ∙ ap (λ z. z.g) (get_or-set_same y.nodes x (dequeued (node y.nodes x)) plain.no_node w.least.in_queue.0);
      })

  module _ (lawful : Lawful est) (well : WellFormed t) (text : List ℕ → ℕ → List ℕ) (e₀ : E) (run : Run) where
    -- the endings of an advance
    pub advance-none : {n : ℕ} {p p' : Plain} {e e' : E} {a : Answer} → Reached est t N text e₀ run p e → Advances est t N n p e a p' e' → a.outcome ≡ plain.no_plan →
        (is : List ℕ) → Plan t t.initial is → ⊥
    advance-none {n} {p} {p'} {e} {e'} {a} h d s =
        (search-law est lawful t well N text e₀ (record { call = plain.advance n; answer = a } ∷ run) p' e' (p, e, h, d)).none (inl s)

    pub advance-full : {n : ℕ} {p p' : Plain} {e e' : E} {a : Answer} → Reached est t N text e₀ run p e → Advances est t N n p e a p' e' → a.outcome ≡ plain.out_of_room → MemoryFull t N p'.nodes
    advance-full {n} {p} {p'} {e} {e'} {a} h d s =
        (search-law est lawful t well N text e₀ (record { call = plain.advance n; answer = a } ∷ run) p' e' (p, e, h, d)).full (inl s)

module _ {E : Type 0} {est : Kind E} {t : Model} (N : ℕ) (lawful : Lawful est) (well : WellFormed t) (text : List ℕ → ℕ → List ℕ) (e₀ : E) (run : Run) where
  -- what the writing of the run's own find comes to, and the ending that it makes
  pub write-ends : {p : Plain} {a : Answer} (e : E) (f : Find) (buffer after : List ℕ) (r : Result ℕ Cause) →
      Reached est t N text e₀ run p e → Answered run (plain.found_plan f) → OwnFind p f → Writes text f buffer p a → Written r after a → Ended t N text buffer (ending r) after
  write-ends e f buffer after r h has own (Writes.other not_own q) w = absurd (not_own own)
  write-ends e f buffer after (Ok n) h has own (Writes.short is o way l q) w = let r = ap (λ z. z.outcome) q in let u = w.1 in absurd cc
  write-ends {p} e f buffer after (Err c) h has own (Writes.short is o way l q) w =
      let r = ap (λ z. z.outcome) q in
      let u = w.0 in
      let k : c ≡ cause.Short = cc in
      let long : List ℕ = replicate (length (text is f.cost)) 0 in
      let fits : length (text is f.cost) ≤ length long = omega (arith, length-replicate {A = ℕ} (length (text is f.cost)) 0) in
      let b : Answer = reports (plain.written (text is f.cost)) (text is f.cost ++ drop (length (text is f.cost)) long) false p in
      let more : Run = record { call = plain.write f long; answer = b } ∷ run in
      let reached : Reached est t N text e₀ more p e = (p, e, h, (Writes.writes is o way fits refl, refl, refl)) in
      let best = (search-law est lawful t well N text e₀ more p e reached).finds f (inr has) in
      let same : text is f.cost ≡ text best.plan f.cost = best.texts (text is f.cost) (inl refl) in
      ((k, (best.plan, best-cheapest est t N text more f.cost best, rw best.costs (rw same at l))), sym w.1 ∙ ap (λ z. z.after) q)
  write-ends e f buffer after (Err c) h has own (Writes.writes is o way l q) w = let r = ap (λ z. z.outcome) q in let u = w.0 in absurd cc
  write-ends {p} {a} e f buffer after (Ok n) h has own (Writes.writes is o way l q) w =
      let r = ap (λ z. z.outcome) q in
      let u = w.1 in
      let k : w.0 ≡ text is f.cost = cc in
      let more : Run = record { call = plain.write f buffer; answer = a } ∷ run in
      let reached : Reached est t N text e₀ more p e = (p, e, h, (Writes.writes is o way l q, refl, refl)) in
      let best = (search-law est lawful t well N text e₀ more p e reached).finds f (inr has) in
      let same : w.0 ≡ text best.plan f.cost = best.texts w.0 (inl w.1) in
      let size : n ≡ length (text best.plan f.cost) = w.2 ∙ ap length same in
      let whole : after ≡ text best.plan f.cost ++ drop n buffer = sym w.3 ∙ (ap (λ z. z.after) q ∙ rw (sym k) (rw (sym w.2) (ap (λ z. z ++ drop n buffer) same))) in
      (best.plan, best-cheapest est t N text more f.cost best, rw best.costs size, rw best.costs whole)

-- an advance on the same task with the same room
pub advances-on : {E : Type 0} {est : Kind E} {t t₀ : Task} {N N₀ n : ℕ} {p p' : Plain} {e e' : E} {a : Answer} → t ≡ t₀ → N ≡ N₀ →
    Advances est (model t) N n p e a p' e' → Advances est (model t₀) N₀ n p e a p' e'
advances-on {E} {est} {t} {t₀} {N} {N₀} {n} {p} {p'} {e} {e'} {a} et eN d = subst (λ z. Advances est (model z) N₀ n p e a p' e') et (subst (λ z. Advances est (model t) z n p e a p' e') eN d)

-- a find, and what its writing comes to
pub found_ends : {E : Type 0} {est : Kind E} {t t' t₀ : Task} {N n : ℕ} {p p' : Plain} {e e' : E} {a b : Answer} {f : Find} {buffer now : List ℕ}
    (N₀ : ℕ) (start : E) (run : Run) (r : Result ℕ Cause) (after : List ℕ) → Lawful est → t ≡ t₀ → N ≡ N₀ → t' ≡ t → now ≡ buffer → Reached est (model t₀) N₀ (plan_text t₀) start run p e →
    Advances est (model t) N n p e a p' e' → a.outcome ≡ plain.found_plan f → Writes (plan_text t') f now p' b → Written r after b → Ended (model t₀) N₀ (plan_text t₀) buffer (ending r) after
found_ends {E} {est} {t} {t'} {t₀} {N} {n} {p} {p'} {e} {e'} {a} {b} {f} {buffer} {now} N₀ start run r after lawful et eN same kept h d said w written =
    let on = advances-on et eN d in
    let writes = subst (λ z. Writes (plan_text t₀) f z p' b) kept (subst (λ z. Writes (plan_text z) f now p' b) (same ∙ et) w) in
    write-ends N₀ lawful (task-well-formed t₀) (plan_text t₀) start (record { call = plain.advance n; answer = a } ∷ run) e' f buffer after r (p, e, h, on) (inl said) (advance-own f on said) writes written

-- a count that rises by a thousand within a limit brings it nearer
pub nearer : (limit a b : ℕ) → b ≡ a + 1000 → b ≤ limit → (limit + 1000) - b < (limit + 1000) - a
nearer limit a b e l = omega arith
