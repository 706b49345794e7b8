-- A solution of the task that was read from a text is the text's.
use Rattle.std.proofs.Common.{◌≡◌, ℕ, ◌≤◌, List, Ok, Err, Result, IfOk, length, ◌++◌, length-append, subst, arith}
use Rattle.tables.specs.declared.fault.Fault.{Fault}
use Rattle.task.specs.declared.task.Task.{Task}
use Rattle.task.specs.Model.{model}
use Rattle.plain.specs.declared.fault.Fault as plain
use Rattle.memory.specs.Capacity.{Capacity}
use Rattle.memory.specs.Plans.{plan_text}
use Rattle.planner.specs.declared.solve.Solution.{Solution}
use Rattle.planner.specs.declared.solve.Solution.TheVariants as solution
use Rattle.planner.specs.declared.plan.PlanError.{PlanError}
use Rattle.reader.specs.Loading.{Read}
use Rattle.planner.specs.Solving.{Ended}
use Rattle.planner.specs.Planning.{Planned, Answered, Within}

-- the memory of a planning has room for 2,048 states of any task
pub all_states : (n N : ℕ) → n ≤ 32 → Capacity 2048 65536 4096 2048 2048 n N → N ≡ 2048
all_states n N few c =
    let most = c.most 2048 (record { small = omega arith; in_nodes = omega arith; in_states = omega arith; in_words = omega arith; in_entries = omega arith; in_places = omega arith }) in
    let least = c.fits.in_nodes in
    omega arith

-- what is accepted is not refused
pub not_both : {A B : Type 0} {r : Result A B} {x : A} {y : B} → r ≡ Ok x → r ≡ Err y → ⊥
not_both o e = absurd cc

pub solution_planned : {text buffer after : List ℕ} {m n k : ℕ} {r : Result Task Fault} {u v : Task} {N : ℕ} {q : Result Solution plain.Fault} {s : Solution} →
    Read text m n k r → r ≡ Ok u → v ≡ u → N ≡ 2048 → Ended (model v) N (plan_text v) buffer q after → q ≡ Ok s → Planned text buffer s after
solution_planned {text} {buffer} {after} {m} {n} {k} {r} {u} {v} {N} {q} {s} h is same room ends said =
    let a = h.accepted u is in
    let on_task = subst (λ z. Ended (model z) N (plan_text z) buffer q after) same ends in
    let with_room = subst (λ z. Ended (model u) z (plan_text u) buffer q after) room on_task in
    record {
      named = a.0;
      valid = a.1;
      stated = a.4;
      task = u;
      shows = a.5;
      ended = subst (λ z. Ended (model u) 2048 (plan_text u) buffer z after) said with_room;
    }

-- what stands at the front lies within
front_within : (n : ℕ) (front rest whole : List ℕ) → n ≡ length front → whole ≡ front ++ rest → n ≤ length whole
front_within n front rest whole size w = rw w (omega (arith, length-append front rest))

-- a written plan lies in the buffer
pub answer_within : (text buffer : List ℕ) (r : Result Solution PlanError) (after : List ℕ) → Answered text buffer r after → IfOk r (Within (length after))
answer_within text buffer (Err e) after a = tt
answer_within text buffer (Ok solution.NoPlan) after a = tt
answer_within text buffer (Ok solution.Full) after a = tt
answer_within text buffer (Ok (solution.Plan n)) after a =
    front_within n _ _ after a.ended.2 a.ended.3
