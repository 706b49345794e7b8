-- Each rank passed is queued at 0 if it is a goal state's, and none otherwise.
use Rattle.std.proofs.Common.{◌≡◌, ℕ, ◌+◌, ◌<◌, length, get_or, sym, refl, ap, ◌∙◌, subst, inl, arith}
use lib.ListN.{get_or-replicate}
use Rattle.abstraction.specs.AbstractTasks.{abstract_of}
use Rattle.projection.specs.declared.distances.Distances.{Distances}
use Rattle.projection.proofs.Running.{Seeded, seeded-lower, seeded-skip, seeded-runs, closed}
use Rattle.projection.proofs.distances.Distances.seed.Goals as goal
use Rattle.projection.proofs.distances.Distances.seed.Goals.{then-is_goal, else-is_goal}

pub loop-rank-init : goal.loop-rank-init
loop-rank-init c =
    let l = c.fill.ensures.len in
    let t = c.args.self.now.table.now in
    let none : (k : ℕ) → k < length t → get_or c.fill.new.self k 0 ≡ 4294967295 =
    λ k h. ap (λ z. get_or z k 0) (c.fill.ensures.after (λ y e. e)) ∙ get_or-replicate (length t) k 4294967295 0 h in (
      record {
        long = l ∙ c.requires.long;
        empty = λ k h e. none k (omega arith);
        filled = λ k h. inl (none k (omega arith));
        done = λ s st g h. absurd (omega arith);
      },
      refl,
    )

pub loop-rank-preserved : goal.loop-rank-preserved
loop-rank-preserved c =
    let P = abstract_of c.args.abstract_task.now in
    let r = c.loop-rank.rank in
    let w = c.state_of-digits.ensures in
    let D = c.loop-rank.self in
    let kept = c.loop-rank.invariant in
    let Kept : Distances → Type 0 = λ z. Seeded P (r + 1) z × (z.table.ghost_name ≡ c.args.self.now.table.ghost_name) in
    elim c.if-is_goal.branch [
      | then-is_goal x ↦ subst Kept (sym x.self-is)
          (seeded-lower P r _ D x.lower.new.self w x.if-is_goal.ensures kept.0 x.lower.ensures.relaxed x.lower.ensures.lowered, x.lower.ensures.relaxed.later.same ∙ kept.1)
      | else-is_goal x ↦ subst Kept (sym x.self-is) (seeded-skip P r _ D w x.if-is_goal.ensures kept.0, kept.1)
    ]

pub returns : goal.returns
returns c =
    let long = c.loop-rank.invariant.0.long in
    let old = c.requires.long in
    let l = c.fill.ensures.len in
    let end = c.loop-rank-test.false in
    record {
      running = seeded-runs (abstract_of c.args.abstract_task.now) c.loop-rank.rank c.loop-rank.self (closed c.args.abstract_task.now) (omega arith) c.loop-rank.invariant.0;
      same = c.loop-rank.invariant.1;
    }
