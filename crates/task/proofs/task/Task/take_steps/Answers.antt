-- One operator more is taken at each turn; the first that does not apply ends it.
use Rattle.std.proofs.Common.{◌≡◌, ◌+◌, min, length, get_or, take, sym, ◌∙◌, arith}
use Rattle.std.proofs.lemmas.List.{take_more}
use Rattle.task.specs.Model.{model, prices, cost}
use Rattle.task.proofs.Walks.{leads-more, cost-more, no_steps, cut_sum}
use Rattle.task.proofs.task.Task.take_steps.Goals as goal

pub returns-then-not-apply : goal.returns-then-not-apply
returns-then-not-apply c =
    let m = c.if-not-apply.ensures.moved in
    let i = c.loop-steps.invariant in
    record {
      within = omega arith;
      leads = rw m.1 i.0;
      costs = i.1;
      stops = λ l p. m.0 (rw m.1 at p);
      states = λ h. rw m.1 (i.2 h);
      none = i.3;
    }

pub loop-steps-preserved : goal.loop-steps-preserved
loop-steps-preserved c =
    let T = model c.args.self.now in
    let ops = c.args.operators.now in
    let n = c.loop-steps.steps in
    let o = get_or ops n 0 in
    let m = c.if-not-apply.ensures.moved in
    let i = c.loop-steps.invariant in
    let t = take_more ops n 0 (omega arith) in
    let l = leads-more T c.args.row.now c.loop-steps.row (take n ops) o i.0 m.1 in
    let k : cost T (take (n + 1) ops) ≡ cost T (take n ops) + get_or (prices T) o 0 = rw t (cost-more (prices T) (take n ops) o) in
    let s : min (c.loop-steps.cost + c.price.result) 4294967295 ≡ min (cost T (take n ops) + get_or (prices T) o 0) 4294967295 = rw (i.1, c.price.ensures.is) (cut_sum (cost T (take n ops)) (get_or (prices T) o 0) 4294967295) in (
      rw (t, m.2) l,
      c.saturating_add-cost.ensures ∙ (s ∙ rw k),
      λ h. c.if-not-apply.ensures.state (i.2 h),
      λ none. absurd (none (rw (no_steps T c.args.row.now c.loop-steps.row ops n (i.3 none) i.0) m.0)),
    )

pub returns : goal.returns
returns c =
    let i = c.loop-steps.invariant in
    let e : c.loop-steps.steps ≡ length c.args.operators.now = omega arith in
    record {
      within = omega arith;
      leads = rw e at i.0;
      costs = rw e at i.1;
      stops = λ l p. omega arith;
      states = i.2;
      none = λ h. sym e ∙ i.3 h;
    }
