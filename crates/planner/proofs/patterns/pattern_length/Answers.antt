-- The chain counts the variables that fit.
use Rattle.std.proofs.Common.{ℕ, take, drop, nat_le, rules, tests, Bool, sym, ap, ◌∙◌}
use Rattle.std.proofs.lemmas.Iterator.{YieldsList-from_slice, YieldsList-from_take}
use Rattle.std.proofs.lemmas.Iterator.Adapters.{YieldsList-from_skip}
use Rattle.std.proofs.lemmas.Iterator.Consumers.{YieldsList-at, YieldsList-from_scan, count_from_yields_List}
use Rattle.std.proofs.lemmas.Iterator.Search.{YieldsList-from_take_while}
use Rattle.std.proofs.lemmas.List.{drop-map}
use Rattle.std.proofs.lemmas.List.Folds.{length-prefix_len}
use Rattle.std.specs.List.{scan}
use Rattle.tables.specs.declared.records.Variable.{Variable}
use Rattle.planner.specs.Patterns.{taken}
use Rattle.planner.proofs.Taking.{counted, times}
use Rattle.planner.proofs.patterns.pattern_length.Goals as goal

pub returns-clause-taken : goal.returns-clause-taken
returns-clause-taken c =
    let vs = c.args.task.now.variables.now in
    let fit : ℕ → Bool = λ r. nat_le r 4096 in
    let rest = YieldsList-from_skip {s = c.skip.result} c.args.first (YieldsList-at c.skip.ensures.source (YieldsList-from_slice vs cc)) c.skip.ensures.count in
    let next = YieldsList-from_take {s = c.take.result} 8 (YieldsList-at c.take.ensures.source rest) c.take.ensures.count in
    count_from_yields_List c.take_while.result _ c.count.ensures.ran
    (YieldsList-from_take_while _ fit
    (YieldsList-at c.take_while.ensures.source
    (YieldsList-from_scan _ times times 1 (YieldsList-at c.scan.ensures.source next) c.scan.ensures.state c.scan.ensures.closure (λ b x r q n k. search (rules, tests))))
    c.take_while.ensures.closure c.take_while.ensures.done (λ x b q k. search (rules, tests)))
    ∙ (length-prefix_len fit (scan times times 1 (take 8 (drop c.args.first vs)))
    ∙ (counted 8 1 (drop c.args.first vs) ∙ ap (taken 8 1) (sym (drop-map (λ (v : Variable). v.domain) c.args.first vs))))
