use Rattle.std.proofs.Common.{◌≡◌, length, ◌∙◌, arith, rules}
use Rattle.std.proofs.lemmas.List.{length-take-le}
use Rattle.sections.specs.Views.{entries_in}
use Rattle.format.proofs.reading.body.Goals as goal

pub returns-clause-reads : goal.returns-clause-reads
returns-clause-reads c =
    let made = c.new-entries.ensures in
    let es = c.goal.new.entries in
    let same = c.in_ok-goals.ensures.same in
    let goals : length (entries_in es) ≡ c.in_ok-goals.goals = omega (arith, c.in_ok-goals.ensures.used, length-take-le es.used es.records.now es.inside) in
    let goal-read = rw (made.same.0, made.empty.1) at c.in_ok-goals.ensures.reads in
    let variables = same.variables ∙ made.same.0 in
    let capacity = same.capacity ∙ made.empty.1 in
    let listed = rw (variables, capacity) at c.in_ok-operator_list.ensures.reads in
    rw (c.in_ok-state.ensures, goal-read, goals, c.in_ok-count.ensures.reads, listed, c.in_ok-word.ensures, ← c.if-not-is_empty.ensures) (search rules)
