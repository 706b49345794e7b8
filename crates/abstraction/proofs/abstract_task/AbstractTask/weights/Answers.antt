-- Each is the weight of its place.
use Rattle.std.proofs.Common.{◌≡◌, ◌∙◌, arith, rules}
use Rattle.abstraction.specs.Standing.{unused}
use Rattle.abstraction.proofs.Made.{mapped_each}
use Rattle.abstraction.proofs.abstract_task.AbstractTask.weights.Goals as goal

pub returns-clause-weights : goal.returns-clause-weights
returns-clause-weights c = λ i h.
    let A = c.args.self.now in
    let few = A.stands.pattern.few in
    mapped_each _ _ (λ p w. w ≡ p.weight) (λ x y q z. (search rules, search rules)) A.places c.map.result 8 c.map.ensures.items.each i unused 0 (omega arith) ∙ (A.stands.places i h).weight
