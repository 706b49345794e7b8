-- The product is cut at each factor, which cuts it as a whole.
use Rattle.std.proofs.Common.{◌≡◌, ◌*◌, min, get_or, arith, rules}
use Rattle.std.specs.List.{fold}
use Rattle.task.specs.Model.{model}
use Rattle.abstraction.proofs.Products.{counted}
use Rattle.abstraction.proofs.pattern.rank_count.Goals as goal

pub returns : goal.returns
returns c =
    let T = model c.args.task.now in
    let P = c.args.pattern.now in
    let folded : c.fold.result ≡ fold (λ n v. min (n * get_or T.domains v 0) 4294967295) 1 P = search rules in
    let whole = counted T 1 P in
    omega arith
