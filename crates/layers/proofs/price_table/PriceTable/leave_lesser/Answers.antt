-- The row that is left is the lesser of the two rows, operator by operator.
use Rattle.std.proofs.Common.{◌≡◌, ◌<◌, ◌≤◌, min, length, get_or, take, sym, refl, ap, ◌∙◌, arith, get_or-take, ext_get_or, rules}
use Rattle.estimator.specs.Lawful.Rows.{length-joined, get_or-joined}
use Rattle.layers.proofs.price_table.PriceTable.leave_lesser.Goals as goal

pub returns : goal.returns
returns c =
    let row = c.args.row.now in
    let kept = c.args.self.now.prices in
    let long : length (take (length row) kept) ≡ length row = search rules in
    let whole : length c.loop-operator.row ≡ length row = search rules in
    let done : length row ≤ c.loop-operator.operator = search rules in
    ext_get_or 0 _ _ (whole ∙ sym long ∙ sym (length-joined min _ _ long))
    (λ k h. let in_row : k < length row = omega arith in c.loop-operator.invariant.0 k (omega arith) ∙ ap (λ x. min x (get_or row k 0)) (sym (get_or-take (length row) kept k 0 in_row)) ∙ sym (get_or-joined min refl _ _ long k))
