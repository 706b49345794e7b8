use Rattle.std.proofs.Common.{◌≡◌, true, arith}
use Rattle.std.proofs.lemmas.Bool.Decides.{nat_tests}
use Rattle.lines.specs.Numbers.{all_digits}
use Rattle.lines.proofs.number.Number.parse.Goals as goal

pub value-requires : goal.value-requires
value-requires c =
    let e = c.if-not-is_natural.ensures in
    let d : all_digits c.args.bytes.now ≡ true = grind (arith, nat_tests) in
    (omega arith, d)
