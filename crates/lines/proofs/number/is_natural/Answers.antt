use Rattle.std.proofs.Common.{◌≡◌, Bool, true, false, ◌&&◌, eqb, leb, length, sym, ◌∙◌, arith, rules, tests}
use Rattle.std.proofs.lemmas.Bool.Decides.{nat_tests}
use Rattle.std.proofs.lemmas.Iterator.{YieldsList-from_slice}
use Rattle.std.proofs.lemmas.Iterator.Search.{all_from_yields_List}
use Rattle.lines.specs.Numbers.{all_digits, needless_zero}
use Rattle.lines.proofs.number.is_natural.Goals as goal

only-first : (b : Bool) → (b && (true && true)) ≡ b
only-first true = search rules
only-first false = search rules

pub returns-in_default : goal.returns-in_default
returns-in_default c =
    let s = c.args.bytes.now in
    let all : c.all.result ≡ all_digits s = all_from_yields_List (λ b. leb 48 b && leb b 57) _ _ c.all.result c.all.ensures.ran (YieldsList-from_slice s cc) (λ x b q k. search (rules, tests)) in
    let z : eqb (length s) 0 ≡ false = grind (arith, nat_tests) in
    let y : needless_zero s ≡ false = grind (arith, nat_tests) in
    rw (z, y) (only-first (all_digits s) ∙ sym all)
