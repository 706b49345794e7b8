use Rattle.std.proofs.Common.{◌&&◌, leb, sym, rules, tests}
use Rattle.std.proofs.lemmas.Iterator.{YieldsList-from_slice}
use Rattle.std.proofs.lemmas.Iterator.Search.{all_from_yields_List}
use Rattle.lines.proofs.line.is_printable.Goals as goal

pub returns : goal.returns
returns c = sym (all_from_yields_List (λ b. leb 32 b && leb b 126) _ _ _ c.all.ensures.ran (YieldsList-from_slice c.args.line.now cc) (λ x b q k. search (rules, tests)))
