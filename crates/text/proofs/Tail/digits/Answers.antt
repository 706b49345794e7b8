-- That each round writes the digit before.
use Rattle.std.proofs.Common.{length, ap, ◌∙◌, arith}
use Rattle.std.proofs.lemmas.Fmt.{decimal_nonempty, decimal_digit}
use Rattle.text.proofs.Backs.{step-digits, step-length}
use Rattle.text.proofs.Tail.digits.Goals as goal

pub put-requires : goal.put-requires
put-requires c = omega (arith, c.requires, step-length c.loop-rest.rest (omega arith) (omega arith))

pub loop-rest-preserved : goal.loop-rest-preserved
loop-rest-preserved c =
    let r = c.loop-rest.rest in
    let e = step-length r (omega arith) (omega arith) in
    record {
      small = omega arith;
      same = c.put.ensures.same_buffer ∙ c.loop-rest.invariant.same;
      at = omega (arith, e, c.put.ensures.at);
      text = step-digits r _ _ (omega arith) (omega arith) c.put.ensures.tail ∙ c.loop-rest.invariant.text;
    }

pub put-requires-2 : goal.put-requires-2
put-requires-2 c = omega (arith, c.requires, decimal_nonempty c.loop-rest.rest (omega arith))

pub returns : goal.returns
returns c =
    let d = decimal_digit c.loop-rest.rest (omega arith) in
    let e = c.loop-rest.invariant.text in
    record {
      same_buffer = c.put-2.ensures.same_buffer ∙ c.loop-rest.invariant.same;
      at = omega (arith, ap length d, c.put-2.ensures.at);
      tail = c.put-2.ensures.tail ∙ (rw d at e);
    }
