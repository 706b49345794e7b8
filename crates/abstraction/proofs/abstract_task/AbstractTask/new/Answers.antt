-- The parts at the pattern's variables are the parts, at their places, of what is cut down.
use Rattle.std.proofs.Common.{ℕ, ◌<◌, length, replicate, get_or, ap, sym, ◌∙◌, subst, arith}
use lib.ListN.{length-map}
use Rattle.std.proofs.lemmas.List.{get_or-map, get_or-replicate}
use Rattle.task.specs.Model.{model, operator, action}
use Rattle.abstraction.specs.Projected.{sizes, cut_action}
use Rattle.abstraction.specs.Parts.{untouched, PartOf}
use Rattle.abstraction.specs.declared.part.AbstractOperator.{AbstractOperator}
use Rattle.abstraction.specs.Standing.{part_at, no_operator}
use Rattle.abstraction.specs.Lawful.Cutting.{sorted, part_cut, goal-cut}
use Rattle.abstraction.specs.Lawful.Projecting.{operator-cut}
use Rattle.abstraction.proofs.Products.{weight-whole}
use Rattle.abstraction.proofs.abstract_task.AbstractTask.new.Goals as goal

abbrev idle : AbstractOperator
idle = record { parts = replicate 8 untouched }

pub fill_operators-requires-clause-long : goal.fill_operators-requires-clause-long
fill_operators-requires-clause-long c = λ o l. ap (λ (z : AbstractOperator). length z.parts) (get_or-replicate 256 o idle no_operator l)

pub invariant_of-result : goal.invariant_of-result
invariant_of-result c =
    let t = c.args.task.now in
    let T = model t in
    let P = c.args.pattern.now in
    let pat = c.requires.pattern in
    let s = sorted T P pat in
    let few = pat.few in
    let os = c.fill_operators.new.operators in
    let size = λ (i : ℕ) (h : i < length P). get_or-map (λ v. get_or T.domains v 0) P i 0 0 h in
    record {
      stands = record {
        pattern = pat;
        few = c.requires.few;
        long_places = c.places_of.ensures.long;
        long_operators = c.fill_operators.ensures.room;
        long_parts = λ o h. (c.fill_operators.ensures.operators o h).long;
        places = λ i h.
            let p = c.places_of.ensures.places i (omega arith) in
            record { domain = p.domain h ∙ sym (size i h); weight = p.weight h ∙ weight-whole t P i pat c.requires.few; goal = goal-cut P i T.goal _ s h (p.goal h) };
        parts = λ o i h l.
            let lo = length-map T.operators (cut_action P) in
            let lt = length-map t.operators.now (action t.entries.now) in
            let listed = t.listed in
            let in-t : o < length T.operators = omega arith in
            let part = ((c.fill_operators.ensures.operators o (omega arith)).parts i (omega arith)).is (omega arith) l in
            subst (λ z. PartOf z i (get_or (sizes T P) i 0) (part_at os o i)) (sym (operator-cut T P o in-t))
            (subst (λ d. PartOf (cut_action P (operator T o)) i d (part_at os o i)) (sym (size i l)) (part_cut P i _ (operator T o) _ s l part));
      };
    }
