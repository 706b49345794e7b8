-- Each place passed has the value that the operator requires, and the rank is that of what it leads to, as far as they show.
use Rattle.std.proofs.Common.{◌≡◌, ℕ, ◌+◌, ◌*◌, ◌<◌, length, get_or, [], ◌∷◌, ◌++◌, sym, ap, ◌∙◌, subst, arith, rules, below_more}
use Rattle.std.proofs.lemmas.List.{length-append}
use Rattle.task.specs.Model.{Admits, applied}
use Rattle.abstraction.specs.Standing.{unused, no_operator, part_at}
use Rattle.abstraction.specs.Parts.{untouched, or_else}
use Rattle.abstraction.specs.AbstractTasks.{abstract_of}
use Rattle.abstraction.proofs.Places.{places, number-low, applied-state, applies-each, applies-at, rank_step}
use Rattle.abstraction.proofs.Ranks.{lead, rank-lead}
use Rattle.abstraction.proofs.Walks.{Left, walk_turn, walk_end}
use Rattle.abstraction.proofs.abstract_task.AbstractTask.successor.Goals as goal

pub loop-part-init : goal.loop-part-init
loop-part-init c = (search rules, search rules, record { first = search rules; second = search rules; third = search rules }, omega arith, search rules, λ i h. absurd (omega arith))

pub returns-then-not-admits : goal.returns-then-not-admits
returns-then-not-admits c = λ a.
    let A = c.args.self.now in
    let i = length c.loop-part.yielded in
    let m = walk_turn _ _ _ _ _ c.next.new.self _ _ _ c.loop-part.invariant.2 c.in-Some.ensures.steps in
    let l = c.requires.state.long in
    let n = places A in
    let h = m.inside in
    c.if-not-admits.ensures (subst (λ z. Admits z c.in-Some.part.now.required) (sym (m.third 0)) (subst (λ z. Admits (get_or c.args.state.now i 0) z.required) (sym (m.first untouched))
    (applies-at A c.args.state.now c.args.operator i (omega arith) a)))

pub overflow_mul-rank : goal.overflow_mul-rank
overflow_mul-rank c =
    let A = c.args.self.now in
    let i = length c.loop-part.yielded in
    let m = walk_turn _ _ _ _ _ c.next.new.self _ _ _ c.loop-part.invariant.2 c.in-Some.ensures.steps in
    let l = c.requires.state.long in
    let n = places A in
    let h = m.inside in
    let after : c.from.result ≡ or_else (part_at A.operators c.args.operator i).value (get_or c.args.state.now i 0) =
    c.from.ensures ∙ c.value_after.ensures ∙ ap (λ z. or_else z.value c.in-Some.field-0-1.now) (m.first untouched) ∙ ap (or_else (part_at A.operators c.args.operator i).value) (m.third 0) in
    let r = (rank_step A c.args.state.now c.args.operator i c.loop-part.rank c.from.result c.requires.number c.requires.state (omega arith) c.loop-part.invariant.4 after).1 in
    let w = ap (λ z. c.from.result * z.weight) (m.second unused) in
    omega arith

pub overflow_add-rank : goal.overflow_add-rank
overflow_add-rank c =
    let A = c.args.self.now in
    let i = length c.loop-part.yielded in
    let m = walk_turn _ _ _ _ _ c.next.new.self _ _ _ c.loop-part.invariant.2 c.in-Some.ensures.steps in
    let l = c.requires.state.long in
    let n = places A in
    let h = m.inside in
    let after : c.from.result ≡ or_else (part_at A.operators c.args.operator i).value (get_or c.args.state.now i 0) =
    c.from.ensures ∙ c.value_after.ensures ∙ ap (λ z. or_else z.value c.in-Some.field-0-1.now) (m.first untouched) ∙ ap (or_else (part_at A.operators c.args.operator i).value) (m.third 0) in
    let r = (rank_step A c.args.state.now c.args.operator i c.loop-part.rank c.from.result c.requires.number c.requires.state (omega arith) c.loop-part.invariant.4 after).1 in
    let w = ap (λ z. c.from.result * z.weight) (m.second unused) in
    omega arith

pub loop-part-preserved : goal.loop-part-preserved
loop-part-preserved c =
    let A = c.args.self.now in
    let o = c.args.operator in
    let s = c.args.state.now in
    let i = length c.loop-part.yielded in
    let m = walk_turn _ _ _ _ _ c.next.new.self _ _ _ c.loop-part.invariant.2 c.in-Some.ensures.steps in
    let l = c.requires.state.long in
    let n = places A in
    let h = m.inside in
    let after : c.from.result ≡ or_else (part_at A.operators o i).value (get_or s i 0) =
    c.from.ensures ∙ c.value_after.ensures ∙ ap (λ z. or_else z.value c.in-Some.field-0-1.now) (m.first untouched) ∙ ap (or_else (part_at A.operators o i).value) (m.third 0) in
    let r = (rank_step A s o i c.loop-part.rank c.from.result c.requires.number c.requires.state (omega arith) c.loop-part.invariant.4 after).0 in
    let w = ap (λ z. c.from.result * z.weight) (m.second unused) in
    let more : i + 1 ≡ length (c.loop-part.yielded ++ ((c.in-Some.part, c.in-Some.place), c.in-Some.field-0-1) ∷ []) = sym (length-append _ _) in
    let admits : Admits (get_or s i 0) (part_at A.operators o i).required =
    subst (λ z. Admits z (part_at A.operators o i).required) (m.third 0) (subst (λ z. Admits c.in-Some.field-0-1.now z.required) (m.first untouched) c.if-not-admits.ensures) in (
      c.loop-part.invariant.0,
      c.loop-part.invariant.1,
      subst (λ z. Left (get_or A.operators o no_operator).parts A.places s z c.next.new.self) more m.left,
      omega arith,
      subst (λ z. c.loop-part.rank + c.from.result * c.in-Some.place.now.weight ≡ lead (abstract_of A).domains (applied (abstract_of A) s o) z) more (omega arith),
      subst (λ z. (k : ℕ) → k < z → Admits (get_or s k 0) (part_at A.operators o k).required) more (below_more (λ k. Admits (get_or s k 0) (part_at A.operators o k).required) i c.loop-part.invariant.5 admits),
    )

pub returns : goal.returns
returns c =
    let A = c.args.self.now in
    let n = places A in
    let l = c.requires.state.long in
    let few = A.stands.pattern.few in
    let row = A.stands.long_parts c.args.operator (number-low A c.args.operator c.requires.number) in
    let long = A.stands.long_places in
    let at = c.loop-part.invariant.3 in
    let last = walk_end _ _ _ _ (length A.pattern.now) _ c.next.new.self c.loop-part.invariant.2 c.in-None.ensures.steps (omega arith) (omega arith) (omega arith) in
    let b = applied-state A c.args.state.now c.args.operator c.requires.number c.requires.state in (
      applies-each A c.args.state.now c.args.operator c.requires.number (λ i h. c.loop-part.invariant.5 i (omega arith)),
      c.loop-part.invariant.4 ∙ sym (rank-lead (abstract_of A).domains _ (length c.loop-part.yielded) b.long (omega arith)),
    )
