-- That a state met is held, and one not met before a free word is not.
use Rattle.std.proofs.Common.{◌≡◌, ◌+◌, ◌-◌, ◌%◌, ◌≢◌, [], ◌∷◌, length, get_or, sym, ap, ◌∙◌, subst, inl, inr, mod-lt, arith, below_more, length-append}
use Rattle.memory.specs.Index.{hash, word_at}
use Rattle.memory.specs.Rows.{state_at}
use Rattle.memory.proofs.Held.{not-held, held_at}
use Rattle.memory.proofs.Rounds.{round-some, round-none}
use Rattle.memory.proofs.Words.{not-indexed, all-busy}
use Rattle.memory.proofs.memory.Memory.look_up.Goals as goal

pub returns-then-slots-eq0 : goal.returns-then-slots-eq0
returns-then-slots-eq0 c =
    let m = c.args.self.now in
    let f = c.requires.consistent in
    (not-held m c.args.state.now (λ k l e. absurd (omega (arith, f.lent.index, f.within))), omega (arith, f.lent.index))

pub bounds-self-at : goal.bounds-self-at
bounds-self-at c =
    let e = round-some c.hash_of-first.result (length c.args.self.now.index.now) (length c.loop-at.yielded) c.hash_of-first.ensures.low c.loop-at.at-iterator c.next.new.self c.loop-at.invariant.2 c.in-Some.at c.in-Some.ensures.steps in
    rw e.1 (mod-lt _ (omega arith))

pub returns-then-word-eq0 : goal.returns-then-word-eq0
returns-then-word-eq0 c =
    let m = c.args.self.now in
    let ws = m.index.now in
    let s = c.args.state.now in
    let d = length c.loop-at.yielded in
    let e = round-some c.hash_of-first.result (length ws) d c.hash_of-first.ensures.low c.loop-at.at-iterator c.next.new.self c.loop-at.invariant.2 c.in-Some.at c.in-Some.ensures.steps in
    let is : c.in-Some.at ≡ (hash (length ws) s + d) % length ws = e.1 ∙ ap (λ h. (h + d) % length ws) c.hash_of-first.ensures.is in
    let free : word_at ws s d ≡ 0 = sym (ap (λ k. get_or ws k 0) is) ∙ c.if-word-eq0.true in (
      not-held m s (not-indexed ws (state_at m) m.held d s c.requires.consistent.indexed (inl free) c.loop-at.invariant.3),
      record { probes = d; few = e.0; is = is; within = omega arith; free = c.if-word-eq0.true; before = λ j l. (c.loop-at.invariant.3 j l).0 },
    )

pub returns-then-has_state : goal.returns-then-has_state
returns-then-has_state c =
    let m = c.args.self.now in
    let e = round-some c.hash_of-first.result (length m.index.now) (length c.loop-at.yielded) c.hash_of-first.ensures.low c.loop-at.at-iterator c.next.new.self c.loop-at.invariant.2 c.in-Some.at c.in-Some.ensures.steps in
    held_at m c.args.state.now _ (omega (arith, c.requires.consistent.indexed.valid c.in-Some.at (rw e.1 (mod-lt _ (omega arith))))) c.if-has_state.ensures

pub loop-at-preserved : goal.loop-at-preserved
loop-at-preserved c =
    let m = c.args.self.now in
    let ws = m.index.now in
    let s = c.args.state.now in
    let d = length c.loop-at.yielded in
    let e = round-some c.hash_of-first.result (length ws) d c.hash_of-first.ensures.low c.loop-at.at-iterator c.next.new.self c.loop-at.invariant.2 c.in-Some.at c.in-Some.ensures.steps in
    let is : get_or ws c.in-Some.at 0 ≡ word_at ws s d = ap (λ k. get_or ws k 0) e.1 ∙ ap (λ h. get_or ws ((h + d) % length ws) 0) c.hash_of-first.ensures.is in
    let g = c.in-Some.ensures.goes.on c.loop-at.invariant.1 in
    let long = length-append c.loop-at.yielded (c.in-Some.at ∷ []) in
    rw long (g.0, g.1, e.2, below_more _ _ c.loop-at.invariant.3 (subst (λ w. (w ≢ 0) × (state_at m (w - 1) ≡ s → ⊥)) is (c.if-word-eq0.false, c.if-has_state.ensures)))

pub returns : goal.returns
returns c =
    let m = c.args.self.now in
    let ws = m.index.now in
    let s = c.args.state.now in
    let f = c.requires.consistent in
    let d = length c.loop-at.yielded in
    let e = round-none c.hash_of-first.result (length ws) d c.hash_of-first.ensures.low c.loop-at.at-iterator c.next.new.self c.loop-at.invariant.2 c.in-None.ensures.steps in (
      not-held m s (not-indexed ws (state_at m) m.held d s f.indexed (inr (omega arith)) c.loop-at.invariant.3),
      all-busy ws s m.held m.capacity f.indexed.count f.lent.index f.within (omega (arith, c.hash_of-first.ensures.is, c.hash_of-first.ensures.low)) (λ j l. (c.loop-at.invariant.3 j (omega arith)).0),
    )
