-- That a writing into a part of the buffer is the plain search's writing into that part.
use Rattle.std.proofs.Common.{◌≡◌, ℕ, false, None, List, Ok, Err, Result, sym, refl, ap, ◌∙◌, subst, arith}
use Rattle.tables.specs.declared.cause.Cause.{Cause}
use Rattle.plain.specs.Plain as plain
use Rattle.memory.specs.Plans.{plan_text}
use Rattle.search.specs.declared.data.Reply.{Reply}
use Rattle.search.specs.Search.{plain_of, find_of}
use Rattle.search.specs.Plans.{Written}
use Rattle.search.specs.Replay.{Says, SaysResult, with_part}
use Rattle.search.proofs.Parts.{part_cut, with-cut}
use Rattle.search.proofs.search.Search.write_part.Goals as goal

echoed : (r : Result ℕ Cause) (w : Reply) (b : List ℕ) (a : plain.Answer) → SaysResult r w → Written r b a → false ≡ a.go → Says w a.outcome a.go None None × (b ≡ a.after)
echoed (Ok n) w b a e h g = (subst (λ z. Says z a.outcome a.go None None) (sym e) (record { says = (h.0, h.1, h.2); hands = g; bounds = refl; totals = refl }), sym h.3)
echoed (Err f) w b a e h g = (subst (λ z. Says z a.outcome a.go None None) (sym e) (record { says = sym h.0; hands = g; bounds = refl; totals = refl }), sym h.1)

no-go : (T : List ℕ → ℕ → List ℕ) (f : plain.Find) (b : List ℕ) (p : plain.Plain) (a : plain.Answer) → plain.Writes T f b p a → false ≡ a.go
no-go T f b p a (plain.Writes.other o e) = sym (ap (λ z. z.go) e)
no-go T f b p a (plain.Writes.short is o w l e) = sym (ap (λ z. z.go) e)
no-go T f b p a (plain.Writes.writes is o w l e) = sym (ap (λ z. z.go) e)

pub returns : goal.returns
returns c =
    let s = c.args.self.now in
    let T = plan_text s.task in
    let f = find_of c.args.find in
    let x = c.write.ensures in
    let p = c.args.part in
    let xs = c.args.buffer.now in
    let places = c.within-places.ensures in
    let cut = part_cut p xs c.within-places.result.start _ places.from (omega arith) in
    let q = echoed c.write.result c.into.result c.write.new.buffer x.0 c.into.ensures x.2 (no-go T f _ (plain_of s.core) x.0 x.1) in (
      x.0,
      subst (λ z. plain.Writes T f z (plain_of s.core) x.0) cut x.1,
      q.0,
      with-cut p xs c.within-places.result.start _ places.from (omega arith) c.write.new.buffer ∙ ap (with_part p xs) q.1,
    )
