-- Each value that the place may have before the step is tried, with all that the later places may have.
use Rattle.std.proofs.Common.{◌≡◌, ℕ, ◌+◌, ◌*◌, ◌<◌, ◌≤◌, List, length, get_or, drop, sym, ap, ◌∙◌, subst, ⊎_elim, arith}
use Rattle.std.proofs.lemmas.Bool.{cases_eq}
use Rattle.abstraction.specs.Ranks.{product}
use Rattle.task.specs.Model.{Admits}
use Rattle.abstraction.specs.declared.abstract_task.AbstractTask.{AbstractTask}
use Rattle.abstraction.specs.Parts.{or_else}
use Rattle.abstraction.specs.Standing.{unused, part_at}
use Rattle.abstraction.specs.AbstractTasks.{abstract_of}
use Rattle.abstraction.proofs.Places.{places}
use Rattle.abstraction.proofs.Ranks.{product_at, product-end}
use Rattle.projection.specs.Dijkstra.{StepAt, Preceding}
use Rattle.projection.proofs.Relaxing.{relaxed-none, relaxed-then, relaxed-wider}
use Rattle.projection.proofs.Steps.{preceding-end, preceding-only, preceding-cons, preceding-first, scaled}
use Rattle.projection.proofs.distances.Distances.+relax.Goals as goal

pub lower-requires : goal.lower-requires
lower-requires t c =
    let A = c.args.steps.now.abstract_task.now in
    let n = places A in
    let e = product-end (abstract_of A).domains c.args.place (let l = c.if-place-abstract_task.true in omega arith) in
    let r = c.requires.room in
    omega arith

pub returns-then-place-abstract_task : goal.returns-then-place-abstract_task
returns-then-place-abstract_task t c =
    let A = c.args.steps.now.abstract_task.now in
    let o = c.args.steps.now.operator in
    let b = c.args.steps.now.state.now in
    let i = c.args.place in
    let f = c.args.from in
    let n = places A in
    let last = c.if-place-abstract_task.true in
    let long = c.requires.state.long in
    record {
      relaxed = relaxed-wider (λ k. k ≡ f) (Preceding A o b i f) c.args.steps.now.distance _ _
          (λ k e. subst (Preceding A o b i f) (sym e) (preceding-end A o b i f (omega arith) (omega arith)))
          c.lower.ensures.relaxed;
      done = λ k l. subst (λ z. get_or c.lower.new.self.table.now z 0 ≤ c.args.steps.now.distance) (sym (preceding-only A o b i f k (omega arith) l)) c.lower.ensures.lowered;
    }

-- a value that is tried, as a step of the place, and the room that is left for the later places
record Tried (A : AbstractTask) (o : ℕ) (b : List ℕ) (i f x n : ℕ) : Type 0 where
  weight : (get_or A.places i unused).weight ≡ product (drop (i + 1) (abstract_of A).domains)
  step : StepAt A o i (get_or (abstract_of A).domains i 0) x (get_or b i 0)
  room : f + x * (get_or A.places i unused).weight + (get_or A.places i unused).weight ≤ n

tried : (A : AbstractTask) (o : ℕ) (b : List ℕ) (i f x n : ℕ) → i < length A.pattern.now → f + product (drop i (abstract_of A).domains) ≤ n
    → (x < (get_or A.places i unused).domain) × Admits x (part_at A.operators o i).required × (or_else (part_at A.operators o i).value x ≡ get_or b i 0)
    → Tried A o b i f x n
tried A o b i f x n h r v =
    let ds = (abstract_of A).domains in
    let p = A.stands.places i h in
    let w = (get_or A.places i unused).weight in
    let l = places A in
    let low : x < get_or ds i 0 = subst (λ z. x < z) p.domain v.0 in
    let p : product (drop i ds) ≡ get_or ds i 0 * w = product_at ds i (omega arith) ∙ ap (λ z. get_or ds i 0 * z) (sym p.weight) in
    let s = scaled x (get_or ds i 0) w low in
    record { weight = (A.stands.places i h).weight; step = record { within = low; admits = v.1; leads = v.2 }; room = omega arith }

pub overflow_mul-value : goal.overflow_mul-value
overflow_mul-value t c =
    let p = c.requires.place in
    let q = c.if-place-abstract_task.false in
    let k = c.loop-value.auto.value in
    let w = (tried c.args.steps.now.abstract_task.now c.args.steps.now.operator c.args.steps.now.state.now c.args.place c.args.from c.loop-value.value (length c.args.self.now.table.now) (omega arith) c.requires.room (c.values_before-values.ensures.each c.loop-value.value (omega arith) c.loop-value-test.true)).room in
    let f = c.requires.few in
    omega arith

pub overflow_add-from : goal.overflow_add-from
overflow_add-from t c =
    let p = c.requires.place in
    let q = c.if-place-abstract_task.false in
    let k = c.loop-value.auto.value in
    let w = (tried c.args.steps.now.abstract_task.now c.args.steps.now.operator c.args.steps.now.state.now c.args.place c.args.from c.loop-value.value (length c.args.self.now.table.now) (omega arith) c.requires.room (c.values_before-values.ensures.each c.loop-value.value (omega arith) c.loop-value-test.true)).room in
    let f = c.requires.few in
    omega arith

pub relax-requires : goal.relax-requires
relax-requires t c =
    let A = c.args.steps.now.abstract_task.now in
    let i = c.args.place in
    let p = c.requires.place in
    let q = c.if-place-abstract_task.false in
    let k = c.loop-value.auto.value in
    let w = tried A c.args.steps.now.operator c.args.steps.now.state.now i c.args.from c.loop-value.value (length c.args.self.now.table.now) (omega arith) c.requires.room (c.values_before-values.ensures.each c.loop-value.value (omega arith) c.loop-value-test.true) in
    let m = c.decreases in
    let wt = (get_or A.places i unused).weight in
    let long = c.loop-value.invariant.0.long in
    let f = c.requires.few in
    let room : c.args.from + c.loop-value.value * wt + product (drop (i + 1) (abstract_of A).domains) ≤ length c.loop-value.self.table.now =
    subst (λ z. c.args.from + c.loop-value.value * wt + z ≤ length c.loop-value.self.table.now) w.weight (subst (λ z. c.args.from + c.loop-value.value * wt + wt ≤ z) (sym long) w.room) in
    (omega arith, (c.requires.number, (c.requires.state, (omega arith, (room, omega arith)))))

pub loop-value-init : goal.loop-value-init
loop-value-init t c = (relaxed-none _ _ _, λ y k g h z. absurd (omega arith))

pub loop-value-preserved : goal.loop-value-preserved
loop-value-preserved t c =
    let A = c.args.steps.now.abstract_task.now in
    let o = c.args.steps.now.operator in
    let b = c.args.steps.now.state.now in
    let i = c.args.place in
    let f = c.args.from in
    let x = c.loop-value.value in
    let wt = (get_or A.places i unused).weight in
    let p = c.requires.place in
    let q = c.if-place-abstract_task.false in
    let kv = c.loop-value.auto.value in
    let n = places A in
    let l = c.requires.state.long in
    let w = tried A o b i f x (length c.args.self.now.table.now) (omega arith) c.requires.room (c.values_before-values.ensures.each x (omega arith) c.loop-value-test.true) in (
      relaxed-then (Preceding A o b i f) c.args.steps.now.distance _ _ _ c.loop-value.invariant.0
          (relaxed-wider (Preceding A o b (i + 1) (f + x * wt)) (Preceding A o b i f) c.args.steps.now.distance _ _
          (λ k y. preceding-cons A o b i f k x wt (omega arith) (omega arith) w.weight w.step y)
          c.relax.ensures.relaxed),
      λ y k g h z. ⊎_elim
          (λ (e : y ≡ x). c.relax.ensures.done k (subst (λ u. Preceding A o b (i + 1) (f + u * wt) k) e z))
          (λ (ne : y ≡ x → ⊥). let old = c.loop-value.invariant.1 y k g (omega arith) z in let less = c.relax.ensures.relaxed.less k in omega arith)
          (cases_eq y x),
    )

pub returns : goal.returns
returns t c =
    let A = c.args.steps.now.abstract_task.now in
    let o = c.args.steps.now.operator in
    let b = c.args.steps.now.state.now in
    let i = c.args.place in
    let f = c.args.from in
    let p = c.requires.place in
    let q = c.if-place-abstract_task.false in
    let n = places A in
    let l = c.requires.state.long in
    let h : i < length A.pattern.now = omega arith in
    record {
      relaxed = c.loop-value.invariant.0;
      done = λ k y.
          let w = preceding-first A o b i f k (get_or A.places i unused).weight (omega arith) (omega arith) (A.stands.places i h).weight y in
          let s = w.1 in
          let r = c.values_before-values.ensures.all w.0 (subst (λ z. w.0 < z) (sym (A.stands.places i h).domain) s.within, s.admits, s.leads) in
          c.loop-value.invariant.1 w.0 k r.0 (let z = r.1 in let u = c.loop-value-test.false in omega arith) w.2;
    }
