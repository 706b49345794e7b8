-- Each operator passed has its step from the rank counted in.
use Rattle.std.proofs.Common.{◌≡◌, ℕ, ◌+◌, ◌<◌, ◌≤◌, ◌≢◌, List, length, get_or, set, sym, subst, ⊎_elim, arith, get_or-set_other, get_or-set_same}
use Rattle.std.proofs.lemmas.Bool.{cases_eq}
use Rattle.task.specs.Model.{applied}
use Rattle.abstraction.specs.AbstractTasks.{abstract_of}
use Rattle.projection.specs.Saturating.{HeldBelow}
use Rattle.projection.proofs.Settling.{state-rank}
use Rattle.projection.proofs.Running.{closed}
use Rattle.projection.proofs.Saturation.{held-skip, held_more}
use Rattle.projection.proofs.saturate.raise.Goals as goal
use Rattle.projection.proofs.saturate.raise.Goals.{in-Some, in_default}

pub bounds-table-next : goal.bounds-table-next
bounds-table-next c =
    let A = c.args.abstract_task.now in
    let P = abstract_of A in
    let w = c.state_of-digits.ensures in
    let e = c.in-Some.ensures in
    let l = state-rank P c.args.table.now (applied P _ c.loop-operator.operator) c.requires.long (closed A _ c.loop-operator.operator w.state e.0) in
    let q = e.1 in
    omega arith

-- one operator more
more : (Q R : ℕ → ℕ → Type 0) (xs : List ℕ) (i y n : ℕ) → i < length xs → ((o : ℕ) → o < i → Q o (get_or xs o 0)) → Q i y → ((o : ℕ) → i ≤ o → o < n → R o (get_or xs o 0))
    → ((o : ℕ) → o < i + 1 → Q o (get_or (set xs i y) o 0)) × ((o : ℕ) → i + 1 ≤ o → o < n → R o (get_or (set xs i y) o 0))
more Q R xs i y n h below here above = (
  (λ o l. ⊎_elim
      (λ (e : o ≡ i). subst (λ z. Q z (get_or (set xs i y) z 0)) (sym e) (subst (Q i) (sym (get_or-set_same xs i y 0 h)) here))
      (λ (ne : o ≡ i → ⊥). subst (Q o) (sym (get_or-set_other xs i o y 0 ne)) (below o (omega arith)))
      (cases_eq o i)),
  λ o l m. let ne : o ≢ i = omega arith in subst (R o) (sym (get_or-set_other xs i o y 0 ne)) (above o (omega arith) m),
)

pub loop-operator-preserved : goal.loop-operator-preserved
loop-operator-preserved c =
    let A = c.args.abstract_task.now in
    let P = abstract_of A in
    let t = c.args.table.now in
    let r = c.args.rank in
    let i = c.loop-operator.operator in
    let xs = c.loop-operator.held in
    let n = length P.operators in
    let test = c.loop-operator-test.true in
    let kept = c.loop-operator.auto.held in
    let room = c.requires.held in
    let number : i < n = omega arith in
    let lt : i < length xs = omega arith in
    let Q : ℕ → ℕ → Type 0 = λ o h. HeldBelow P t o (r + 1) h in
    let R : ℕ → ℕ → Type 0 = λ o h. HeldBelow P t o r h in
    let w = c.state_of-digits.ensures in
    let old = c.loop-operator.invariant.1 i (omega arith) number in
    let above : (o : ℕ) → i ≤ o → o < n → R o (get_or xs o 0) = c.loop-operator.invariant.1 in
    elim c.match-successor.branch [
      | in-Some x ↦ subst (λ z. ((o : ℕ) → o < i + 1 → Q o (get_or z o 0)) × ((o : ℕ) → i + 1 ≤ o → o < n → R o (get_or z o 0))) (sym x.held-is)
          (more Q R xs i x.larger.result n lt c.loop-operator.invariant.0
          (held_more P t i r x.in-Some.next (get_or xs i 0) x.larger.result _ w x.in-Some.ensures.0 x.in-Some.ensures.1 x.larger.ensures old) above)
      | in_default x ↦ subst (λ z. ((o : ℕ) → o < i + 1 → Q o (get_or z o 0)) × ((o : ℕ) → i + 1 ≤ o → o < n → R o (get_or z o 0))) (sym x.held-is)
          (more Q R xs i (get_or xs i 0) n lt c.loop-operator.invariant.0 (held-skip P t i r (get_or xs i 0) _ w x.in_default.ensures old) above)
    ]

pub returns : goal.returns
returns c = λ o h. c.loop-operator.invariant.0 o (let t = c.loop-operator-test.false in let k = c.loop-operator.auto.held in let r = c.requires.held in omega arith)
