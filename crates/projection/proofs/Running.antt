-- What is kept from one operator to the next, from one rank to the next, and at the end.
use Rattle.std.proofs.Common.{◌≡◌, ℕ, ◌+◌, ◌<◌, ◌≤◌, min, ◌⊎◌, ◌≢◌, List, [], ◌∷◌, length, get_or, None, sym, ap, ◌∙◌, subst, inl, inr, ⊎_elim, arith}
use Rattle.std.proofs.lemmas.Bool.{cases_eq, cases_lt}
use Rattle.std.proofs.lemmas.List.{get_or_past}
use Rattle.std.proofs.lemmas.Map.{update_here, update_apart}
use Rattle.task.specs.Model.{Model, IsState, IsGoal, Applies, applied, Plan}
use Rattle.queue.specs.declared.Queue.{Queue}
use Rattle.queue.specs.declared.entries.RankEntry.{RankEntry}
use Rattle.queue.specs.Content.{content, Rows, Changed}
use Rattle.queue.specs.Entries.{rank_item}
use Rattle.abstraction.specs.Ranks.{product, rank}
use Rattle.abstraction.specs.declared.abstract_task.AbstractTask.{AbstractTask}
use Rattle.abstraction.specs.AbstractTasks.{abstract_of}
use Rattle.abstraction.specs.Steps.{StateOf}
use Rattle.abstraction.proofs.Places.{applied-state, applies-number}
use Rattle.abstraction.proofs.Ranks.{rank_same, state-fit}
use Rattle.projection.specs.declared.distances.Distances.{Distances}
use Rattle.projection.specs.Open.{Open}
use Rattle.projection.specs.Dijkstra.{Relaxed, entry, Witness, Running, NoneLeft, LeftFrom, Settled}
use Rattle.projection.proofs.Settling.{Closed, state-rank}
use Rattle.projection.proofs.Lowering.{takes-kept, some-none}
use Rattle.projection.proofs.Steps.{Before}

pub closed : (A : AbstractTask) → Closed (abstract_of A)
closed A s o is a = applied-state A s o (applies-number (abstract_of A) s o a) is

-- a step before a plan
witness-step : (P : Model) (row : List ℕ) (o r k d : ℕ) → Closed P → Before P o r k → Witness P row r d → Witness P row k (d + get_or row o 0)
witness-step P row o r k d c l w =
    let b = applied P l.from o in
    let same : w.from ≡ b = rank_same P.domains w.from b (state-fit P w.from w.state) (state-fit P b (c l.from o l.state l.applies)) (w.ranked ∙ sym l.leads) in
    record {
      from = l.from;
      plan = o ∷ w.plan;
      state = l.state;
      ranked = l.ranked;
      plans = (l.applies, subst (λ z. Plan P z w.plan) same w.plans);
      costs = (let e = w.costs in omega arith);
    }

pub relax-keeps : (P : Model) (row : List ℕ) (C : ℕ → Type 0) (r i d : ℕ) (D D' : Distances) → Closed P → r < length D.table.now
    → d ≡ min (get_or D.table.now r 0 + get_or row i 0) 4294967295 → Running P row (LeftFrom r i) D → Relaxed C d D D'
    → ((k : ℕ) → C k → Before P i r k) → ((s : List ℕ) → IsState P s → Applies P s i → rank P.domains (applied P s i) ≡ r → get_or D'.table.now (rank P.domains s) 0 ≤ d)
    → Running P row (LeftFrom r (i + 1)) D'
relax-keeps P row C r i d D D' c h e run rel out done = record {
  long = rel.long ∙ run.long;
  small = λ k. let a = rel.less k in let b = run.small k in omega arith;
  goal = λ s st g. let x = rel.less (rank P.domains s) in let y = run.goal s st g in omega arith;
  sound = λ k l ne. ⊎_elim
      (λ (same : get_or D'.table.now k 0 ≡ get_or D.table.now k 0). subst (Witness P row k) (sym same) (run.sound k (let z = rel.long in omega arith) (λ x. ne (same ∙ x))))
      (λ y.
      let low : get_or D.table.now r 0 + get_or row i 0 < 4294967295 = (let a = y.1 in let s = run.small k in let m = rel.less k in ⊎_elim (λ (x : d ≡ 4294967295). absurd (ne (a ∙ x))) (λ (x : d ≡ 4294967295 → ⊥). omega arith) (cases_eq d 4294967295)) in
      let w = witness-step P row i r k (get_or D.table.now r 0) c (out k y.0) (run.sound r h (λ x. omega arith)) in
      subst (Witness P row k) (let a = y.1 in omega arith) w)
      (rel.cause k);
  steps = λ s j st ap' n.
      let k = rank P.domains (applied P s j) in
      let quiet = rel.quiet k n in
      let keep = quiet.1 in
      let less = rel.less (rank P.domains s) in
      ⊎_elim
      (λ x. ⊎_elim
      (λ (same : i ≡ j). inr
      (let dn = done s st (subst (λ z. Applies P s z) (sym same) ap') (ap (λ z. rank P.domains (applied P s z)) same ∙ x.0) in
      let rk = ap (λ z. get_or D'.table.now z 0) x.0 in
      let rk0 = ap (λ z. get_or D.table.now z 0) x.0 in
      let pr = ap (λ z. get_or row z 0) same in
      omega arith))
      (λ (apart : i ≡ j → ⊥). inl (x.0, (let g = x.1 in omega arith)))
      (cases_eq i j))
      (λ x. inr (omega arith))
      (run.steps s j st ap' quiet.0);
}

-- an operator that leads to the rank from nowhere
pub skip-keeps : (P : Model) (row : List ℕ) (r i : ℕ) (D : Distances) → Running P row (LeftFrom r i) D
    → ((s : List ℕ) → IsState P s → Applies P s i → rank P.domains (applied P s i) ≡ r → ⊥) → Running P row (LeftFrom r (i + 1)) D
skip-keeps P row r i D run none = record {
  long = run.long;
  small = run.small;
  goal = run.goal;
  sound = run.sound;
  steps = λ s j st ap' n. ⊎_elim
      (λ x. ⊎_elim
      (λ (same : i ≡ j). absurd (none s st (subst (λ z. Applies P s z) (sym same) ap') (ap (λ z. rank P.domains (applied P s z)) same ∙ x.0)))
      (λ (apart : i ≡ j → ⊥). inl (x.0, (let g = x.1 in omega arith)))
      (cases_eq i j))
      (λ x. inr x)
      (run.steps s j st ap' n);
}

-- the steps to the rank that is taken are left
pub expand-start : (P : Model) (row : List ℕ) (r : ℕ) (D D' : Distances) → Running P row NoneLeft D → D'.table.now ≡ D.table.now → Changed rank_item D.queue D'.queue r None → Running P row (LeftFrom r 0) D'
expand-start P row r D D' run t c = record {
  long = ap length t ∙ run.long;
  small = λ k. subst (λ z. get_or z k 0 ≤ 4294967295) (sym t) (run.small k);
  goal = λ a st g. ap (λ z. entry P z a) t ∙ run.goal a st g;
  sound = subst (λ (z : List ℕ). (k : ℕ) → k < length z → (get_or z k 0 ≢ 4294967295) → Witness P row k (get_or z k 0)) (sym t) run.sound;
  steps = λ a o st ap' n.
      let k = rank P.domains (applied P a o) in
      ⊎_elim
      (λ (m : k ≡ r). inl (m, omega arith))
      (λ (ne : k ≡ r → ⊥). ⊎_elim (λ x. absurd x) (λ x. inr (subst (λ z. entry P z a ≤ entry P z (applied P a o) + get_or row o 0) (sym t) x))
      (run.steps a o st ap' (sym (c k ∙ update_apart (content rank_item D.queue) r None k ne) ∙ n)))
      (cases_eq k r);
}

pub expand-end : (P : Model) (row : List ℕ) (r n : ℕ) (D : Distances) → length P.operators ≤ n → Running P row (LeftFrom r n) D → Running P row NoneLeft D
expand-end P row r n D l run = record {
  long = run.long;
  small = run.small;
  goal = run.goal;
  sound = run.sound;
  steps = λ s o st ap' e. ⊎_elim (λ x. absurd (let h = applies-number P s o ap' in let g = x.1 in omega arith)) (λ x. inr x) (run.steps s o st ap' e);
}

pub run-settles : (P : Model) (row : List ℕ) (D : Distances) → length D.table.now ≤ 65536 → ((k : ℕ) → content rank_item D.queue k ≡ None) → Running P row NoneLeft D → Settled P row D.table.now
run-settles P row D few e run = record {
  long = run.long;
  few = few;
  small = run.small;
  goal = run.goal;
  sound = run.sound;
  step = λ s o st ap'. ⊎_elim (λ x. absurd x) (λ x. x) (run.steps s o st ap' (e _));
}

-- the goal ranks below n have the entry 0 and are queued, and the other entries are none
pub record Seeded (P : Model) (n : ℕ) (D : Distances) : Type 0 where
  pub long : length D.table.now ≡ product P.domains
  pub empty : (k : ℕ) → k < length D.table.now → content rank_item D.queue k ≡ None → get_or D.table.now k 0 ≡ 4294967295
  pub filled : (k : ℕ) → k < length D.table.now → (get_or D.table.now k 0 ≡ 4294967295) ⊎ ((get_or D.table.now k 0 ≡ 0) × ((s : List ℕ) × StateOf P k s × IsGoal P s))
  pub done : (s : List ℕ) → IsState P s → IsGoal P s → rank P.domains s < n → entry P D.table.now s ≡ 0

pub one_state : (P : Model) (k : ℕ) (s u : List ℕ) → StateOf P k s → IsState P u → rank P.domains u ≡ k → u ≡ s
one_state P k s u h st e = rank_same P.domains u s (state-fit P u st) (state-fit P s h.state) (e ∙ sym h.ranked)

pub seeded-lower : (P : Model) (n : ℕ) (s : List ℕ) (D D' : Distances) → StateOf P n s → IsGoal P s → Seeded P n D → Relaxed (λ k. k ≡ n) 0 D D' → get_or D'.table.now n 0 ≤ 0 → Seeded P (n + 1) D'
seeded-lower P n s D D' w g sd r z =
    let l = r.long in
    record {
      long = r.long ∙ sd.long;
      empty = λ k h e. let x = r.quiet k e in x.1 ∙ sd.empty k (omega arith) x.0;
      filled = λ k h. ⊎_elim
          (λ (e : get_or D'.table.now k 0 ≡ get_or D.table.now k 0). ⊎_elim (λ x. inl (e ∙ x)) (λ x. inr (e ∙ x.0, x.1)) (sd.filled k (omega arith)))
          (λ x. inr (x.1, (s, subst (λ i. StateOf P i s) (sym x.0) w, g)))
          (r.cause k);
      done = λ u st gu b. ⊎_elim
          (λ (e : rank P.domains u ≡ n). let y = ap (λ x. get_or D'.table.now x 0) e in omega arith)
          (λ (ne : rank P.domains u ≡ n → ⊥). let y = sd.done u st gu (omega arith) in let x = r.less (rank P.domains u) in omega arith)
          (cases_eq (rank P.domains u) n);
    }

pub seeded-skip : (P : Model) (n : ℕ) (s : List ℕ) (D : Distances) → StateOf P n s → (IsGoal P s → ⊥) → Seeded P n D → Seeded P (n + 1) D
seeded-skip P n s D w g sd = record {
  long = sd.long;
  empty = sd.empty;
  filled = sd.filled;
  done = λ u st gu b. ⊎_elim
      (λ (e : rank P.domains u ≡ n). absurd (g (subst (IsGoal P) (one_state P n s u w st e) gu)))
      (λ (ne : rank P.domains u ≡ n → ⊥). sd.done u st gu (omega arith))
      (cases_eq (rank P.domains u) n);
}

seeded-small : (P : Model) (n : ℕ) (D : Distances) → Seeded P n D → (k : ℕ) → get_or D.table.now k 0 ≤ 4294967295
seeded-small P n D sd k = ⊎_elim
    (λ (l : k < length D.table.now). ⊎_elim (λ x. omega arith) (λ x. let z = x.0 in omega arith) (sd.filled k l))
    (λ (l : length D.table.now ≤ k). let z = get_or_past D.table.now k 0 l in omega arith)
    (cases_lt k (length D.table.now))

pub seeded-runs : (P : Model) (n : ℕ) (D : Distances) → Closed P → length D.table.now ≤ n → Seeded P n D → (row : List ℕ) → Running P row NoneLeft D
seeded-runs P n D c h sd row =
    let small = seeded-small P n D sd in
    record {
      long = sd.long;
      small = small;
      goal = λ s st g. let l = state-rank P D.table.now s sd.long st in sd.done s st g (omega arith);
      sound = λ k l ne. ⊎_elim
          (λ x. absurd (ne x))
          (λ x. record { from = x.1.0; plan = []; state = x.1.1.state; ranked = x.1.1.ranked; plans = x.1.2; costs = sym x.0 })
          (sd.filled k l);
      steps = λ s o st ap' e.
          let l = state-rank P D.table.now (applied P s o) sd.long (c s o st ap') in
          inr (let y = sd.empty (rank P.domains (applied P s o)) l e in let x = small (rank P.domains s) in omega arith);
    }
