-- Held prices from rank to rank, and at the end.
use Rattle.std.proofs.Common.{◌≡◌, ℕ, ◌+◌, ◌-◌, ◌<◌, ◌≤◌, max, eqb, ◌⊎◌, List, get_or, Some, None, Option, sym, ap, ◌∙◌, subst, inl, inr, ⊎_elim, arith}
use Rattle.std.proofs.lemmas.Bool.{cases_eq, cases_lt, eq-eqb, ne_eqb, cond-true, cond-false}
use Rattle.task.specs.Model.{Model, IsState, Applies, applied}
use Rattle.abstraction.specs.Ranks.{product, rank}
use Rattle.abstraction.specs.Steps.{StateOf}
use Rattle.abstraction.proofs.Ranks.{rank_lt, state-fit}
use Rattle.projection.specs.Distances.{distance, StepBetween, IsHeld}
use Rattle.projection.specs.Dijkstra.{entry, Settled}
use Rattle.projection.specs.Saturating.{raised, HeldBelow}
use Rattle.projection.proofs.Running.{one_state}

present : (n : ℕ) → (n ≡ 4294967295 → ⊥) → distance n ≡ Some n
present n h = cond-false (eqb n 4294967295) None (Some n) (ne_eqb n 4294967295 h)

some_same : {m n : ℕ} → ◌≡◌ {A = Option ℕ} (Some m) (Some n) → m ≡ n
some_same e = cc

none-some : {x : ℕ} → ◌≡◌ {A = Option ℕ} None (Some x) → ⊥
none-some e = let z : ◌≡◌ {A = ℕ} 0 1 = cc in omega arith

pub held_start : (P : Model) (table : List ℕ) (o h : ℕ) → h ≡ 0 → HeldBelow P table o 0 h
held_start P table o h e = record { largest = λ s st a l. absurd (omega arith); reached = inl e }

pub held-skip : (P : Model) (table : List ℕ) (o i h : ℕ) (s : List ℕ) → StateOf P i s → (Applies P s o → ⊥) → HeldBelow P table o i h → HeldBelow P table o (i + 1) h
held-skip P table o i h s w none b = record {
  largest = λ u st a l. ⊎_elim
      (λ (e : rank P.domains u ≡ i). absurd (none (subst (λ z. Applies P z o) (one_state P i s u w st e) a)))
      (λ (ne : rank P.domains u ≡ i → ⊥). b.largest u st a (omega arith))
      (cases_eq (rank P.domains u) i);
  reached = b.reached;
}

pub held_more : (P : Model) (table : List ℕ) (o i r h h' : ℕ) (s : List ℕ) → StateOf P i s → Applies P s o → r ≡ rank P.domains (applied P s o) → h' ≡ raised h (get_or table i 0) (get_or table r 0)
    → HeldBelow P table o i h → HeldBelow P table o (i + 1) h'
held_more P table o i r h h' s w ap' rk e b =
    let m = get_or table i 0 in
    let n = get_or table r 0 in
    ⊎_elim
    (λ (a : m ≡ 4294967295). let same : h' ≡ h = e ∙ cond-true (eqb m 4294967295) _ _ (eq-eqb m 4294967295 a) in kept same (λ x. absurd (x a)))
    (λ (na : m ≡ 4294967295 → ⊥). ⊎_elim
    (λ (c : n ≡ 4294967295). let same : h' ≡ h = e ∙ cond-false (eqb m 4294967295) h _ (ne_eqb m 4294967295 na) ∙ cond-true (eqb n 4294967295) _ _ (eq-eqb n 4294967295 c) in kept same (λ x y. absurd (y c)))
    (λ (nb : n ≡ 4294967295 → ⊥).
    let big : h' ≡ max h (m - n) = e ∙ cond-false (eqb m 4294967295) h _ (ne_eqb m 4294967295 na) ∙ cond-false (eqb n 4294967295) h _ (ne_eqb n 4294967295 nb) in
    ⊎_elim
    (λ (lt : h < m - n). record {
      largest = λ u st a l x y. ⊎_elim
          (λ (same : rank P.domains u ≡ i). let f = here u st same in let g = f.0 in let j = f.1 in omega arith)
          (λ (ne : rank P.domains u ≡ i → ⊥). let o' = b.largest u st a (omega arith) x y in omega arith)
          (cases_eq (rank P.domains u) i);
      reached = inr (
        m,
        n,
        record {
          from = s;
          state = w.state;
          applies = ap';
          here = ap (λ z. distance (get_or table z 0)) w.ranked ∙ present m na;
          there = ap (λ z. distance (get_or table z 0)) (sym rk) ∙ present n nb;
        },
        omega arith,
      );
    })
    (λ (ge : m - n ≤ h). kept (omega arith) (λ x y. omega arith))
    (cases_lt h (m - n)))
    (cases_eq n 4294967295))
    (cases_eq m 4294967295)
  where
    here : (u : List ℕ) → IsState P u → rank P.domains u ≡ i → (entry P table u ≡ get_or table i 0) × (entry P table (applied P u o) ≡ get_or table r 0)
    here u st same = (
      ap (λ z. get_or table z 0) same,
      ap (λ z. entry P table (applied P z o)) (one_state P i s u w st same) ∙ ap (λ z. get_or table z 0) (sym rk),
    )

    kept : h' ≡ h → ((get_or table i 0 ≡ 4294967295 → ⊥) → (get_or table r 0 ≡ 4294967295 → ⊥) → get_or table i 0 ≤ get_or table r 0 + h) → HeldBelow P table o (i + 1) h'
    kept same fits = record {
      largest = λ u st a l x y. ⊎_elim
          (λ (eq : rank P.domains u ≡ i). let f = here u st eq in let g = f.0 in let j = f.1 in let z = fits (λ v. x (g ∙ v)) (λ v. y (j ∙ v)) in omega arith)
          (λ (ne : rank P.domains u ≡ i → ⊥). let z = b.largest u st a (omega arith) x y in omega arith)
          (cases_eq (rank P.domains u) i);
      reached = subst (λ z. (z ≡ 0) ⊎ ((m : ℕ) × (n : ℕ) × StepBetween P table o m n × (m ≡ n + z))) (sym same) b.reached;
    }

pub missing : (d : ℕ) (x : ℕ) → distance d ≡ Some x → (d ≡ 4294967295 → ⊥) × (d ≡ x)
missing d x e = ⊎_elim
    (λ (a : d ≡ 4294967295). absurd (none-some (sym (cond-true (eqb d 4294967295) None (Some d) (eq-eqb d 4294967295 a)) ∙ e)))
    (λ (n : d ≡ 4294967295 → ⊥). (n, some_same (sym (present d n) ∙ e)))
    (cases_eq d 4294967295)

pub held_all : (P : Model) (table : List ℕ) (o i h : ℕ) → product P.domains ≤ i → HeldBelow P table o i h → IsHeld P table o h
held_all P table o i h few b = record {
  largest = λ m n f.
      let x = missing (entry P table f.from) m f.here in
      let y = missing (entry P table (applied P f.from o)) n f.there in
      let lt = rank_lt P.domains f.from (state-fit P f.from f.state) in
      let z = b.largest f.from f.state f.applies (omega arith) x.0 y.0 in
      let u = x.1 in let v = y.1 in omega arith;
  reached = b.reached;
}

-- no held price is above the price offered
pub held_low : (P : Model) (row table : List ℕ) (o h : ℕ) → Settled P row table → IsHeld P table o h → h ≤ get_or row o 0
held_low P row table o h s held = ⊎_elim
    (λ e. omega arith)
    (λ w.
    let f = w.2 in
    let x = (missing (entry P table f.from) w.0 f.here).1 in
    let y = (missing (entry P table (applied P f.from o)) w.1 f.there).1 in
    let z = s.step f.from o f.state f.applies in
    let q = w.3 in
    omega arith)
    held.reached
