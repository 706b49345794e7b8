-- A round over all places of the index, from one place on.
use Rattle.std.proofs.Common.{◌≡◌, ℕ, ◌+◌, ◌-◌, ◌%◌, ◌<◌, ◌≤◌, Bool, true, false, Some, None, Option, MatchBool, MatchOption, sym, refl, ap, ◌∙◌, arith}
use Rattle.std.specs.declared.iter.Chain.{Chain}
use Rattle.std.specs.declared.ops.Range.{Range}
use Rattle.std.specs.Iterator.Adapters.{chain_steps}
use Rattle.std.specs.Range.{range_steps}
use Rattle.memory.proofs.Words.{wrap-below, wrap-over}

-- one place of a range
abbrev pub Steps : Range ℕ → Option ℕ → Range ℕ → Type 0
Steps = range_steps (λ x y. y - x) (λ x y. y ≡ x + 1)

-- n places of the round from `first` on were given
pub record Round (first slots n : ℕ) (it : Chain (Range ℕ) (Range ℕ)) : Type 0 where
  pub b_end : it.b.end ≡ first
  pub b_open : it.b_done ≡ false
  pub before : it.a_done ≡ false → (it.a.start ≡ first + n) × (it.a.start ≤ slots) × (it.a.end ≡ slots) × (it.b.start ≡ 0)
  pub turned : it.a_done ≡ true → (first + n ≡ slots + it.b.start) × (it.b.start ≤ first)

opened : (d : Bool) (P Q : Type 0) → d ≡ false → MatchBool d P Q → Q
opened false P Q e h = h
opened true P Q e h = absurd cc

module _ (first slots n : ℕ) (below : first < slots) (s t : Chain (Range ℕ) (Range ℕ)) (r : Round first slots n s) where
  pub round-some : (x : ℕ) → chain_steps Steps Steps s (Some x) t → (n < slots) × (x ≡ (first + n) % slots) × Round first slots (n + 1) t
  round-some x h = go s.a_done refl h.1
    where
      open' : t.b_done ≡ false
      open' = h.0 ∙ r.b_open

      second : (first + n ≡ slots + s.b.start) → MatchBool s.b_done (Some x ≡ None) (Steps s.b (Some x) t.b) × (t.a_done ≡ true) → (n < slots) × (x ≡ (first + n) % slots) × Round first slots (n + 1) t
      second e (m, d) =
          let q = opened s.b_done _ (Steps s.b (Some x) t.b) r.b_open m in
          let l : s.b.start < first = omega (arith, q.1.0, r.b_end) in
          let w = wrap-over (first + n) slots (omega arith) (omega arith) in
          (omega arith, omega (arith, w, q.1.1), record { b_end = q.0 ∙ r.b_end; b_open = open'; before = λ z. absurd (let y : true ≡ false = sym d ∙ z in cc); turned = λ z. (omega (arith, q.1.2), omega (arith, q.1.2)) })

      go : (d : Bool) → s.a_done ≡ d → MatchBool d (MatchBool s.b_done (Some x ≡ None) (Steps s.b (Some x) t.b) × (t.a_done ≡ true))
          ((o : Option ℕ) × Steps s.a o t.a × MatchOption o (MatchBool s.b_done (Some x ≡ None) (Steps s.b (Some x) t.b) × (t.a_done ≡ true)) (λ y. (Some x ≡ Some y) × (t.b ≡ s.b) × (t.a_done ≡ false))) →
          (n < slots) × (x ≡ (first + n) % slots) × Round first slots (n + 1) t
      go true e m = second (r.turned e).0 m
      go false e (None, q, m) = let p = r.before e in second (omega (arith, p.0, p.1, p.2, p.3, q.1.0)) m
      go false e (Some y, q, m) =
          let p = r.before e in
          let z : x ≡ y = let f = m.0 in cc in
          let w = wrap-below (first + n) slots (omega (arith, p.0, p.2, q.1.0)) in (
            omega (arith, p.0, p.2, q.1.0),
            omega (arith, w, q.1.1, p.0),
            record {
              b_end = ap (λ k. k.end) m.1 ∙ r.b_end;
              b_open = open';
              before = λ _. (omega (arith, q.1.2, p.0), omega (arith, q.1.2, q.1.0, p.2), q.0 ∙ p.2, ap (λ k. k.start) m.1 ∙ p.3);
              turned = λ u. absurd (let y : true ≡ false = sym u ∙ m.2 in cc);
            },
          )

  pub round-none : chain_steps Steps Steps s None t → n ≡ slots
  round-none h = go s.a_done refl h.1
    where
      second : (first + n ≡ slots + s.b.start) → MatchBool s.b_done (◌≡◌ {A = Option ℕ} None None) (Steps s.b None t.b) → s.b.start ≤ first → n ≡ slots
      second e m l = let q = opened s.b_done _ (Steps s.b None t.b) r.b_open m in omega (arith, q.1.0, r.b_end)

      go : (d : Bool) → s.a_done ≡ d → MatchBool d (MatchBool s.b_done (◌≡◌ {A = Option ℕ} None None) (Steps s.b None t.b) × (t.a_done ≡ true))
          ((o : Option ℕ) × Steps s.a o t.a × MatchOption o (MatchBool s.b_done (◌≡◌ {A = Option ℕ} None None) (Steps s.b None t.b) × (t.a_done ≡ true)) (λ y. (None ≡ Some y) × (t.b ≡ s.b) × (t.a_done ≡ false))) → n ≡ slots
      go true e m = second (r.turned e).0 m.0 (r.turned e).1
      go false e (None, q, m) = let p = r.before e in second (omega (arith, p.0, p.1, p.2, p.3, q.1.0)) m.0 (omega (arith, p.3))
      go false e (Some y, q, m) = absurd (let f = m.0 in cc)
