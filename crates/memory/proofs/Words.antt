-- The words of the index.
use Rattle.std.proofs.Common.{◌≡◌, ℕ, zero, suc, ◌+◌, ◌-◌, ◌*◌, ◌%◌, ◌^◌, ◌<◌, ◌≤◌, ◌≢◌, ◌⊎◌, List, [], ◌∷◌, length, get_or, set, sym, refl, ap, ◌∙◌, subst, inl, inr, suc-le-suc, le_of_suc-le-suc, not-suc-le-zero, mod-eq_of_lt, arith, length-set, get_or-set_other, get_or-set_same}
use mathlib.Core.List.{reverse}
use Rattle.std.specs.List.{fold}
use Rattle.std.proofs.lemmas.List.{reverse-append}
use Rattle.std.proofs.lemmas.List.Sums.{fold_push}
use mathlib.Core.Logic.{∥∥₁_elim, ∥∥₁_map}
use native.Mathlib.Nat.{add-mod_right}
use Rattle.plain.proofs.Splits.{lt-or-le, same_or_not}
use Rattle.memory.specs.Index.{fingerprint, hash, word_at, used_words, Findable, Indexed, Vacant}

pub used-set : (ws : List ℕ) (i w : ℕ) → i < length ws → get_or ws i 0 ≡ 0 → used_words (set ws i (suc w)) ≡ used_words ws + 1
used-set [] i w l z = absurd (not-suc-le-zero l)
used-set (zero ∷ ws) zero w l z = omega arith
used-set (suc v ∷ ws) zero w l z = absurd (omega arith)
used-set (zero ∷ ws) (suc i) w l z = used-set ws i w (le_of_suc-le-suc l) z
used-set (suc v ∷ ws) (suc i) w l z = omega (arith, used-set ws i w (le_of_suc-le-suc l) z)

pub used_all : (ws : List ℕ) → ((i : ℕ) → i < length ws → get_or ws i 0 ≢ 0) → used_words ws ≡ length ws
used_all [] h = refl
used_all (zero ∷ ws) h = absurd (h 0 (omega arith) refl)
used_all (suc w ∷ ws) h = ap suc (used_all ws (λ i l. h (suc i) (suc-le-suc l)))

-- each place is tried once in a round
pub slot-onto : (slots h i : ℕ) → h < slots → i < slots → (d : ℕ) × (d < slots) × ((h + d) % slots ≡ i)
slot-onto slots h i lh li = side (lt-or-le i h)
  where
    side : (i < h) ⊎ (h ≤ i) → (d : ℕ) × (d < slots) × ((h + d) % slots ≡ i)
    side (inl l) =
        let e : h + (i + slots - h) ≡ i + slots = omega arith in
        (i + slots - h, omega arith, ap (λ z. z % slots) e ∙ add-mod_right i slots ∙ mod-eq_of_lt li)
    side (inr l) =
        let e : h + (i - h) ≡ i = omega arith in
        (i - h, omega arith, ap (λ z. z % slots) e ∙ mod-eq_of_lt li)

-- a state that is not met before the first free word is not held
pub not-indexed : (ws : List ℕ) (state : ℕ → List ℕ) (held d : ℕ) (s : List ℕ) → Indexed ws state held →
    (word_at ws s d ≡ 0) ⊎ (length ws ≤ d) → ((j : ℕ) → j < d → (word_at ws s j ≢ 0) × (state (word_at ws s j - 1) ≡ s → ⊥)) →
    (k : ℕ) → k < held → state k ≡ s → ⊥
not-indexed ws state held d s ix free met k l e = ∥∥₁_elim (ix.found k l) (λ x y. absurd x) (λ f. go (subst (λ z. Findable ws z k) e f))
  where
    go : Findable ws s k → ⊥
    go f = side (lt-or-le f.probes d) free
      where
        side : (f.probes < d) ⊎ (d ≤ f.probes) → (word_at ws s d ≡ 0) ⊎ (length ws ≤ d) → ⊥
        side (inl m) q =
            let w : word_at ws s f.probes - 1 ≡ k = omega (arith, f.here) in
            (met f.probes m).1 (ap state w ∙ e)
        side (inr m) (inr q) = let z : f.probes < length ws = f.few in omega arith
        side (inr m) (inl q) = last (same_or_not f.probes d)
          where
            last : (f.probes ≡ d) ⊎ (f.probes ≢ d) → ⊥
            last (inl r) = let z : word_at ws s d ≡ k + 1 = subst (λ j. word_at ws s j ≡ k + 1) r f.here in omega arith
            last (inr r) = f.before d (omega arith) q

-- one more state, at the first free word for it
pub indexed-add : (ws : List ℕ) (state state' : ℕ → List ℕ) (held at : ℕ) → Indexed ws state held → Vacant ws (state' held) at →
    ((k : ℕ) → k < held → state' k ≡ state k) → Indexed (set ws at (held + 1)) state' (held + 1)
indexed-add ws state state' held at ix v same = record {
  valid = λ i l. pick i (rw (length-set ws at (held + 1)) at l) (same_or_not i at);
  count = subst (λ w. used_words (set ws at w) ≡ held + 1) one (used-set ws at held v.within v.free ∙ ap (λ z. z + 1) ix.count);
  found = λ k l. seen k l (same_or_not k held);
}
  where
    one : suc held ≡ held + 1
    one = omega arith

    ws' : List ℕ
    ws' = set ws at (held + 1)

    pick : (i : ℕ) → i < length ws → (i ≡ at) ⊎ (i ≢ at) → get_or ws' i 0 ≤ held + 1
    pick i l (inl q) = rw q (omega (arith, get_or-set_same ws at (held + 1) 0 v.within))
    pick i l (inr d) = omega (arith, get_or-set_other ws at i (held + 1) 0 d, ix.valid i l)

    word_same : (s : List ℕ) (d : ℕ) → word_at ws s d ≢ 0 → word_at ws' s d ≡ word_at ws s d
    word_same s d n =
        let m : (hash (length ws) s + d) % length ws ≢ at = λ q. n (ap (λ z. get_or ws z 0) q ∙ v.free) in
        subst (λ z. get_or ws' ((hash z s + d) % z) 0 ≡ word_at ws s d) (sym (length-set ws at (held + 1))) (get_or-set_other ws at _ (held + 1) 0 m)

    nonzero : (k w : ℕ) → w ≡ k + 1 → w ≢ 0
    nonzero k w e z = omega arith

    old : (s : List ℕ) (k : ℕ) → Findable ws s k → Findable ws' s k
    old s k f = record {
      probes = f.probes;
      few = rw (length-set ws at (held + 1)) f.few;
      here = word_same s f.probes (nonzero k _ f.here) ∙ f.here;
      before = λ d l z. f.before d l (sym (word_same s d (f.before d l)) ∙ z);
    }

    new : Findable ws' (state' held) held
    new = record {
      probes = v.probes;
      few = rw (length-set ws at (held + 1)) v.few;
      here = subst (λ z. get_or ws' ((hash z (state' held) + v.probes) % z) 0 ≡ held + 1) (sym (length-set ws at (held + 1)))
          (ap (λ z. get_or ws' z 0) (sym v.is) ∙ get_or-set_same ws at (held + 1) 0 v.within);
      before = λ d l z. v.before d l (sym (word_same (state' held) d (v.before d l)) ∙ z);
    }

    seen : (k : ℕ) → k < held + 1 → (k ≡ held) ⊎ (k ≢ held) → ∥ Findable ws' (state' k) k ∥₁
    seen k l (inl q) = rw q (∣ new ∣₁)
    seen k l (inr d) = let m : k < held = omega arith in rw (same k m) (∥∥₁_map (ix.found k m) (λ f. old (state k) k f))

-- the fingerprint, from the last byte back
abbrev pub mixed : ℕ → ℕ → ℕ
mixed h b = ((h + (b + 1)) % 2 ^ 64 * 11400714819323198485) % 2 ^ 64

pub fingerprint-fold : (s : List ℕ) → fold mixed 0 (reverse s) ≡ fingerprint s
unfolding fingerprint
fingerprint-fold [] = refl
fingerprint-fold (b ∷ s) = ap (fold mixed 0) (reverse-append (b ∷ []) s) ∙ fold_push mixed 0 (reverse s) b ∙ ap (λ h. mixed h b) (fingerprint-fold s)

-- the places come round
pub wrap-below : (x n : ℕ) → x < n → x ≡ x % n
wrap-below x n l = sym (mod-eq_of_lt l)

pub wrap-over : (x n : ℕ) → n ≤ x → x < n + n → x - n ≡ x % n
wrap-over x n l h =
    let e : x - n + n ≡ x = omega arith in
    let z : x - n < n = omega arith in
    sym (ap (λ v. v % n) (sym e) ∙ add-mod_right (x - n) n ∙ mod-eq_of_lt z)

-- what a round over all words without a free one tells
pub all-busy : (ws s : List ℕ) (held room : ℕ) → used_words ws ≡ held → length ws ≡ 2 * room → held ≤ room → hash (length ws) s < length ws →
    ((j : ℕ) → j < length ws → word_at ws s j ≢ 0) → room ≤ held
all-busy ws s held room b l h m n =
    let e : used_words ws ≡ length ws = used_all ws (λ i li. let o = slot-onto (length ws) (hash (length ws) s) i m li in λ z. n o.0 o.1 (ap (λ k. get_or ws k 0) o.2 ∙ z)) in
    omega arith

pub used-none : (ws : List ℕ) → ((i : ℕ) → i < length ws → get_or ws i 0 ≡ 0) → used_words ws ≡ 0
used-none [] h = refl
used-none (zero ∷ ws) h = used-none ws (λ i l. h (suc i) (suc-le-suc l))
used-none (suc w ∷ ws) h = absurd (z (h 0 (omega arith)))
  where
    z : suc w ≡ 0 → ⊥
    z e = omega arith

pub indexed-none : (ws : List ℕ) (state : ℕ → List ℕ) → ((i : ℕ) → i < length ws → get_or ws i 0 ≡ 0) → Indexed ws state 0
indexed-none ws state h = record { valid = λ i l. omega (arith, h i l); count = used-none ws h; found = λ k l. absurd (not-suc-le-zero l) }
