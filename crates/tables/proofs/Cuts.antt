-- The first separator of a list, by its index.
use Rattle.std.proofs.Common.{◌≡◌, ℕ, zero, suc, ◌+◌, ◌<◌, List, [], ◌∷◌, length, get_or, take, drop, Some, None, Option, refl, add-one, arith, rules}
use Rattle.std.specs.List.{AllWithin, HoldsAt}
use Rattle.std.specs.Option.{MatchOption, option_map}
use Rattle.tables.specs.Lines.{cut_at}

cut-found : (sep : ℕ) (s : List ℕ) (i : ℕ) → i < length s → ((k : ℕ) → k < i → get_or s k 0 ≡ sep → ⊥) → get_or s i 0 ≡ sep → cut_at sep s ≡ Some (take i s, drop (suc i) s)
cut-found sep [] i h none e = let no_place : ⊥ = omega arith in absurd no_place
cut-found sep (b ∷ bs) zero h none e = search rules
cut-found sep (b ∷ bs) (suc i) h none e =
    let away : b ≡ sep → ⊥ = none 0 (omega arith) in
    let ih : cut_at sep bs ≡ Some (take i bs, drop (suc i) bs) = cut-found sep bs i (omega arith) (λ k l. none (suc k) (omega arith)) e in
    search rules

cut-none : (sep : ℕ) (s : List ℕ) → ((k : ℕ) → k < length s → get_or s k 0 ≡ sep → ⊥) → cut_at sep s ≡ None
cut-none sep [] none = refl
cut-none sep (b ∷ bs) none =
    let away : b ≡ sep → ⊥ = none 0 (omega arith) in
    let ih : cut_at sep bs ≡ None = cut-none sep bs (λ k l. none (suc k) (omega arith)) in
    search rules

-- the list is cut at the first separator's place, if it has one
pub cut-at_first : (sep : ℕ) (s : List ℕ) (place : Option ℕ) → MatchOption place (AllWithin (λ b. b ≡ sep → ⊥) s 0 (length s)) (λ i. (i < length s) × HoldsAt (λ b. b ≡ sep) s i × AllWithin (λ b. b ≡ sep → ⊥) s 0 i) → cut_at sep s ≡ option_map (λ i. (take i s, drop (i + 1) s)) place
cut-at_first sep s None none = cut-none sep s (λ k l. none k 0 (omega arith) l)
cut-at_first sep s (Some i) first = rw add-one (cut-found sep s i first.0 (λ k l. first.2 k 0 (omega arith) l) (first.1 0))
