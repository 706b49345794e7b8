-- A part of a row that is cut where the row ends, as the row's own slices have it.
use Rattle.std.proofs.Common.{◌≡◌, ℕ, ◌-◌, ◌<◌, ◌≤◌, min, ◌⊎◌, List, ◌++◌, length, take, drop, sym, ap, ◌∙◌, inl, inr, arith, length-drop, drop_of_length-le, take_all}
use lib.Seq.{take-length, drop-length}
use Rattle.plain.proofs.Splits.{lt-or-le}
use Rattle.search.specs.declared.data.Part.{Part}
use Rattle.search.specs.Replay.{part_of, with_part}

take-cut : (n m : ℕ) (xs : List ℕ) → m ≡ min n (length xs) → take m xs ≡ take n xs
take-cut n m xs e = side (lt-or-le n (length xs))
  where
    side : (n < length xs) ⊎ (length xs ≤ n) → take m xs ≡ take n xs
    side (inl l) = let q : m ≡ n = omega arith in ap (λ k. take k xs) q
    side (inr l) = let q : m ≡ length xs = omega arith in ap (λ k. take k xs) q ∙ take-length xs ∙ sym (take_all n xs l)

drop-cut : (n m : ℕ) (xs : List ℕ) → m ≡ min n (length xs) → drop m xs ≡ drop n xs
drop-cut n m xs e = side (lt-or-le n (length xs))
  where
    side : (n < length xs) ⊎ (length xs ≤ n) → drop m xs ≡ drop n xs
    side (inl l) = let q : m ≡ n = omega arith in ap (λ k. drop k xs) q
    side (inr l) = let q : m ≡ length xs = omega arith in ap (λ k. drop k xs) q ∙ drop-length xs ∙ sym (drop_of_length-le xs l)

module _ (p : Part) (xs : List ℕ) (a k : ℕ) (ea : a ≡ min p.from (length xs)) (ek : k ≡ min p.len (length xs - a)) where
  rest : k ≡ min p.len (length (drop a xs))
  rest = let l = length-drop a xs in omega arith

  pub part_cut : take k (drop a xs) ≡ part_of p xs
  part_cut = take-cut p.len k (drop a xs) rest ∙ ap (λ z. take p.len z) (drop-cut p.from a xs ea)

  pub with-cut : (ys : List ℕ) → take a xs ++ (ys ++ drop k (drop a xs)) ≡ with_part p xs ys
  with-cut ys =
      let h = take-cut p.from a xs ea in
      let t = drop-cut p.len k (drop a xs) rest ∙ ap (λ z. drop p.len z) (drop-cut p.from a xs ea) in
      λ j. h j ++ (ys ++ t j)
