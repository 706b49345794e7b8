-- Where a line ends, and the lines of a text by their number.
use Rattle.std.specs.Prelude.{ℕ, zero, suc, cond, List, [], ◌∷◌, Some, None, Option, ◌==◌}
use Rattle.std.specs.Borrow.{Bor}

-- b before the first part
abbrev pub before : ℕ → Option (List ℕ × List ℕ) → Option (List ℕ × List ℕ)
before b None = None
before b (Some p) = Some (b ∷ p.0, p.1)

-- what stands before and after the first byte that is sep
abbrev pub cut_at : ℕ → List ℕ → Option (List ℕ × List ℕ)
cut_at sep [] = None
cut_at sep (b ∷ bs) = cond (b == sep) (Some ([], bs)) (before b (cut_at sep bs))

-- the first line without its end, byte 10, and what follows it; nothing where no line ends
abbrev pub cut_line : List ℕ → Option (List ℕ × List ℕ)
cut_line text = cut_at 10 text

-- the first line, or the whole text where no line ends
abbrev pub first_line : Option (List ℕ × List ℕ) → List ℕ → List ℕ
first_line None text = text
first_line (Some p) text = p.0

-- what follows the first line; nothing where no line ends
abbrev pub after_line : Option (List ℕ × List ℕ) → List ℕ
after_line None = []
after_line (Some p) = p.1

-- the line of that number, counted from 0, without its end; empty where there are fewer
abbrev pub nth_line : ℕ → List ℕ → List ℕ
nth_line zero text = first_line (cut_line text) text
nth_line (suc n) text = nth_line n (after_line (cut_line text))

-- two parts of a slice, by what they hold
abbrev pub parts : Option (Bor (List ℕ) × Bor (List ℕ)) → Option (List ℕ × List ℕ)
parts None = None
parts (Some p) = Some (p.0.now, p.1.now)
