-- The line that is due where a text is cut off.
use Rattle.std.specs.Prelude.{ℕ, ◌+◌, List, count_by, ◌==◌}

-- one more than the lines that end in the text
abbrev pub due_line : List ℕ → ℕ
due_line text = 1 + count_by (λ b. b == 10) text
