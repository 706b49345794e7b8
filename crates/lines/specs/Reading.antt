-- A reading from the top of a text: what is due is taken line by line, and the first fault stops it.
use Rattle.std.specs.Prelude.{ℕ, zero, suc, ◌+◌, ◌-◌, Bool, true, false, List, length, Some, None, Option}
use Rattle.std.specs.Str.{bytes_eq}
use Rattle.tables.specs.declared.cause.Cause.{Cause}
use Rattle.tables.specs.declared.cause.Cause.TheVariants as cause
use Rattle.tables.specs.declared.fault.Fault.{Fault}
use Rattle.tables.specs.declared.records.Span.{Span}
use Rattle.tables.specs.Lines.{cut_line}
use Rattle.lines.specs.Printable.{printable}
use Rattle.lines.specs.Numbers.{number_of, in_range_of}

-- where a reading stands: the bytes left, how many bytes and lines were taken, the operator whose lines are read
pub record Place : Type 0 where
  pub rest : List ℕ
  pub at : ℕ
  pub line : ℕ
  pub operator : Option ℕ

-- what a step of a reading gives: a fault, or a value and where the reading then stands
pub data Step (A : Type 0) : Type 0 where
  refused : Fault → Step A
  read : A → Place → Step A

-- the top of a text
abbrev pub top : List ℕ → Place
top text = record { rest = text; at = 0; line = 0; operator = None }

-- a fault in the line that was taken last, and in the one that is due
abbrev pub fault_at : Place → Cause → Fault
fault_at s c = record { cause = c; line = s.line; operator = s.operator }

abbrev pub fault_next : Place → Cause → Fault
fault_next s c = record { cause = c; line = s.line + 1; operator = s.operator }

-- one step after another
abbrev pub and_then : {A B : Type 0} → Step A → (A → Place → Step B) → Step B
and_then (refused f) k = refused f
and_then (read a s) k = k a s

-- a test of the line that was taken last
abbrev pub tested : Place → Bool → Cause → Step (Unit {0})
tested s true c = read tt s
tested s false c = refused (fault_at s c)

-- what is there, or a fault of the line that was taken last
abbrev pub given : {A : Type 0} → Place → Option A → Cause → Step A
given s None c = refused (fault_at s c)
given s (Some a) c = read a s

-- the due line cut off: CUT where it does not end
abbrev pub taken : Place → Option (List ℕ × List ℕ) → Step (List ℕ)
taken s None = refused (fault_next s cause.Cut)
taken s (Some p) = read p.0 (record { rest = p.1; at = s.at + (length s.rest - length p.1); line = s.line + 1; operator = s.operator })

-- the due line: it ends (CUT), and its bytes are printable (BYTE)
unfoldable pub line_of : Place → Step (List ℕ)
line_of s = and_then (taken s (cut_line s.rest)) (λ bs s1. and_then (tested s1 (printable bs) cause.Byte) (λ _ s2. read bs s2))

-- the due line is the word w (WORD)
abbrev pub word_of : List ℕ → Place → Step (Unit {0})
word_of w s = and_then (line_of s) (λ bs s1. tested s1 (bytes_eq bs w) cause.Word)

-- the due line holds one number (NUMBER), from `start` up to, and without, `end` (RANGE)
abbrev pub number_in : ℕ → ℕ → Place → Step ℕ
number_in start end s =
    and_then (line_of s) (λ bs s1.
    and_then (given s1 (number_of bs) cause.Number) (λ n s2.
    given s2 (in_range_of start end n) cause.Range))

-- one number, from least to most
abbrev pub number_from : ℕ → ℕ → Place → Step ℕ
number_from least most = number_in least (most + 1)

-- one number, below a bound
abbrev pub below_from : ℕ → Place → Step ℕ
below_from bound = number_in 0 bound

-- the due line is a name: any line
abbrev pub name_of : Place → Step Span
name_of s = and_then (line_of s) (λ bs s1. read (record { from = s.at; to = s.at + length bs }) s1)

-- a step n times over, each on what the last one made
unfoldable pub turns : {B : Type 0} → ℕ → (B → Place → Step B) → B → Place → Step B
turns zero step b s = read b s
turns (suc n) step b s = and_then (step b s) (λ b1 s1. turns n step b1 s1)

-- one line, whatever it holds
abbrev pub passed : Unit {0} → Place → Step (Unit {0})
passed u s = and_then (line_of s) (λ _ s1. read tt s1)
