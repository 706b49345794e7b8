-- How numbers are written in a task text, and how a line holds several of them.
use Rattle.std.specs.Prelude.{ℕ, zero, suc, ◌+◌, ◌-◌, ◌*◌, Bool, cond, not, ◌&&◌, List, [], ◌∷◌, length, fold, Some, None, codes, Option, ◌==◌, nat_le, nat_lt, slice_index}
use Rattle.std.specs.List.{list_all}
use Rattle.std.specs.Str.{bytes_eq}
use Rattle.lines.specs.declared.number.Number.{Number}
use Rattle.lines.specs.declared.number.Number.TheVariants.{MinusOne, Value, TooLong}
use Rattle.tables.specs.Lines.{cut_at}

-- each byte is a decimal digit
abbrev pub all_digits : List ℕ → Bool
all_digits bs = list_all (λ c. nat_le 48 c && nat_le c 57) bs

-- the number n, and the digits after it
abbrev pub value_after : ℕ → List ℕ → ℕ
value_after n bs = fold (λ m c. m * 10 + (c - 48)) n bs

-- a zero in front of other bytes
abbrev pub needless_zero : List ℕ → Bool
needless_zero bs = nat_lt 1 (length bs) && slice_index bs 0 == 48

-- one digit at least, and no needless zero
abbrev pub natural : List ℕ → Bool
natural bs = all_digits bs && (not (length bs == 0) && not (needless_zero bs))

-- the value of a run of digits; one of more than nine is a number that lies in no range
abbrev pub value_of : List ℕ → Number
value_of bs = cond (nat_le (length bs) 9) (Value (value_after 0 bs)) TooLong

-- the number that the bytes write: -1, or a run of digits without a needless zero; nothing where they write none
unfoldable pub number_of : List ℕ → Option Number
number_of bs = cond (bytes_eq bs (codes "-1")) (Some MinusOne) (cond (natural bs) (Some (value_of bs)) None)

-- the number where it lies from `start` up to, and without, `end`
abbrev pub in_range_of : ℕ → ℕ → Number → Option ℕ
in_range_of start end MinusOne = None
in_range_of start end (Value n) = cond (nat_le start n && nat_lt n end) (Some n) None
in_range_of start end TooLong = None

-- the number where it lies from least to most
abbrev pub within_of : ℕ → ℕ → Number → Option ℕ
within_of least most = in_range_of least (most + 1)

-- the number where it lies below the bound
abbrev pub below_of : ℕ → Number → Option ℕ
below_of bound = in_range_of 0 bound

-- where there is a value, what follows from it
abbrev pub and_of : {A B : Type 0} → Option A → (A → Option B) → Option B
and_of None k = None
and_of (Some a) k = k a

-- the number before the first space, and what follows the space
abbrev pub first_of : List ℕ → Option (Number × List ℕ)
first_of bs = and_of (cut_at 32 bs) (λ p. and_of (number_of p.0) (λ n. Some (n, p.1)))

-- two numbers, one space between them
abbrev pub two_of : List ℕ → Option (Number × Number)
two_of bs = and_of (first_of bs) (λ p. and_of (number_of p.1) (λ b. Some (p.0, b)))

-- four numbers, one space between two
abbrev pub four_of : List ℕ → Option (Number × Number × Number × Number)
four_of bs = and_of (first_of bs) (λ p. and_of (first_of p.1) (λ q. and_of (two_of q.1) (λ r. Some (p.0, q.0, r.0, r.1))))

-- n numbers, one space between two
abbrev pub numbers_of : ℕ → List ℕ → Option (List Number)
numbers_of zero bs = None
numbers_of (suc zero) bs = and_of (number_of bs) (λ a. Some (a ∷ []))
numbers_of (suc (suc n)) bs = and_of (first_of bs) (λ p. and_of (numbers_of (suc n) p.1) (λ ns. Some (p.0 ∷ ns)))
