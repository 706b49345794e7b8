-- The entries of a task text: goal facts, conditions and effects, each in a line of its own.
use Rattle.std.specs.Prelude.{ℕ, Bool, cond, not, List, [], ◌∷◌, ◌++◌, length, drop, Some, None, Option, ◌==◌, nat_lt, slice_index_or}
use Rattle.std.specs.List.{list_any}
use Rattle.tables.specs.declared.cause.Cause.TheVariants as cause
use Rattle.tables.specs.declared.records.Variable.{Variable}
use Rattle.tables.specs.declared.records.Entry.{Entry}
use Rattle.tables.specs.Records.{zero_variable}
use Rattle.lines.specs.declared.number.Number.{Number}
use Rattle.lines.specs.declared.number.Number.TheVariants.{MinusOne, Value, TooLong}
use Rattle.lines.specs.Numbers.{below_of, and_of, two_of, four_of}
use Rattle.lines.specs.Reading.{Place, Step, read, and_then, tested, given, line_of, turns}

-- the four numbers of a list
abbrev pub four : List Number → Number × Number × Number × Number
four ns = (slice_index_or ns 0 TooLong, slice_index_or ns 1 TooLong, slice_index_or ns 2 TooLong, slice_index_or ns 3 TooLong)

abbrev pub four_among : Option (List Number) → Option (Number × Number × Number × Number)
four_among None = None
four_among (Some ns) = Some (four ns)

-- the four numbers of a fact's line: it is an effect that keeps its value
abbrev pub fact_numbers : List ℕ → Option (Number × Number × Number × Number)
fact_numbers bs = and_of (two_of bs) (λ p. Some (Value 0, p.0, p.1, p.1))

-- the four numbers of an effect's line
abbrev pub effect_numbers : List ℕ → Option (Number × Number × Number × Number)
effect_numbers bs = four_of bs

-- a required value, or none for -1
abbrev pub required_of : ℕ → Number → Option (Option ℕ)
required_of domain MinusOne = Some None
required_of domain (Value n) = cond (nat_lt n domain) (Some (Some n)) None
required_of domain TooLong = None

-- the entry of four numbers that lie in their ranges
abbrev pub entry_in : List Variable → Number × Number × Number × Number → Option Entry
entry_in vs ns =
    and_of (below_of 1 ns.0) (λ _.
    and_of (below_of (length vs) ns.1) (λ v.
    and_of (required_of (slice_index_or vs v zero_variable).domain ns.2) (λ b.
    and_of (below_of (slice_index_or vs v zero_variable).domain ns.3) (λ a.
    Some (record { variable = v; required = b; value = a })))))

-- whether an entry names the variable v
abbrev pub names : ℕ → List Entry → Bool
names v es = list_any (λ e. e.variable == v) es

-- the due line holds an entry: NUMBER, RANGE, TWICE among the group so far, ROOM where no record is free
abbrev pub entry_of : (List ℕ → Option (Number × Number × Number × Number)) → List Variable → List Entry → Bool → Place → Step Entry
entry_of numbers vs group free s =
    and_then (line_of s) (λ bs s1.
    and_then (given s1 (numbers bs) cause.Number) (λ ns s2.
    and_then (given s2 (entry_in vs ns) cause.Range) (λ e s3.
    and_then (tested s3 (not (names e.variable group)) cause.Twice) (λ _ s4.
    and_then (tested s4 free cause.Room) (λ _ s5. read e s5)))))

-- one entry more after those of the group, which begin at first
unfoldable pub entry_more : (List ℕ → Option (Number × Number × Number × Number)) → List Variable → ℕ → ℕ → List Entry → Place → Step (List Entry)
entry_more numbers vs room first es s =
    and_then (entry_of numbers vs (drop first es) (nat_lt (length es) room) s) (λ e s1. read (es ++ e ∷ []) s1)

abbrev pub group_of : (List ℕ → Option (Number × Number × Number × Number)) → List Variable → ℕ → ℕ → ℕ → List Entry → Place → Step (List Entry)
group_of numbers vs room first count es s = turns count (entry_more numbers vs room first) es s
