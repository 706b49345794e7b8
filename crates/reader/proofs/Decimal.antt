-- A number, and the digits that write it.
use Rattle.std.proofs.Common.{◌≡◌, ℕ, zero, suc, ◌^◌, ◌<◌, ◌≤◌, Bool, true, false, cond, eqb, leb, List, [], ◌∷◌, ◌++◌, length, get_or, Some, None, codes, decimal, Option, sym, refl, ap, ◌∙◌, arith, rules}
use Rattle.std.proofs.lemmas.Str.Parse.{IsNumeralModel, numerals_by_fold, digits_value_short}
use Rattle.std.proofs.lemmas.Fmt.{decimal-digits_value, digits_decimal, digits_value-decimal, decimal_nonempty, first_decimal, decimal_digit, length-decimal-le}
use Rattle.std.proofs.lemmas.Bool.Decides.{nat_tests}
use Rattle.std.proofs.lemmas.Slice.Eq.{bytes_eq-Decides}
use Rattle.std.specs.Str.{bytes_eq}
use Rattle.tables.specs.Lines.{cut_at}
use Rattle.lines.specs.declared.number.Number.{Number}
use Rattle.lines.specs.declared.number.Number.TheVariants.{MinusOne, Value, TooLong}
use Rattle.lines.specs.Printable.{printable}
use Rattle.lines.specs.Numbers.{all_digits, value_after, natural, number_of}

pub own : IsNumeralModel (λ ds. all_digits ds ≡ true) (value_after 0)
own = numerals_by_fold _ (search rules) value_after (search rules)

-- the ways to a number, by its tests
ways : Bool → Bool → Bool → ℕ → Option Number
ways t n l v = cond t (Some MinusOne) (cond n (Some (cond l (Value v) TooLong)) None)

number-ways : (bs : List ℕ) → number_of bs ≡ ways (bytes_eq bs (codes "-1")) (natural bs) (leb (length bs) 9) (value_after 0 bs)
unfolding number_of ways
number-ways bs = refl

value-parts : (t n l : Bool) (v w : ℕ) → ways t n l v ≡ Some (Value w) → (n ≡ true) × (l ≡ true) × (v ≡ w)
unfolding ways
value-parts true n l v w e = let bad : ◌≡◌ {A = ℕ} 0 1 = cc in let no_way : ⊥ = omega arith in absurd no_way
value-parts false true true v w e = (refl, refl, cc)
value-parts false true false v w e = let bad : ◌≡◌ {A = ℕ} 0 1 = cc in let no_way : ⊥ = omega arith in absurd no_way
value-parts false false l v w e = let bad : ◌≡◌ {A = ℕ} 0 1 = cc in let no_way : ⊥ = omega arith in absurd no_way

minus-parts : (t n l : Bool) (v : ℕ) → ways t n l v ≡ Some MinusOne → t ≡ true
unfolding ways
minus-parts true n l v e = refl
minus-parts false true true v e = let bad : ◌≡◌ {A = ℕ} 0 1 = cc in let no_way : ⊥ = omega arith in absurd no_way
minus-parts false true false v e = let bad : ◌≡◌ {A = ℕ} 0 1 = cc in let no_way : ⊥ = omega arith in absurd no_way
minus-parts false false l v e = let bad : ◌≡◌ {A = ℕ} 0 1 = cc in let no_way : ⊥ = omega arith in absurd no_way

-- what is read as a number is what is written for it
pub decimal-from-number : (bs : List ℕ) (v : ℕ) → number_of bs ≡ Some (Value v) → bs ≡ decimal v
decimal-from-number bs v e =
    let w = value-parts (bytes_eq bs (codes "-1")) (natural bs) (leb (length bs) 9) (value_after 0 bs) v (sym (number-ways bs) ∙ e) in
    let ds : all_digits bs ≡ true = grind (arith, nat_tests, w.0) in
    let some : 0 < length bs = grind (arith, nat_tests, w.0) in
    let first : get_or bs 0 0 ≡ 48 → length bs ≡ 1 = λ z. grind (arith, nat_tests, w.0) in
    let short : length bs ≤ 9 = grind (arith, nat_tests, w.1) in
    let small : value_after 0 bs < 10 ^ 9 = digits_value_short own bs 9 ds short in
    sym (decimal-digits_value own bs ds some first (omega arith)) ∙ ap decimal w.2

pub minus-from-number : (bs : List ℕ) → number_of bs ≡ Some MinusOne → bs ≡ codes "-1"
minus-from-number bs e =
    let t = minus-parts (bytes_eq bs (codes "-1")) (natural bs) (leb (length bs) 9) (value_after 0 bs) (sym (number-ways bs) ∙ e) in
    (bytes_eq-Decides bs (codes "-1")).0 t

-- digits are not -1
not-minus : (bs : List ℕ) → all_digits bs ≡ true → bytes_eq bs (codes "-1") ≡ false
not-minus [] h = refl
not-minus (c ∷ cs) h = grind (arith, nat_tests)

number-from-parts : (bs : List ℕ) (n : ℕ) → length bs ≤ 9 → all_digits bs ≡ true → value_after 0 bs ≡ n → 0 < length bs → (1 < length bs → get_or bs 0 0 ≡ 48 → ⊥) → number_of bs ≡ Some (Value n)
unfolding ways
number-from-parts bs n short ds v some first =
    let m = not-minus bs ds in
    let nat : natural bs ≡ true = grind (arith, nat_tests) in
    let l : leb (length bs) 9 ≡ true = grind (arith, nat_tests) in
    number-ways bs ∙ rw (m, nat, l, v)

pub number-from-decimal : (n : ℕ) → n < 10 ^ 9 → number_of (decimal n) ≡ Some (Value n)
unfolding number_of
number-from-decimal zero small = ap number_of (decimal_digit 0 (omega arith)) ∙ refl
number-from-decimal (suc n) small =
    number-from-parts (decimal (suc n)) (suc n) (length-decimal-le 9 (suc n) (omega arith) small (omega arith)) (digits_decimal own (suc n) (omega arith)) (digits_value-decimal own (suc n) (omega arith)) (decimal_nonempty (suc n) (omega arith))
    (λ _ z. let f = first_decimal (suc n) (omega arith) (omega arith) in omega arith)

pub number-from-minus : number_of (codes "-1") ≡ Some MinusOne
unfolding number_of
number-from-minus = refl

digits-print : (bs : List ℕ) → all_digits bs ≡ true → printable bs ≡ true
digits-print [] h = refl
digits-print (c ∷ cs) h =
    let rest : all_digits cs ≡ true = grind (arith, nat_tests) in
    let ih = digits-print cs rest in
    grind (arith, nat_tests)

pub prints-decimal : (n : ℕ) → n < 10 ^ 9 → printable (decimal n) ≡ true
prints-decimal n h = digits-print (decimal n) (digits_decimal own n (omega arith))

pub cut-digits : (l r : List ℕ) → all_digits l ≡ true → cut_at 32 ((l ++ 32 ∷ []) ++ r) ≡ Some (l, r)
cut-digits [] r h = refl
cut-digits (b ∷ bs) r h =
    let rest : all_digits bs ≡ true = grind (arith, nat_tests) in
    let other : eqb b 32 ≡ false = grind (arith, nat_tests) in
    let ih = cut-digits bs r rest in
    rw (other, ih)

pub cut-decimal : (n : ℕ) (r : List ℕ) → n < 10 ^ 9 → cut_at 32 ((decimal n ++ 32 ∷ []) ++ r) ≡ Some (decimal n, r)
cut-decimal n r h = cut-digits (decimal n) r (digits_decimal own n (omega arith))
