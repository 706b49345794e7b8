-- Lines of several numbers, one space between two: what was read, and what is read.
use Rattle.std.proofs.Common.{◌≡◌, ℕ, ◌^◌, ◌<◌, true, List, [], ◌∷◌, ◌++◌, Some, None, codes, decimal, Option, refl, ap, ◌∙◌, arith}
use Rattle.std.proofs.lemmas.Bool.Decides.{nat_tests}
use Rattle.tables.specs.Lines.{cut_at}
use Rattle.lines.specs.declared.number.Number.{Number}
use Rattle.lines.specs.declared.number.Number.TheVariants.{MinusOne, Value}
use Rattle.lines.specs.Printable.{printable}
use Rattle.lines.specs.Numbers.{number_of, and_of, first_of, two_of, four_of}
use Rattle.reader.specs.Rendering.{spaced}
use Rattle.reader.proofs.Leaves.{cut-from}
use Rattle.reader.proofs.Decimal.{number-from-decimal, number-from-minus, cut-decimal, prints-decimal}

-- where two steps gave something, each did
pub and_parts : {A B C : Type 0} (o : Option A) (k : A → Option B) (b : B) → and_of o k ≡ Some b → ((a : A) → o ≡ Some a → k a ≡ Some b → C) → C
and_parts None k b e h = let bad : ◌≡◌ {A = ℕ} 0 1 = cc in let no_way : ⊥ = omega arith in absurd no_way
and_parts (Some a) k b e h = h a refl e

-- a number in front
first-from : {C : Type 0} (bs : List ℕ) (n : Number) (r : List ℕ) → first_of bs ≡ Some (n, r) → ((w : List ℕ) → number_of w ≡ Some n → bs ≡ spaced w r → C) → C
first-from bs n r e h =
    and_parts (cut_at 32 bs) _ (n, r) e (λ q e1 f1.
    and_parts (number_of q.0) _ (n, r) f1 (λ m e2 f2.
    let same : ◌≡◌ {A = Number × List ℕ} (m, q.1) (n, r) = cc in
    let n-is : m ≡ n = ap (λ z. z.0) same in
    let r-is : q.1 ≡ r = ap (λ z. z.1) same in
    h q.0 (e2 ∙ ap Some n-is) (cut-from 32 bs q e1 ∙ ap (λ z. (q.0 ++ 32 ∷ []) ++ z) r-is)))

pub two_from : {C : Type 0} (bs : List ℕ) (a b : Number) → two_of bs ≡ Some (a, b) → ((v w : List ℕ) → number_of v ≡ Some a → number_of w ≡ Some b → bs ≡ spaced v w → C) → C
two_from bs a b e h =
    and_parts (first_of bs) _ (a, b) e (λ q e1 f1.
    and_parts (number_of q.1) _ (a, b) f1 (λ n e2 f2.
    let same : ◌≡◌ {A = Number × Number} (q.0, n) (a, b) = cc in
    let a-is : q.0 ≡ a = ap (λ z. z.0) same in
    let b-is : n ≡ b = ap (λ z. z.1) same in
    first-from bs q.0 q.1 e1 (λ v f g.
    h v q.1 (f ∙ ap Some a-is) (e2 ∙ ap Some b-is) g)))

pub four-from : {C : Type 0} (bs : List ℕ) (a b c d : Number) → four_of bs ≡ Some (a, b, c, d) → ((v w x y : List ℕ) → number_of v ≡ Some a → number_of w ≡ Some b → number_of x ≡ Some c → number_of y ≡ Some d → bs ≡ spaced v (spaced w (spaced x y)) → C) → C
four-from bs a b c d e h =
    and_parts (first_of bs) _ (a, b, c, d) e (λ p e1 f1.
    and_parts (first_of p.1) _ (a, b, c, d) f1 (λ q e2 f2.
    and_parts (two_of q.1) _ (a, b, c, d) f2 (λ r e3 f3.
    let same : ◌≡◌ {A = Number × Number × Number × Number} (p.0, q.0, r.0, r.1) (a, b, c, d) = cc in
    let a-is : p.0 ≡ a = ap (λ z. z.0) same in
    let b-is : q.0 ≡ b = ap (λ z. z.1) same in
    let c-is : r.0 ≡ c = ap (λ z. z.2) same in
    let d-is : r.1 ≡ d = ap (λ z. z.3) same in
    first-from bs p.0 p.1 e1 (λ v f1 g1.
    first-from p.1 q.0 q.1 e2 (λ w f2 g2.
    two_from q.1 r.0 r.1 e3 (λ x y f3 f4 g3.
    h v w x y (f1 ∙ ap Some a-is) (f2 ∙ ap Some b-is) (f3 ∙ ap Some c-is) (f4 ∙ ap Some d-is)
    (g1 ∙ ap (λ z. spaced v z) (g2 ∙ ap (λ z. spaced w z) g3))))))))

-- a word that writes a number: digits, or -1
pub record Word (w : List ℕ) (n : Number) : Type 0 where
  pub number : number_of w ≡ Some n
  pub cut : (r : List ℕ) → cut_at 32 ((w ++ 32 ∷ []) ++ r) ≡ Some (w, r)
  pub prints : printable w ≡ true

pub decimal-word : (n : ℕ) → n < 10 ^ 9 → Word (decimal n) (Value n)
decimal-word n h = record { number = number-from-decimal n h; cut = λ r. cut-decimal n r h; prints = prints-decimal n h }

pub minus-word : Word (codes "-1") MinusOne
minus-word = record { number = number-from-minus; cut = λ r. refl; prints = refl }

pub prints-append : (xs ys : List ℕ) → printable xs ≡ true → printable ys ≡ true → printable (xs ++ ys) ≡ true
prints-append [] ys h k = k
prints-append (x ∷ xs) ys h k =
    let rest : printable xs ≡ true = grind (arith, nat_tests) in
    let ih = prints-append xs ys rest k in
    grind (arith, nat_tests)

pub prints-spaced : (w r : List ℕ) → printable w ≡ true → printable r ≡ true → printable (spaced w r) ≡ true
prints-spaced w r h k = prints-append (w ++ 32 ∷ []) r (prints-append w (32 ∷ []) h refl) k

first_reads : (w r : List ℕ) (n : Number) → Word w n → first_of (spaced w r) ≡ Some (n, r)
first_reads w r n h = rw (h.cut r, h.number)

pub two-reads : (v w : List ℕ) (a b : Number) → Word v a → Word w b → two_of (spaced v w) ≡ Some (a, b)
two-reads v w a b h k = rw (first_reads v w a h, k.number)

pub four-reads : (v w x y : List ℕ) (a b c d : Number) → Word v a → Word w b → Word x c → Word y d → four_of (spaced v (spaced w (spaced x y))) ≡ Some (a, b, c, d)
four-reads v w x y a b c d h1 h2 h3 h4 = rw (first_reads v (spaced w (spaced x y)) a h1, first_reads w (spaced x y) b h2, two-reads x y c d h3 h4)
