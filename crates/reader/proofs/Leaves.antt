-- The steps of a reading, one line each: what one took if it was accepted, and what it accepts.
use Rattle.std.proofs.Common.{◌≡◌, ℕ, zero, suc, ◌+◌, ◌-◌, ◌^◌, ◌<◌, ◌≤◌, Bool, true, false, cond, eqb, List, [], ◌∷◌, ◌++◌, length, drop, Some, None, decimal, Option, sym, refl, ap, ◌∙◌, add-zero, arith}
use Rattle.std.proofs.lemmas.Bool.Decides.{nat_tests}
use Rattle.std.proofs.lemmas.Bool.{eqb-true}
use Rattle.std.proofs.lemmas.Slice.Eq.{bytes_eq-Decides}
use Rattle.std.proofs.lemmas.List.{append_assoc, length-append, drop-drop, drop_at, take_at}
use Rattle.std.specs.Str.{bytes_eq}
use Rattle.std.specs.List.{AllByRecursion}
use Rattle.tables.specs.declared.cause.Cause.{Cause}
use Rattle.tables.specs.declared.cause.Cause.TheVariants as cause
use Rattle.tables.specs.declared.records.Span.{Span}
use Rattle.tables.specs.Lines.{cut_at, cut_line, before}
use Rattle.tables.specs.Records.{spanned}
use Rattle.tables.specs.Rules.{SpanFits}
use Rattle.lines.specs.declared.number.Number.{Number}
use Rattle.lines.specs.declared.number.Number.TheVariants.{MinusOne, Value, TooLong}
use Rattle.lines.specs.Printable.{printable}
use Rattle.lines.specs.Numbers.{number_of, in_range_of}
use Rattle.lines.specs.Reading.{Place, Step, refused, read, and_then, tested, given, taken, line_of, word_of, number_in, name_of, turns, passed}
use Rattle.reader.specs.Rendering.{spelled}
use Rattle.reader.proofs.Decimal.{decimal-from-number, number-from-decimal, prints-decimal}

abbrev pub place : List ℕ → ℕ → ℕ → Option ℕ → Place
place r a n o = record { rest = r; at = a; line = n; operator = o }

-- the place after a line l of s
abbrev pub past : Place → List ℕ → List ℕ → Place
past s l r = place r (s.at + (length l + 1)) (s.line + 1) s.operator

-- the place stands in the text: what is left is what follows the bytes taken
pub record Stands (text : List ℕ) (s : Place) : Type 0 where
  pub here : drop s.at text ≡ s.rest
  pub inside : s.at + length s.rest ≡ length text

pub stands-past : (text : List ℕ) (s : Place) (l r : List ℕ) → Stands text s → s.rest ≡ (l ++ 10 ∷ []) ++ r → Stands text (past s l r)
stands-past text s l r h e =
    let n : length (l ++ 10 ∷ []) ≡ length l + 1 = simp length-append in
    let long : length s.rest ≡ (length l + 1) + length r = ap length e ∙ simp length-append in
    record {
      here = sym (drop-drop (length l + 1) s.at text) ∙ (ap (λ z. drop (length l + 1) z) (h.here ∙ e) ∙ drop_at (l ++ 10 ∷ []) r (length l + 1) n);
      inside = omega (arith, h.inside);
    }

-- where two steps were accepted, each was
pub after : {A B C : Type 0} (g : Step A) (k : A → Place → Step B) (b : B) (s : Place) → and_then g k ≡ read b s → ((a : A) (s1 : Place) → g ≡ read a s1 → k a s1 ≡ read b s → C) → C
after (refused f) k b s e h = let bad : ◌≡◌ {A = ℕ} 0 1 = cc in let no_way : ⊥ = omega arith in absurd no_way
after (read a s1) k b s e h = h a s1 refl e

pub tested-parts : (s : Place) (t : Bool) (c : Cause) (u : Unit {0}) (s1 : Place) → tested s t c ≡ read u s1 → (t ≡ true) × (s1 ≡ s)
tested-parts s true c u s1 e = (refl, cc)
tested-parts s false c u s1 e = let bad : ◌≡◌ {A = ℕ} 0 1 = cc in let no_way : ⊥ = omega arith in absurd no_way

pub given-parts : {A : Type 0} (s : Place) (o : Option A) (c : Cause) (a : A) (s1 : Place) → given s o c ≡ read a s1 → (o ≡ Some a) × (s1 ≡ s)
given-parts s (Some x) c a s1 e = (cc, cc)
given-parts s None c a s1 e = let bad : ◌≡◌ {A = ℕ} 0 1 = cc in let no_way : ⊥ = omega arith in absurd no_way

-- a cut, and what it was cut from
abbrev rejoined : ℕ → List ℕ × List ℕ → List ℕ
rejoined sep p = (p.0 ++ sep ∷ []) ++ p.1

rejoined-before : (sep b : ℕ) (bs : List ℕ) (o : Option (List ℕ × List ℕ)) (p : List ℕ × List ℕ) → ((q : List ℕ × List ℕ) → o ≡ Some q → bs ≡ rejoined sep q) → before b o ≡ Some p → b ∷ bs ≡ rejoined sep p
rejoined-before sep b bs None p ih e = let bad : ◌≡◌ {A = ℕ} 0 1 = cc in let no_way : ⊥ = omega arith in absurd no_way
rejoined-before sep b bs (Some q) p ih e =
    let same : ◌≡◌ {A = List ℕ × List ℕ} (b ∷ q.0, q.1) p = cc in
    ap (λ z. b ∷ z) (ih q refl) ∙ ap (rejoined sep) same

rejoined-cut : (sep b : ℕ) (bs : List ℕ) (t : Bool) (p : List ℕ × List ℕ) → eqb b sep ≡ t → ((q : List ℕ × List ℕ) → cut_at sep bs ≡ Some q → bs ≡ rejoined sep q)
    → cond t (Some ([], bs)) (before b (cut_at sep bs)) ≡ Some p → b ∷ bs ≡ rejoined sep p
rejoined-cut sep b bs true p h ih e =
    let same : ◌≡◌ {A = List ℕ × List ℕ} ([], bs) p = cc in
    ap (λ z. z ∷ bs) (eqb-true b sep h) ∙ ap (rejoined sep) same
rejoined-cut sep b bs false p h ih e = rejoined-before sep b bs (cut_at sep bs) p ih e

pub cut-from : (sep : ℕ) (bs : List ℕ) (p : List ℕ × List ℕ) → cut_at sep bs ≡ Some p → bs ≡ rejoined sep p
cut-from sep [] p e = let bad : ◌≡◌ {A = ℕ} 0 1 = cc in let no_way : ⊥ = omega arith in absurd no_way
cut-from sep (b ∷ bs) p e = rejoined-cut sep b bs (eqb b sep) p refl (cut-from sep bs) e

pub cut_line_lem : (l r : List ℕ) → printable l ≡ true → cut_line ((l ++ 10 ∷ []) ++ r) ≡ Some (l, r)
cut_line_lem [] r h = refl
cut_line_lem (b ∷ bs) r h =
    let rest : printable bs ≡ true = grind (arith, nat_tests) in
    let other : eqb b 10 ≡ false = grind (arith, nat_tests) in
    let ih = cut_line_lem bs r rest in
    rw (other, ih)

-- a line
pub record Line (s : Place) (l : List ℕ) (s1 : Place) : Type 0 where
  pub bytes : s.rest ≡ (l ++ 10 ∷ []) ++ s1.rest
  pub prints : printable l ≡ true

taken-parts : (s : Place) (o : Option (List ℕ × List ℕ)) (l : List ℕ) (s1 : Place) → taken s o ≡ read l s1 → (p : List ℕ × List ℕ) × (o ≡ Some p) × (l ≡ p.0) × (s1.rest ≡ p.1)
taken-parts s None l s1 e = let bad : ◌≡◌ {A = ℕ} 0 1 = cc in let no_way : ⊥ = omega arith in absurd no_way
taken-parts s (Some p) l s1 e =
    let same : s1 ≡ place p.1 (s.at + (length s.rest - length p.1)) (s.line + 1) s.operator = cc in
    (p, refl, cc, ap (λ z. z.rest) same)

line_made : (s s1 : Place) (l : List ℕ) (p : List ℕ × List ℕ) → cut_line s.rest ≡ Some p → l ≡ p.0 → s1.rest ≡ p.1 → printable l ≡ true → Line s l s1
line_made s s1 l p c e f t = record { bytes = rw (e, f) (cut-from 10 s.rest p c); prints = t }

pub line-from : (s : Place) (l : List ℕ) (s1 : Place) → line_of s ≡ read l s1 → Line s l s1
unfolding line_of
line-from s l s1 e =
    after (taken s (cut_line s.rest)) _ l s1 e (λ l1 s2 e1 e2.
    after (tested s2 (printable l1) cause.Byte) _ l s1 e2 (λ u s3 e3 e4.
    let c = taken-parts s (cut_line s.rest) l1 s2 e1 in
    let v = tested-parts s2 (printable l1) cause.Byte u s3 e3 in
    let f : l ≡ l1 = cc in
    let g : s1 ≡ s2 = cc in
    line_made s s1 l c.0 c.1 (f ∙ c.2) (ap (λ z. z.rest) g ∙ c.3) (rw f v.0)))

pub line_reads : (s : Place) (l r : List ℕ) → s.rest ≡ (l ++ 10 ∷ []) ++ r → printable l ≡ true → line_of s ≡ read l (past s l r)
unfolding line_of
line_reads s l r e h =
    let k : length ((l ++ 10 ∷ []) ++ r) - length r ≡ length l + 1 = simp length-append (omega arith) in
    rw (e, cut_line_lem l r h, h, k)

-- a word
pub word-from : (w : List ℕ) (s : Place) (u : Unit {0}) (s1 : Place) → word_of w s ≡ read u s1 → Line s w s1
word-from w s u s1 e =
    after (line_of s) _ u s1 e (λ l s2 e1 e2.
    let t = tested-parts s2 (bytes_eq l w) cause.Word u s1 e2 in
    let same : l ≡ w = (bytes_eq-Decides l w).0 t.0 in
    let r = line-from s l s2 e1 in
    rw (← same, t.1) r)

pub word-reads : (w : List ℕ) (s : Place) (r : List ℕ) → s.rest ≡ (w ++ 10 ∷ []) ++ r → printable w ≡ true → word_of w s ≡ read tt (past s w r)
word-reads w s r e h =
    let same : bytes_eq w w ≡ true = (bytes_eq-Decides w w).1 refl in
    rw (line_reads s w r e h, same)

-- a number
pub in-range-parts : (start end : ℕ) (x : Number) (n : ℕ) → in_range_of start end x ≡ Some n → (x ≡ Value n) × (start ≤ n) × (n < end)
in-range-parts start end MinusOne n e = let bad : ◌≡◌ {A = ℕ} 0 1 = cc in let no_way : ⊥ = omega arith in absurd no_way
in-range-parts start end (Value m) n e = grind (arith, nat_tests)
in-range-parts start end TooLong n e = let bad : ◌≡◌ {A = ℕ} 0 1 = cc in let no_way : ⊥ = omega arith in absurd no_way

pub record Numbered (s : Place) (start end n : ℕ) (s1 : Place) : Type 0 where
  pub line : Line s (decimal n) s1
  pub low : start ≤ n
  pub high : n < end

pub number-from : (start end : ℕ) (s : Place) (n : ℕ) (s1 : Place) → number_in start end s ≡ read n s1 → Numbered s start end n s1
number-from start end s n s1 e =
    after (line_of s) _ n s1 e (λ l s2 e1 e2.
    after (given s2 (number_of l) cause.Number) _ n s1 e2 (λ x s3 e3 e4.
    let g = given-parts s2 (number_of l) cause.Number x s3 e3 in
    let h = given-parts s3 (in_range_of start end x) cause.Range n s1 e4 in
    let v = in-range-parts start end x n h.0 in
    let d : l ≡ decimal n = decimal-from-number l n (g.0 ∙ ap Some v.0) in
    let f : s1 ≡ s2 = h.1 ∙ g.1 in
    let r = line-from s l s2 e1 in
    record { line = rw (← d, f) r; low = v.1; high = v.2 }))

pub number-reads : (start end n : ℕ) (s : Place) (r : List ℕ) → s.rest ≡ (decimal n ++ 10 ∷ []) ++ r → start ≤ n → n < end → end ≤ 10 ^ 9 → number_in start end s ≡ read n (past s (decimal n) r)
number-reads start end n s r e low high small =
    let p = prints-decimal n (omega arith) in
    let d = number-from-decimal n (omega arith) in
    let w : in_range_of start end (Value n) ≡ Some n = grind (arith, nat_tests) in
    rw (line_reads s (decimal n) r e p, d, w)

-- a name
pub name-from : {C : Type 0} (s : Place) (n : Span) (s1 : Place) → name_of s ≡ read n s1 → ((l : List ℕ) → Line s l s1 → C) → C
name-from s n s1 e h =
    after (line_of s) _ n s1 e (λ l s2 e1 e2.
    let f : s1 ≡ s2 = cc in
    let r = line-from s l s2 e1 in
    h l (rw f r))

abbrev pub span : Place → List ℕ → Span
span s l = record { from = s.at; to = s.at + length l }

pub name-reads : (l : List ℕ) (s : Place) (r : List ℕ) → s.rest ≡ (l ++ 10 ∷ []) ++ r → printable l ≡ true → name_of s ≡ read (span s l) (past s l r)
name-reads l s r e h = rw (line_reads s l r e h)

-- the bytes of a span are those that were taken
pub span-bytes : (text : List ℕ) (s : Place) (l m : List ℕ) → Stands text s → s.rest ≡ l ++ m → spanned text (span s l) ≡ l
span-bytes text s l m h e =
    let k : s.at + length l - s.at ≡ length l = omega arith in
    rw (k, h.here, e) (take_at l m (length l) refl)

pub span_fits : (text : List ℕ) (s : Place) (l m : List ℕ) → Stands text s → s.rest ≡ l ++ m → SpanFits (length text) (span s l)
span_fits text s l m h e =
    let long : length s.rest ≡ length l + length m = ap length e ∙ length-append l m in
    (omega arith, omega (arith, h.inside))

-- lines of any names
pub spelled-append : (xs ys : List (List ℕ)) → spelled (xs ++ ys) ≡ spelled xs ++ spelled ys
spelled-append [] ys = refl
spelled-append (x ∷ xs) ys = rw (spelled-append xs ys) (sym (append_assoc (x ++ 10 ∷ []) (spelled xs) (spelled ys)))

pub record Passed (s : Place) (n : ℕ) (ls : List (List ℕ)) (s1 : Place) : Type 0 where
  pub count : length ls ≡ n
  pub bytes : s.rest ≡ spelled ls ++ s1.rest
  pub prints : AllByRecursion (λ l. printable l ≡ true) ls

pub pass-from : {C : Type 0} (n : ℕ) (s : Place) (u : Unit {0}) (s1 : Place) → turns n passed tt s ≡ read u s1 → ((ls : List (List ℕ)) → Passed s n ls s1 → C) → C
unfolding turns
pass-from zero s u s1 e h = let f : s ≡ s1 = cc in h [] (record { count = refl; bytes = ap (λ z. z.rest) f; prints = tt })
pass-from (suc n) s u s1 e h =
    after (passed tt s) _ u s1 e (λ v s2 e1 e2.
    after (line_of s) _ v s2 e1 (λ l s3 e3 e4.
    pass-from n s2 u s1 e2 (λ ls p.
    let f : s3 ≡ s2 = cc in
    let r : Line s l s2 = rw (← f) (line-from s l s3 e3) in
    h (l ∷ ls) (record {
      count = ap suc p.count;
      bytes = r.bytes ∙ (ap (λ z. (l ++ 10 ∷ []) ++ z) p.bytes ∙ sym (append_assoc (l ++ 10 ∷ []) (spelled ls) s1.rest));
      prints = (r.prints, p.prints);
    }))))

pub record Passes (text : List ℕ) (s : Place) (ls : List (List ℕ)) (r : List ℕ) : Type 0 where
  pub to : Place
  pub reads : turns (length ls) passed tt s ≡ read tt to
  pub rest : to.rest ≡ r
  pub at : to.at ≡ s.at + length (spelled ls)
  pub stands : Stands text to

pub pass-reads : (text : List ℕ) (ls : List (List ℕ)) (s : Place) (r : List ℕ) → s.rest ≡ spelled ls ++ r → AllByRecursion (λ l. printable l ≡ true) ls → Stands text s → Passes text s ls r
unfolding turns
pass-reads text [] s r e h st = record { to = s; reads = refl; rest = e; at = sym (add-zero s.at); stands = st }
pass-reads text (l ∷ ls) s r e h st =
    let e1 = e ∙ append_assoc (l ++ 10 ∷ []) (spelled ls) r in
    let q = line_reads s l (spelled ls ++ r) e1 h.0 in
    let p = pass-reads text ls (past s l (spelled ls ++ r)) r refl h.1 (stands-past text s l (spelled ls ++ r) st e1) in
    record {
      to = p.to;
      reads = rw q p.reads;
      rest = p.rest;
      at = p.at ∙ simp length-append (omega arith);
      stands = p.stands;
    }
