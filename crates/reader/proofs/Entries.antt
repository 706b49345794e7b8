-- Groups of entries: what was read if a group was accepted, and that every valid group is.
use Rattle.std.proofs.Common.{◌≡◌, ℕ, zero, suc, ◌+◌, ◌<◌, ◌≤◌, Bool, true, false, cond, not, ltb, List, [], ◌∷◌, ◌++◌, map, length, get_or, drop, Some, None, codes, decimal, Option, sym, refl, ap, ◌∙◌, arith}
use Rattle.std.proofs.lemmas.Bool.{ltb-true, lt-ltb, le-leb}
use Rattle.std.proofs.lemmas.List.{append_assoc, append-nil, length-append, drop-append-le}
use Rattle.std.proofs.lemmas.Fmt.{decimal_digit}
use Rattle.std.specs.List.{AllByRecursion}
use Rattle.tables.specs.declared.cause.Cause.TheVariants as cause
use Rattle.tables.specs.declared.records.Variable.{Variable}
use Rattle.tables.specs.declared.records.Entry.{Entry}
use Rattle.tables.specs.Records.{zero_variable}
use Rattle.tables.specs.Rules.{Distinct}
use Rattle.lines.specs.declared.number.Number.{Number}
use Rattle.lines.specs.declared.number.Number.TheVariants.{MinusOne, Value, TooLong}
use Rattle.lines.specs.Printable.{printable}
use Rattle.lines.specs.Numbers.{number_of, below_of, two_of}
use Rattle.lines.specs.Reading.{Place, read, tested, given, line_of, turns}
use Rattle.sections.specs.Entries.{fact_numbers, effect_numbers, required_of, entry_in, names, entry_of, entry_more}
use Rattle.reader.specs.Named.{FactFits, EffectFits, RequiredBelow}
use Rattle.reader.specs.Rendering.{spelled, spaced, fact_line, effect_line, required_word}
use Rattle.reader.proofs.Decimal.{decimal-from-number, minus-from-number}
use Rattle.reader.proofs.Spaced.{and_parts, two_from, four-from, Word, decimal-word, minus-word, prints-spaced, two-reads, four-reads}
use Rattle.reader.proofs.Leaves.{after, tested-parts, given-parts, past, Stands, stands-past, Line, line-from, line_reads, in-range-parts}
use Rattle.reader.proofs.Distinct.{new_in, distinct_push}

-- how many values each variable record has
abbrev pub domains : List Variable → List ℕ
domains vs = map (λ v. v.domain) vs

pub domain-at : (vs : List Variable) (v : ℕ) → (get_or vs v zero_variable).domain ≡ get_or (domains vs) v 0
domain-at [] v = refl
domain-at (x ∷ vs) zero = refl
domain-at (x ∷ vs) (suc v) = domain-at vs v

pub length-domains : (vs : List Variable) → length (domains vs) ≡ length vs
length-domains [] = refl
length-domains (x ∷ vs) = ap suc (length-domains vs)

-- what a line of an entry holds
pub data Shape : Type 0 where
  fact : Shape
  effect : Shape

abbrev pub numbers_of : Shape → List ℕ → Option (Number × Number × Number × Number)
numbers_of fact = fact_numbers
numbers_of effect = effect_numbers

abbrev pub entry_line : Shape → Entry → List ℕ
entry_line fact e = fact_line e
entry_line effect e = effect_line e

abbrev pub Fits : Shape → List ℕ → Entry → Type 0
Fits fact ds e = FactFits ds e
Fits effect ds e = EffectFits ds e

-- a required value as it was read
required-parts : {C : Type 0} (d : ℕ) (x : Number) (w : List ℕ) (b : Option ℕ) → number_of w ≡ Some x → required_of d x ≡ Some b → (w ≡ required_word b → RequiredBelow d b → C) → C
required-parts d MinusOne w b e f h =
    let is : None ≡ b = cc in
    h (minus-from-number w e ∙ ap required_word is) (rw (← is) tt)
required-parts {C} d (Value n) w b e f h = by (ltb n d) refl f
  where
    by : (t : Bool) → ltb n d ≡ t → cond t (Some (Some n)) None ≡ Some b → C
    by true l g =
        let is : Some n ≡ b = cc in
        h (decimal-from-number w n e ∙ ap required_word is) (rw (← is) (ltb-true n d l))
    by false l g = let bad : ◌≡◌ {A = ℕ} 0 1 = cc in let no_way : ⊥ = omega arith in absurd no_way
required-parts d TooLong w b e f h = let bad : ◌≡◌ {A = ℕ} 0 1 = cc in let no_way : ⊥ = omega arith in absurd no_way

-- the four numbers of an entry in their ranges
entry-parts : {C : Type 0} (vs : List Variable) (n0 n1 n2 n3 : Number) (e : Entry) → entry_in vs (n0, n1, n2, n3) ≡ Some e
    → (n0 ≡ Value 0 → n1 ≡ Value e.variable → e.variable < length vs → required_of (get_or (domains vs) e.variable 0) n2 ≡ Some e.required
    → n3 ≡ Value e.value → e.value < get_or (domains vs) e.variable 0 → C) → C
entry-parts vs n0 n1 n2 n3 e h k =
    and_parts (below_of 1 n0) _ e h (λ z e0 f0.
    and_parts (below_of (length vs) n1) _ e f0 (λ v e1 f1.
    and_parts (required_of (get_or vs v zero_variable).domain n2) _ e f1 (λ b e2 f2.
    and_parts (below_of (get_or vs v zero_variable).domain n3) _ e f2 (λ a e3 f3.
    let is : ◌≡◌ {A = Entry} (record { variable = v; required = b; value = a }) e = cc in
    let v-is : v ≡ e.variable = ap (λ x. x.variable) is in
    let b-is : b ≡ e.required = ap (λ x. x.required) is in
    let a-is : a ≡ e.value = ap (λ x. x.value) is in
    let p0 = in-range-parts 0 1 n0 z e0 in
    let p1 = in-range-parts 0 (length vs) n1 v e1 in
    let p3 = in-range-parts 0 (get_or vs v zero_variable).domain n3 a e3 in
    let z-is : z ≡ 0 = omega (arith, p0.2) in
    let d-is : (get_or vs v zero_variable).domain ≡ get_or (domains vs) e.variable 0 = domain-at vs v ∙ ap (λ x. get_or (domains vs) x 0) v-is in
    k (p0.0 ∙ ap Value z-is) (p1.0 ∙ ap Value v-is) (omega (arith, p1.2)) (rw (← d-is) (e2 ∙ ap Some b-is)) (p3.0 ∙ ap Value a-is) (omega (arith, p3.2))))))

-- what a line of an accepted entry holds
pub entry-from : (shape : Shape) (vs : List Variable) (bs : List ℕ) (ns : Number × Number × Number × Number) (e : Entry) → numbers_of shape bs ≡ Some ns → entry_in vs ns ≡ Some e → Fits shape (domains vs) e × (bs ≡ entry_line shape e)
entry-from fact vs bs ns e h k =
    and_parts (two_of bs) _ ns h (λ p e1 f1.
    two_from bs p.0 p.1 e1 (λ v w g1 g2 bytes.
    let is : ◌≡◌ {A = Number × Number × Number × Number} (Value 0, p.0, p.1, p.1) ns = cc in
    entry-parts vs (Value 0) p.0 p.1 p.1 e (ap (entry_in vs) is ∙ k) (λ z0 z1 inside r z3 below.
    let v-is : v ≡ decimal e.variable = decimal-from-number v e.variable (g1 ∙ ap Some z1) in
    let w-is : w ≡ decimal e.value = decimal-from-number w e.value (g2 ∙ ap Some z3) in
    let req : required_of (get_or (domains vs) e.variable 0) (Value e.value) ≡ Some e.required = sym (ap (required_of (get_or (domains vs) e.variable 0)) z3) ∙ r in
    let t : ltb e.value (get_or (domains vs) e.variable 0) ≡ true = lt-ltb e.value _ below in
    let same : cond true (Some (Some e.value)) None ≡ Some e.required = rw t at req in
    (record { variable = omega (arith, length-domains vs); required = cc; value = below }, rw (v-is, w-is) at bytes))))
entry-from effect vs bs ns e h k =
    four-from bs ns.0 ns.1 ns.2 ns.3 h (λ v w x y g0 g1 g2 g3 bytes.
    entry-parts vs ns.0 ns.1 ns.2 ns.3 e k (λ z0 z1 inside r z3 below.
    required-parts (get_or (domains vs) e.variable 0) ns.2 x e.required g2 r (λ x-is fits.
    let v-is : v ≡ codes "0" = decimal-from-number v 0 (g0 ∙ ap Some z0) ∙ decimal_digit 0 (omega arith) in
    let w-is : w ≡ decimal e.variable = decimal-from-number w e.variable (g1 ∙ ap Some z1) in
    let y-is : y ≡ decimal e.value = decimal-from-number y e.value (g3 ∙ ap Some z3) in
    (record { variable = omega (arith, length-domains vs); required = fits; value = below }, rw (v-is, w-is, x-is, y-is) at bytes))))

-- a valid entry's line is read
pub record EntryReads (shape : Shape) (vs : List Variable) (e : Entry) : Type 0 where
  pub numbers : Number × Number × Number × Number
  pub reads : numbers_of shape (entry_line shape e) ≡ Some numbers
  pub ranged : entry_in vs numbers ≡ Some e
  pub prints : printable (entry_line shape e) ≡ true

-- a required value's word
record RequiredReads (d : ℕ) (b : Option ℕ) : Type 0 where
  pub number : Number
  pub word : Word (required_word b) number
  pub required : required_of d number ≡ Some b

required-reads : (d : ℕ) (b : Option ℕ) → d ≤ 255 → RequiredBelow d b → RequiredReads d b
required-reads d None small h = record { number = MinusOne; word = minus-word; required = refl }
required-reads d (Some x) small h =
    let t : ltb x d ≡ true = lt-ltb x d h in
    record { number = Value x; word = decimal-word x (omega arith); required = rw t }

in-ranges : (vs : List Variable) (e : Entry) (n2 : Number) → e.variable < length vs → required_of (get_or (domains vs) e.variable 0) n2 ≡ Some e.required → e.value < get_or (domains vs) e.variable 0
    → entry_in vs (Value 0, Value e.variable, n2, Value e.value) ≡ Some e
in-ranges vs e n2 inside r below =
    let d = domain-at vs e.variable in
    let t1 : ltb e.variable (length vs) ≡ true = lt-ltb e.variable (length vs) inside in
    let t3 : ltb e.value (get_or (domains vs) e.variable 0) ≡ true = lt-ltb e.value _ below in
    rw (le-leb 0 e.variable (omega arith), t1, d, r, le-leb 0 e.value (omega arith), t3)

pub entry-reads : (shape : Shape) (vs : List Variable) (e : Entry) → length vs ≤ 32 → get_or (domains vs) e.variable 0 ≤ 255 → Fits shape (domains vs) e → EntryReads shape vs e
entry-reads fact vs e few small h =
    let len = length-domains vs in
    let v = decimal-word e.variable (omega (arith, h.variable)) in
    let w = decimal-word e.value (omega (arith, h.value)) in
    let two = two-reads (decimal e.variable) (decimal e.value) (Value e.variable) (Value e.value) v w in
    let t : ltb e.value (get_or (domains vs) e.variable 0) ≡ true = lt-ltb e.value _ h.value in
    let r : required_of (get_or (domains vs) e.variable 0) (Value e.value) ≡ Some e.required = rw t (ap Some (sym h.required)) in
    record {
      numbers = (Value 0, Value e.variable, Value e.value, Value e.value);
      reads = rw two;
      ranged = in-ranges vs e (Value e.value) (omega (arith, h.variable)) r h.value;
      prints = prints-spaced (decimal e.variable) (decimal e.value) v.prints w.prints;
    }
entry-reads effect vs e few small h =
    let len = length-domains vs in
    let z : Word (codes "0") (Value 0) = rw (decimal_digit 0 (omega arith)) at (decimal-word 0 (omega arith)) in
    let v = decimal-word e.variable (omega (arith, h.variable)) in
    let q = required-reads (get_or (domains vs) e.variable 0) e.required small h.required in
    let w = decimal-word e.value (omega (arith, h.value)) in
    let four = four-reads (codes "0") (decimal e.variable) (required_word e.required) (decimal e.value) (Value 0) (Value e.variable) q.number (Value e.value) z v q.word w in
    record {
      numbers = (Value 0, Value e.variable, q.number, Value e.value);
      reads = four;
      ranged = in-ranges vs e q.number (omega (arith, h.variable)) q.required h.value;
      prints = prints-spaced (codes "0") (spaced (decimal e.variable) (spaced (required_word e.required) (decimal e.value))) refl (prints-spaced (decimal e.variable) (spaced (required_word e.required) (decimal e.value)) v.prints (prints-spaced (required_word e.required) (decimal e.value) q.word.prints w.prints));
    }

not-true : (b : Bool) → not b ≡ true → b ≡ false
not-true false h = refl
not-true true h = let bad : ◌≡◌ {A = ℕ} 0 1 = cc in let no_way : ⊥ = omega arith in absurd no_way

-- one entry more
pub record EntryMore (shape : Shape) (vs : List Variable) (room first : ℕ) (es : List Entry) (s : Place) (es1 : List Entry) (s1 : Place) (e : Entry) : Type 0 where
  pub made : es1 ≡ es ++ e ∷ []
  pub fits : Fits shape (domains vs) e
  pub new : names e.variable (drop first es) ≡ false
  pub free : length es < room
  pub line : Line s (entry_line shape e) s1

more-from : {C : Type 0} (shape : Shape) (vs : List Variable) (room first : ℕ) (es : List Entry) (s : Place) (es1 : List Entry) (s1 : Place) → entry_more (numbers_of shape) vs room first es s ≡ read es1 s1
    → ((e : Entry) → EntryMore shape vs room first es s es1 s1 e → C) → C
unfolding entry_more
more-from shape vs room first es s es1 s1 h k =
    after (entry_of (numbers_of shape) vs (drop first es) (ltb (length es) room) s) _ es1 s1 h (λ e a0 e0 f0.
    after (line_of s) _ e a0 e0 (λ bs a1 e1 f1.
    after (given a1 (numbers_of shape bs) cause.Number) _ e a0 f1 (λ ns a2 e2 f2.
    after (given a2 (entry_in vs ns) cause.Range) _ e a0 f2 (λ x a3 e3 f3.
    after (tested a3 (not (names x.variable (drop first es))) cause.Twice) _ e a0 f3 (λ u a4 e4 f4.
    after (tested a4 (ltb (length es) room) cause.Room) _ e a0 f4 (λ w a5 e5 f5.
    let g2 = given-parts a1 (numbers_of shape bs) cause.Number ns a2 e2 in
    let g3 = given-parts a2 (entry_in vs ns) cause.Range x a3 e3 in
    let g4 = tested-parts a3 (not (names x.variable (drop first es))) cause.Twice u a4 e4 in
    let g5 = tested-parts a4 (ltb (length es) room) cause.Room w a5 e5 in
    let x-is : x ≡ e = cc in
    let a-is : a5 ≡ a0 = cc in
    let s-is : a0 ≡ s1 = cc in
    let same : a1 ≡ s1 = sym g2.1 ∙ (sym g3.1 ∙ (sym g4.1 ∙ (sym g5.1 ∙ (a-is ∙ s-is)))) in
    let b = entry-from shape vs bs ns e g2.0 (g3.0 ∙ ap Some x-is) in
    let l : Line s bs s1 = rw (← same) (line-from s bs a1 e1) in
    k e (record {
      made = cc;
      fits = b.0;
      new = rw (← x-is) (not-true (names x.variable (drop first es)) g4.0);
      free = ltb-true (length es) room g5.0;
      line = rw (← b.1) l;
    })))))))

more-reads : (shape : Shape) (vs : List Variable) (room first : ℕ) (es : List Entry) (s : Place) (e : Entry) (r : List ℕ) → length vs ≤ 32 → get_or (domains vs) e.variable 0 ≤ 255 → Fits shape (domains vs) e
    → names e.variable (drop first es) ≡ false → length es < room → s.rest ≡ (entry_line shape e ++ 10 ∷ []) ++ r → entry_more (numbers_of shape) vs room first es s ≡ read (es ++ e ∷ []) (past s (entry_line shape e) r)
unfolding entry_more
more-reads shape vs room first es s e r few small fits new free h =
    let q = entry-reads shape vs e few small fits in
    let l = line_reads s (entry_line shape e) r h q.prints in
    let t : ltb (length es) room ≡ true = lt-ltb (length es) room free in
    rw (l, q.reads, q.ranged, new, t)

-- entries one after another
pub record Group (shape : Shape) (vs : List Variable) (room first n : ℕ) (es : List Entry) (s : Place) (es1 : List Entry) (s1 : Place) (xs : List Entry) : Type 0 where
  pub made : es1 ≡ es ++ xs
  pub count : length xs ≡ n
  pub fit : AllByRecursion (Fits shape (domains vs)) xs
  pub distinct : Distinct (drop first es ++ xs)
  pub free : length es + n ≤ room
  pub bytes : s.rest ≡ spelled (map (entry_line shape) xs) ++ s1.rest

pub group-from : {C : Type 0} (shape : Shape) (vs : List Variable) (room first n : ℕ) (es : List Entry) (s : Place) (es1 : List Entry) (s1 : Place) → turns n (entry_more (numbers_of shape) vs room first) es s ≡ read es1 s1
    → first ≤ length es → length es ≤ room → Distinct (drop first es) → ((xs : List Entry) → Group shape vs room first n es s es1 s1 xs → C) → C
unfolding turns
group-from shape vs room first zero es s es1 s1 e below fits d h =
    let f : s ≡ s1 = cc in
    let g : es ≡ es1 = cc in
    h [] (record { made = sym g ∙ sym (append-nil es); count = refl; fit = tt; distinct = rw (append-nil (drop first es)) d; free = omega arith; bytes = ap (λ z. z.rest) f })
group-from shape vs room first (suc n) es s es1 s1 e below fits d h =
    after (entry_more (numbers_of shape) vs room first es s) _ es1 s1 e (λ es2 a1 e1 f1.
    more-from shape vs room first es s es2 a1 e1 (λ x m.
    let longer : length es2 ≡ length es + 1 = ap length m.made ∙ simp length-append in
    let free = m.free in
    let split : drop first es2 ≡ drop first es ++ x ∷ [] = ap (λ z. drop first z) m.made ∙ drop-append-le first es (x ∷ []) below in
    let pushed : Distinct (drop first es2) = rw split (distinct_push (drop first es) x d m.new) in
    group-from shape vs room first n es2 a1 es1 s1 f1 (omega arith) (omega arith) pushed (λ xs q.
    h (x ∷ xs) (record {
      made = q.made ∙ (ap (λ z. z ++ xs) m.made ∙ append_assoc es (x ∷ []) xs);
      count = ap suc q.count;
      fit = (m.fits, q.fit);
      distinct = rw (split, append_assoc) at q.distinct;
      free = omega (arith, q.free);
      bytes = m.line.bytes ∙ (ap (λ z. (entry_line shape x ++ 10 ∷ []) ++ z) q.bytes ∙ sym (append_assoc (entry_line shape x ++ 10 ∷ []) (spelled (map (entry_line shape) xs)) s1.rest));
    }))))

pub record GroupReads (text : List ℕ) (shape : Shape) (vs : List Variable) (room first : ℕ) (es : List Entry) (s : Place) (xs : List Entry) (r : List ℕ) : Type 0 where
  pub to : Place
  pub reads : turns (length xs) (entry_more (numbers_of shape) vs room first) es s ≡ read (es ++ xs) to
  pub rest : to.rest ≡ r
  pub stands : Stands text to

pub group_reads : (text : List ℕ) (shape : Shape) (vs : List Variable) (room first : ℕ) (xs es : List Entry) (s : Place) (r : List ℕ) → length vs ≤ 32 → ((v : ℕ) → get_or (domains vs) v 0 ≤ 255) → AllByRecursion (Fits shape (domains vs)) xs
    → first ≤ length es → Distinct (drop first es ++ xs) → length es + length xs ≤ room → s.rest ≡ spelled (map (entry_line shape) xs) ++ r → Stands text s → GroupReads text shape vs room first es s xs r
unfolding turns
group_reads text shape vs room first [] es s r few small fit below d free e st = record { to = s; reads = rw (append-nil es); rest = e; stands = st }
group_reads text shape vs room first (x ∷ xs) es s r few small fit below d free e st =
    let r1 = spelled (map (entry_line shape) xs) ++ r in
    let e1 = e ∙ append_assoc (entry_line shape x ++ 10 ∷ []) (spelled (map (entry_line shape) xs)) r in
    let m = more-reads shape vs room first es s x r1 few (small x.variable) fit.0 (new_in (drop first es) x xs d) (omega arith) e1 in
    let longer : length (es ++ x ∷ []) ≡ length es + 1 = simp length-append in
    let split : drop first (es ++ x ∷ []) ≡ drop first es ++ x ∷ [] = drop-append-le first es (x ∷ []) below in
    let d1 : Distinct (drop first (es ++ x ∷ []) ++ xs) = rw (split, append_assoc) d in
    let q = group_reads text shape vs room first xs (es ++ x ∷ []) (past s (entry_line shape x) r1) r few small fit.1 (omega arith) d1 (omega arith) refl (stands-past text s (entry_line shape x) r1 st e1) in
    record { to = q.to; reads = rw m (q.reads ∙ rw append_assoc); rest = q.rest; stands = q.stands }
