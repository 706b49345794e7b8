-- Variables and the initial state: what was read if they were accepted, and that all valid ones are.
use Rattle.std.proofs.Common.{◌≡◌, ℕ, zero, suc, ◌+◌, ◌<◌, ◌≤◌, true, ltb, List, [], ◌∷◌, ◌++◌, map, length, codes, decimal, sym, refl, ap, ◌∙◌, arith}
use Rattle.std.proofs.lemmas.List.{append_assoc, append-nil, length-append}
use Rattle.std.proofs.lemmas.Bool.{ltb-true, lt-ltb}
use Rattle.std.specs.List.{flat_map, AllByRecursion}
use Rattle.tables.specs.declared.cause.Cause.TheVariants as cause
use Rattle.tables.specs.declared.records.Variable.{Variable}
use Rattle.tables.specs.Records.{spanned}
use Rattle.tables.specs.Rules.{SpanFits}
use Rattle.lines.specs.Printable.{printable}
use Rattle.lines.specs.Reading.{Place, read, tested, word_of, number_from, below_from, name_of, turns, passed}
use Rattle.sections.specs.Variables.{variable_of, variable_more, with_initial, initials_of}
use Rattle.reader.specs.Named.{NamedVariable, ValidVariable, domains_of}
use Rattle.reader.specs.Rendering.{spelled, variable_lines}
use Rattle.reader.proofs.Leaves.{after, tested-parts, past, span, Stands, stands-past, word-from, word-reads, number-from, number-reads, name-from, name-reads, span-bytes, span_fits, spelled-append, pass-from, pass-reads}
use Rattle.reader.proofs.Entries.{domains}

-- the bytes of a variable's lines before r
bytes_of : (v : NamedVariable) (r : List ℕ) → spelled (variable_lines v) ++ r
    ≡ (codes "begin_variable" ++ 10 ∷ []) ++ ((v.name ++ 10 ∷ []) ++ ((codes "-1" ++ 10 ∷ []) ++ ((decimal (length v.values) ++ 10 ∷ []) ++ (spelled v.values ++ ((codes "end_variable" ++ 10 ∷ []) ++ r)))))
bytes_of v r = simp (spelled-append, append_assoc)

-- a variable whose names are printable and whose values are 1 to 255
pub record Declared (v : NamedVariable) : Type 0 where
  pub name : printable v.name ≡ true
  pub names : AllByRecursion (λ n. printable n ≡ true) v.values
  pub some : 1 ≤ length v.values
  pub many : length v.values ≤ 255

pub record More (vs : List Variable) (s : Place) (ws : List Variable) (v : NamedVariable) (s1 : Place) : Type 0 where
  pub made : Variable
  pub pushed : ws ≡ vs ++ made ∷ []
  pub domain : made.domain ≡ length v.values
  pub valid : Declared v
  pub bytes : s.rest ≡ spelled (variable_lines v) ++ s1.rest

pub more-from : {C : Type 0} (room : ℕ) (vs : List Variable) (s : Place) (ws : List Variable) (s1 : Place) → variable_more room vs s ≡ read ws s1 → (length vs < room → (v : NamedVariable) → More vs s ws v s1 → C) → C
unfolding variable_more
more-from room vs s ws s1 e h =
    after (word_of (codes "begin_variable") s) _ ws s1 e (λ u1 a1 e1 f1.
    after (tested a1 (ltb (length vs) room) cause.Room) _ ws s1 f1 (λ u2 a2 e2 f2.
    after (variable_of a2) _ ws s1 f2 (λ rec a9 e9 f9.
    after (name_of a2) _ rec a9 e9 (λ name a3 e3 f3.
    after (word_of (codes "-1") a3) _ rec a9 f3 (λ u4 a4 e4 f4.
    after (number_from 1 255 a4) _ rec a9 f4 (λ domain a5 e5 f5.
    after (turns domain passed tt a5) _ rec a9 f5 (λ u6 a6 e6 f6.
    after (word_of (codes "end_variable") a6) _ rec a9 f6 (λ u7 a7 e7 f7.
    name-from a2 name a3 e3 (λ l named.
    pass-from domain a5 u6 a6 e6 (λ ls pass.
    let t2 = tested-parts a1 (ltb (length vs) room) cause.Room u2 a2 e2 in
    let l1 = word-from (codes "begin_variable") s u1 a1 e1 in
    let l4 = word-from (codes "-1") a3 u4 a4 e4 in
    let l5 = number-from 1 256 a4 domain a5 e5 in
    let l7 = word-from (codes "end_variable") a6 u7 a7 e7 in
    let v : NamedVariable = record { name = l; values = ls; initial = 0 } in
    let made-is : ◌≡◌ {A = Variable} (record { name = name; values = record { from = a5.at; to = a6.at }; domain = domain; initial = 0 }) rec = cc in
    let a9-is : a9 ≡ a7 = cc in
    let s1-is : s1 ≡ a9 = cc in
    let ws-is : ws ≡ vs ++ rec ∷ [] = cc in
    let d : decimal domain ≡ decimal (length ls) = ap decimal (sym pass.count) in
    let b1 = l1.bytes in
    let b2 : a1.rest ≡ (l ++ 10 ∷ []) ++ a3.rest = rw t2.1 at named.bytes in
    let b4 = l4.bytes in
    let b5 = l5.line.bytes in
    let b7 : a6.rest ≡ (codes "end_variable" ++ 10 ∷ []) ++ s1.rest = rw (s1-is, a9-is) l7.bytes in
    let chain : s.rest ≡ (codes "begin_variable" ++ 10 ∷ []) ++ ((l ++ 10 ∷ []) ++ ((codes "-1" ++ 10 ∷ []) ++ ((decimal (length ls) ++ 10 ∷ []) ++ (spelled ls ++ ((codes "end_variable" ++ 10 ∷ []) ++ s1.rest))))) = cc pass.bytes in
    h (ltb-true (length vs) room t2.0) v (record {
      made = rec;
      pushed = ws-is;
      domain = sym (ap (λ z. z.domain) made-is) ∙ sym pass.count;
      valid = record { name = named.prints; names = pass.prints; some = omega (arith, l5.low, pass.count); many = omega (arith, l5.high, pass.count) };
      bytes = chain ∙ sym (bytes_of v s1.rest);
    })))))))))))

-- a record that stands for a variable of the text
pub record VariableAt (text : List ℕ) (v : NamedVariable) (r : Variable) : Type 0 where
  pub name : spanned text r.name ≡ v.name
  pub name_fits : SpanFits (length text) r.name
  pub values : spanned text r.values ≡ spelled v.values
  pub values_fit : SpanFits (length text) r.values
  pub domain : r.domain ≡ length v.values

pub record MoreReads (text : List ℕ) (room : ℕ) (vs : List Variable) (s : Place) (v : NamedVariable) (r : List ℕ) : Type 0 where
  pub made : Variable
  pub to : Place
  pub reads : variable_more room vs s ≡ read (vs ++ made ∷ []) to
  pub rest : to.rest ≡ r
  pub stands : Stands text to
  pub is : VariableAt text v made

pub more-reads : (text : List ℕ) (room : ℕ) (vs : List Variable) (s : Place) (v : NamedVariable) (r : List ℕ) → length vs < room → Declared v → s.rest ≡ spelled (variable_lines v) ++ r → Stands text s → MoreReads text room vs s v r
unfolding variable_more
more-reads text room vs s v r free valid e st =
    let n = length v.values in
    let r5 = (codes "end_variable" ++ 10 ∷ []) ++ r in
    let r4 = spelled v.values ++ r5 in
    let r3 = (decimal n ++ 10 ∷ []) ++ r4 in
    let r2 = (codes "-1" ++ 10 ∷ []) ++ r3 in
    let r1 = (v.name ++ 10 ∷ []) ++ r2 in
    let s1 = past s (codes "begin_variable") r1 in
    let s2 = past s1 v.name r2 in
    let s3 = past s2 (codes "-1") r3 in
    let s4 = past s3 (decimal n) r4 in
    let e0 = e ∙ bytes_of v r in
    let t1 = stands-past text s (codes "begin_variable") r1 st e0 in
    let t2 = stands-past text s1 v.name r2 t1 refl in
    let t3 = stands-past text s2 (codes "-1") r3 t2 refl in
    let t4 = stands-past text s3 (decimal n) r4 t3 refl in
    let w1 = word-reads (codes "begin_variable") s r1 e0 refl in
    let f1 : ltb (length vs) room ≡ true = lt-ltb (length vs) room free in
    let w2 = name-reads v.name s1 r2 refl valid.name in
    let w3 = word-reads (codes "-1") s2 r3 refl refl in
    let w4 = number-reads 1 256 n s3 r4 refl valid.some (omega (arith, valid.many)) (omega arith) in
    let w5 = pass-reads text v.values s4 r5 refl valid.names t4 in
    let w6 = word-reads (codes "end_variable") w5.to r w5.rest refl in
    let made : Variable = record { name = span s1 v.name; values = span s4 (spelled v.values); domain = n; initial = 0 } in
    let line : r1 ≡ v.name ++ (10 ∷ r2) = append_assoc v.name (10 ∷ []) r2 in
    record {
      made = made;
      to = past w5.to (codes "end_variable") r;
      reads = rw (w1, f1, w2, w3, w4, w5.reads, w6, w5.at);
      rest = refl;
      stands = stands-past text w5.to (codes "end_variable") r w5.stands w5.rest;
      is = record {
        name = span-bytes text s1 v.name (10 ∷ r2) t1 line;
        name_fits = span_fits text s1 v.name (10 ∷ r2) t1 line;
        values = span-bytes text s4 (spelled v.values) r5 t4 refl;
        values_fit = span_fits text s4 (spelled v.values) r5 t4 refl;
        domain = refl;
      };
    }

spelled-more : (v : NamedVariable) (xs : List NamedVariable) (r : List ℕ) → spelled (variable_lines v ++ flat_map variable_lines xs) ++ r ≡ spelled (variable_lines v) ++ (spelled (flat_map variable_lines xs) ++ r)
spelled-more v xs r = ap (λ z. z ++ r) (spelled-append (variable_lines v) (flat_map variable_lines xs)) ∙ append_assoc (spelled (variable_lines v)) (spelled (flat_map variable_lines xs)) r

-- variables one after another
pub record Many (room : ℕ) (vs : List Variable) (s : Place) (n : ℕ) (ws : List Variable) (s1 : Place) (xs : List NamedVariable) : Type 0 where
  pub records : List Variable
  pub made : ws ≡ vs ++ records
  pub sizes : domains records ≡ domains_of xs
  pub count : length xs ≡ n
  pub valid : AllByRecursion Declared xs
  pub free : length vs + n ≤ room
  pub bytes : s.rest ≡ spelled (flat_map variable_lines xs) ++ s1.rest

pub many-from : {C : Type 0} (n room : ℕ) (vs : List Variable) (s : Place) (ws : List Variable) (s1 : Place) → turns n (variable_more room) vs s ≡ read ws s1 → length vs ≤ room
    → ((xs : List NamedVariable) → Many room vs s n ws s1 xs → C) → C
unfolding turns
many-from zero room vs s ws s1 e fits h =
    let f : s ≡ s1 = cc in
    let g : vs ≡ ws = cc in
    h [] (record { records = []; made = sym g ∙ sym (append-nil vs); sizes = refl; count = refl; valid = tt; free = omega arith; bytes = ap (λ z. z.rest) f })
many-from (suc n) room vs s ws s1 e fits h =
    after (variable_more room vs s) _ ws s1 e (λ vs1 a1 e1 f1.
    more-from room vs s vs1 a1 e1 (λ free v m.
    let longer : length vs1 ≡ length vs + 1 = ap length m.pushed ∙ simp length-append in
    many-from n room vs1 a1 ws s1 f1 (omega arith) (λ xs q.
    h (v ∷ xs) (record {
      records = m.made ∷ q.records;
      made = q.made ∙ (ap (λ z. z ++ q.records) m.pushed ∙ append_assoc vs (m.made ∷ []) q.records);
      sizes = rw (m.domain, q.sizes);
      count = ap suc q.count;
      valid = (m.valid, q.valid);
      free = omega (arith, q.free);
      bytes = m.bytes ∙ (ap (λ z. spelled (variable_lines v) ++ z) q.bytes ∙ sym (spelled-more v xs s1.rest));
    }))))

-- records that stand for variables of the text
abbrev pub AllAt : List ℕ → List NamedVariable → List Variable → Type 0
AllAt text [] [] = Unit {0}
AllAt text [] (r ∷ rs) = ⊥
AllAt text (v ∷ vs) [] = ⊥
AllAt text (v ∷ vs) (r ∷ rs) = VariableAt text v r × AllAt text vs rs

pub record ManyReads (text : List ℕ) (room : ℕ) (vs : List Variable) (s : Place) (xs : List NamedVariable) (r : List ℕ) : Type 0 where
  pub records : List Variable
  pub to : Place
  pub reads : turns (length xs) (variable_more room) vs s ≡ read (vs ++ records) to
  pub rest : to.rest ≡ r
  pub stands : Stands text to
  pub are : AllAt text xs records

with_it : {A C : Type 0} → A → (A → C) → C
with_it a k = k a

many-reads-more : (text : List ℕ) (v : NamedVariable) (xs : List NamedVariable) (room : ℕ) (vs : List Variable) (s : Place) (r t : List ℕ) (m : MoreReads text room vs s v t) → ManyReads text room (vs ++ m.made ∷ []) m.to xs r → ManyReads text room vs s (v ∷ xs) r
unfolding turns
many-reads-more text v xs room vs s r t m q =
    record {
      records = m.made ∷ q.records;
      to = q.to;
      reads = rw m.reads (q.reads ∙ ap (λ z. read z q.to) (append_assoc vs (m.made ∷ []) q.records));
      rest = q.rest;
      stands = q.stands;
      are = (m.is, q.are);
    }

pub many-reads : (text : List ℕ) (xs : List NamedVariable) (room : ℕ) (vs : List Variable) (s : Place) (r : List ℕ) → length vs + length xs ≤ room → AllByRecursion Declared xs → s.rest ≡ spelled (flat_map variable_lines xs) ++ r → Stands text s → ManyReads text room vs s xs r
unfolding turns
many-reads text [] room vs s r fits valid e st = record { records = []; to = s; reads = rw (append-nil vs); rest = e; stands = st; are = tt }
many-reads text (v ∷ xs) room vs s r fits valid e st =
    with_it (more-reads text room vs s v (spelled (flat_map variable_lines xs) ++ r) (omega arith) valid.0 (e ∙ spelled-more v xs r) st) (λ m.
    let longer : length (vs ++ m.made ∷ []) ≡ length vs + 1 = length-append vs (m.made ∷ []) in
    many-reads-more text v xs room vs s r (spelled (flat_map variable_lines xs) ++ r) m
    (many-reads text xs room (vs ++ m.made ∷ []) m.to r (omega arith) valid.1 m.rest m.stands))

-- the initial state
abbrev initial_line : NamedVariable → List ℕ
initial_line v = decimal v.initial

pub record Started (done vs : List Variable) (s : Place) (ws : List Variable) (s1 : Place) (xs ys : List NamedVariable) : Type 0 where
  pub records : List Variable
  pub made : ws ≡ done ++ records
  pub sizes : domains records ≡ domains vs
  pub lines : flat_map variable_lines ys ≡ flat_map variable_lines xs
  pub same : domains_of ys ≡ domains_of xs
  pub count : length ys ≡ length xs
  pub valid : AllByRecursion ValidVariable ys
  pub bytes : s.rest ≡ spelled (map (λ v. decimal v.initial) ys) ++ s1.rest

pub initials-from : {C : Type 0} (xs : List NamedVariable) (done vs : List Variable) (s : Place) (ws : List Variable) (s1 : Place) → initials_of done vs s ≡ read ws s1 → domains vs ≡ domains_of xs → AllByRecursion Declared xs
    → ((ys : List NamedVariable) → Started done vs s ws s1 xs ys → C) → C
initials-from [] done [] s ws s1 e sizes valid h =
    let f : s ≡ s1 = cc in
    let g : done ≡ ws = cc in
    h [] (record { records = []; made = sym g ∙ sym (append-nil done); sizes = refl; lines = refl; same = refl; count = refl; valid = tt; bytes = ap (λ z. z.rest) f })
initials-from [] done (v ∷ vs) s ws s1 e sizes valid h = let bad : ◌≡◌ {A = ℕ} 0 1 = cc in let no_way : ⊥ = omega arith in absurd no_way
initials-from (x ∷ xs) done [] s ws s1 e sizes valid h = let bad : ◌≡◌ {A = ℕ} 0 1 = cc in let no_way : ⊥ = omega arith in absurd no_way
initials-from (x ∷ xs) done (v ∷ vs) s ws s1 e sizes valid h =
    after (below_from v.domain s) _ ws s1 e (λ i a1 e1 f1.
    let l = number-from 0 v.domain s i a1 e1 in
    let d : v.domain ≡ length x.values = cc in
    let rest : domains vs ≡ domains_of xs = cc in
    let y : NamedVariable = record { name = x.name; values = x.values; initial = i } in
    initials-from xs (done ++ with_initial v i ∷ []) vs a1 ws s1 f1 rest valid.1 (λ ys q.
    h (y ∷ ys) (record {
      records = with_initial v i ∷ q.records;
      made = q.made ∙ append_assoc done (with_initial v i ∷ []) q.records;
      sizes = rw q.sizes;
      lines = ap (λ z. variable_lines x ++ z) q.lines;
      same = rw q.same;
      count = ap suc q.count;
      valid = (record { name = valid.0.name; names = valid.0.names; many = valid.0.many; initial = omega (arith, l.high) }, q.valid);
      bytes = l.line.bytes ∙ (ap (λ z. (decimal i ++ 10 ∷ []) ++ z) q.bytes ∙ sym (append_assoc (decimal i ++ 10 ∷ []) (spelled (map (λ v. decimal v.initial) ys)) s1.rest));
    })))

-- records that stand for variables of the text, with their initial values
abbrev pub AllIs : List ℕ → List NamedVariable → List Variable → Type 0
AllIs text [] [] = Unit {0}
AllIs text [] (r ∷ rs) = ⊥
AllIs text (v ∷ vs) [] = ⊥
AllIs text (v ∷ vs) (r ∷ rs) = VariableAt text v r × (r.initial ≡ v.initial) × AllIs text vs rs

pub record StartReads (text : List ℕ) (done vs : List Variable) (s : Place) (xs : List NamedVariable) (r : List ℕ) : Type 0 where
  pub records : List Variable
  pub to : Place
  pub reads : initials_of done vs s ≡ read (done ++ records) to
  pub rest : to.rest ≡ r
  pub stands : Stands text to
  pub are : AllIs text xs records

pub initials-reads : (text : List ℕ) (xs : List NamedVariable) (done vs : List Variable) (s : Place) (r : List ℕ) → AllAt text xs vs → AllByRecursion ValidVariable xs → s.rest ≡ spelled (map (λ v. decimal v.initial) xs) ++ r → Stands text s → StartReads text done vs s xs r
initials-reads text [] done [] s r are valid e st = record { records = []; to = s; reads = rw (append-nil done); rest = e; stands = st; are = tt }
initials-reads text [] done (v ∷ vs) s r are valid e st = absurd are
initials-reads text (x ∷ xs) done [] s r are valid e st = absurd are
initials-reads text (x ∷ xs) done (v ∷ vs) s r are valid e st =
    let r1 = spelled (map (λ v. decimal v.initial) xs) ++ r in
    let i = x.initial in
    let e1 = e ∙ append_assoc (decimal i ++ 10 ∷ []) (spelled (map (λ v. decimal v.initial) xs)) r in
    let a = are.0 in
    let w = number-reads 0 v.domain i s r1 e1 (omega arith) (omega (arith, a.domain, valid.0.initial)) (omega (arith, a.domain, valid.0.many)) in
    let q = initials-reads text xs (done ++ with_initial v i ∷ []) vs (past s (decimal i) r1) r are.1 valid.1 refl (stands-past text s (decimal i) r1 st e1) in
    record {
      records = with_initial v i ∷ q.records;
      to = q.to;
      reads = rw w (q.reads ∙ rw append_assoc);
      rest = q.rest;
      stands = q.stands;
      are = (record { name = a.name; name_fits = a.name_fits; values = a.values; values_fit = a.values_fit; domain = a.domain }, refl, q.are);
    }
