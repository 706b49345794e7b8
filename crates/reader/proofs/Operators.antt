-- Operators: what was read if they were accepted, and that all valid ones are.
use Rattle.std.proofs.Common.{◌≡◌, ℕ, zero, suc, ◌+◌, ◌<◌, ◌≤◌, true, ltb, List, [], ◌∷◌, ◌++◌, map, length, get_or, drop, Some, codes, decimal, sym, refl, ap, ◌∙◌, arith}
use Rattle.std.proofs.lemmas.List.{append_assoc, append-nil, length-append, drop_all, drop_at}
use Rattle.std.proofs.lemmas.Bool.{ltb-true, lt-ltb}
use Rattle.std.specs.List.{flat_map, AllByRecursion}
use Rattle.tables.specs.declared.cause.Cause.TheVariants as cause
use Rattle.tables.specs.declared.records.Span.{Span}
use Rattle.tables.specs.declared.records.Variable.{Variable}
use Rattle.tables.specs.declared.records.Operator.{Operator}
use Rattle.tables.specs.declared.records.Entry.{Entry}
use Rattle.tables.specs.Records.{spanned}
use Rattle.tables.specs.Rules.{SpanFits, Distinct}
use Rattle.lines.specs.Reading.{Place, Step, read, and_then, tested, word_of, below_from, name_of, turns}
use Rattle.sections.specs.Entries.{fact_numbers, effect_numbers, group_of}
use Rattle.sections.specs.Operators.{operator_of, operator_more, inside}
use Rattle.reader.specs.Named.{NamedOperator, ValidOperator, entries_of}
use Rattle.reader.specs.Rendering.{spelled, operator_lines, fact_line, effect_line}
use Rattle.reader.proofs.Leaves.{after, tested-parts, past, span, Stands, stands-past, Line, word-from, word-reads, number-from, number-reads, name-from, name-reads, span-bytes, span_fits, spelled-append}
use Rattle.reader.proofs.Distinct.{distinct_none, distinct-front}
use Rattle.reader.proofs.Entries.{domains, length-domains, fact, effect, Group, group-from, group_reads}

pub with_it : {A C : Type 0} → A → (A → C) → C
with_it a k = k a

-- the bytes of an operator's lines before r
bytes_of : (o : NamedOperator) (r : List ℕ) → spelled (operator_lines o) ++ r
    ≡ (codes "begin_operator" ++ 10 ∷ []) ++ ((o.name ++ 10 ∷ []) ++ ((decimal (length o.action.conditions) ++ 10 ∷ []) ++ (spelled (map fact_line o.action.conditions) ++ ((decimal (length o.action.effects) ++ 10 ∷ [])
    ++ (spelled (map effect_line o.action.effects) ++ ((decimal o.action.price ++ 10 ∷ []) ++ ((codes "end_operator" ++ 10 ∷ []) ++ r)))))))
bytes_of o r = simp (spelled-append, append_assoc)

start-distinct : (es : List Entry) → Distinct (drop (length es) es)
start-distinct es = rw (drop_all (length es) es (omega arith)) distinct_none

pub record More (vs : List Variable) (rooms room : ℕ) (os : List Operator) (es : List Entry) (s : Place) (os1 : List Operator) (es1 : List Entry) (s1 : Place) (o : NamedOperator) : Type 0 where
  pub made : Operator
  pub pushed : os1 ≡ os ++ made ∷ []
  pub entries : es1 ≡ es ++ entries_of o
  pub valid : ValidOperator (domains vs) o
  pub free : length os < rooms
  pub stored : length es1 ≤ room
  pub bytes : s.rest ≡ spelled (operator_lines o) ++ s1.rest

-- the operator of what was read
more-made : (vs : List Variable) (rooms room : ℕ) (os : List Operator) (es : List Entry) (s : Place) (os1 : List Operator) (es1 : List Entry) (s1 : Place)
    (l : List ℕ) (cs fs : List Entry) (price conditions effects : ℕ) (made : Operator) (es2 : List Entry) (a1 a2 a3 a4 a5 a6 a7 : Place)
    → Line s (codes "begin_operator") a1 → Line a1 l a2 → Line a2 (decimal conditions) a3 → conditions < length vs + 1 → Group fact vs room (length es) conditions es a3 es2 a4 cs
    → Line a4 (decimal effects) a5 → effects < length vs + 1 → Group effect vs room (length es) effects es2 a5 es1 a6 fs → Line a6 (decimal price) a7 → price < 65536 → Line a7 (codes "end_operator") s1
    → length os < rooms → os1 ≡ os ++ made ∷ [] → More vs rooms room os es s os1 es1 s1 (record { name = l; action = record { price = price; conditions = cs; effects = fs } })
more-made vs rooms room os es s os1 es1 s1 l cs fs price conditions effects made es2 a1 a2 a3 a4 a5 a6 a7 l1 l2 l3 n3 g4 l5 n5 g6 l7 n7 l8 free pushed =
    let o : NamedOperator = record { name = l; action = record { price = price; conditions = cs; effects = fs } } in
    let d3 : decimal conditions ≡ decimal (length cs) = ap decimal (sym g4.count) in
    let d5 : decimal effects ≡ decimal (length fs) = ap decimal (sym g6.count) in
    let b4 : a3.rest ≡ spelled (map fact_line cs) ++ a4.rest = g4.bytes in
    let b6 : a5.rest ≡ spelled (map effect_line fs) ++ a6.rest = g6.bytes in
    let chain : s.rest ≡ (codes "begin_operator" ++ 10 ∷ []) ++ ((l ++ 10 ∷ []) ++ ((decimal (length cs) ++ 10 ∷ []) ++ (spelled (map fact_line cs) ++ ((decimal (length fs) ++ 10 ∷ [])
    ++ (spelled (map effect_line fs) ++ ((decimal price ++ 10 ∷ []) ++ ((codes "end_operator" ++ 10 ∷ []) ++ s1.rest))))))) = cc in
    let both : es1 ≡ es ++ (cs ++ fs) = g6.made ∙ (ap (λ z. z ++ fs) g4.made ∙ append_assoc es cs fs) in
    let part : drop (length es) es2 ≡ cs = ap (λ z. drop (length es) z) g4.made ∙ drop_at es cs (length es) refl in
    let len2 : length es2 ≡ length es + length cs = ap length g4.made ∙ length-append es cs in
    let len1 : length es1 ≡ length es2 + length fs = ap length g6.made ∙ length-append es2 fs in
    let ld = length-domains vs in
    record {
      made = made;
      pushed = pushed;
      entries = both;
      valid = record {
        name = l2.prints;
        conditions = g4.fit;
        effects = g6.fit;
        few_conditions = omega (arith, g4.count);
        few_effects = omega (arith, g6.count);
        distinct = rw part at g6.distinct;
        price = omega arith;
      };
      free = free;
      stored = omega (arith, g6.free, g6.count);
      bytes = chain ∙ sym (bytes_of o s1.rest);
    }

pub more-from : {C : Type 0} (vs : List Variable) (rooms room : ℕ) (os : List Operator) (es : List Entry) (s : Place) (os1 : List Operator) (es1 : List Entry) (s1 : Place) → operator_more vs rooms room (os, es) s ≡ read (os1, es1) s1 → length es ≤ room
    → ((o : NamedOperator) → More vs rooms room os es s os1 es1 s1 o → C) → C
unfolding operator_more
more-from vs rooms room os es s os1 es1 s1 e fits h =
    let b1 : List Operator × List Entry = (os1, es1) in
    after (word_of (codes "begin_operator") (inside (Some (length os)) s)) _ b1 s1 e (λ u1 a1 e1 f1.
    after (tested a1 (ltb (length os) rooms) cause.Room) _ b1 s1 f1 (λ u2 a2 e2 f2.
    after (operator_of vs room es a2) _ b1 s1 f2 (λ made a9 e9 f9.
    after (name_of a2) _ made a9 e9 (λ name a3 e3 f3.
    after (below_from (length vs + 1) a3) _ made a9 f3 (λ conditions a4 e4 f4.
    after (group_of fact_numbers vs room (length es) conditions es a4) _ made a9 f4 (λ es2 a5 e5 f5.
    after (below_from (length vs + 1) a5) _ made a9 f5 (λ effects a6 e6 f6.
    after (group_of effect_numbers vs room (length es) effects es2 a6) _ made a9 f6 (λ es3 a7 e7 f7.
    after (below_from 65536 a7) _ made a9 f7 (λ price a8 e8 f8.
    after (word_of (codes "end_operator") a8) _ made a9 f8 (λ u10 a10 e10 f10.
    name-from a2 name a3 e3 (λ l named.
    group-from fact vs room (length es) conditions es a4 es2 a5 e5 (omega arith) fits (start-distinct es) (λ cs g5.
    let t2 = tested-parts a1 (ltb (length os) rooms) cause.Room u2 a2 e2 in
    let part : drop (length es) es2 ≡ cs = ap (λ z. drop (length es) z) g5.made ∙ drop_at es cs (length es) refl in
    let none : drop (length es) es ≡ [] = drop_all (length es) es (omega arith) in
    let d5 : Distinct (drop (length es) es2) = rw part (rw none at g5.distinct) in
    let len2 : length es2 ≡ length es + length cs = ap length g5.made ∙ length-append es cs in
    group-from effect vs room (length es) effects es2 a6 es3 a7 e7 (omega arith) (omega (arith, g5.free, g5.count)) d5 (λ fs g7.
    let l1 : Line s (codes "begin_operator") a1 = record { bytes = (word-from (codes "begin_operator") (inside (Some (length os)) s) u1 a1 e1).bytes; prints = refl } in
    let l4 = number-from 0 (length vs + 1) a3 conditions a4 e4 in
    let l6 = number-from 0 (length vs + 1) a5 effects a6 e6 in
    let l8 = number-from 0 65536 a7 price a8 e8 in
    let l10 = word-from (codes "end_operator") a8 u10 a10 e10 in
    let made-is : ◌≡◌ {A = Operator × List Entry} (record { name = name; price = price; first = length es; conditions = conditions; effects = effects }, es3) made = cc in
    let a9-is : a10 ≡ a9 = cc in
    let s1-is : a9 ≡ s1 = cc in
    let b1-is : ◌≡◌ {A = List Operator × List Entry} (os ++ made.0 ∷ [], made.1) (os1, es1) = cc in
    let os-is : os1 ≡ os ++ made.0 ∷ [] = sym (ap (λ z. z.0) b1-is) in
    let es-is : es3 ≡ es1 = ap (λ z. z.1) made-is ∙ ap (λ z. z.1) b1-is in
    let g7' : Group effect vs room (length es) effects es2 a6 es1 a7 fs = rw (← es-is) g7 in
    let l10' : Line a8 (codes "end_operator") s1 = rw (← s1-is, ← a9-is) l10 in
    let l2 : Line a1 l a3 = rw t2.1 at named in
    h (record { name = l; action = record { price = price; conditions = cs; effects = fs } })
    (more-made vs rooms room os es s os1 es1 s1 l cs fs price conditions effects made.0 es2 a1 a3 a4 a5 a6 a7 a8 l1 l2 l4.line l4.high g5 l6.line l6.high g7' l8.line l8.high l10'
    (ltb-true (length os) rooms t2.0) os-is))))))))))))))

-- a record that stands for an operator of the text whose entries begin at first
pub record OperatorAt (text : List ℕ) (first : ℕ) (o : NamedOperator) (r : Operator) : Type 0 where
  pub name : spanned text r.name ≡ o.name
  pub name_fits : SpanFits (length text) r.name
  pub price : r.price ≡ o.action.price
  pub starts : r.first ≡ first
  pub conditions : r.conditions ≡ length o.action.conditions
  pub effects : r.effects ≡ length o.action.effects

pub record MoreReads (text : List ℕ) (vs : List Variable) (rooms room : ℕ) (os : List Operator) (es : List Entry) (s : Place) (o : NamedOperator) (r : List ℕ) : Type 0 where
  pub made : Operator
  pub to : Place
  pub reads : operator_more vs rooms room (os, es) s ≡ read (os ++ made ∷ [], es ++ entries_of o) to
  pub rest : to.rest ≡ r
  pub stands : Stands text to
  pub is : OperatorAt text (length es) o made

-- the lines from the effects' number on
abbrev tail_of : List Variable → ℕ → List Entry → List Entry → Span → Place → Step (Operator × List Entry)
tail_of vs room es cs name s =
    and_then (below_from (length vs + 1) s) (λ effects s4.
    and_then (group_of effect_numbers vs room (length es) effects (es ++ cs) s4) (λ es2 s5.
    and_then (below_from 65536 s5) (λ price s6.
    and_then (word_of (codes "end_operator") s6) (λ _ s7.
    read (record { name = name; price = price; first = length es; conditions = length cs; effects = effects }, es2) s7))))

abbrev record_at : Span → ℕ → NamedOperator → Operator
record_at name first o = record { name = name; price = o.action.price; first = first; conditions = length o.action.conditions; effects = length o.action.effects }

record TailReads (text : List ℕ) (vs : List Variable) (room : ℕ) (es : List Entry) (name : Span) (s : Place) (o : NamedOperator) (r : List ℕ) : Type 0 where
  pub to : Place
  pub reads : tail_of vs room es o.action.conditions name s ≡ read (record_at name (length es) o, (es ++ o.action.conditions) ++ o.action.effects) to
  pub rest : to.rest ≡ r
  pub stands : Stands text to

tail-reads : (text : List ℕ) (vs : List Variable) (room : ℕ) (es : List Entry) (name : Span) (s : Place) (o : NamedOperator) (r : List ℕ) → length vs ≤ 32 → ((v : ℕ) → get_or (domains vs) v 0 ≤ 255) → length (es ++ o.action.conditions) + length o.action.effects ≤ room
    → ValidOperator (domains vs) o → s.rest ≡ (decimal (length o.action.effects) ++ 10 ∷ []) ++ (spelled (map effect_line o.action.effects) ++ ((decimal o.action.price ++ 10 ∷ []) ++ ((codes "end_operator" ++ 10 ∷ []) ++ r)))
    → Stands text s → TailReads text vs room es name s o r
tail-reads text vs room es name s o r few small free valid e st =
    let cs = o.action.conditions in
    let fs = o.action.effects in
    let r3 = (codes "end_operator" ++ 10 ∷ []) ++ r in
    let r2 = (decimal o.action.price ++ 10 ∷ []) ++ r3 in
    let r1 = spelled (map effect_line fs) ++ r2 in
    let s1 = past s (decimal (length fs)) r1 in
    let t1 = stands-past text s (decimal (length fs)) r1 st e in
    let ld = length-domains vs in
    let w1 = number-reads 0 (length vs + 1) (length fs) s r1 e (omega arith) (omega (arith, valid.few_effects)) (omega arith) in
    let part : drop (length es) (es ++ cs) ≡ cs = drop_at es cs (length es) refl in
    let d : Distinct (drop (length es) (es ++ cs) ++ fs) = rw part valid.distinct in
    let below : length es ≤ length (es ++ cs) = omega (arith, length-append es cs) in
    with_it (group_reads text effect vs room (length es) fs (es ++ cs) s1 r2 few small valid.effects below d free refl t1) (λ g.
    let s3 = past g.to (decimal o.action.price) r3 in
    let t3 = stands-past text g.to (decimal o.action.price) r3 g.stands g.rest in
    let w3 = number-reads 0 65536 o.action.price g.to r3 g.rest (omega arith) (omega (arith, valid.price)) (omega arith) in
    let w4 = word-reads (codes "end_operator") s3 r refl refl in
    record {
      to = past s3 (codes "end_operator") r;
      reads = rw (w1, g.reads, w3, w4);
      rest = refl;
      stands = stands-past text s3 (codes "end_operator") r t3 refl;
    })

pub more-reads : (text : List ℕ) (vs : List Variable) (rooms room : ℕ) (os : List Operator) (es : List Entry) (s : Place) (o : NamedOperator) (r : List ℕ) → length vs ≤ 32 → ((v : ℕ) → get_or (domains vs) v 0 ≤ 255) → length os < rooms
    → length es + length (entries_of o) ≤ room → ValidOperator (domains vs) o → s.rest ≡ spelled (operator_lines o) ++ r → Stands text s → MoreReads text vs rooms room os es s o r
unfolding operator_more
more-reads text vs rooms room os es s o r few small free stored valid e st =
    let cs = o.action.conditions in
    let fs = o.action.effects in
    let r3 = (decimal (length fs) ++ 10 ∷ []) ++ (spelled (map effect_line fs) ++ ((decimal o.action.price ++ 10 ∷ []) ++ ((codes "end_operator" ++ 10 ∷ []) ++ r))) in
    let r2 = spelled (map fact_line cs) ++ r3 in
    let r1 = (decimal (length cs) ++ 10 ∷ []) ++ r2 in
    let r0 = (o.name ++ 10 ∷ []) ++ r1 in
    let s0 = inside (Some (length os)) s in
    let e0 = e ∙ bytes_of o r in
    let st0 : Stands text s0 = record { here = st.here; inside = st.inside } in
    let s1 = past s0 (codes "begin_operator") r0 in
    let s2 = past s1 o.name r1 in
    let s3 = past s2 (decimal (length cs)) r2 in
    let t1 = stands-past text s0 (codes "begin_operator") r0 st0 e0 in
    let t2 = stands-past text s1 o.name r1 t1 refl in
    let t3 = stands-past text s2 (decimal (length cs)) r2 t2 refl in
    let ld = length-domains vs in
    let len = length-append cs fs in
    let w1 = word-reads (codes "begin_operator") s0 r0 e0 refl in
    let f1 : ltb (length os) rooms ≡ true = lt-ltb (length os) rooms free in
    let w2 = name-reads o.name s1 r1 refl valid.name in
    let w3 = number-reads 0 (length vs + 1) (length cs) s2 r2 refl (omega arith) (omega (arith, valid.few_conditions)) (omega arith) in
    let start : drop (length es) es ≡ [] = drop_all (length es) es (omega arith) in
    let d : Distinct (drop (length es) es ++ cs) = rw start (distinct-front cs fs valid.distinct) in
    let line : r0 ≡ o.name ++ (10 ∷ r1) = append_assoc o.name (10 ∷ []) r1 in
    with_it (group_reads text fact vs room (length es) cs es s3 r3 few small valid.conditions (omega arith) d (omega arith) refl t3) (λ g.
    with_it (tail-reads text vs room es (span s1 o.name) g.to o r few small (omega (arith, length-append es cs)) valid g.rest g.stands) (λ t.
    record {
      made = record { name = span s1 o.name; price = o.action.price; first = length es; conditions = length cs; effects = length fs };
      to = t.to;
      reads = rw (w1, f1, w2, w3, g.reads, t.reads, append_assoc);
      rest = t.rest;
      stands = t.stands;
      is = record {
        name = span-bytes text s1 o.name (10 ∷ r1) t1 line;
        name_fits = span_fits text s1 o.name (10 ∷ r1) t1 line;
        price = refl;
        starts = refl;
        conditions = refl;
        effects = refl;
      };
    }))

spelled-more : (o : NamedOperator) (xs : List NamedOperator) (r : List ℕ) → spelled (operator_lines o ++ flat_map operator_lines xs) ++ r ≡ spelled (operator_lines o) ++ (spelled (flat_map operator_lines xs) ++ r)
spelled-more o xs r = ap (λ z. z ++ r) (spelled-append (operator_lines o) (flat_map operator_lines xs)) ∙ append_assoc (spelled (operator_lines o)) (spelled (flat_map operator_lines xs)) r

-- operators one after another
pub record Many (vs : List Variable) (rooms room n : ℕ) (os : List Operator) (es : List Entry) (s : Place) (b : List Operator × List Entry) (s1 : Place) (xs : List NamedOperator) : Type 0 where
  pub entries : b.1 ≡ es ++ flat_map entries_of xs
  pub count : length xs ≡ n
  pub valid : AllByRecursion (ValidOperator (domains vs)) xs
  pub free : length os + n ≤ rooms
  pub stored : length b.1 ≤ room
  pub bytes : s.rest ≡ spelled (flat_map operator_lines xs) ++ s1.rest

pub many-from : {C : Type 0} (n : ℕ) (vs : List Variable) (rooms room : ℕ) (os : List Operator) (es : List Entry) (s : Place) (b : List Operator × List Entry) (s1 : Place) → turns n (operator_more vs rooms room) (os, es) s ≡ read b s1
    → length os ≤ rooms → length es ≤ room → ((xs : List NamedOperator) → Many vs rooms room n os es s b s1 xs → C) → C
unfolding turns
many-from zero vs rooms room os es s b s1 e fits stored h =
    let f : s ≡ s1 = cc in
    let g : ◌≡◌ {A = List Operator × List Entry} (os, es) b = cc in
    let same : es ≡ b.1 = ap (λ z. z.1) g in
    h [] (record { entries = sym same ∙ sym (append-nil es); count = refl; valid = tt; free = omega arith; stored = rw (← same) stored; bytes = ap (λ z. z.rest) f })
many-from (suc n) vs rooms room os es s b s1 e fits stored h =
    after (operator_more vs rooms room (os, es) s) _ b s1 e (λ b1 a1 e1 f1.
    more-from vs rooms room os es s b1.0 b1.1 a1 e1 stored (λ o m.
    let longer : length b1.0 ≡ length os + 1 = ap length m.pushed ∙ length-append os (m.made ∷ []) in
    many-from n vs rooms room b1.0 b1.1 a1 b s1 f1 (omega (arith, m.free)) m.stored (λ xs q.
    h (o ∷ xs) (record {
      entries = q.entries ∙ (ap (λ z. z ++ flat_map entries_of xs) m.entries ∙ append_assoc es (entries_of o) (flat_map entries_of xs));
      count = ap suc q.count;
      valid = (m.valid, q.valid);
      free = omega (arith, q.free);
      stored = q.stored;
      bytes = m.bytes ∙ (ap (λ z. spelled (operator_lines o) ++ z) q.bytes ∙ sym (spelled-more o xs s1.rest));
    }))))

-- records that stand for operators of the text, whose entries begin at first
abbrev pub AllAt : List ℕ → ℕ → List NamedOperator → List Operator → Type 0
AllAt text first [] [] = Unit {0}
AllAt text first [] (r ∷ rs) = ⊥
AllAt text first (o ∷ os) [] = ⊥
AllAt text first (o ∷ os) (r ∷ rs) = OperatorAt text first o r × AllAt text (first + length (entries_of o)) os rs

pub record ManyReads (text : List ℕ) (vs : List Variable) (rooms room : ℕ) (os : List Operator) (es : List Entry) (s : Place) (xs : List NamedOperator) (r : List ℕ) : Type 0 where
  pub records : List Operator
  pub to : Place
  pub reads : turns (length xs) (operator_more vs rooms room) (os, es) s ≡ read (os ++ records, es ++ flat_map entries_of xs) to
  pub rest : to.rest ≡ r
  pub stands : Stands text to
  pub are : AllAt text (length es) xs records

many-reads-more : (text : List ℕ) (vs : List Variable) (rooms room : ℕ) (os : List Operator) (es : List Entry) (s : Place) (o : NamedOperator) (xs : List NamedOperator) (r t : List ℕ) (m : MoreReads text vs rooms room os es s o t)
    → ManyReads text vs rooms room (os ++ m.made ∷ []) (es ++ entries_of o) m.to xs r → ManyReads text vs rooms room os es s (o ∷ xs) r
unfolding turns
many-reads-more text vs rooms room os es s o xs r t m q =
    let k : length (es ++ entries_of o) ≡ length es + length (entries_of o) = length-append es (entries_of o) in
    let are1 : AllAt text (length es + length (entries_of o)) xs q.records = rw k at q.are in
    record {
      records = m.made ∷ q.records;
      to = q.to;
      reads = rw m.reads (q.reads ∙ rw (append_assoc os (m.made ∷ []) q.records, append_assoc es (entries_of o) (flat_map entries_of xs)));
      rest = q.rest;
      stands = q.stands;
      are = (m.is, are1);
    }

pub many-reads : (text : List ℕ) (vs : List Variable) (rooms room : ℕ) (xs : List NamedOperator) (os : List Operator) (es : List Entry) (s : Place) (r : List ℕ) → length vs ≤ 32 → ((v : ℕ) → get_or (domains vs) v 0 ≤ 255)
    → length os + length xs ≤ rooms → length es + length (flat_map entries_of xs) ≤ room → AllByRecursion (ValidOperator (domains vs)) xs → s.rest ≡ spelled (flat_map operator_lines xs) ++ r → Stands text s → ManyReads text vs rooms room os es s xs r
unfolding turns
many-reads text vs rooms room [] os es s r few small free stored valid e st = record { records = []; to = s; reads = rw (append-nil os, append-nil es); rest = e; stands = st; are = tt }
many-reads text vs rooms room (o ∷ xs) os es s r few small free stored valid e st =
    let len = length-append (entries_of o) (flat_map entries_of xs) in
    with_it (more-reads text vs rooms room os es s o (spelled (flat_map operator_lines xs) ++ r) few small (omega arith) (omega arith) valid.0 (e ∙ spelled-more o xs r) st) (λ m.
    let longer : length (os ++ m.made ∷ []) ≡ length os + 1 = length-append os (m.made ∷ []) in
    let more : length (es ++ entries_of o) ≡ length es + length (entries_of o) = length-append es (entries_of o) in
    many-reads-more text vs rooms room os es s o xs r (spelled (flat_map operator_lines xs) ++ r) m
    (many-reads text vs rooms room xs (os ++ m.made ∷ []) (es ++ entries_of o) m.to r few small (omega arith) (omega arith) valid.1 m.rest m.stands))
