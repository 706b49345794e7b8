-- The text of every valid task is accepted where the records suffice, and the records then stand for that task.
use Rattle.std.proofs.Common.{◌≡◌, ℕ, zero, suc, ◌+◌, ◌≤◌, List, [], ◌∷◌, ◌++◌, map, length, get_or, None, codes, decimal, sym, refl, ap, ◌∙◌, arith}
use Rattle.std.proofs.lemmas.List.{length-append}
use Rattle.std.proofs.ByRecursion.{All-weaker}
use Rattle.std.specs.List.{flat_map, AllByRecursion}
use Rattle.tables.specs.declared.records.Variable.{Variable}
use Rattle.tables.specs.declared.records.Operator.{Operator}
use Rattle.tables.specs.declared.records.Entry.{Entry}
use Rattle.tables.specs.Rules.{Distinct}
use Rattle.lines.specs.Reading.{Place, Step, read, word_of, below_from, top}
use Rattle.sections.specs.Operators.{operators_of, inside}
use Rattle.format.specs.Whole.{Held, Room, heading_of, state_of, goal_of, whole_of}
use Rattle.reader.specs.Named.{NamedVariable, NamedOperator, NamedTask, ValidVariable, ValidOperator, FactFits, Valid, domains_of, entries_of, all_entries}
use Rattle.reader.specs.Rendering.{spelled, fact_line, variable_lines, operator_lines, render}
use Rattle.reader.proofs.Leaves.{past, Stands, stands-past, word-reads, number-reads}
use Rattle.reader.proofs.Entries.{domains, length-domains, fact, group_reads}
use Rattle.reader.proofs.Variables as variables
use Rattle.reader.proofs.Operators as operators
use Rattle.reader.proofs.Operators.{with_it}
use Rattle.reader.proofs.Whole.{before, heading_bytes, state_bytes, goal_bytes, operators_bytes, text-bytes}

-- a step that is accepted with that value, and leaves r
pub record Reads {A : Type 0} (text : List ℕ) (step : Step A) (a : A) (r : List ℕ) : Type 0 where
  pub to : Place
  pub reads : step ≡ read a to
  pub rest : to.rest ≡ r
  pub stands : Stands text to

heading-reads : (text : List ℕ) (s : Place) (r : List ℕ) → Stands text s → s.rest ≡ heading_bytes r → Reads text (heading_of s) tt r
heading-reads text s r st e =
    let r5 = before (codes "end_metric") r in
    let r4 = before (codes "1") r5 in
    let r3 = before (codes "begin_metric") r4 in
    let r2 = before (codes "end_version") r3 in
    let r1 = before (codes "3") r2 in
    let s1 = past s (codes "begin_version") r1 in
    let s2 = past s1 (codes "3") r2 in
    let s3 = past s2 (codes "end_version") r3 in
    let s4 = past s3 (codes "begin_metric") r4 in
    let s5 = past s4 (codes "1") r5 in
    let w1 = word-reads (codes "begin_version") s r1 e refl in
    let w2 = word-reads (codes "3") s1 r2 refl refl in
    let w3 = word-reads (codes "end_version") s2 r3 refl refl in
    let w4 = word-reads (codes "begin_metric") s3 r4 refl refl in
    let w5 = word-reads (codes "1") s4 r5 refl refl in
    let w6 = word-reads (codes "end_metric") s5 r refl refl in
    let t1 = stands-past text s (codes "begin_version") r1 st e in
    let t2 = stands-past text s1 (codes "3") r2 t1 refl in
    let t3 = stands-past text s2 (codes "end_version") r3 t2 refl in
    let t4 = stands-past text s3 (codes "begin_metric") r4 t3 refl in
    let t5 = stands-past text s4 (codes "1") r5 t4 refl in
    record { to = past s5 (codes "end_metric") r; reads = rw (w1, w2, w3, w4, w5, w6); rest = refl; stands = stands-past text s5 (codes "end_metric") r t5 refl }

record StateReads (text : List ℕ) (vs : List Variable) (s : Place) (xs : List NamedVariable) (r : List ℕ) : Type 0 where
  pub records : List Variable
  pub step : Reads text (state_of vs s) records r
  pub are : variables.AllIs text xs records

state-reads : (text : List ℕ) (vs : List Variable) (s : Place) (xs : List NamedVariable) (r : List ℕ) → variables.AllAt text xs vs → AllByRecursion ValidVariable xs → Stands text s → s.rest ≡ state_bytes xs r → StateReads text vs s xs r
state-reads text vs s xs r are valid st e =
    let r3 = before (codes "end_state") r in
    let r2 = spelled (map (λ v. decimal v.initial) xs) ++ r3 in
    let r1 = before (codes "begin_state") r2 in
    let s1 = past s (codes "0") r1 in
    let s2 = past s1 (codes "begin_state") r2 in
    let w1 = word-reads (codes "0") s r1 e refl in
    let w2 = word-reads (codes "begin_state") s1 r2 refl refl in
    let t1 = stands-past text s (codes "0") r1 st e in
    let t2 = stands-past text s1 (codes "begin_state") r2 t1 refl in
    with_it (variables.initials-reads text xs [] vs s2 r3 are valid refl t2) (λ q.
    let w4 = word-reads (codes "end_state") q.to r q.rest refl in
    record {
      records = q.records;
      step = record {
        to = past q.to (codes "end_state") r;
        reads = rw (w1, w2, q.reads, w4);
        rest = refl;
        stands = stands-past text q.to (codes "end_state") r q.stands q.rest;
      };
      are = q.are;
    })

goal-reads : (text : List ℕ) (vs : List Variable) (room : ℕ) (s : Place) (gs : List Entry) (r : List ℕ) → length vs ≤ 32 → ((v : ℕ) → get_or (domains vs) v 0 ≤ 255) → AllByRecursion (FactFits (domains vs)) gs → Distinct gs → length gs ≤ length vs → length gs ≤ room
    → Stands text s → s.rest ≡ goal_bytes gs r → Reads text (goal_of vs room s) gs r
goal-reads text vs room s gs r few small fit distinct count free st e =
    let r3 = before (codes "end_goal") r in
    let r2 = spelled (map fact_line gs) ++ r3 in
    let r1 = before (decimal (length gs)) r2 in
    let s1 = past s (codes "begin_goal") r1 in
    let s2 = past s1 (decimal (length gs)) r2 in
    let w1 = word-reads (codes "begin_goal") s r1 e refl in
    let w2 = number-reads 0 (length vs + 1) (length gs) s1 r2 refl (omega arith) (omega arith) (omega arith) in
    let t1 = stands-past text s (codes "begin_goal") r1 st e in
    let t2 = stands-past text s1 (decimal (length gs)) r2 t1 refl in
    with_it (group_reads text fact vs room 0 gs [] s2 r3 few small fit (omega arith) distinct (omega arith) refl t2) (λ g.
    let w4 = word-reads (codes "end_goal") g.to r g.rest refl in
    record {
      to = past g.to (codes "end_goal") r;
      reads = rw (w1, w2, g.reads, w4);
      rest = refl;
      stands = stands-past text g.to (codes "end_goal") r g.stands g.rest;
    })

-- the operators' lines and the last line
record OperatorsReads (text : List ℕ) (vs : List Variable) (rooms room : ℕ) (gs : List Entry) (s : Place) (os : List NamedOperator) : Type 0 where
  pub records : List Operator
  pub counted : Place
  pub read_count : below_from 257 s ≡ read (length os) counted
  pub listed : Place
  pub reads : operators_of vs rooms room (length os) gs counted ≡ read (records, gs ++ flat_map entries_of os) listed
  pub last : Place
  pub read_last : word_of (codes "0") listed ≡ read tt last
  pub rest : last.rest ≡ []
  pub are : operators.AllAt text (length gs) os records

operators-reads : (text : List ℕ) (vs : List Variable) (rooms room : ℕ) (gs : List Entry) (s : Place) (os : List NamedOperator) → length vs ≤ 32 → ((v : ℕ) → get_or (domains vs) v 0 ≤ 255) → length os ≤ rooms → length os ≤ 256
    → length gs + length (flat_map entries_of os) ≤ room → AllByRecursion (ValidOperator (domains vs)) os → Stands text s → s.rest ≡ operators_bytes os [] → OperatorsReads text vs rooms room gs s os
unfolding operators_of
operators-reads text vs rooms room gs s os few small free listed stored valid st e =
    let r2 = before (codes "0") [] in
    let r1 = spelled (flat_map operator_lines os) ++ r2 in
    let s1 = past s (decimal (length os)) r1 in
    let w1 = number-reads 0 257 (length os) s r1 e (omega arith) (omega arith) (omega arith) in
    let t1 = stands-past text s (decimal (length os)) r1 st e in
    with_it (operators.many-reads text vs rooms room os [] gs s1 r2 few small (omega arith) stored valid refl t1) (λ q.
    let s3 = inside None q.to in
    let w3 = word-reads (codes "0") s3 [] q.rest refl in
    record {
      records = q.records;
      counted = s1;
      read_count = w1;
      listed = s3;
      reads = rw q.reads;
      last = past s3 (codes "0") [];
      read_last = w3;
      rest = refl;
      are = q.are;
    })

pub domains-at : (text : List ℕ) (xs : List NamedVariable) (ws : List Variable) → variables.AllIs text xs ws → domains ws ≡ domains_of xs
domains-at text [] [] h = refl
domains-at text [] (w ∷ ws) h = absurd h
domains-at text (x ∷ xs) [] h = absurd h
domains-at text (x ∷ xs) (w ∷ ws) h = rw (h.0.domain, domains-at text xs ws h.2)

small-domains : (xs : List NamedVariable) → AllByRecursion ValidVariable xs → (v : ℕ) → get_or (domains_of xs) v 0 ≤ 255
small-domains [] h v = omega arith
small-domains (x ∷ xs) h zero = h.0.many
small-domains (x ∷ xs) h (suc v) = small-domains xs h.1 v

pub declared : (v : NamedVariable) → ValidVariable v → variables.Declared v
declared v h = record { name = h.name; names = h.names; some = omega (arith, h.initial); many = h.many }

pub length-domains_of : (ys : List NamedVariable) → length (domains_of ys) ≡ length ys
length-domains_of [] = refl
length-domains_of (y ∷ ys) = ap suc (length-domains_of ys)

-- the records stand for the task
pub record Stating (text : List ℕ) (t : NamedTask) (h : Held) : Type 0 where
  pub variables : variables.AllIs text t.variables h.variables
  pub goals : h.goals ≡ length t.goal
  pub operators : operators.AllAt text (length t.goal) t.operators h.operators
  pub entries : h.entries ≡ all_entries t

pub record TextReads (room : Room) (t : NamedTask) : Type 0 where
  pub held : Held
  pub to : Place
  pub reads : whole_of room (top (render t)) ≡ read held to
  pub states : Stating (render t) t held

pub whole-reads : (room : Room) (t : NamedTask) → Valid t → length t.variables ≤ room.variables → length t.operators ≤ room.operators → length (all_entries t) ≤ room.entries → TextReads room t
unfolding whole_of
whole-reads room t valid enough-v enough-o enough-e =
    let text = render t in
    let r4 = operators_bytes t.operators [] in
    let r3 = goal_bytes t.goal r4 in
    let r2 = state_bytes t.variables r3 in
    let r1 = spelled (flat_map variable_lines t.variables) ++ r2 in
    let r0 = before (decimal (length t.variables)) r1 in
    let st : Stands text (top text) = record { here = refl; inside = omega arith } in
    let len = length-append t.goal (flat_map entries_of t.operators) in
    with_it (heading-reads text (top text) r0 st (text-bytes t)) (λ a.
    let s1 = past a.to (decimal (length t.variables)) r1 in
    let w1 = number-reads 1 33 (length t.variables) a.to r1 a.rest valid.some (omega (arith, valid.few)) (omega arith) in
    let t1 = stands-past text a.to (decimal (length t.variables)) r1 a.stands a.rest in
    with_it (variables.many-reads text t.variables room.variables [] s1 r2 (omega arith) (All-weaker ValidVariable variables.Declared declared t.variables valid.variables) refl t1) (λ b.
    with_it (state-reads text b.records b.to t.variables r3 b.are valid.variables b.stands b.rest) (λ c.
    let ds = domains-at text t.variables c.records c.are in
    let small : (v : ℕ) → get_or (domains c.records) v 0 ≤ 255 = λ v. rw ds (small-domains t.variables valid.variables v) in
    let ws-is : length c.records ≡ length t.variables = sym (length-domains c.records) ∙ (ap length ds ∙ length-domains_of t.variables) in
    let fit : AllByRecursion (FactFits (domains c.records)) t.goal = rw ds valid.goal in
    let valids : AllByRecursion (ValidOperator (domains c.records)) t.operators = rw ds valid.operators in
    with_it (goal-reads text c.records room.entries c.step.to t.goal r4 (omega (arith, valid.few)) small fit valid.distinct (omega (arith, valid.few_goals)) (omega arith) c.step.stands c.step.rest) (λ d.
    with_it (operators-reads text c.records room.operators room.entries t.goal d.to t.operators (omega (arith, valid.few)) small enough-o valid.listed (omega arith) valids d.stands d.rest) (λ o.
    record {
      held = record { variables = c.records; goals = length t.goal; operators = o.records; entries = all_entries t };
      to = o.last;
      reads = rw (a.reads, w1, b.reads, c.step.reads, d.reads, o.read_count, o.reads, o.read_last, o.rest);
      states = record { variables = c.are; goals = refl; operators = o.are; entries = refl };
    })))))
