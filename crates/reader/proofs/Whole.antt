-- Whole texts: an accepted one is the text of a valid task, and the text of every valid task is accepted.
use Rattle.std.proofs.Common.{◌≡◌, ℕ, suc, ◌+◌, ◌<◌, ◌≤◌, Bool, true, false, cond, eqb, List, [], ◌∷◌, ◌++◌, map, length, None, codes, decimal, sym, refl, ap, ◌∙◌, arith}
use Rattle.std.proofs.lemmas.List.{append_assoc, nil_from_length}
use Rattle.std.proofs.lemmas.Bool.{eqb-true}
use Rattle.std.specs.List.{flat_map, AllByRecursion}
use Rattle.tables.specs.declared.cause.Cause.TheVariants as cause
use Rattle.tables.specs.declared.records.Variable.{Variable}
use Rattle.tables.specs.declared.records.Operator.{Operator}
use Rattle.tables.specs.declared.records.Entry.{Entry}
use Rattle.tables.specs.Rules.{Distinct}
use Rattle.lines.specs.Reading.{Place, refused, read, fault_next, word_of, number_from, below_from, turns, top}
use Rattle.sections.specs.Variables.{variables_of, initials_of}
use Rattle.sections.specs.Entries.{fact_numbers, group_of}
use Rattle.sections.specs.Operators.{operators_of, operator_more, inside}
use Rattle.format.specs.Whole.{Held, Room, heading_of, state_of, goal_of, ended, whole_of}
use Rattle.reader.specs.Named.{NamedVariable, NamedOperator, NamedTask, ValidVariable, ValidOperator, FactFits, Valid, domains_of, entries_of, all_entries}
use Rattle.reader.specs.Rendering.{spelled, fact_line, variable_lines, operator_lines, render}
use Rattle.reader.proofs.Leaves.{after, word-from, number-from, spelled-append}
use Rattle.reader.proofs.Distinct.{distinct_none}
use Rattle.reader.proofs.Entries.{domains, length-domains, fact, group-from}
use Rattle.reader.proofs.Variables as variables
use Rattle.reader.proofs.Operators as operators

-- a line before r
abbrev pub before : List ℕ → List ℕ → List ℕ
before l r = (l ++ 10 ∷ []) ++ r

abbrev pub heading_bytes : List ℕ → List ℕ
heading_bytes r = before (codes "begin_version") (before (codes "3") (before (codes "end_version") (before (codes "begin_metric") (before (codes "1") (before (codes "end_metric") r)))))

abbrev pub state_bytes : List NamedVariable → List ℕ → List ℕ
state_bytes vs r = before (codes "0") (before (codes "begin_state") (spelled (map (λ v. decimal v.initial) vs) ++ before (codes "end_state") r))

abbrev pub goal_bytes : List Entry → List ℕ → List ℕ
goal_bytes goal r = before (codes "begin_goal") (before (decimal (length goal)) (spelled (map fact_line goal) ++ before (codes "end_goal") r))

abbrev pub operators_bytes : List NamedOperator → List ℕ → List ℕ
operators_bytes os r = before (decimal (length os)) (spelled (flat_map operator_lines os) ++ before (codes "0") r)

pub text-bytes : (t : NamedTask) → render t ≡ heading_bytes (before (decimal (length t.variables)) (spelled (flat_map variable_lines t.variables) ++ state_bytes t.variables (goal_bytes t.goal (operators_bytes t.operators []))))
text-bytes t = simp (spelled-append, append_assoc)

-- accepted parts
heading-from : (s : Place) (u : Unit {0}) (s1 : Place) → heading_of s ≡ read u s1 → s.rest ≡ heading_bytes s1.rest
heading-from s u s1 e =
    after (word_of (codes "begin_version") s) _ u s1 e (λ u1 a1 e1 f1.
    after (word_of (codes "3") a1) _ u s1 f1 (λ u2 a2 e2 f2.
    after (word_of (codes "end_version") a2) _ u s1 f2 (λ u3 a3 e3 f3.
    after (word_of (codes "begin_metric") a3) _ u s1 f3 (λ u4 a4 e4 f4.
    after (word_of (codes "1") a4) _ u s1 f4 (λ u5 a5 e5 f5.
    let l1 = word-from (codes "begin_version") s u1 a1 e1 in
    let l2 = word-from (codes "3") a1 u2 a2 e2 in
    let l3 = word-from (codes "end_version") a2 u3 a3 e3 in
    let l4 = word-from (codes "begin_metric") a3 u4 a4 e4 in
    let l5 = word-from (codes "1") a4 u5 a5 e5 in
    let l6 = word-from (codes "end_metric") a5 u s1 f5 in
    l1.bytes ∙ ap (before (codes "begin_version")) (l2.bytes ∙ ap (before (codes "3")) (l3.bytes ∙ ap (before (codes "end_version")) (l4.bytes ∙ ap (before (codes "begin_metric")) (l5.bytes ∙ ap (before (codes "1")) l6.bytes)))))))))

record State (vs ws : List Variable) (s s1 : Place) (xs ys : List NamedVariable) : Type 0 where
  pub sizes : domains ws ≡ domains vs
  pub lines : flat_map variable_lines ys ≡ flat_map variable_lines xs
  pub same : domains_of ys ≡ domains_of xs
  pub count : length ys ≡ length xs
  pub valid : AllByRecursion ValidVariable ys
  pub bytes : s.rest ≡ state_bytes ys s1.rest

state-from : {C : Type 0} (xs : List NamedVariable) (vs : List Variable) (s : Place) (ws : List Variable) (s1 : Place) → state_of vs s ≡ read ws s1 → domains vs ≡ domains_of xs → AllByRecursion variables.Declared xs
    → ((ys : List NamedVariable) → State vs ws s s1 xs ys → C) → C
state-from xs vs s ws s1 e sizes valid h =
    after (word_of (codes "0") s) _ ws s1 e (λ u1 a1 e1 f1.
    after (word_of (codes "begin_state") a1) _ ws s1 f1 (λ u2 a2 e2 f2.
    after (initials_of [] vs a2) _ ws s1 f2 (λ zs a3 e3 f3.
    after (word_of (codes "end_state") a3) _ ws s1 f3 (λ u4 a4 e4 f4.
    variables.initials-from xs [] vs a2 zs a3 e3 sizes valid (λ ys q.
    let l1 = word-from (codes "0") s u1 a1 e1 in
    let l2 = word-from (codes "begin_state") a1 u2 a2 e2 in
    let l4 = word-from (codes "end_state") a3 u4 a4 e4 in
    let zs-is : zs ≡ ws = cc in
    let s-is : a4 ≡ s1 = cc in
    let made : ws ≡ q.records = sym zs-is ∙ q.made in
    h ys (record {
      sizes = ap domains made ∙ q.sizes;
      lines = q.lines;
      same = q.same;
      count = q.count;
      valid = q.valid;
      bytes = l1.bytes ∙ ap (before (codes "0")) (l2.bytes ∙ ap (before (codes "begin_state")) (q.bytes ∙ ap (λ z. spelled (map (λ v. decimal v.initial) ys) ++ z) (l4.bytes ∙ ap (λ z. before (codes "end_state") z.rest) s-is)));
    }))))))

record Goal (vs : List Variable) (room : ℕ) (s s1 : Place) (gs : List Entry) : Type 0 where
  pub fit : AllByRecursion (FactFits (domains vs)) gs
  pub distinct : Distinct gs
  pub few : length gs ≤ length vs
  pub stored : length gs ≤ room
  pub bytes : s.rest ≡ goal_bytes gs s1.rest

goal-from : (vs : List Variable) (room : ℕ) (s : Place) (gs : List Entry) (s1 : Place) → goal_of vs room s ≡ read gs s1 → Goal vs room s s1 gs
goal-from vs room s gs s1 e =
    after (word_of (codes "begin_goal") s) _ gs s1 e (λ u1 a1 e1 f1.
    after (below_from (length vs + 1) a1) _ gs s1 f1 (λ n a2 e2 f2.
    after (group_of fact_numbers vs room 0 n [] a2) _ gs s1 f2 (λ es a3 e3 f3.
    after (word_of (codes "end_goal") a3) _ gs s1 f3 (λ u4 a4 e4 f4.
    group-from fact vs room 0 n [] a2 es a3 e3 (omega arith) (omega arith) distinct_none (λ xs g.
    let l1 = word-from (codes "begin_goal") s u1 a1 e1 in
    let l2 = number-from 0 (length vs + 1) a1 n a2 e2 in
    let l4 = word-from (codes "end_goal") a3 u4 a4 e4 in
    let es-is : es ≡ gs = cc in
    let s-is : a4 ≡ s1 = cc in
    let xs-is : xs ≡ gs = sym g.made ∙ es-is in
    let n-is : n ≡ length gs = sym g.count ∙ ap length xs-is in
    let b2 : a1.rest ≡ before (decimal (length gs)) a2.rest = l2.line.bytes ∙ ap (λ z. before (decimal z) a2.rest) n-is in
    let b3 : a2.rest ≡ spelled (map fact_line gs) ++ a3.rest = g.bytes ∙ ap (λ z. spelled (map fact_line z) ++ a3.rest) xs-is in
    let fit : AllByRecursion (FactFits (domains vs)) gs = rw xs-is at g.fit in
    let distinct : Distinct gs = rw xs-is at g.distinct in
    record {
      fit = fit;
      distinct = distinct;
      few = omega (arith, l2.high);
      stored = omega (arith, g.free);
      bytes = l1.bytes ∙ ap (before (codes "begin_goal")) (b2 ∙ ap (before (decimal (length gs))) (b3 ∙ ap (λ z. spelled (map fact_line gs) ++ z) (l4.bytes ∙ ap (λ z. before (codes "end_goal") z.rest) s-is)));
    })))))

ended-parts : {A : Type 0} (a b : A) (s s1 : Place) → ended a s ≡ read b s1 → (a ≡ b) × (s.rest ≡ [])
ended-parts {A} a b s s1 e = by (eqb (length s.rest) 0) refl e
  where
    by : (t : Bool) → eqb (length s.rest) 0 ≡ t → cond t (read a s) (refused (fault_next s cause.After)) ≡ read b s1 → (a ≡ b) × (s.rest ≡ [])
    by true h e1 = (cc, nil_from_length s.rest (eqb-true (length s.rest) 0 h))
    by false h e1 = let bad : ◌≡◌ {A = ℕ} 0 1 = cc in let no_way : ⊥ = omega arith in absurd no_way

-- the parts of an accepted text, put together
pub record Accepted (room : Room) (text : List ℕ) (t : NamedTask) : Type 0 where
  pub valid : Valid t
  pub variables : length t.variables ≤ room.variables
  pub operators : length t.operators ≤ room.operators
  pub entries : length (all_entries t) ≤ room.entries
  pub bytes : text ≡ render t

whole-made : (room : Room) (text : List ℕ) (n m : ℕ) (vs ws : List Variable) (xs ys : List NamedVariable) (gs : List Entry) (b : List Operator × List Entry) (os : List NamedOperator) (a1 a2 a3 a4 a5 a6 a7 a8 : Place)
    → room.entries ≤ 4096 → text ≡ heading_bytes a1.rest → a1.rest ≡ before (decimal n) a2.rest → 1 ≤ n → n ≤ 32 → variables.Many room.variables [] a2 n vs a3 xs → State vs ws a3 a4 xs ys → Goal ws room.entries a4 a5 gs
    → a5.rest ≡ before (decimal m) a6.rest → m < 257 → operators.Many ws room.operators room.entries m [] gs a6 b a7 os → a7.rest ≡ before (codes "0") a8.rest → a8.rest ≡ []
    → Accepted room text (record { variables = ys; goal = gs; operators = os })
whole-made room text n m vs ws xs ys gs b os a1 a2 a3 a4 a5 a6 a7 a8 small b0 b1 low high many state goal b5 few ops b7 b8 =
    let t : NamedTask = record { variables = ys; goal = gs; operators = os } in
    let ds : domains ws ≡ domains_of ys = state.sizes ∙ (ap domains many.made ∙ (many.sizes ∙ sym state.same)) in
    let n-is : n ≡ length ys = sym many.count ∙ sym state.count in
    let m-is : m ≡ length os = sym ops.count in
    let ws-is : length ws ≡ length ys = sym (length-domains ws) ∙ (ap length ds ∙ length-domains_of ys) in
    let fit : AllByRecursion (FactFits (domains_of ys)) gs = rw ds at goal.fit in
    let valids : AllByRecursion (ValidOperator (domains_of ys)) os = rw ds at ops.valid in
    let es : length (gs ++ flat_map entries_of os) ≤ room.entries = rw ops.entries at ops.stored in
    let tail : a5.rest ≡ operators_bytes os [] = b5 ∙ (ap (λ z. before (decimal z) a6.rest) m-is ∙ ap (before (decimal (length os))) (ops.bytes ∙ ap (λ z. spelled (flat_map operator_lines os) ++ z) (b7 ∙ ap (before (codes "0")) b8))) in
    let all : a1.rest ≡ before (decimal (length ys)) (spelled (flat_map variable_lines ys) ++ state_bytes ys (goal_bytes gs (operators_bytes os []))) =
    b1 ∙ (ap (λ z. before (decimal z) a2.rest) n-is ∙ ap (before (decimal (length ys))) (many.bytes ∙ (ap (λ z. spelled z ++ a3.rest) (sym state.lines) ∙ ap (λ z. spelled (flat_map variable_lines ys) ++ z) (state.bytes ∙ ap (state_bytes ys) (goal.bytes ∙ ap (goal_bytes gs) tail))))) in
    record {
      valid = record {
        some = omega arith;
        few = omega arith;
        variables = state.valid;
        goal = fit;
        few_goals = omega (arith, goal.few);
        distinct = goal.distinct;
        listed = omega arith;
        operators = valids;
        stored = omega arith;
      };
      variables = omega (arith, many.free);
      operators = omega (arith, ops.free);
      entries = es;
      bytes = b0 ∙ (ap heading_bytes all ∙ sym (text-bytes t));
    }
  where
    length-domains_of : (ys : List NamedVariable) → length (domains_of ys) ≡ length ys
    length-domains_of [] = refl
    length-domains_of (y ∷ ys) = ap suc (length-domains_of ys)

pub whole_from : {C : Type 0} (room : Room) (text : List ℕ) (held : Held) (s1 : Place) → room.entries ≤ 4096 → whole_of room (top text) ≡ read held s1 → ((t : NamedTask) → Accepted room text t → C) → C
unfolding whole_of operators_of
whole_from room text held s1 small e h =
    after (heading_of (top text)) _ held s1 e (λ u1 a1 e1 f1.
    after (number_from 1 32 a1) _ held s1 f1 (λ n a2 e2 f2.
    after (variables_of room.variables n a2) _ held s1 f2 (λ vs a3 e3 f3.
    after (state_of vs a3) _ held s1 f3 (λ ws a4 e4 f4.
    after (goal_of ws room.entries a4) _ held s1 f4 (λ gs a5 e5 f5.
    after (below_from 257 a5) _ held s1 f5 (λ m a6 e6 f6.
    after (operators_of ws room.operators room.entries m gs a6) _ held s1 f6 (λ b a7 e7 f7.
    after (turns m (operator_more ws room.operators room.entries) ([], gs) a6) _ b a7 e7 (λ b1 a8 e8 f8.
    after (word_of (codes "0") a7) _ held s1 f7 (λ u9 a9 e9 f9.
    variables.many-from n room.variables [] a2 vs a3 e3 (omega arith) (λ xs many.
    let sizes : domains vs ≡ domains_of xs = ap domains many.made ∙ many.sizes in
    state-from xs vs a3 ws a4 e4 sizes many.valid (λ ys state.
    let goal = goal-from ws room.entries a4 gs a5 e5 in
    operators.many-from m ws room.operators room.entries [] gs a6 b1 a8 e8 (omega arith) goal.stored (λ os ops.
    let l2 = number-from 1 33 a1 n a2 e2 in
    let l6 = number-from 0 257 a5 m a6 e6 in
    let l9 = word-from (codes "0") a7 u9 a9 e9 in
    let out : inside None a8 ≡ a7 = cc in
    let rest : a8.rest ≡ a7.rest = ap (λ z. z.rest) out in
    let z = ended-parts _ held a9 s1 f9 in
    h (record { variables = ys; goal = gs; operators = os })
    (whole-made room text n m vs ws xs ys gs b1 os a1 a2 a3 a4 a5 a6 a8 a9 small (heading-from (top text) u1 a1 e1) l2.line.bytes l2.low (omega (arith, l2.high)) many state goal l6.line.bytes l6.high ops (rest ∙ l9.bytes) z.1)))))))))))))
