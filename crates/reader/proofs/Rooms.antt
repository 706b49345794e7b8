-- Fewer records change a reading in one way only: it stops with ROOM where the reading with more goes on.
use Rattle.std.proofs.Common.{◌≡◌, ℕ, zero, suc, ◌+◌, ◌<◌, ◌≤◌, Bool, true, false, cond, not, eqb, ltb, leb, ◌⊎◌, List, [], ◌∷◌, ◌++◌, length, drop, Some, None, Err, codes, Option, refl, ap, ◌∙◌, inl, inr, arith}
use Rattle.std.proofs.lemmas.Bool.{lt-ltb, cases_lt, le-ltb}
use Rattle.std.specs.Str.{bytes_eq}
use Rattle.tables.specs.declared.cause.Cause.{Cause}
use Rattle.tables.specs.declared.cause.Cause.TheVariants as cause
use Rattle.tables.specs.declared.fault.Fault.{Fault}
use Rattle.tables.specs.declared.records.Span.{Span}
use Rattle.tables.specs.declared.records.Variable.{Variable}
use Rattle.tables.specs.declared.records.Operator.{Operator}
use Rattle.tables.specs.declared.records.Entry.{Entry}
use Rattle.tables.specs.Lines.{cut_line}
use Rattle.lines.specs.Printable.{printable}
use Rattle.lines.specs.declared.number.Number.{Number}
use Rattle.lines.specs.Numbers.{number_of, in_range_of}
use Rattle.lines.specs.Reading.{Place, Step, refused, read, and_then, tested, given, taken, fault_next, line_of, word_of, number_in, number_from, below_from, name_of, turns, passed, top}
use Rattle.sections.specs.Variables.{variable_of, variable_more, initials_of, with_initial}
use Rattle.sections.specs.Entries.{fact_numbers, effect_numbers, entry_in, names, entry_of, entry_more, group_of}
use Rattle.sections.specs.Operators.{operator_of, operator_more, operators_of, inside}
use Rattle.format.specs.Whole.{Held, Room, heading_of, state_of, goal_of, ended, body_of, whole_of, room_of, outcome, task_of}
use Rattle.reader.specs.Loading.{NotBefore, SameOrRoom}

-- a step that stops or stands at line n or after it
abbrev Later : {A : Type 0} → ℕ → Step A → Type 0
Later n (refused f) = n ≤ f.line
Later n (read a s) = n ≤ s.line

later-then : {A B : Type 0} (n : ℕ) (g : Step A) (k : A → Place → Step B) → Later n g → ((a : A) (s : Place) → n ≤ s.line → Later n (k a s)) → Later n (and_then g k)
later-then n (refused f) k h next = h
later-then n (read a s) k h next = next a s h

later-tested : (n : ℕ) (s : Place) (t : Bool) (c : Cause) → n ≤ s.line → Later n (tested s t c)
later-tested n s true c h = h
later-tested n s false c h = h

later-given : {A : Type 0} (n : ℕ) (s : Place) (o : Option A) (c : Cause) → n ≤ s.line → Later n (given s o c)
later-given n s None c h = h
later-given n s (Some a) c h = h

later-taken : (n : ℕ) (s : Place) (o : Option (List ℕ × List ℕ)) → n ≤ s.line → Later n (taken s o)
later-taken n s None h = omega arith
later-taken n s (Some p) h = omega arith

later-line : (n : ℕ) (s : Place) → n ≤ s.line → Later n (line_of s)
unfolding line_of
later-line n s h =
    later-then n (taken s (cut_line s.rest)) _ (later-taken n s (cut_line s.rest) h) (λ bs s1 h1.
    later-then n (tested s1 (printable bs) cause.Byte) _ (later-tested n s1 (printable bs) cause.Byte h1) (λ _ s2 h2. h2))

later-word : (n : ℕ) (w : List ℕ) (s : Place) → n ≤ s.line → Later n (word_of w s)
later-word n w s h = later-then n (line_of s) _ (later-line n s h) (λ bs s1 h1. later-tested n s1 (bytes_eq bs w) cause.Word h1)

later-number : (n start end : ℕ) (s : Place) → n ≤ s.line → Later n (number_in start end s)
later-number n start end s h =
    later-then n (line_of s) _ (later-line n s h) (λ bs s1 h1.
    later-then n (given s1 (number_of bs) cause.Number) _ (later-given n s1 (number_of bs) cause.Number h1) (λ x s2 h2. later-given n s2 (in_range_of start end x) cause.Range h2))

later-name : (n : ℕ) (s : Place) → n ≤ s.line → Later n (name_of s)
later-name n s h = later-then n (line_of s) _ (later-line n s h) (λ bs s1 h1. h1)

later-turns : {B : Type 0} (n k : ℕ) (step : B → Place → Step B) → ((b : B) (s : Place) → n ≤ s.line → Later n (step b s)) → (b : B) (s : Place) → n ≤ s.line → Later n (turns k step b s)
unfolding turns
later-turns n zero step each b s h = h
later-turns n (suc k) step each b s h = later-then n (step b s) _ (each b s h) (λ b1 s1 h1. later-turns n k step each b1 s1 h1)

later-variable : (n : ℕ) (s : Place) → n ≤ s.line → Later n (variable_of s)
later-variable n s h =
    later-then n (name_of s) _ (later-name n s h) (λ name s1 h1.
    later-then n (word_of (codes "-1") s1) _ (later-word n (codes "-1") s1 h1) (λ _ s2 h2.
    later-then n (number_from 1 255 s2) _ (later-number n 1 256 s2 h2) (λ domain s3 h3.
    later-then n (turns domain passed tt s3) _ (later-turns n domain passed (λ u z l. later-then n (line_of z) _ (later-line n z l) (λ _ z1 l1. l1)) tt s3 h3) (λ _ s4 h4.
    later-then n (word_of (codes "end_variable") s4) _ (later-word n (codes "end_variable") s4 h4) (λ _ s5 h5. h5)))))

later-variables : (n room : ℕ) (vs : List Variable) (s : Place) → n ≤ s.line → Later n (variable_more room vs s)
unfolding variable_more
later-variables n room vs s h =
    later-then n (word_of (codes "begin_variable") s) _ (later-word n (codes "begin_variable") s h) (λ _ s1 h1.
    later-then n (tested s1 (ltb (length vs) room) cause.Room) _ (later-tested n s1 (ltb (length vs) room) cause.Room h1) (λ _ s2 h2.
    later-then n (variable_of s2) _ (later-variable n s2 h2) (λ v s3 h3. h3)))

later-initials : (n : ℕ) (done vs : List Variable) (s : Place) → n ≤ s.line → Later n (initials_of done vs s)
later-initials n done [] s h = h
later-initials n done (v ∷ vs) s h = later-then n (below_from v.domain s) _ (later-number n 0 v.domain s h) (λ x s1 h1. later-initials n (done ++ with_initial v x ∷ []) vs s1 h1)

later-entry : (n : ℕ) (numbers : List ℕ → Option (Number × Number × Number × Number)) (vs : List Variable) (group : List Entry) (free : Bool) (s : Place) → n ≤ s.line → Later n (entry_of numbers vs group free s)
later-entry n numbers vs group free s h =
    later-then n (line_of s) _ (later-line n s h) (λ bs s1 h1.
    later-then n (given s1 (numbers bs) cause.Number) _ (later-given n s1 (numbers bs) cause.Number h1) (λ ns s2 h2.
    later-then n (given s2 (entry_in vs ns) cause.Range) _ (later-given n s2 (entry_in vs ns) cause.Range h2) (λ e s3 h3.
    later-then n (tested s3 (not (names e.variable group)) cause.Twice) _ (later-tested n s3 (not (names e.variable group)) cause.Twice h3) (λ _ s4 h4.
    later-then n (tested s4 free cause.Room) _ (later-tested n s4 free cause.Room h4) (λ _ s5 h5. h5)))))

later-group : (n : ℕ) (numbers : List ℕ → Option (Number × Number × Number × Number)) (vs : List Variable) (room first count : ℕ) (es : List Entry) (s : Place) → n ≤ s.line → Later n (group_of numbers vs room first count es s)
unfolding entry_more
later-group n numbers vs room first count es s h =
    later-turns n count (entry_more numbers vs room first) (λ b z l. later-then n (entry_of numbers vs (drop first b) (ltb (length b) room) z) _ (later-entry n numbers vs (drop first b) (ltb (length b) room) z l) (λ e z1 l1. l1)) es s h

later-operator : (n : ℕ) (vs : List Variable) (room : ℕ) (es : List Entry) (s : Place) → n ≤ s.line → Later n (operator_of vs room es s)
later-operator n vs room es s h =
    later-then n (name_of s) _ (later-name n s h) (λ name s1 h1.
    later-then n (below_from (length vs + 1) s1) _ (later-number n 0 (length vs + 1) s1 h1) (λ conditions s2 h2.
    later-then n (group_of fact_numbers vs room (length es) conditions es s2) _ (later-group n fact_numbers vs room (length es) conditions es s2 h2) (λ es1 s3 h3.
    later-then n (below_from (length vs + 1) s3) _ (later-number n 0 (length vs + 1) s3 h3) (λ effects s4 h4.
    later-then n (group_of effect_numbers vs room (length es) effects es1 s4) _ (later-group n effect_numbers vs room (length es) effects es1 s4 h4) (λ es2 s5 h5.
    later-then n (below_from 65536 s5) _ (later-number n 0 65536 s5 h5) (λ price s6 h6.
    later-then n (word_of (codes "end_operator") s6) _ (later-word n (codes "end_operator") s6 h6) (λ _ s7 h7. h7)))))))

later-operator-more : (n : ℕ) (vs : List Variable) (rooms room : ℕ) (b : List Operator × List Entry) (s : Place) → n ≤ s.line → Later n (operator_more vs rooms room b s)
unfolding operator_more
later-operator-more n vs rooms room b s h =
    later-then n (word_of (codes "begin_operator") (inside (Some (length b.0)) s)) _ (later-word n (codes "begin_operator") (inside (Some (length b.0)) s) h) (λ _ s1 h1.
    later-then n (tested s1 (ltb (length b.0) rooms) cause.Room) _ (later-tested n s1 (ltb (length b.0) rooms) cause.Room h1) (λ _ s2 h2.
    later-then n (operator_of vs room b.1 s2) _ (later-operator n vs room b.1 s2 h2) (λ o s3 h3. h3)))

later-operators : (n : ℕ) (vs : List Variable) (rooms room count : ℕ) (es : List Entry) (s : Place) → n ≤ s.line → Later n (operators_of vs rooms room count es s)
unfolding operators_of
later-operators n vs rooms room count es s h =
    later-then n (turns count (operator_more vs rooms room) ([], es) s) _ (later-turns n count (operator_more vs rooms room) (λ b z l. later-operator-more n vs rooms room b z l) ([], es) s h) (λ b s1 h1. h1)

later-ended : {A : Type 0} (n : ℕ) (a : A) (s : Place) → n ≤ s.line → Later n (ended a s)
later-ended {A} n a s h = by (eqb (length s.rest) 0)
  where
    by : (t : Bool) → Later n (cond t (read a s) (refused (fault_next s cause.After)))
    by true = h
    by false = omega arith

later-state : (n : ℕ) (vs : List Variable) (s : Place) → n ≤ s.line → Later n (state_of vs s)
later-state n vs s h =
    later-then n (word_of (codes "0") s) _ (later-word n (codes "0") s h) (λ _ s1 h1.
    later-then n (word_of (codes "begin_state") s1) _ (later-word n (codes "begin_state") s1 h1) (λ _ s2 h2.
    later-then n (initials_of [] vs s2) _ (later-initials n [] vs s2 h2) (λ ws s3 h3.
    later-then n (word_of (codes "end_state") s3) _ (later-word n (codes "end_state") s3 h3) (λ _ s4 h4. h4))))

later-goal : (n : ℕ) (vs : List Variable) (room : ℕ) (s : Place) → n ≤ s.line → Later n (goal_of vs room s)
later-goal n vs room s h =
    later-then n (word_of (codes "begin_goal") s) _ (later-word n (codes "begin_goal") s h) (λ _ s1 h1.
    later-then n (below_from (length vs + 1) s1) _ (later-number n 0 (length vs + 1) s1 h1) (λ count s2 h2.
    later-then n (group_of fact_numbers vs room 0 count [] s2) _ (later-group n fact_numbers vs room 0 count [] s2 h2) (λ es s3 h3.
    later-then n (word_of (codes "end_goal") s3) _ (later-word n (codes "end_goal") s3 h3) (λ _ s4 h4. h4))))

-- from the operators' number on
abbrev operators_part : List Variable → ℕ → ℕ → List Entry → Place → Step Held
operators_part ws rooms room gs s =
    and_then (below_from 257 s) (λ n s3.
    and_then (operators_of ws rooms room n gs s3) (λ b s4.
    and_then (word_of (codes "0") s4) (λ _ s5.
    ended (record { variables = ws; goals = length gs; operators = b.0; entries = b.1 }) s5)))

later_last : (n : ℕ) (ws : List Variable) (gs : List Entry) (b : List Operator × List Entry) (s : Place) → n ≤ s.line
    → Later n (and_then (word_of (codes "0") s) (λ _ s5. ended {A = Held} (record { variables = ws; goals = length gs; operators = b.0; entries = b.1 }) s5))
later_last n ws gs b s h = later-then n (word_of (codes "0") s) _ (later-word n (codes "0") s h) (λ _ s5 h5. later-ended n _ s5 h5)

later-part : (n : ℕ) (ws : List Variable) (rooms room : ℕ) (gs : List Entry) (s : Place) → n ≤ s.line → Later n (operators_part ws rooms room gs s)
later-part n ws rooms room gs s h =
    later-then n (below_from 257 s) _ (later-number n 0 257 s h) (λ c s3 h3.
    later-then n (operators_of ws rooms room c gs s3) _ (later-operators n ws rooms room c gs s3 h3) (λ b s4 h4. later_last n ws gs b s4 h4))

later-body : (n : ℕ) (vs : List Variable) (rooms room : ℕ) (s : Place) → n ≤ s.line → Later n (body_of vs rooms room s)
later-body n vs rooms room s h =
    later-then n (state_of vs s) _ (later-state n vs s h) (λ ws s1 h1.
    later-then n (goal_of ws room s1) _ (later-goal n ws room s1 h1) (λ gs s2 h2. later-part n ws rooms room gs s2 h2))

-- the same step, or ROOM where the other goes on
abbrev Alike : {A : Type 0} → Step A → Step A → Type 0
Alike g h = (g ≡ h) ⊎ ((f : Fault) × (g ≡ refused f) × (f.cause ≡ cause.Room) × Later f.line h)

alike_then : {A B : Type 0} (g h : Step A) (k l : A → Place → Step B) → Alike g h → ((a : A) (s : Place) → Alike (k a s) (l a s)) → ((n : ℕ) (a : A) (s : Place) → n ≤ s.line → Later n (l a s)) → Alike (and_then g k) (and_then h l)
alike_then (refused x) h k l (inl e) next later = inl (ap (λ z. and_then z l) e)
alike_then (read a s) h k l (inl e) next later = by (next a s)
  where
    by : Alike (k a s) (l a s) → Alike (k a s) (and_then h l)
    by (inl f) = inl (f ∙ ap (λ z. and_then z l) e)
    by (inr p) = inr (p.0, p.1, p.2, rw (← e) p.3)
alike_then g h k l (inr p) next later =
    inr (p.0, ap (λ z. and_then z k) p.1, p.2, later-then p.0.line h l p.3 (later p.0.line))

same : {A : Type 0} (g : Step A) → Alike g g
same g = inl refl

alike-room : (s : Place) (k room wider : ℕ) → room ≤ wider → Alike (tested s (ltb k room) cause.Room) (tested s (ltb k wider) cause.Room)
alike-room s k room wider h = by (cases_lt k room)
  where
    by : (k < room) ⊎ (room ≤ k) → Alike (tested s (ltb k room) cause.Room) (tested s (ltb k wider) cause.Room)
    by (inl l) =
        let t : ltb k room ≡ true = lt-ltb k room l in
        let u : ltb k wider ≡ true = lt-ltb k wider (omega arith) in
        inl (rw (t, u))
    by (inr l) =
        let t : ltb k room ≡ false = le-ltb k room l in
        inr (record { cause = cause.Room; line = s.line; operator = s.operator }, rw t, refl, later-tested s.line s (ltb k wider) cause.Room (omega arith))

alike-turns : {B : Type 0} (k : ℕ) (step wide : B → Place → Step B) → ((b : B) (s : Place) → Alike (step b s) (wide b s)) → ((n : ℕ) (b : B) (s : Place) → n ≤ s.line → Later n (wide b s)) → (b : B) (s : Place) → Alike (turns k step b s) (turns k wide b s)
unfolding turns
alike-turns zero step wide each later b s = inl refl
alike-turns (suc k) step wide each later b s =
    alike_then (step b s) (wide b s) _ _ (each b s) (λ b1 s1. alike-turns k step wide each later b1 s1) (λ n b1 s1 h. later-turns n k wide (later n) b1 s1 h)

alike-variables : (room wider : ℕ) → room ≤ wider → (vs : List Variable) (s : Place) → Alike (variable_more room vs s) (variable_more wider vs s)
unfolding variable_more
alike-variables room wider le vs s =
    alike_then (word_of (codes "begin_variable") s) (word_of (codes "begin_variable") s) _ _ (inl refl)
    (λ _ s1. alike_then (tested s1 (ltb (length vs) room) cause.Room) (tested s1 (ltb (length vs) wider) cause.Room) _ _ (alike-room s1 (length vs) room wider le) (λ _ s2. inl refl) (λ n _ s2 h. pushed n s2 h))
    (λ n _ s1 h. later-then n (tested s1 (ltb (length vs) wider) cause.Room) _ (later-tested n s1 (ltb (length vs) wider) cause.Room h) (λ _ s2 h2. pushed n s2 h2))
  where
    pushed : (n : ℕ) (s2 : Place) → n ≤ s2.line → Later n (and_then (variable_of s2) (λ v s3. read (vs ++ v ∷ []) s3))
    pushed n s2 h = later-then n (variable_of s2) _ (later-variable n s2 h) (λ v s3 h3. h3)

alike-entry : (numbers : List ℕ → Option (Number × Number × Number × Number)) (vs : List Variable) (room wider first : ℕ) → room ≤ wider → (es : List Entry) (s : Place) → Alike (entry_more numbers vs room first es s) (entry_more numbers vs wider first es s)
unfolding entry_more
alike-entry numbers vs room wider first le es s =
    alike_then (entry_of numbers vs (drop first es) (ltb (length es) room) s) (entry_of numbers vs (drop first es) (ltb (length es) wider) s) _ _
    (alike_then (line_of s) (line_of s) _ _ (inl refl)
    (λ bs s1. alike_then (given s1 (numbers bs) cause.Number) (given s1 (numbers bs) cause.Number) _ _ (inl refl)
    (λ ns s2. alike_then (given s2 (entry_in vs ns) cause.Range) (given s2 (entry_in vs ns) cause.Range) _ _ (inl refl)
    (λ e s3. alike_then (tested s3 (not (names e.variable (drop first es))) cause.Twice) (tested s3 (not (names e.variable (drop first es))) cause.Twice) _ _ (inl refl)
    (λ _ s4. alike_then (tested s4 (ltb (length es) room) cause.Room) (tested s4 (ltb (length es) wider) cause.Room) _ _ (alike-room s4 (length es) room wider le) (λ _ s5. inl refl) (λ n _ s5 h. h))
    (λ n _ s4 h. free n e s4 h))
    (λ n e s3 h. new n e s3 h))
    (λ n ns s2 h. ranged n ns s2 h))
    (λ n bs s1 h. later-then n (given s1 (numbers bs) cause.Number) _ (later-given n s1 (numbers bs) cause.Number h) (λ ns s2 h2. ranged n ns s2 h2)))
    (λ e s1. inl refl) (λ n e s1 h. h)
  where
    free : (n : ℕ) (e : Entry) (s4 : Place) → n ≤ s4.line → Later n (and_then (tested s4 (ltb (length es) wider) cause.Room) (λ _ s5. read e s5))
    free n e s4 h = later-then n (tested s4 (ltb (length es) wider) cause.Room) _ (later-tested n s4 (ltb (length es) wider) cause.Room h) (λ _ s5 h5. h5)

    new : (n : ℕ) (e : Entry) (s3 : Place) → n ≤ s3.line → Later n (and_then (tested s3 (not (names e.variable (drop first es))) cause.Twice) (λ _ s4. and_then (tested s4 (ltb (length es) wider) cause.Room) (λ _ s5. read e s5)))
    new n e s3 h = later-then n (tested s3 (not (names e.variable (drop first es))) cause.Twice) _ (later-tested n s3 (not (names e.variable (drop first es))) cause.Twice h) (λ _ s4 h4. free n e s4 h4)

    ranged : (n : ℕ) (ns : Number × Number × Number × Number) (s2 : Place) → n ≤ s2.line → Later n (and_then (given s2 (entry_in vs ns) cause.Range) (λ e s3. and_then (tested s3 (not (names e.variable (drop first es))) cause.Twice) (λ _ s4. and_then (tested s4 (ltb (length es) wider) cause.Room) (λ _ s5. read e s5))))
    ranged n ns s2 h = later-then n (given s2 (entry_in vs ns) cause.Range) _ (later-given n s2 (entry_in vs ns) cause.Range h) (λ e s3 h3. new n e s3 h3)

alike-group : (numbers : List ℕ → Option (Number × Number × Number × Number)) (vs : List Variable) (room wider first count : ℕ) → room ≤ wider → (es : List Entry) (s : Place) → Alike (group_of numbers vs room first count es s) (group_of numbers vs wider first count es s)
unfolding entry_more
alike-group numbers vs room wider first count le es s =
    alike-turns count (entry_more numbers vs room first) (entry_more numbers vs wider first) (alike-entry numbers vs room wider first le) (λ n b z h. later-entry-more n b z h) es s
  where
    later-entry-more : (n : ℕ) (b : List Entry) (z : Place) → n ≤ z.line → Later n (entry_more numbers vs wider first b z)
    later-entry-more n b z h = later-then n (entry_of numbers vs (drop first b) (ltb (length b) wider) z) _ (later-entry n numbers vs (drop first b) (ltb (length b) wider) z h) (λ e z1 l1. l1)

-- an operator after its conditions
abbrev effects_part : List Variable → ℕ → List Entry → Span → ℕ → List Entry → Place → Step (Operator × List Entry)
effects_part vs room es name conditions es1 s =
    and_then (below_from (length vs + 1) s) (λ effects s4.
    and_then (group_of effect_numbers vs room (length es) effects es1 s4) (λ es2 s5.
    and_then (below_from 65536 s5) (λ price s6.
    and_then (word_of (codes "end_operator") s6) (λ _ s7.
    read (record { name = name; price = price; first = length es; conditions = conditions; effects = effects }, es2) s7))))

abbrev price_part : List Entry → Span → ℕ → ℕ → List Entry → Place → Step (Operator × List Entry)
price_part es name conditions effects es2 s =
    and_then (below_from 65536 s) (λ price s6.
    and_then (word_of (codes "end_operator") s6) (λ _ s7.
    read (record { name = name; price = price; first = length es; conditions = conditions; effects = effects }, es2) s7))

later-price : (n : ℕ) (es : List Entry) (name : Span) (conditions effects : ℕ) (es2 : List Entry) (s : Place) → n ≤ s.line → Later n (price_part es name conditions effects es2 s)
later-price n es name conditions effects es2 s h =
    later-then n (below_from 65536 s) _ (later-number n 0 65536 s h) (λ price s6 h6.
    later-then n (word_of (codes "end_operator") s6) _ (later-word n (codes "end_operator") s6 h6) (λ _ s7 h7. h7))

later-effects : (n : ℕ) (vs : List Variable) (room : ℕ) (es : List Entry) (name : Span) (conditions : ℕ) (es1 : List Entry) (s : Place) → n ≤ s.line → Later n (effects_part vs room es name conditions es1 s)
later-effects n vs room es name conditions es1 s h =
    later-then n (below_from (length vs + 1) s) _ (later-number n 0 (length vs + 1) s h) (λ effects s4 h4.
    later-then n (group_of effect_numbers vs room (length es) effects es1 s4) _ (later-group n effect_numbers vs room (length es) effects es1 s4 h4) (λ es2 s5 h5. later-price n es name conditions effects es2 s5 h5))

later-conditions : (n : ℕ) (vs : List Variable) (room : ℕ) (es : List Entry) (name : Span) (s : Place) → n ≤ s.line
    → Later n (and_then (below_from (length vs + 1) s) (λ conditions s2. and_then (group_of fact_numbers vs room (length es) conditions es s2) (λ es1 s3. effects_part vs room es name conditions es1 s3)))
later-conditions n vs room es name s h =
    later-then n (below_from (length vs + 1) s) _ (later-number n 0 (length vs + 1) s h) (λ conditions s2 h2.
    later-then n (group_of fact_numbers vs room (length es) conditions es s2) _ (later-group n fact_numbers vs room (length es) conditions es s2 h2) (λ es1 s3 h3. later-effects n vs room es name conditions es1 s3 h3))

alike-effects : (vs : List Variable) (room wider : ℕ) → room ≤ wider → (es : List Entry) (name : Span) (conditions : ℕ) (es1 : List Entry) (s : Place) → Alike (effects_part vs room es name conditions es1 s) (effects_part vs wider es name conditions es1 s)
alike-effects vs room wider le es name conditions es1 s =
    alike_then (below_from (length vs + 1) s) (below_from (length vs + 1) s) _ _ (inl refl)
    (λ effects s4. alike_then (group_of effect_numbers vs room (length es) effects es1 s4) (group_of effect_numbers vs wider (length es) effects es1 s4) _ _ (alike-group effect_numbers vs room wider (length es) effects le es1 s4) (λ es2 s5. inl refl) (λ n es2 s5 h. later-price n es name conditions effects es2 s5 h))
    (λ n effects s4 h. later-then n (group_of effect_numbers vs wider (length es) effects es1 s4) _ (later-group n effect_numbers vs wider (length es) effects es1 s4 h) (λ es2 s5 h5. later-price n es name conditions effects es2 s5 h5))

alike-operator : (vs : List Variable) (room wider : ℕ) → room ≤ wider → (es : List Entry) (s : Place) → Alike (operator_of vs room es s) (operator_of vs wider es s)
alike-operator vs room wider le es s =
    alike_then (name_of s) (name_of s) _ _ (inl refl)
    (λ name s1. alike_then (below_from (length vs + 1) s1) (below_from (length vs + 1) s1) _ _ (inl refl)
    (λ conditions s2. alike_then (group_of fact_numbers vs room (length es) conditions es s2) (group_of fact_numbers vs wider (length es) conditions es s2) _ _ (alike-group fact_numbers vs room wider (length es) conditions le es s2)
    (λ es1 s3. alike-effects vs room wider le es name conditions es1 s3)
    (λ n es1 s3 h. later-effects n vs wider es name conditions es1 s3 h))
    (λ n conditions s2 h. later-then n (group_of fact_numbers vs wider (length es) conditions es s2) _ (later-group n fact_numbers vs wider (length es) conditions es s2 h) (λ es1 s3 h3. later-effects n vs wider es name conditions es1 s3 h3)))
    (λ n name s1 h. later-conditions n vs wider es name s1 h)

abbrev pushed_on : List Operator × List Entry → Operator × List Entry → Place → Step (List Operator × List Entry)
pushed_on b o s = read (b.0 ++ o.0 ∷ [], o.1) s

alike-operator-more : (vs : List Variable) (rooms more room wider : ℕ) → rooms ≤ more → room ≤ wider → (b : List Operator × List Entry) (s : Place) → Alike (operator_more vs rooms room b s) (operator_more vs more wider b s)
unfolding operator_more
alike-operator-more vs rooms more room wider lo le b s =
    alike_then (word_of (codes "begin_operator") (inside (Some (length b.0)) s)) (word_of (codes "begin_operator") (inside (Some (length b.0)) s)) _ _ (inl refl)
    (λ _ s1. alike_then (tested s1 (ltb (length b.0) rooms) cause.Room) (tested s1 (ltb (length b.0) more) cause.Room) _ _ (alike-room s1 (length b.0) rooms more lo)
    (λ _ s2. alike_then (operator_of vs room b.1 s2) (operator_of vs wider b.1 s2) _ _ (alike-operator vs room wider le b.1 s2) (λ o s3. inl refl) (λ n o s3 h. h))
    (λ n _ s2 h. pushed n s2 h))
    (λ n _ s1 h. later-then n (tested s1 (ltb (length b.0) more) cause.Room) _ (later-tested n s1 (ltb (length b.0) more) cause.Room h) (λ _ s2 h2. pushed n s2 h2))
  where
    pushed : (n : ℕ) (s2 : Place) → n ≤ s2.line → Later n (and_then (operator_of vs wider b.1 s2) (pushed_on b))
    pushed n s2 h = later-then n (operator_of vs wider b.1 s2) _ (later-operator n vs wider b.1 s2 h) (λ o s3 h3. h3)

alike-operators : (vs : List Variable) (rooms more room wider count : ℕ) → rooms ≤ more → room ≤ wider → (es : List Entry) (s : Place) → Alike (operators_of vs rooms room count es s) (operators_of vs more wider count es s)
unfolding operators_of
alike-operators vs rooms more room wider count lo le es s =
    alike_then (turns count (operator_more vs rooms room) ([], es) s) (turns count (operator_more vs more wider) ([], es) s) _ _
    (alike-turns count (operator_more vs rooms room) (operator_more vs more wider) (alike-operator-more vs rooms more room wider lo le) (λ n b z h. later-operator-more n vs more wider b z h) ([], es) s)
    (λ b s1. inl refl) (λ n b s1 h. h)

alike-goal : (vs : List Variable) (room wider : ℕ) → room ≤ wider → (s : Place) → Alike (goal_of vs room s) (goal_of vs wider s)
alike-goal vs room wider le s =
    alike_then (word_of (codes "begin_goal") s) (word_of (codes "begin_goal") s) _ _ (inl refl)
    (λ _ s1. alike_then (below_from (length vs + 1) s1) (below_from (length vs + 1) s1) _ _ (inl refl)
    (λ count s2. alike_then (group_of fact_numbers vs room 0 count [] s2) (group_of fact_numbers vs wider 0 count [] s2) _ _ (alike-group fact_numbers vs room wider 0 count le [] s2) (λ es s3. inl refl) (λ n es s3 h. closed n es s3 h))
    (λ n count s2 h. counted n count s2 h))
    (λ n _ s1 h. later-then n (below_from (length vs + 1) s1) _ (later-number n 0 (length vs + 1) s1 h) (λ count s2 h2. counted n count s2 h2))
  where
    closed : (n : ℕ) (es : List Entry) (s3 : Place) → n ≤ s3.line → Later n (and_then (word_of (codes "end_goal") s3) (λ _ s4. read es s4))
    closed n es s3 h = later-then n (word_of (codes "end_goal") s3) _ (later-word n (codes "end_goal") s3 h) (λ _ s4 h4. h4)

    counted : (n count : ℕ) (s2 : Place) → n ≤ s2.line → Later n (and_then (group_of fact_numbers vs wider 0 count [] s2) (λ es s3. and_then (word_of (codes "end_goal") s3) (λ _ s4. read es s4)))
    counted n count s2 h = later-then n (group_of fact_numbers vs wider 0 count [] s2) _ (later-group n fact_numbers vs wider 0 count [] s2 h) (λ es s3 h3. closed n es s3 h3)

alike-body : (vs : List Variable) (rooms more room wider : ℕ) → rooms ≤ more → room ≤ wider → (s : Place) → Alike (body_of vs rooms room s) (body_of vs more wider s)
alike-body vs rooms more room wider lo le s =
    alike_then (state_of vs s) (state_of vs s) _ _ (inl refl)
    (λ ws s1. alike_then (goal_of ws room s1) (goal_of ws wider s1) _ _ (alike-goal ws room wider le s1)
    (λ gs s2. alike_then (below_from 257 s2) (below_from 257 s2) _ _ (inl refl)
    (λ c s3. alike_then (operators_of ws rooms room c gs s3) (operators_of ws more wider c gs s3) _ _ (alike-operators ws rooms more room wider c lo le gs s3) (λ b s4. inl refl) (λ n b s4 h. later_last n ws gs b s4 h))
    (λ n c s3 h. later-then n (operators_of ws more wider c gs s3) _ (later-operators n ws more wider c gs s3 h) (λ b s4 h4. later_last n ws gs b s4 h4)))
    (λ n gs s2 h. later-part n ws more wider gs s2 h))
    (λ n ws s1 h. later-then n (goal_of ws wider s1) _ (later-goal n ws wider s1 h) (λ gs s2 h2. later-part n ws more wider gs s2 h2))

alike-whole : (room wide : Room) → room.variables ≤ wide.variables → room.operators ≤ wide.operators → room.entries ≤ wide.entries → (s : Place) → Alike (whole_of room s) (whole_of wide s)
unfolding whole_of
alike-whole room wide lv lo le s =
    alike_then (heading_of s) (heading_of s) _ _ (inl refl)
    (λ _ s1. alike_then (number_from 1 32 s1) (number_from 1 32 s1) _ _ (inl refl)
    (λ count s2. alike_then (turns count (variable_more room.variables) [] s2) (turns count (variable_more wide.variables) [] s2) _ _
    (alike-turns count (variable_more room.variables) (variable_more wide.variables) (alike-variables room.variables wide.variables lv) (λ n b z h. later-variables n wide.variables b z h) [] s2)
    (λ vs s3. alike-body vs room.operators wide.operators room.entries wide.entries lo le s3)
    (λ n vs s3 h. later-body n vs wide.operators wide.entries s3 h))
    (λ n count s2 h. listed n count s2 h))
    (λ n _ s1 h. later-then n (number_from 1 32 s1) _ (later-number n 1 33 s1 h) (λ count s2 h2. listed n count s2 h2))
  where
    listed : (n count : ℕ) (s2 : Place) → n ≤ s2.line → Later n (and_then (turns count (variable_more wide.variables) [] s2) (λ vs s3. body_of vs wide.operators wide.entries s3))
    listed n count s2 h = later-then n (turns count (variable_more wide.variables) [] s2) _ (later-turns n count (variable_more wide.variables) (λ b z l. later-variables n wide.variables b z l) [] s2 h) (λ vs s3 h3. later-body n vs wide.operators wide.entries s3 h3)

not-before : (n : ℕ) (g : Step Held) → Later n g → NotBefore n (outcome g)
not-before n (refused f) h = h
not-before n (read a s) h = tt

outcomes : (g h : Step Held) → Alike g h → SameOrRoom (outcome g) (outcome h)
outcomes g h (inl e) = inl (ap outcome e)
outcomes g h (inr p) = inr (p.0, ap outcome p.1, p.2, not-before p.0.line h p.3)

pub same-or-room : (text : List ℕ) (m n k m1 n1 k1 : ℕ) → m ≤ m1 → n ≤ n1 → k ≤ k1 → SameOrRoom (task_of text (room_of m n k)) (task_of text (room_of m1 n1 k1))
unfolding task_of
same-or-room text m n k m1 n1 k1 lm ln lk = by (leb (length text) 65536)
  where
    long : Fault
    long = record { cause = cause.Long; line = 0; operator = None }

    by : (t : Bool) → SameOrRoom (cond t (outcome (whole_of (room_of m n k) (top text))) (Err long)) (cond t (outcome (whole_of (room_of m1 n1 k1) (top text))) (Err long))
    by true = outcomes (whole_of (room_of m n k) (top text)) (whole_of (room_of m1 n1 k1) (top text)) (alike-whole (room_of m n k) (room_of m1 n1 k1) lm ln (omega arith) (top text))
    by false = inl refl
