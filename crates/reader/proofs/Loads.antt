-- What reading and making give together: exactly the texts of valid tasks are loaded, and each as its own task.
use Rattle.std.proofs.Common.{◌≡◌, ℕ, ◌+◌, ◌-◌, ◌≤◌, Bool, true, false, cond, leb, List, length, get_or, take, replicate, None, Ok, Err, Result, sym, refl, ap, subst, ◌∙◌, arith}
use Rattle.std.proofs.lemmas.List.{length-append, take_at, take-append-le}
use Rattle.std.proofs.lemmas.Bool.{leb-true, le-leb}
use Rattle.std.specs.List.{flat_map}
use Rattle.tables.specs.declared.cause.Cause.TheVariants as cause
use Rattle.tables.specs.declared.fault.Fault.{Fault}
use Rattle.tables.specs.declared.records.Counts.{Counts}
use Rattle.tables.specs.declared.records.Variable.{Variable}
use Rattle.tables.specs.declared.records.Operator.{Operator}
use Rattle.tables.specs.declared.records.Entry.{Entry}
use Rattle.task.specs.declared.task.Task.{Task}
use Rattle.tables.specs.Records.{zero_variable, zero_operator, zero_entry, spanned}
use Rattle.tables.specs.Rules.{Rules}
use Rattle.tables.specs.Lines.{nth_line}
use Rattle.task.specs.Making.{Accepts, MadeOf, Made}
use Rattle.lines.specs.Reading.{Place, Step, read, refused, top}
use Rattle.format.specs.Whole.{Held, Room, whole_of, room_of, outcome, task_of, counts_of, filled, TaskRead}
use Rattle.reader.specs.Named.{NamedTask, Valid, entries_of}
use Rattle.reader.specs.Rendering.{render}
use Rattle.reader.specs.Loading.{Enough, Shows, Read, Loaded}
use Rattle.reader.proofs.Whole.{whole_from}
use Rattle.reader.proofs.WholeReads.{Stating, TextReads, whole-reads}
use Rattle.reader.proofs.Rooms.{same-or-room}
use Rattle.reader.proofs.Stated.{rules-kept, model-stated, variable_names, value_names, operator_names}

abbrev long : Fault
long = record { cause = cause.Long; line = 0; operator = None }

-- an accepted reading, by its parts
outcome-parts : {C : Type 0} (g : Step Held) (h : Held) → outcome g ≡ Ok h → ((s : Place) → g ≡ read h s → C) → C
outcome-parts (read a s) h e k = let same : a ≡ h = cc in k s (ap (λ z. read z s) same)
outcome-parts (refused f) h e k = let bad : ◌≡◌ {A = ℕ} 0 1 = cc in let no_way : ⊥ = omega arith in absurd no_way

task-parts : {C : Type 0} (text : List ℕ) (room : Room) (h : Held) → task_of text room ≡ Ok h → (length text ≤ 65536 → (s : Place) → whole_of room (top text) ≡ read h s → C) → C
unfolding task_of
task-parts {C} text room h e k = by (leb (length text) 65536) refl e
  where
    by : (t : Bool) → leb (length text) 65536 ≡ t → cond t (outcome (whole_of room (top text))) (Err long) ≡ Ok h → C
    by true l f = outcome-parts (whole_of room (top text)) h f (k (leb-true (length text) 65536 l))
    by false l f = let bad : ◌≡◌ {A = ℕ} 0 1 = cc in let no_way : ⊥ = omega arith in absurd no_way

-- the text of a valid task is read as that task
record TaskReads (text : List ℕ) (m n k : ℕ) (t : NamedTask) : Type 0 where
  pub held : Held
  pub reads : task_of text (room_of m n k) ≡ Ok held
  pub states : Stating text t held

reads_made : (text : List ℕ) (m n k : ℕ) (t : NamedTask) → length text ≤ 65536 → text ≡ render t → TextReads (room_of m n k) t → TaskReads text m n k t
unfolding task_of
reads_made text m n k t short e q =
    let l : leb (length text) 65536 ≡ true = le-leb (length text) 65536 short in
    let st : Stating text t q.held = rw e q.states in
    record { held = q.held; reads = rw (l, e, q.reads); states = st }

task-reads : (text : List ℕ) (m n k : ℕ) (t : NamedTask) → Valid t → Enough t m n k → length text ≤ 65536 → text ≡ render t → TaskReads text m n k t
task-reads text m n k t valid enough short e =
    reads_made text m n k t short e (whole-reads (room_of m n k) t valid enough.variables enough.operators (omega (arith, enough.entries, valid.stored)))

-- what an accepted text states
record TaskFrom (text : List ℕ) (m n k : ℕ) (h : Held) (t : NamedTask) : Type 0 where
  pub valid : Valid t
  pub enough : Enough t m n k
  pub short : length text ≤ 65536
  pub bytes : text ≡ render t
  pub states : Stating text t h

from-made : (text : List ℕ) (m n k : ℕ) (h : Held) (t : NamedTask) → task_of text (room_of m n k) ≡ Ok h → Valid t → Enough t m n k → length text ≤ 65536 → text ≡ render t → TaskReads text m n k t → TaskFrom text m n k h t
from-made text m n k h t e valid enough short bytes q =
    let same : q.held ≡ h = cc q.reads in
    let st : Stating text t h = rw same at q.states in
    record { valid = valid; enough = enough; short = short; bytes = bytes; states = st }

task-from : {C : Type 0} (text : List ℕ) (m n k : ℕ) (h : Held) → task_of text (room_of m n k) ≡ Ok h → ((t : NamedTask) → TaskFrom text m n k h t → C) → C
task-from text m n k h e c =
    task-parts text (room_of m n k) h e (λ short s f.
    whole_from (room_of m n k) text h s (omega arith) f (λ t a.
    let enough : Enough t m n k = record { variables = a.variables; operators = a.operators; entries = omega (arith, a.entries) } in
    c t (from-made text m n k h t e a.valid enough short a.bytes (task-reads text m n k t a.valid enough short a.bytes))))

-- the records that are counted are those that were read
record Kept (h : Held) (m : ℕ) (vs : List Variable) (n : ℕ) (os : List Operator) (k : ℕ) (es : List Entry) : Type 0 where
  pub variables : vs ≡ filled h.variables m zero_variable
  pub operators : os ≡ filled h.operators n zero_operator
  pub entries : es ≡ filled h.entries k zero_entry

taken : {X : Type 0} (xs : List X) (n : ℕ) (z : X) (ys : List X) → ys ≡ filled xs n z → take (length xs) ys ≡ xs
taken xs n z ys e = rw e (take_at xs (replicate (n - length xs) z) (length xs) refl)

counted : {X : Type 0} (xs : List X) (n : ℕ) (z : X) (ys : List X) → ys ≡ filled xs n z → length xs ≤ length ys
counted xs n z ys e = let l : length ys ≡ length xs + length (replicate (n - length xs) z) = ap length e ∙ length-append xs (replicate (n - length xs) z) in omega arith

front : {X : Type 0} (xs : List X) (n : ℕ) (z : X) (ys : List X) (i : ℕ) → ys ≡ filled xs n z → i ≤ length xs → take i ys ≡ take i xs
front xs n z ys i e l = rw e (take-append-le i xs (replicate (n - length xs) z) l)

-- the records are accepted
accepted : (text : List ℕ) (t : NamedTask) (h : Held) (m : ℕ) (vs : List Variable) (n : ℕ) (os : List Operator) (k : ℕ) (es : List Entry) → Kept h m vs n os k es → Valid t → Stating text t h → Accepts text vs os es (counts_of h)
accepted text t h m vs n os k es kept valid st =
    let e1 = taken h.variables m zero_variable vs kept.variables in
    let e2 = taken h.operators n zero_operator os kept.operators in
    let e3 = taken h.entries k zero_entry es kept.entries in
    let goal : h.goals ≤ length h.entries = omega (arith, st.goals, ap length st.entries, length-append t.goal (flat_map entries_of t.operators)) in
    let e4 = front h.entries k zero_entry es h.goals kept.entries goal in
    let rules : Rules text (take (length h.variables) vs) (take h.goals es) (take (length h.operators) os) (take (length h.entries) es) = rw (e1, e2, e3, e4) (rules-kept text t h valid st) in
    record {
      variables = counted h.variables m zero_variable vs kept.variables;
      operators = counted h.operators n zero_operator os kept.operators;
      entries = counted h.entries k zero_entry es kept.entries;
      goals = goal;
      rules = rules;
    }

-- the task that was made shows t
shown : (text : List ℕ) (t : NamedTask) (h : Held) (m : ℕ) (vs : List Variable) (n : ℕ) (os : List Operator) (k : ℕ) (es : List Entry) (u : Task) → Kept h m vs n os k es → Valid t → Stating text t h → MadeOf text vs os es (counts_of h) u → Shows u t
shown text t h m vs n os k es u kept valid st made =
    let e1 = taken h.variables m zero_variable vs kept.variables in
    let e2 = taken h.operators n zero_operator os kept.operators in
    let e3 = taken h.entries k zero_entry es kept.entries in
    let goal : h.goals ≤ length h.entries = omega (arith, st.goals, ap length st.entries, length-append t.goal (flat_map entries_of t.operators)) in
    let e4 = front h.entries k zero_entry es h.goals kept.entries goal in
    let ws : u.variables.now ≡ h.variables = made.variables_are ∙ e1 in
    let rs : u.operators.now ≡ h.operators = made.operators_are ∙ e2 in
    let tx : u.text.now ≡ text = made.text_is in
    record {
      model_is = made.model_is ∙ (rw (e1, e2, e3, e4) (model-stated text t h st));
      variable_names = λ v d l. ap (λ z. spanned u.text.now (get_or z v zero_variable).name) ws ∙ (ap (λ z. spanned z (get_or h.variables v zero_variable).name) tx ∙ variable_names text t.variables h.variables st.variables v d l);
      value_names = λ v x d l b. ap (λ z. nth_line x (spanned u.text.now (get_or z v zero_variable).values)) ws ∙ (ap (λ z. nth_line x (spanned z (get_or h.variables v zero_variable).values)) tx ∙ value_names text t.variables h.variables st.variables valid.variables v x d l b);
      operator_names = λ i d l. ap (λ z. spanned u.text.now (get_or z i zero_operator).name) rs ∙ (ap (λ z. spanned z (get_or h.operators i zero_operator).name) tx ∙ operator_names text (length t.goal) t.operators h.operators st.operators i d l);
    }

-- a reading that was refused
read-err : (g : Result Held Fault) (f : Fault) (m : ℕ) (vs : List Variable) (n : ℕ) (os : List Operator) (k : ℕ) (es : List Entry) → TaskRead g (Err f) m vs n os k es → g ≡ Err f
read-err (Ok h) f m vs n os k es r = let bad : ◌≡◌ {A = ℕ} 0 1 = cc r.0 in let no_way : ⊥ = omega arith in absurd no_way
read-err (Err x) f m vs n os k es r = let same : f ≡ x = cc r.0 in ap Err (sym same)

pub read-refused : (text : List ℕ) (m n k : ℕ) (f : Fault) (vs : List Variable) (os : List Operator) (es : List Entry) → TaskRead (task_of text (room_of m n k)) (Err f) m vs n os k es → Read text m n k (Err f)
read-refused text m n k f vs os es r =
    let g = read-err (task_of text (room_of m n k)) f m vs n os k es r in
    record {
      accepted = λ u e. (let bad : ◌≡◌ {A = ℕ} 0 1 = cc in let no_way : ⊥ = omega arith in absurd no_way);
      accepts = λ t valid enough short bytes. (let q = task-reads text m n k t valid enough short bytes in let bad : ◌≡◌ {A = ℕ} 0 1 = cc (q.reads, g) in let no_way : ⊥ = omega arith in absurd no_way);
      wider = λ m1 n1 k1. same-or-room text m n k m1 n1 k1;
      refused = λ f1 e. (let same : f ≡ f1 = cc in g ∙ ap Err same);
    }

-- a reading that was accepted, and the making after it
made_of : (text : List ℕ) (m n k : ℕ) (h : Held) (vs : List Variable) (os : List Operator) (es : List Entry) (r : Result Task Fault) (t : NamedTask) → Kept h m vs n os k es → TaskFrom text m n k h t → Made text vs os es (counts_of h) r → task_of text (room_of m n k) ≡ Ok h → Read text m n k r
made_of text m n k h vs os es (Ok u) t kept from made e =
    let showing = λ (w : Task) (same : u ≡ w). (let P : Task → Type 0 = λ x. Shows x t in subst P same (shown text t h m vs n os k es u kept from.valid from.states made.1)) in
    record {
      accepted = λ w o. (let same : u ≡ w = cc in (t, from.valid, from.enough, from.short, from.bytes, showing w same));
      accepts = λ t1 valid enough short bytes.
          (let q = task-reads text m n k t1 valid enough short bytes in
          let same : q.held ≡ h = cc (q.reads, e) in
          let st : Stating text t1 h = rw same at q.states in
          (u, refl, shown text t1 h m vs n os k es u kept valid st made.1));
      wider = λ m1 n1 k1. same-or-room text m n k m1 n1 k1;
      refused = λ f1 g. (let bad : ◌≡◌ {A = ℕ} 0 1 = cc in let no_way : ⊥ = omega arith in absurd no_way);
    }
made_of text m n k h vs os es (Err f) t kept from made e = absurd (made.0 (accepted text t h m vs n os k es kept from.valid from.states))

read_ok : {C : Type 0} (g : Result Held Fault) (c : Counts) (m : ℕ) (vs : List Variable) (n : ℕ) (os : List Operator) (k : ℕ) (es : List Entry) → TaskRead g (Ok c) m vs n os k es → ((h : Held) → g ≡ Ok h → counts_of h ≡ c → Kept h m vs n os k es → C) → C
read_ok (Ok h) c m vs n os k es r next = let same : c ≡ counts_of h = cc r.0 in next h refl (sym same) (record { variables = r.1; operators = r.2; entries = r.3 })
read_ok (Err x) c m vs n os k es r next = let bad : ◌≡◌ {A = ℕ} 0 1 = cc r.0 in let no_way : ⊥ = omega arith in absurd no_way

pub read-accepted : (text : List ℕ) (m n k : ℕ) (c : Counts) (vs : List Variable) (os : List Operator) (es : List Entry) (r : Result Task Fault) → TaskRead (task_of text (room_of m n k)) (Ok c) m vs n os k es → Made text vs os es c r → Read text m n k r
read-accepted text m n k c vs os es r q made =
    read_ok (task_of text (room_of m n k)) c m vs n os k es q (λ h e same kept.
    task-from text m n k h e (λ t from.
    made_of text m n k h vs os es r t kept from (rw same made) e))

-- the task that is answered, put in a task's place
pub loaded-accepted : (text : List ℕ) (m n k : ℕ) (t0 u : Task) → Read text m n k (Ok u) → Loaded text m n k (Ok tt) t0 u
loaded-accepted text m n k t0 u q =
    record {
      accepted = λ _. q.accepted u refl;
      accepts = λ t valid enough short bytes.
          (let a = q.accepts t valid enough short bytes in
          let same : a.0 ≡ u = cc (a.1) in
          let P : Task → Type 0 = λ x. Shows x t in
          (refl, subst P same a.2));
      wider = q.wider;
      refused = λ f e. (let bad : ◌≡◌ {A = ℕ} 0 1 = cc in let no_way : ⊥ = omega arith in absurd no_way);
    }

pub loaded-refused : (text : List ℕ) (m n k : ℕ) (f : Fault) (t0 : Task) → Read text m n k (Err f) → Loaded text m n k (Err f) t0 t0
loaded-refused text m n k f t0 q =
    record {
      accepted = λ e. (let bad : ◌≡◌ {A = ℕ} 0 1 = cc in let no_way : ⊥ = omega arith in absurd no_way);
      accepts = λ t valid enough short bytes. (let a = q.accepts t valid enough short bytes in let bad : ◌≡◌ {A = ℕ} 0 1 = cc (a.1) in let no_way : ⊥ = omega arith in absurd no_way);
      wider = q.wider;
      refused = λ f1 e. (let same : f ≡ f1 = cc in (q.refused f1 (ap Err same), refl));
    }
