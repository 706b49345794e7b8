-- Calls given as data, their replies, and the run that they are.
use Rattle.std.specs.Prelude.{◌≡◌, ℕ, ◌+◌, Bool, false, Some, None, Option, List, [], ◌∷◌, ◌++◌, length, take, drop, Ok, Err, Result, slice_index_or}
use Rattle.tables.specs.declared.cause.Cause.{Cause}
use Rattle.plain.specs.declared.fault.Fault.{Fault}
use Rattle.plain.specs.declared.fault.Fault.TheVariants.{Own}
use Rattle.task.specs.Model.{Model}
use Rattle.plain.specs.Plain as plain
use Rattle.plain.specs.Plain.{Kind, Plain, Answer}
use Rattle.plain.specs.Runs.{Run, Exchange, Reached, Law}
use Rattle.search.specs.declared.data.Call.{Call}
use Rattle.search.specs.declared.data.Call.TheVariants as calls
use Rattle.search.specs.declared.data.Part.{Part}
use Rattle.search.specs.declared.data.Outcome.{Outcome}
use Rattle.search.specs.declared.data.Outcome.TheVariants as words
use Rattle.search.specs.declared.data.Reply.{Reply}
use Rattle.search.specs.Search.{find_of}

-- what a word of a reply says
abbrev pub SaysOutcome : Result Outcome Fault → plain.Outcome → Type 0
SaysOutcome (Err f) s = plain.refused f ≡ s
SaysOutcome (Ok words.Started) s = plain.started ≡ s
SaysOutcome (Ok words.More) s = plain.more ≡ s
SaysOutcome (Ok (words.Found f)) s = plain.found_plan (find_of f) ≡ s
SaysOutcome (Ok words.NoPlan) s = plain.no_plan ≡ s
SaysOutcome (Ok words.Full) s = plain.out_of_room ≡ s
SaysOutcome (Ok words.Bound) s = plain.bound_read ≡ s
SaysOutcome (Ok (words.Written n)) s = (w : List ℕ) × (s ≡ plain.written w) × (n ≡ length w)

-- what a reply says: the outcome, whether a go-ahead is handed out or back, and the bound and the total, if they are reported
pub record Says (r : Reply) (outcome : plain.Outcome) (go : Bool) (bound total : Option ℕ) : Type 0 where
  pub says : SaysOutcome r.outcome outcome
  pub hands : r.go ≡ go
  pub bounds : r.bound ≡ bound
  pub totals : r.total ≡ total

-- the reply with this outcome that reports no numbers
abbrev pub quiet : Result Outcome Fault → Bool → Reply
quiet o go = record { outcome = o; go = go; bound = None; total = None }

-- the reply of a writing is its result
abbrev pub SaysResult : Result ℕ Cause → Reply → Type 0
SaysResult (Ok n) r = r ≡ quiet (Ok (words.Written n)) false
SaysResult (Err c) r = r ≡ quiet (Err (Own c)) false

-- a part of a lent row or buffer, and the row or buffer with other content there
abbrev pub part_of : Part → List ℕ → List ℕ
part_of p xs = take p.len (drop p.from xs)

abbrev pub with_part : Part → List ℕ → List ℕ → List ℕ
with_part p xs ys = take p.from xs ++ (ys ++ drop p.len (drop p.from xs))

-- the lent row and the lent buffer
pub record Lent : Type 0 where
  pub row : List ℕ
  pub buffer : List ℕ

-- the call as the plain search has it, made with what is lent, and what is lent after it
abbrev pub CallMade : Call → Lent → Exchange → Lent → Type 0
CallMade (calls.Start p) a s b = (s.call ≡ plain.start (part_of p a.row)) × (b.row ≡ with_part p a.row s.answer.after) × (b.buffer ≡ a.buffer)
CallMade (calls.Advance n) a s b = (s.call ≡ plain.advance n) × (b ≡ a)
CallMade calls.Read a s b = (s.call ≡ plain.read) × (b ≡ a)
CallMade (calls.Write x c p) a s b = (s.call ≡ plain.write (record { node = x; cost = c }) (part_of p a.buffer)) × (b.row ≡ a.row) × (b.buffer ≡ with_part p a.buffer s.answer.after)

-- the bound that a call reports, and the total of expansions
abbrev pub told_bound : Call → Answer → Option ℕ
told_bound (calls.Start p) a = None
told_bound (calls.Advance n) a = Some a.bound
told_bound calls.Read a = Some a.bound
told_bound (calls.Write x c p) a = None

abbrev pub told_total : Call → Answer → Option ℕ
told_total (calls.Start p) a = None
told_total (calls.Advance n) a = Some a.total
told_total calls.Read a = None
told_total (calls.Write x c p) a = None

abbrev pub ReplyOf : Call → Reply → Answer → Type 0
ReplyOf c r a = Says r a.outcome a.go (told_bound c a) (told_total c a)

-- a writing into a part of the buffer, with its reply
abbrev pub WritesPart : (List ℕ → ℕ → List ℕ) → plain.Find → Part → List ℕ → Plain → Reply → List ℕ → Type 0
WritesPart text f part b p r b' = (a : Answer) × plain.Writes text f (part_of part b) p a × Says r a.outcome a.go None None × (b' ≡ with_part part b a.after)

-- one call, with its reply
pub record OneCall {E : Type 0} (est : Kind E) (t : Model) (N : ℕ) (text : List ℕ → ℕ → List ℕ) (c : Call) (row : Lent) (p : Plain) (e : E) (r : Reply) (row' : Lent) (p' : Plain) (e' : E) : Type 0 where
  pub step : Exchange
  pub asked : CallMade c row step row'
  pub says : ReplyOf c r step.answer
  pub does : plain.Does est t N text step.call p e step.answer p' e'

abbrev pub zero_node : Reply
zero_node = quiet (Ok words.Started) false

-- what stands past the last call
abbrev pub no_call : Call
no_call = calls.Start (record { from = 0; len = 0 })

-- the run is of the first n calls, answered as the replies say, and leaves this row
abbrev pub RunOf : List Call → List Reply → Lent → Run → ℕ → Lent → Type 0
RunOf cs rs row₀ [] n row = (n ≡ 0) × (row ≡ row₀)
RunOf cs rs row₀ (s ∷ run) n row =
    (m : ℕ) × (row' : Lent) × (n ≡ m + 1) × RunOf cs rs row₀ run m row' × CallMade (slice_index_or cs m no_call) row' s row × ReplyOf (slice_index_or cs m no_call) (slice_index_or rs m zero_node) s.answer

-- a run of the plain search with these calls and replies, and the law holds of it
pub record LawfulReplay {E : Type 0} (est : Kind E) (t : Model) (N : ℕ) (text : List ℕ → ℕ → List ℕ) (cs : List Call) (rs : List Reply) (n : ℕ) (row₀ row : Lent) (e₀ : E) (p : Plain) (e : E) : Type 0 where
  pub run : Run
  pub bound_read : RunOf cs rs row₀ run n row
  pub reached : Reached est t N text e₀ run p e
  pub law : Law t N text run p
