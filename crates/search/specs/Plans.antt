-- The result of a writing, as the plain search's answer has it.
use Rattle.std.specs.Prelude.{◌≡◌, ℕ, List, length, Ok, Err, Result}
use Rattle.tables.specs.declared.cause.Cause.{Cause}
use Rattle.plain.specs.Plain as plain

-- accepted, the text's length; refused, the cause; and the buffer after it
abbrev pub Written : Result ℕ Cause → List ℕ → plain.Answer → Type 0
Written (Ok n) buffer a = (w : List ℕ) × (a.outcome ≡ plain.written w) × (n ≡ length w) × (a.after ≡ buffer)
Written (Err c) buffer a = (a.outcome ≡ plain.refusal c) × (a.after ≡ buffer)
