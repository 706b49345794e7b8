-- What a tail's methods do: they write bytes right before what is written.
use Rattle.std.specs.Prelude.{◌≡◌, ℕ, ◌+◌, List, ◌++◌, length, drop}
use Rattle.text.specs.declared.Tail.{Tail}

-- the bytes stand before what was written, in the same buffer
pub record Prepends (t : Tail) (bytes : List ℕ) (t' : Tail) : Type 0 where
  pub same_buffer : t'.buffer.ghost_name ≡ t.buffer.ghost_name
  pub at : t'.at + length bytes ≡ t.at
  pub tail : drop t'.at t'.buffer.now ≡ bytes ++ drop t.at t.buffer.now
