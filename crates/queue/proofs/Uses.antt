-- How a caller reads the answer of `put`.
use Rattle.std.proofs.Common.{ℕ, Ok, Err, Result}
use Rattle.tables.specs.declared.cause.Cause.{Cause}
use Rattle.queue.specs.declared.indexed.Heap.{Heap}
use Rattle.queue.specs.Content.{Takes, Put, Accepted}

-- an entry of an item that the queue takes is accepted
pub put-done : {X V : Type 0} (item_of : X → ℕ) (p q : Heap X) (x : X) (r : Result V Cause) → Put item_of x p q r → Takes p (item_of x) → Accepted item_of x p q
put-done item_of p q x (Ok _) h t = h
put-done item_of p q x (Err _) h t = absurd (h.outside t)
