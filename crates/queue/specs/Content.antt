-- What a queue holds, in its callers' words: for each item number an entry or none; how the entries are arranged inside is left free.
use Rattle.std.specs.Prelude.{◌≡◌, ℕ, ◌+◌, Bool, true, cond, List, [], ◌∷◌, length, take, Some, None, Ok, Err, Option, Result, ◌==◌, nat_eq}
use Rattle.std.specs.Map.{update}
use Rattle.tables.specs.declared.cause.Cause.{Cause}
use Rattle.tables.specs.declared.cause.Cause.TheVariants as cause
use Rattle.queue.specs.declared.indexed.Heap.{Heap}
use Rattle.queue.specs.Heap.{Room, Indexed, HeapOrdered}

-- The first of some entries that is for an item, if any.
unfoldable pub held : {X : Type 0} → (X → ℕ) → List X → ℕ → Option X
held item_of [] item = None
held item_of (x ∷ entries) item = cond (item_of x == item) (Some x) (held item_of entries item)

-- The entry that the queue holds for an item, if any.
abbrev pub content : {X : Type 0} → (X → ℕ) → Heap X → ℕ → Option X
content item_of q = held item_of (take q.len q.entries.now)

-- What holds of the heap of every queue. It leaves no item two entries, so that `held` passes none by.
pub record Sound {X : Type 0} (item_of : X → ℕ) (no_later : X → X → Bool) (q : Heap X) : Type 0 where
  pub indexed : Indexed item_of q.entries.now q.places.now q.len
  pub ordered : HeapOrdered no_later q.entries.now q.len

-- The item numbers that the queue takes: those below the lengths of both entries and places.
abbrev pub Takes : {X : Type 0} → Heap X → ℕ → Type 0
Takes q item = Room q.entries.now q.places.now item

-- Both slices keep their lengths.
pub record Rows {X : Type 0} (p q : Heap X) : Type 0 where
  pub entries : length q.entries.now ≡ length p.entries.now
  pub places : length q.places.now ≡ length p.places.now

-- q holds what p does.
abbrev pub Unchanged : {X : Type 0} → (X → ℕ) → Heap X → Heap X → Type 0
Unchanged item_of p q = (k : ℕ) → content item_of q k ≡ content item_of p k

-- q holds what p does, but w for one item.
abbrev pub Changed : {X : Type 0} → (X → ℕ) → Heap X → Heap X → ℕ → Option X → Type 0
Changed item_of p q item w = (k : ℕ) → content item_of q k ≡ update nat_eq (content item_of p) item w k

abbrev pub counted : {X : Type 0} → Option X → ℕ
counted None = 0
counted (Some _) = 1

-- The length counts the entries: it follows the change of one item's entry to w.
abbrev pub Resized : {X : Type 0} → (X → ℕ) → Heap X → Heap X → ℕ → Option X → Type 0
Resized item_of p q item w = q.len + counted (content item_of p item) ≡ p.len + counted w

-- x is q's entry for its item, and comes no later than any entry of q.
pub record First {X : Type 0} (item_of : X → ℕ) (no_later : X → X → Bool) (q : Heap X) (x : X) : Type 0 where
  pub here : content item_of q (item_of x) ≡ Some x
  pub least : (k : ℕ) (y : X) → content item_of q k ≡ Some y → no_later x y ≡ true

pub record Accepted {X : Type 0} (item_of : X → ℕ) (x : X) (p q : Heap X) : Type 0 where
  pub takes : Takes p (item_of x)
  pub changed : Changed item_of p q (item_of x) (Some x)
  pub resized : Resized item_of p q (item_of x) (Some x)

pub record Refused {X : Type 0} (item_of : X → ℕ) (x : X) (p q : Heap X) (why : Cause) : Type 0 where
  pub cause : why ≡ cause.Item
  pub outside : Takes p (item_of x) → ⊥
  pub same : q ≡ p

-- The answers to putting x: x becomes its item's entry, or the item is none that p takes, and p stays as it is.
abbrev pub Put : {X V : Type 0} → (X → ℕ) → X → Heap X → Heap X → Result V Cause → Type 0
Put item_of x p q (Ok _) = Accepted item_of x p q
Put item_of x p q (Err why) = Refused item_of x p q why

pub record NoneTaken {X : Type 0} (item_of : X → ℕ) (p q : Heap X) : Type 0 where
  pub empty : (k : ℕ) → content item_of p k ≡ None
  pub same : q ≡ p

pub record FirstTaken {X : Type 0} (item_of : X → ℕ) (no_later : X → X → Bool) (p q : Heap X) (x : X) : Type 0 where
  pub first : First item_of no_later p x
  pub changed : Changed item_of p q (item_of x) None
  pub len : q.len + 1 ≡ p.len

-- The answers to taking: nothing, as p holds nothing, or a first entry of p, which is then gone.
abbrev pub Taken : {X : Type 0} → (X → ℕ) → (X → X → Bool) → Heap X → Heap X → Option X → Type 0
Taken item_of no_later p q None = NoneTaken item_of p q
Taken item_of no_later p q (Some x) = FirstTaken item_of no_later p q x
