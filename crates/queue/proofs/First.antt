-- The top of the heap is a first entry of the queue.
use Rattle.std.proofs.Common.{◌≡◌, ℕ, ◌+◌, ◌<◌, Bool, get_or, Some, None, Option, refl, ⊎_elim, arith}
use Rattle.queue.specs.declared.indexed.Heap.{Heap}
use Rattle.queue.specs.Content.{content, Sound, First}
use Rattle.queue.proofs.Held.{held_none, held-some, either}
use Rattle.queue.specs.Lawful.Orders.{TotalOrder}
use Rattle.queue.proofs.Order.{least-top, compared}

same_some : {X : Type 0} (o : Option X) (x y : X) → o ≡ Some x → o ≡ Some y → x ≡ y
same_some o x y p q = cc

pub some-none : {X : Type 0} (o : Option X) (x : X) → o ≡ Some x → o ≡ None → ⊥
some-none o x p q = let z : ◌≡◌ {A = ℕ} 0 1 = cc in omega arith

pub first-held : {X : Type 0} (item_of : X → ℕ) (no_later : X → X → Bool) (o : TotalOrder no_later) (q : Heap X) (d : X) → 0 < q.len → Sound item_of no_later q
    → First item_of no_later q (get_or q.entries.now 0 d)
first-held item_of no_later o q d pos s =
    let xs = q.entries.now in
    record {
      here = held-some s.indexed (item_of (get_or xs 0 d)) 0 d pos refl;
      least = λ k y is.
          ⊎_elim
          (λ w.
          let i : ℕ = w.0 in
          compared no_later _ _ _ _ refl (same_some (content item_of q k) y (get_or xs i d) is (held-some s.indexed k i d w.1.within (w.1.is_for d)))
          (least-top no_later o xs q.len d s.ordered (i + 1) i (omega arith) w.1.within))
          (λ none. absurd (some-none (content item_of q k) y is (held_none s.indexed k none)))
          (either s.indexed k);
    }
