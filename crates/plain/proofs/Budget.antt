-- How many expansions can be left.
use Rattle.std.proofs.Common.{◌≡◌, ℕ, zero, suc, ◌+◌, ◌-◌, ◌*◌, ◌<◌, ◌≤◌, List, [], ◌∷◌, ◌++◌, length, get_or, set, Some, None, Option, ap, le_of_suc-le-suc, not-suc-le-zero, mul-le-mul_right, arith, length-append, length-set}
use Rattle.task.specs.Model.{Cost, dearest}
use Rattle.plain.specs.Counts.{queue_count, expansions_left, all_left, Budget}
use Rattle.plain.specs.Plain.{Node, node}

pub queue-le : (o : Option ℕ) → queue_count o ≤ 1
queue-le None = omega arith
queue-le (Some h) = omega arith

pub left-set : (ns : List Node) (k : ℕ) (v : Node) → k < length ns → all_left (set ns k v) + expansions_left (node ns k) ≡ all_left ns + expansions_left v
left-set [] k v h = absurd (not-suc-le-zero h)
left-set (n ∷ ns) zero v h = omega arith
left-set (n ∷ ns) (suc k) v h = omega (arith, left-set ns k v (le_of_suc-le-suc h))

pub left-add : (ns : List Node) (v : Node) → all_left (ns ++ v ∷ []) ≡ all_left ns + expansions_left v
left-add [] v = omega arith
left-add (n ∷ ns) v = omega (arith, left-add ns v)

pub dearest-le : (row : List ℕ) (i : ℕ) → get_or row i 0 ≤ dearest row
dearest-le [] i = omega arith
dearest-le (p ∷ ps) zero = omega arith
dearest-le (p ∷ ps) (suc i) = omega (arith, dearest-le ps i)

pub cost-le : (held row is : List ℕ) → ((i : ℕ) → get_or held i 0 ≤ get_or row i 0) → Cost held is ≤ Cost row is
cost-le held row [] h = omega arith
cost-le held row (i ∷ is) h = omega (arith, h i, cost-le held row is h)

pub budget-set : (N K total : ℕ) (ns : List Node) (k : ℕ) (v : Node) → k < length ns → v.g < (node ns k).g → Budget N K total ns → Budget N K total (set ns k v)
budget-set N K total ns k v l f s = record {
  within = simp length-set s.within;
  paid = simp length-set (omega (arith, left-set ns k v l, queue-le v.queued, s.paid));
}

pub budget-add : (N K total : ℕ) (ns : List Node) (v : Node) → length ns < N → v.g ≤ length ns * K → Budget N K total ns → Budget N K total (ns ++ v ∷ [])
budget-add N K total ns v l f s =
    let a : v.g ≤ (N - 1) * K = grow in
    record {
      within = omega (arith, length-append ns (v ∷ []));
      paid = rw (length-append ns (v ∷ [])) (omega (arith, left-add ns v, queue-le v.queued, s.paid, a));
    }
  where
    up : length ns ≤ N - 1
    up = omega arith

    grow : v.g ≤ (N - 1) * K
    grow = omega (arith, mul-le-mul_right K up)

pub budget-take : (N K total : ℕ) (ns : List Node) (k h : ℕ) (v : Node) → k < length ns → v.g ≡ (node ns k).g → v.queued ≡ None → (node ns k).queued ≡ Some h →
    Budget N K total ns → Budget N K (total + 1) (set ns k v)
budget-take N K total ns k h v l eg ev ew s = record {
  within = simp length-set s.within;
  paid = simp length-set (omega (arith, left-set ns k v l, ap queue_count ev, ap queue_count ew, s.paid));
}

pub budget-total : (N K total : ℕ) (ns : List Node) → Budget N K total ns → total ≤ N * ((N - 1) * K + 1)
budget-total N K total ns s = omega (arith, s.paid, mul-le-mul_right ((N - 1) * K + 1) s.within)
