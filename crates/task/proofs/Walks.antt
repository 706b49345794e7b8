-- Lists of operators that are joined, and one operator more at a list's end.
use Rattle.std.proofs.Common.{◌≡◌, ℕ, zero, suc, ◌+◌, min, List, [], ◌∷◌, ◌++◌, get_or, take, sym, refl, ap, ◌∙◌, add-zero, add_assoc, zero-add, arith}
use Rattle.task.specs.Model.{Model, Applies, applied, Leads, Cost}
use Rattle.task.specs.Walking.{CostsJoin, LeadsJoin}

pub costs-join : CostsJoin
costs-join row [] q = sym (zero-add (Cost row q))
costs-join row (i ∷ p) q = ap (λ n. get_or row i 0 + n) (costs-join row p q) ∙ sym (add_assoc (get_or row i 0) (Cost row p) (Cost row q))

pub leads-join : (T : Model) → LeadsJoin T
leads-join T [] q s u w e l = rw e l
leads-join T (i ∷ p) q s u w l m = (l.0, leads-join T p q (applied T s i) u w l.1 m)

pub leads-more : (T : Model) (s u p : List ℕ) (i : ℕ) → Leads T s p u → Applies T u i → Leads T s (p ++ i ∷ []) (applied T u i)
leads-more T s u p i l a = leads-join T p (i ∷ []) s u (applied T u i) l (a, refl)

pub cost-more : (row p : List ℕ) (i : ℕ) → Cost row (p ++ i ∷ []) ≡ Cost row p + get_or row i 0
cost-more row p i = costs-join row p (i ∷ []) ∙ ap (λ n. Cost row p + n) (add-zero (get_or row i 0))

-- a walk of no steps stays
pub no_steps : (T : Model) (s u p : List ℕ) (k : ℕ) → k ≡ 0 → Leads T s (take k p) u → s ≡ u
no_steps T s u p zero e l = l
no_steps T s u p (suc k) e l = absurd (omega arith)

-- a sum that is cut may be cut on the way
pub cut_sum : (a b m : ℕ) → min (min a m + b) m ≡ min (a + b) m
cut_sum a b m = omega arith
