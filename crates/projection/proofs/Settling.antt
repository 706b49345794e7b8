-- A table that no step can lower any more has the distances; and the definitions have one meaning.
use Rattle.std.proofs.Common.{◌≡◌, ℕ, zero, suc, ◌+◌, ◌*◌, ◌<◌, ◌≤◌, cond, eqb, ltb, List, [], ◌∷◌, length, get_or, Some, None, Option, sym, refl, ap, ◌∙◌, subst, ⊎_elim, mul-le-mul_left, arith}
use Rattle.std.proofs.lemmas.Bool.{cases_eq, cases_lt, eq-eqb, ne_eqb, cond-true, cond-false, cond_both, lt-ltb, le-ltb}
use Rattle.task.specs.Model.{Model, IsState, Applies, applied, Plan, Cost}
use Rattle.abstraction.specs.Ranks.{product, rank}
use Rattle.abstraction.proofs.Ranks.{rank_lt, rank_same, state-fit}
use Rattle.projection.specs.Distances.{IsDistance, IsTable, IsHeld, OneMeaning}
use Rattle.projection.specs.Dijkstra.{entry, Witness, Settled}

-- operators lead from states to states
abbrev pub Closed : Model → Type 0
Closed P = (s : List ℕ) (o : ℕ) → IsState P s → Applies P s o → IsState P (applied P s o)

-- no price of the row is above 65,535
abbrev pub Low : List ℕ → Type 0
Low row = (o : ℕ) → get_or row o 0 ≤ 65535

pub state-rank : (P : Model) (table s : List ℕ) → length table ≡ product P.domains → IsState P s → rank P.domains s < length table
state-rank P table s l st = let h = rank_lt P.domains s (state-fit P s st) in omega arith

entry-below : (P : Model) (row table s p : List ℕ) → Closed P → Settled P row table → IsState P s → Plan P s p → entry P table s ≤ Cost row p
entry-below P row table s [] c t st plan = let h = t.goal s st plan in omega arith
entry-below P row table s (o ∷ p) c t st plan =
    let h = t.step s o st plan.0 in
    let i = entry-below P row table (applied P s o) p c t (c s o st plan.0) plan.1 in
    omega arith

-- how many of the first n entries are below x
abbrev below : List ℕ → ℕ → ℕ → ℕ
below table x zero = 0
below table x (suc n) = cond (ltb (get_or table n 0) x) 1 0 + below table x n

one_more : (d x y : ℕ) → x ≤ y → cond (ltb d x) 1 0 ≤ cond (ltb d y) 1 0
one_more d x y h = ⊎_elim
    (λ l. let a = cond-true {A = ℕ} (ltb d y) 1 0 (lt-ltb d y (omega arith)) in let b = cond_both {A = ℕ} (ltb d x) 1 0 (λ z. z ≤ 1) (λ e. omega arith) (λ e. omega arith) in omega arith)
    (λ l. let b = cond-false {A = ℕ} (ltb d x) 1 0 (le-ltb d x l) in omega arith)
    (cases_lt d x)

below-mono : (table : List ℕ) (x y n : ℕ) → x ≤ y → below table x n ≤ below table y n
below-mono table x y zero h = omega arith
below-mono table x y (suc n) h = let a = one_more (get_or table n 0) x y h in let b = below-mono table x y n h in omega arith

below-strict : (table : List ℕ) (x y n k : ℕ) → k < n → x ≤ get_or table k 0 → get_or table k 0 < y → below table x n + 1 ≤ below table y n
below-strict table x y zero k h l m = absurd (omega arith)
below-strict table x y (suc n) k h l m = ⊎_elim
    (λ e. let d = get_or table n 0 in
    let same : get_or table k 0 ≡ d = ap (λ z. get_or table z 0) e in
    let a = cond-false {A = ℕ} (ltb d x) 1 0 (le-ltb d x (omega arith)) in
    let b = cond-true {A = ℕ} (ltb d y) 1 0 (lt-ltb d y (omega arith)) in
    let c = below-mono table x y n (omega arith) in
    omega arith)
    (λ ne. let a = one_more (get_or table n 0) x y (omega arith) in let b = below-strict table x y n k (omega arith) l m in omega arith)
    (cases_eq k n)

below_all : (table : List ℕ) (x n : ℕ) → below table x n ≤ n
below_all table x zero = omega arith
below_all table x (suc n) =
    let b = cond_both {A = ℕ} (ltb (get_or table n 0) x) 1 0 (λ z. z ≤ 1) (λ e. omega arith) (λ e. omega arith) in
    let c = below_all table x n in omega arith

below-some : (table : List ℕ) (x n k : ℕ) → k < n → x ≤ get_or table k 0 → below table x n + 1 ≤ n
below-some table x n k h l = let a = below-strict table x (suc (get_or table k 0)) n k h l (omega arith) in let b = below_all table (suc (get_or table k 0)) n in omega arith

-- the entry of a least plan is at most the highest price times the number of lesser entries
entry-low : (P : Model) (row table s p : List ℕ) → Closed P → Low row → Settled P row table → IsState P s → Plan P s p → Cost row p ≡ entry P table s
    → entry P table s ≤ 65535 * below table (entry P table s) (length table)
entry-low P row table s [] c low t st plan e = let h = t.goal s st plan in omega arith
entry-low P row table s (o ∷ p) c low t st plan e =
    let b = applied P s o in
    let n = length table in
    let da = entry P table s in
    let db = entry P table b in
    let bs = c s o st plan.0 in
    let under = entry-below P row table b p c t bs plan.1 in
    let h = t.step s o st plan.0 in
    let same : Cost row p ≡ db = omega arith in
    let ih = entry-low P row table b p c low t bs plan.1 same in
    let price = low o in
    ⊎_elim
    (λ l.
    let k = state-rank P table b t.long bs in
    let i : below table db n + 1 ≤ below table da n = below-strict table db da n (rank P.domains b) k (omega arith) l in
    let d = mul-le-mul_left 65535 i in
    omega arith)
    (λ l. let q : db ≡ da = omega arith in subst (λ z. z ≤ 65535 * below table z n) q ih)
    (cases_lt db da)

same-state : (P : Model) (row table b : List ℕ) (k d : ℕ) → IsState P b → rank P.domains b ≡ k → (w : Witness P row k d) → w.from ≡ b
same-state P row table b k d bs e w = rank_same P.domains w.from b (state-fit P w.from w.state) (state-fit P b bs) (w.ranked ∙ sym e)

-- a state with a plan has a distance: 65,536 ranks and prices of at most 65,535 leave it below 4,294,967,295
entry-present : (P : Model) (row table s p : List ℕ) → Closed P → Low row → Settled P row table → IsState P s → Plan P s p → entry P table s ≡ 4294967295 → ⊥
entry-present P row table s [] c low t st plan e = let h = t.goal s st plan in omega arith
entry-present P row table s (o ∷ p) c low t st plan e =
    let b = applied P s o in
    let db = entry P table b in
    let bs = c s o st plan.0 in
    let k = state-rank P table b t.long bs in
    let w = t.sound (rank P.domains b) k (entry-present P row table b p c low t bs plan.1) in
    let same = same-state P row table b (rank P.domains b) db bs refl w in
    let l = entry-low P row table b w.plan c low t bs (subst (λ z. Plan P z w.plan) same w.plans) w.costs in
    let i = below-some table db (length table) (rank P.domains b) k (omega arith) in
    let f = t.few in
    let price = low o in
    let h = t.step s o st plan.0 in
    omega arith

pub settled-table : (P : Model) (row table : List ℕ) → Closed P → Low row → Settled P row table → IsTable P row table
settled-table P row table c low t s st =
    let k = state-rank P table s t.long st in
    let d = entry P table s in
    ⊎_elim
    (λ e. subst (IsDistance P row s) (sym (cond-true (eqb d 4294967295) None (Some d) (eq-eqb d 4294967295 e)))
    (λ p plan. entry-present P row table s p c low t st plan e))
    (λ ne.
    let w = t.sound (rank P.domains s) k ne in
    let same = same-state P row table s (rank P.domains s) d st refl w in
    subst (IsDistance P row s) (sym (cond-false (eqb d 4294967295) None (Some d) (ne_eqb d 4294967295 ne)))
    ((w.plan, subst (λ z. Plan P z w.plan) same w.plans, w.costs), λ p plan. entry-below P row table s p c t st plan))
    (cases_eq d 4294967295)

unique-distance : (P : Model) (row s : List ℕ) (x y : Option ℕ) → IsDistance P row s x → IsDistance P row s y → x ≡ y
unique-distance P row s None None h k = refl
unique-distance P row s None (Some n) h k = absurd (h k.0.0 k.0.1)
unique-distance P row s (Some m) None h k = absurd (k h.0.0 h.0.1)
unique-distance P row s (Some m) (Some n) h k =
    let a = h.1 k.0.0 k.0.1 in
    let b = k.1 h.0.0 h.0.1 in
    let c = h.0.2 in
    let d = k.0.2 in
    let e : m ≡ n = omega arith in
    ap Some e

unique-held : (P : Model) (table : List ℕ) (o x y : ℕ) → IsHeld P table o x → IsHeld P table o y → x ≡ y
unique-held P table o x y h k = ⊎_elim
    (λ (a : x ≡ 0). ⊎_elim
    (λ (b : y ≡ 0). omega arith)
    (λ b. let l = h.largest b.0 b.1 b.2 in let e = b.3 in omega arith)
    k.reached)
    (λ a. let l = k.largest a.0 a.1 a.2 in let e = a.3 in ⊎_elim
    (λ (b : y ≡ 0). omega arith)
    (λ b. let m = h.largest b.0 b.1 b.2 in let f = b.3 in omega arith)
    k.reached)
    h.reached

pub one-meaning : OneMeaning
one-meaning = record { one_distance = unique-distance; one_held = unique-held }
