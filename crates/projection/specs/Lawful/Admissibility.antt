-- No distance is above the cost, at held prices, of a plan of the task.
use Rattle.std.specs.Prelude.{◌≡◌, ℕ, ◌+◌, ◌<◌, ◌≤◌, List, [], ◌∷◌, length, Some, None, Option, slice_index, slice_index_or, refl}
use Rattle.std.proofs.Common.{sym, ap, ◌∙◌, subst, arith}
use Rattle.std.proofs.lemmas.List.{length-map}
use Rattle.task.specs.Model.{Model, IsState, Applies, applied, Plan, Cost, WellFormed}
use Rattle.estimator.specs.Price.{Admissible}
use Rattle.abstraction.specs.Patterns.{IsPattern, abstraction}
use Rattle.abstraction.specs.Projected.{projected, cut_action}
use Rattle.abstraction.specs.Lawful.Projecting.{abstract-state, abstract-applies, abstract-applied, abstract-plan}
use Rattle.projection.specs.Distances.{IsDistance, at, IsTable, HeldRow}

number : (T : Model) (s : List ℕ) (o : ℕ) → Applies T s o → o < length T.operators
unfolding Applies
number T s o a = a.0

-- the distance of a state's abstract state is at most the cost, at held prices, of a plan from the state
pub held-covers : (T : Model) (pattern row table held s p : List ℕ) → WellFormed T → IsPattern T pattern → IsTable (projected T pattern) row table → HeldRow (projected T pattern) table held
    → IsState T s → Plan T s p → (m : ℕ) → at (projected T pattern) table (abstraction pattern s) ≡ Some m → m ≤ Cost held p
held-covers T pattern row table held s [] f w tab hold st plan m e =
    (subst (IsDistance (projected T pattern) row (abstraction pattern s)) e (tab (abstraction pattern s) (abstract-state T pattern s w st))).1 [] (abstract-plan T pattern s [] f w st plan)
held-covers T pattern row table held s (o ∷ p) f w tab hold st plan m e =
    let P = projected T pattern in
    let a = abstraction pattern s in
    let t = applied T s o in
    let next : IsState T t = f.stays s o st plan.0 in
    let b = abstraction pattern t in
    let leads : b ≡ applied P a o = abstract-applied T pattern s o w st plan.0 in
    let l : length P.operators ≡ length T.operators = length-map T.operators (cut_action pattern) in
    let listed = number T s o plan.0 in
    let go : (x : Option ℕ) → at P table b ≡ x → m ≤ slice_index held o + Cost held p = λ x. elim x as (λ x. at P table b ≡ x → m ≤ slice_index held o + Cost held p) [
      | Some n ↦ λ q.
          let d : m ≤ n + slice_index_or held o 0 = (hold.each o (omega arith)).largest m n (record {
            from = a;
            state = abstract-state T pattern s w st;
            applies = abstract-applies T pattern s o plan.0;
            here = e;
            there = ap (at P table) (sym leads) ∙ q;
          }) in
          let r : n ≤ Cost held p = held-covers T pattern row table held t p f w tab hold next plan.1 n q in
          omega arith
      | None ↦ λ q. absurd (subst (IsDistance P row b) q (tab b (abstract-state T pattern t w next)) p (abstract-plan T pattern t p f w next plan.1))
    ] in
    go (at P table b) refl

-- the answer from the table keeps to what an estimator owes
pub table-admits : (T : Model) (pattern row table held s : List ℕ) → WellFormed T → IsPattern T pattern → IsTable (projected T pattern) row table → HeldRow (projected T pattern) table held
    → IsState T s → (x : Option ℕ) → at (projected T pattern) table (abstraction pattern s) ≡ x → Admissible T held s x
table-admits T pattern row table held s f w tab hold st (Some n) e = λ p plan. held-covers T pattern row table held s p f w tab hold st plan n e
table-admits T pattern row table held s f w tab hold st None e = λ p plan.
    subst (IsDistance (projected T pattern) row (abstraction pattern s)) e (tab (abstraction pattern s) (abstract-state T pattern s w st)) p (abstract-plan T pattern s p f w st plan)
