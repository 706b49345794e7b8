-- The worked example's numbers, state by state and operator by operator.
use Rattle.std.proofs.Common.{◌≡◌, ℕ, zero, suc, ◌+◌, ◌<◌, ◌≤◌, ◌⊎◌, List, [], ◌∷◌, length, get_or, sym, refl, ap, ◌∙◌, subst, inl, inr, arith}
use Rattle.task.specs.Model.{Model, prices, IsState, IsGoal, Applies, applied}
use Rattle.abstraction.specs.Ranks.{rank}
use Rattle.projection.specs.Distances.{IsTable, StepBetween, IsHeld}
use Rattle.projection.specs.Dijkstra.{entry, Witness}
use Rattle.projection.specs.Example.{sofa, by_sofa, by_door, SofaNumbers}
use Rattle.projection.proofs.Settling.{Closed, Low, settled-table}
use Rattle.projection.proofs.Saturation.{missing}

-- a row of one value
single : (s : List ℕ) → length s ≡ 1 → s ≡ get_or s 0 0 ∷ []
single [] e = absurd (omega arith)
single (x ∷ []) e = refl
single (x ∷ y ∷ s) e = absurd (omega arith)

-- steps that fall by no more than the held prices keep each held price from above
held-from : (P : Model) (table : List ℕ) (o h : ℕ) → ((s : List ℕ) → IsState P s → Applies P s o → entry P table s ≤ entry P table (applied P s o) + h)
    → (h ≡ 0) ⊎ ((m : ℕ) × (n : ℕ) × StepBetween P table o m n × (m ≡ n + h)) → IsHeld P table o h
held-from P table o h steps r = record {
  largest = λ m n f.
      let x = (missing (entry P table f.from) m f.here).1 in
      let y = (missing (entry P table (applied P f.from o)) n f.there).1 in
      let z = steps f.from f.state f.applies in
      omega arith;
  reached = r;
}

-- states of one variable
state-of-one : (P : Model) (d x : ℕ) → P.domains ≡ d ∷ [] → x < d → IsState P (x ∷ [])
state-of-one P d x e h = record {
  long = sym (ap length e);
  within = subst (λ z. (v : ℕ) → v < 1 → get_or (x ∷ []) v 0 < get_or z v 0) (sym e) one;
}
  where
    one : (v : ℕ) → v < 1 → get_or (x ∷ []) v 0 < get_or (d ∷ []) v 0
    one zero l = h
    one (suc v) l = absurd (omega arith)

-- what one step of the sofa is: no entry falls by more than the held price, and it leads to a state
abbrev SofaStep : List ℕ → ℕ → Type 0
SofaStep s o = (entry by_sofa (5 ∷ 2 ∷ 0 ∷ []) s ≤ entry by_sofa (5 ∷ 2 ∷ 0 ∷ []) (applied by_sofa s o) + get_or (0 ∷ 3 ∷ 2 ∷ 5 ∷ []) o 0) × IsState by_sofa (applied by_sofa s o)

sofa-at : (x o : ℕ) → x < 3 → Applies by_sofa (x ∷ []) o → SofaStep (x ∷ []) o
unfolding Applies applied
sofa-at zero zero h a = (omega arith, state-of-one by_sofa 3 0 refl (omega arith))
sofa-at zero (suc zero) h a = (omega arith, state-of-one by_sofa 3 1 refl (omega arith))
sofa-at zero (suc (suc zero)) h a = absurd (let z = a.2.0 in omega arith)
sofa-at zero (suc (suc (suc zero))) h a = (omega arith, state-of-one by_sofa 3 2 refl (omega arith))
sofa-at zero (suc (suc (suc (suc o)))) h a = absurd (let z = a.0 in omega arith)
sofa-at (suc zero) zero h a = (omega arith, state-of-one by_sofa 3 1 refl (omega arith))
sofa-at (suc zero) (suc zero) h a = absurd (let z = a.2.0 in omega arith)
sofa-at (suc zero) (suc (suc zero)) h a = (omega arith, state-of-one by_sofa 3 2 refl (omega arith))
sofa-at (suc zero) (suc (suc (suc zero))) h a = absurd (let z = a.2.0 in omega arith)
sofa-at (suc zero) (suc (suc (suc (suc o)))) h a = absurd (let z = a.0 in omega arith)
sofa-at (suc (suc zero)) zero h a = (omega arith, state-of-one by_sofa 3 2 refl (omega arith))
sofa-at (suc (suc zero)) (suc zero) h a = absurd (let z = a.2.0 in omega arith)
sofa-at (suc (suc zero)) (suc (suc zero)) h a = absurd (let z = a.2.0 in omega arith)
sofa-at (suc (suc zero)) (suc (suc (suc zero))) h a = absurd (let z = a.2.0 in omega arith)
sofa-at (suc (suc zero)) (suc (suc (suc (suc o)))) h a = absurd (let z = a.0 in omega arith)
sofa-at (suc (suc (suc x))) o h a = absurd (omega arith)

sofa-step : (s : List ℕ) (o : ℕ) → IsState by_sofa s → Applies by_sofa s o → SofaStep s o
sofa-step s o st a =
    let e = single s st.long in
    subst (λ z. SofaStep z o) (sym e) (sofa-at (get_or s 0 0) o (st.within 0 (let l = st.long in omega arith)) (subst (λ z. Applies by_sofa z o) e a))

sofa-goal : (s : List ℕ) → IsState by_sofa s → IsGoal by_sofa s → entry by_sofa (5 ∷ 2 ∷ 0 ∷ []) s ≡ 0
unfolding IsGoal
sofa-goal s st g = ap (entry by_sofa (5 ∷ 2 ∷ 0 ∷ [])) (single s st.long ∙ ap (λ z. z ∷ []) g.0)

-- a plan from each state, by its rank
sofa-plan : (k : ℕ) → k < 3 → Witness by_sofa (prices sofa) k (get_or (5 ∷ 2 ∷ 0 ∷ []) k 0)
unfolding Applies applied IsGoal
sofa-plan zero h = record {
  from = 0 ∷ [];
  plan = 1 ∷ 2 ∷ [];
  state = state-of-one by_sofa 3 0 refl (omega arith);
  ranked = refl;
  costs = refl;
  plans = ((omega arith, tt, (refl, tt)), ((omega arith, tt, (refl, tt)), (refl, tt)));
}
sofa-plan (suc zero) h = record {
  from = 1 ∷ [];
  plan = 2 ∷ [];
  state = state-of-one by_sofa 3 1 refl (omega arith);
  ranked = refl;
  costs = refl;
  plans = ((omega arith, tt, (refl, tt)), (refl, tt));
}
sofa-plan (suc (suc zero)) h = record {
  from = 2 ∷ [];
  plan = [];
  state = state-of-one by_sofa 3 2 refl (omega arith);
  ranked = refl;
  costs = refl;
  plans = (refl, tt);
}
sofa-plan (suc (suc (suc k))) h = absurd (omega arith)

sofa-prices : (o : ℕ) → get_or (0 ∷ 3 ∷ 2 ∷ 5 ∷ []) o 0 + get_or (1 ∷ 0 ∷ 0 ∷ 2 ∷ []) o 0 ≡ get_or (prices sofa) o 0
sofa-prices zero = refl
sofa-prices (suc zero) = refl
sofa-prices (suc (suc zero)) = refl
sofa-prices (suc (suc (suc zero))) = refl
sofa-prices (suc (suc (suc (suc o)))) = refl

sofa-low : Low (prices sofa)
sofa-low zero = omega arith
sofa-low (suc zero) = omega arith
sofa-low (suc (suc zero)) = omega arith
sofa-low (suc (suc (suc zero))) = omega arith
sofa-low (suc (suc (suc (suc o)))) = omega arith

table-low : (k : ℕ) → get_or (5 ∷ 2 ∷ 0 ∷ []) k 0 ≤ 4294967295
table-low zero = omega arith
table-low (suc zero) = omega arith
table-low (suc (suc zero)) = omega arith
table-low (suc (suc (suc k))) = omega arith

sofa_table : IsTable by_sofa (prices sofa) (5 ∷ 2 ∷ 0 ∷ [])
sofa_table = settled-table by_sofa (prices sofa) (5 ∷ 2 ∷ 0 ∷ []) (λ s o st a. (sofa-step s o st a).1) sofa-low (record {
  long = refl;
  few = omega arith;
  small = table-low;
  goal = sofa-goal;
  step = λ s o st a. let x = (sofa-step s o st a).0 in let y = sofa-prices o in omega arith;
  sound = λ k h ne. sofa-plan k h;
})

-- each held price is reached by a step
sofa-reached : (o : ℕ) → o < 4 → (◌≡◌ {A = ℕ} (get_or (0 ∷ 3 ∷ 2 ∷ 5 ∷ []) o 0) 0) ⊎ ((m : ℕ) × (n : ℕ) × StepBetween by_sofa (5 ∷ 2 ∷ 0 ∷ []) o m n × (m ≡ n + get_or (0 ∷ 3 ∷ 2 ∷ 5 ∷ []) o 0))
unfolding Applies applied
sofa-reached zero h = inl refl
sofa-reached (suc zero) h = inr (5, 2, record { from = 0 ∷ []; state = state-of-one by_sofa 3 0 refl (omega arith); applies = (omega arith, tt, (refl, tt)); here = refl; there = refl }, refl)
sofa-reached (suc (suc zero)) h = inr (2, 0, record { from = 1 ∷ []; state = state-of-one by_sofa 3 1 refl (omega arith); applies = (omega arith, tt, (refl, tt)); here = refl; there = refl }, refl)
sofa-reached (suc (suc (suc zero))) h = inr (5, 0, record { from = 0 ∷ []; state = state-of-one by_sofa 3 0 refl (omega arith); applies = (omega arith, tt, (refl, tt)); here = refl; there = refl }, refl)
sofa-reached (suc (suc (suc (suc o)))) h = absurd (omega arith)

zero-at : (k : ℕ) → ◌≡◌ {A = ℕ} (get_or (0 ∷ 0 ∷ []) k 0) 0
zero-at zero = refl
zero-at (suc zero) = refl
zero-at (suc (suc k)) = refl

-- the door's steps lead to states
door-at : (x o : ℕ) → x < 2 → Applies by_door (x ∷ []) o → IsState by_door (applied by_door (x ∷ []) o)
unfolding Applies applied
door-at x zero h a = state-of-one by_door 2 1 refl (omega arith)
door-at x (suc zero) h a = state-of-one by_door 2 x refl h
door-at x (suc (suc zero)) h a = state-of-one by_door 2 x refl h
door-at x (suc (suc (suc zero))) h a = state-of-one by_door 2 x refl h
door-at x (suc (suc (suc (suc o)))) h a = absurd (let z = a.0 in omega arith)

door-closed : Closed by_door
door-closed s o st a =
    let e = single s st.long in
    subst (λ z. IsState by_door (applied by_door z o)) (sym e) (door-at (get_or s 0 0) o (st.within 0 (let l = st.long in omega arith)) (subst (λ z. Applies by_door z o) e a))

door-plan : (k : ℕ) → k < 2 → Witness by_door (1 ∷ 0 ∷ 0 ∷ 2 ∷ []) k (get_or (0 ∷ 0 ∷ []) k 0)
unfolding IsGoal
door-plan zero h = record { from = 0 ∷ []; plan = []; state = state-of-one by_door 2 0 refl (omega arith); ranked = refl; plans = tt; costs = refl }
door-plan (suc zero) h = record { from = 1 ∷ []; plan = []; state = state-of-one by_door 2 1 refl (omega arith); ranked = refl; plans = tt; costs = refl }
door-plan (suc (suc k)) h = absurd (omega arith)

door-low : Low (1 ∷ 0 ∷ 0 ∷ 2 ∷ [])
door-low o = let a = sofa-prices o in let b = sofa-low o in omega arith

door_table : IsTable by_door (1 ∷ 0 ∷ 0 ∷ 2 ∷ []) (0 ∷ 0 ∷ [])
door_table = settled-table by_door (1 ∷ 0 ∷ 0 ∷ 2 ∷ []) (0 ∷ 0 ∷ []) door-closed door-low (record {
  long = refl;
  few = omega arith;
  small = λ k. let z = zero-at k in omega arith;
  goal = λ s st g. zero-at (rank by_door.domains s);
  step = λ s o st a. let z = zero-at (rank by_door.domains s) in omega arith;
  sound = λ k h ne. door-plan k h;
})

none-held : (o : ℕ) → ◌≡◌ {A = ℕ} (get_or (0 ∷ 0 ∷ 0 ∷ 0 ∷ []) o 0) 0
none-held zero = refl
none-held (suc zero) = refl
none-held (suc (suc zero)) = refl
none-held (suc (suc (suc zero))) = refl
none-held (suc (suc (suc (suc o)))) = refl

pub sofa-numbers : SofaNumbers
sofa-numbers = record {
  sofa_table = sofa_table;
  sofa_held = record { long = refl; each = λ o h. held-from by_sofa (5 ∷ 2 ∷ 0 ∷ []) o _ (λ s st a. (sofa-step s o st a).0) (sofa-reached o h) };
  sofa_left = record { long_held = refl; long_left = refl; each = sofa-prices };
  sofa_answer = refl;
  door_table = door_table;
  door_held = record { long = refl; each = λ o h. held-from by_door (0 ∷ 0 ∷ []) o _ (λ s st a. let z = zero-at (rank by_door.domains s) in omega arith) (inl (none-held o)) };
  door_left = record { long_held = refl; long_left = refl; each = λ k. let z = none-held k in omega arith };
  door_answer = refl;
}
