-- Abstract steps place by place, as they are walked backwards.
use Rattle.std.proofs.Common.{◌≡◌, ℕ, zero, suc, ◌+◌, ◌*◌, ◌<◌, ◌≤◌, List, [], ◌∷◌, length, get_or, drop, sym, refl, ap, ◌∙◌, subst, mul-le-mul_right, suc-mul, add-one, arith, drop-cons, ext_get_or}
use Rattle.std.proofs.lemmas.List.{drop_all}
use Rattle.task.specs.Model.{Model, IsState, Applies, applied}
use Rattle.abstraction.specs.declared.abstract_task.AbstractTask.{AbstractTask}
use Rattle.abstraction.specs.Ranks.{product, rank}
use Rattle.abstraction.specs.AbstractTasks.{abstract_of}
use Rattle.abstraction.proofs.Places.{places, applied-at, applied-state, applies-each, applies-at, applies-number}
use Rattle.projection.specs.Dijkstra.{StepAt, StepsFrom, Preceding}

pub steps-long : (A : AbstractTask) (o i : ℕ) (ds xs ys : List ℕ) → StepsFrom A o i ds xs ys → (length xs ≡ length ds) × (length ys ≡ length ds)
steps-long A o i [] [] [] s = (refl, refl)
steps-long A o i [] [] (y ∷ ys) s = absurd s
steps-long A o i [] (x ∷ xs) ys s = absurd s
steps-long A o i (d ∷ ds) [] ys s = absurd s
steps-long A o i (d ∷ ds) (x ∷ xs) [] s = absurd s
steps-long A o i (d ∷ ds) (x ∷ xs) (y ∷ ys) s = let r = steps-long A o (suc i) ds xs ys s.1 in (ap suc r.0, ap suc r.1)

pub steps-each : (A : AbstractTask) (o i : ℕ) (ds xs ys : List ℕ) → StepsFrom A o i ds xs ys → (j : ℕ) → j < length ds → StepAt A o (i + j) (get_or ds j 0) (get_or xs j 0) (get_or ys j 0)
steps-each A o i [] [] [] s j h = absurd (omega arith)
steps-each A o i [] [] (y ∷ ys) s j h = absurd s
steps-each A o i [] (x ∷ xs) ys s j h = absurd s
steps-each A o i (d ∷ ds) [] ys s j h = absurd s
steps-each A o i (d ∷ ds) (x ∷ xs) [] s j h = absurd s
steps-each A o i (d ∷ ds) (x ∷ xs) (y ∷ ys) s zero h = let e : i ≡ i + 0 = omega arith in subst (λ z. StepAt A o z d x y) e s.0
steps-each A o i (d ∷ ds) (x ∷ xs) (y ∷ ys) s (suc j) h =
    let e : suc i + j ≡ i + suc j = omega arith in
    subst (λ z. StepAt A o z (get_or ds j 0) (get_or xs j 0) (get_or ys j 0)) e (steps-each A o (suc i) ds xs ys s.1 j (omega arith))

pub steps-from : (A : AbstractTask) (o i : ℕ) (ds xs ys : List ℕ) → length xs ≡ length ds → length ys ≡ length ds
    → ((j : ℕ) → j < length ds → StepAt A o (i + j) (get_or ds j 0) (get_or xs j 0) (get_or ys j 0)) → StepsFrom A o i ds xs ys
steps-from A o i [] [] [] l m h = tt
steps-from A o i [] [] (y ∷ ys) l m h = absurd (omega arith)
steps-from A o i [] (x ∷ xs) ys l m h = absurd (omega arith)
steps-from A o i (d ∷ ds) [] ys l m h = absurd (omega arith)
steps-from A o i (d ∷ ds) (x ∷ xs) [] l m h = absurd (omega arith)
steps-from A o i (d ∷ ds) (x ∷ xs) (y ∷ ys) l m h =
    let e : i + 0 ≡ i = omega arith in (
      subst (λ z. StepAt A o z d x y) e (h 0 (omega arith)),
      steps-from A o (suc i) ds xs ys (omega arith) (omega arith) (λ j k.
          let f : i + suc j ≡ suc i + j = omega arith in
          subst (λ z. StepAt A o z (get_or ds j 0) (get_or xs j 0) (get_or ys j 0)) f (h (suc j) (omega arith))),
    )

-- past the last place
pub preceding-end : (A : AbstractTask) (o : ℕ) (b : List ℕ) (i f : ℕ) → length (abstract_of A).domains ≤ i → length b ≤ i → Preceding A o b i f f
preceding-end A o b i f h l =
    let ds = (abstract_of A).domains in
    record {
      values = [];
      steps = subst (λ z. StepsFrom A o i z [] (drop i b)) (sym (drop_all i ds h)) (subst (StepsFrom A o i [] []) (sym (drop_all i b l)) tt);
      here = (let e : rank (drop i ds) [] ≡ 0 = ap (λ z. rank z []) (drop_all i ds h) in omega arith);
    }

pub preceding-only : (A : AbstractTask) (o : ℕ) (b : List ℕ) (i f k : ℕ) → length (abstract_of A).domains ≤ i → Preceding A o b i f k → k ≡ f
preceding-only A o b i f k h p =
    let e : rank (drop i (abstract_of A).domains) p.values ≡ 0 = ap (λ z. rank z p.values) (drop_all i (abstract_of A).domains h) in
    let w = p.here in
    omega arith

-- one place more
pub preceding-cons : (A : AbstractTask) (o : ℕ) (b : List ℕ) (i f k x w : ℕ) → i < length (abstract_of A).domains → i < length b → w ≡ product (drop (i + 1) (abstract_of A).domains)
    → StepAt A o i (get_or (abstract_of A).domains i 0) x (get_or b i 0) → Preceding A o b (i + 1) (f + x * w) k → Preceding A o b i f k
preceding-cons A o b i f k x w h l e s p =
    let ds = (abstract_of A).domains in
    let rest : StepsFrom A o (suc i) (drop (suc i) ds) p.values (drop (suc i) b) = subst (λ z. StepsFrom A o z (drop z ds) p.values (drop z b)) (add-one i) p.steps in
    record {
      values = x ∷ p.values;
      steps = subst (λ z. StepsFrom A o i z (x ∷ p.values) (drop i b)) (sym (drop-cons ds i 0 h))
          (subst (λ z. StepsFrom A o i (get_or ds i 0 ∷ drop (suc i) ds) (x ∷ p.values) z) (sym (drop-cons b i 0 l)) (s, rest));
      here =
          (let q : rank (drop i ds) (x ∷ p.values) ≡ x * product (drop (suc i) ds) + rank (drop (suc i) ds) p.values = ap (λ z. rank z (x ∷ p.values)) (drop-cons ds i 0 h) in
          let u : x * w ≡ x * product (drop (suc i) ds) = ap (λ z. x * z) (e ∙ ap (λ z. product (drop z ds)) (add-one i)) in
          let v : rank (drop (i + 1) ds) p.values ≡ rank (drop (suc i) ds) p.values = ap (λ z. rank (drop z ds) p.values) (add-one i) in
          let g = p.here in
          omega arith);
    }

pub preceding-first : (A : AbstractTask) (o : ℕ) (b : List ℕ) (i f k w : ℕ) → i < length (abstract_of A).domains → i < length b → w ≡ product (drop (i + 1) (abstract_of A).domains)
    → Preceding A o b i f k → (x : ℕ) × StepAt A o i (get_or (abstract_of A).domains i 0) x (get_or b i 0) × Preceding A o b (i + 1) (f + x * w) k
preceding-first A o b i f k w h l e p =
    go p.values (subst (λ z. StepsFrom A o i z p.values (drop i b)) (drop-cons (abstract_of A).domains i 0 h) p.steps)
    (p.here ∙ ap (λ z. f + rank z p.values) (drop-cons (abstract_of A).domains i 0 h))
  where
    ds : List ℕ
    ds = (abstract_of A).domains

    go : (xs : List ℕ) → StepsFrom A o i (get_or (abstract_of A).domains i 0 ∷ drop (suc i) (abstract_of A).domains) xs (drop i b) → k ≡ f + rank (get_or (abstract_of A).domains i 0 ∷ drop (suc i) (abstract_of A).domains) xs
        → (x : ℕ) × StepAt A o i (get_or (abstract_of A).domains i 0) x (get_or b i 0) × Preceding A o b (i + 1) (f + x * w) k
    go [] s q = absurd s
    go (x ∷ xs) s q =
        let t = subst (StepsFrom A o i (get_or (abstract_of A).domains i 0 ∷ drop (suc i) (abstract_of A).domains) (x ∷ xs)) (drop-cons b i 0 l) s in
        let u : x * w ≡ x * product (drop (suc i) (abstract_of A).domains) = ap (λ z. x * z) (e ∙ ap (λ z. product (drop z (abstract_of A).domains)) (add-one i)) in
        let v : rank (drop (i + 1) (abstract_of A).domains) xs ≡ rank (drop (suc i) (abstract_of A).domains) xs = ap (λ z. rank (drop z (abstract_of A).domains) xs) (add-one i) in (
          x,
          t.0,
          record {
            values = xs;
            steps = subst (λ z. StepsFrom A o z (drop z (abstract_of A).domains) xs (drop z b)) (sym (add-one i)) t.1;
            here = omega arith;
          },
        )

-- a state from which operator o leads to the rank r
pub record Before (P : Model) (o r k : ℕ) : Type 0 where
  pub from : List ℕ
  pub state : IsState P from
  pub applies : Applies P from o
  pub leads : rank P.domains (applied P from o) ≡ r
  pub ranked : rank P.domains from ≡ k

pub preceding-step : (A : AbstractTask) (o : ℕ) (b : List ℕ) (k : ℕ) → o < length (abstract_of A).operators → IsState (abstract_of A) b
    → Preceding A o b 0 0 k → Before (abstract_of A) o (rank (abstract_of A).domains b) k
preceding-step A o b k h is p =
    let P = abstract_of A in
    let a = p.values in
    let n = places A in
    let long = steps-long A o 0 P.domains a b p.steps in
    let each : (j : ℕ) → j < length P.domains → StepAt A o j (get_or P.domains j 0) (get_or a j 0) (get_or b j 0) =
    λ j l. let e : 0 + j ≡ j = omega arith in subst (λ z. StepAt A o z (get_or P.domains j 0) (get_or a j 0) (get_or b j 0)) e (steps-each A o 0 P.domains a b p.steps j l) in
    let state : IsState P a = record { long = long.0; within = λ j l. (each j (let q = long.0 in omega arith)).within } in
    let bs = applied-state A a o h state in
    let same : applied P a o ≡ b = ext_get_or 0 (applied P a o) b (bs.long ∙ sym is.long) (λ j l.
    let k' : j < length A.pattern.now = (let q = bs.long in omega arith) in
    applied-at A a o j h state k' ∙ (each j (omega arith)).leads) in
    record {
      from = a;
      state = state;
      applies = applies-each A a o h (λ j l. (each j (omega arith)).admits);
      leads = ap (rank P.domains) same;
      ranked = (let q = p.here in omega arith);
    }

pub step-preceding : (A : AbstractTask) (s : List ℕ) (o : ℕ) (b : List ℕ) → IsState (abstract_of A) s → Applies (abstract_of A) s o → applied (abstract_of A) s o ≡ b
    → Preceding A o b 0 0 (rank (abstract_of A).domains s)
step-preceding A s o b is a e =
    let P = abstract_of A in
    let h = applies-number P s o a in
    let n = places A in
    let bs = applied-state A s o h is in
    let lb : length b ≡ length P.domains = sym (ap length e) ∙ bs.long in
    record {
      values = s;
      steps = steps-from A o 0 P.domains s b is.long lb (λ j l.
          let z : j ≡ 0 + j = omega arith in
          let k : j < length A.pattern.now = omega arith in
          subst (λ i. StepAt A o i (get_or P.domains j 0) (get_or s j 0) (get_or b j 0)) z (record {
            within = is.within j (let q = is.long in omega arith);
            admits = applies-at A s o j k a;
            leads = sym (applied-at A s o j h is k) ∙ ap (λ x. get_or x j 0) e;
          }));
      here = omega arith;
    }

-- a value below d in the room that the later places leave
pub scaled : (x d m : ℕ) → x < d → x * m + m ≤ d * m
scaled x d m h = let a = mul-le-mul_right m h in let b = suc-mul x m in omega arith
