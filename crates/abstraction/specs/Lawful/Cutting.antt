-- What is left of facts and effects that are cut down to a pattern: just what they say of the pattern's variables.
use Rattle.std.specs.Prelude.{◌≡◌, ℕ, zero, suc, ◌-◌, ◌<◌, ◌≤◌, cond, ◌⊎◌, List, [], ◌∷◌, length, Some, None, Option, ◌==◌, ◌≢◌, slice_index, slice_index_or, refl}
use Rattle.std.proofs.Common.{sym, ap, ◌∙◌, subst, inl, inr, ⊎_elim, arith}
use Rattle.std.proofs.lemmas.Bool.{cases_eq, eq-eqb, ne_eqb, cond-true, cond-false}
use Rattle.tables.specs.declared.records.Entry.{Entry}
use Rattle.task.specs.Model.{Model, Action}
use Rattle.abstraction.specs.declared.part.OperatorPart.{OperatorPart}
use Rattle.abstraction.specs.Patterns.{IsPattern}
use Rattle.abstraction.specs.Projected.{next, place_of, kept_at, cut_down, cut_action}
use Rattle.abstraction.specs.Parts.{HoldsAt, AdmitsAt, value_after, PartOf, GoalPart}

-- each variable is above all before it
abbrev pub Sorted : List ℕ → Type 0
Sorted pattern = (i j : ℕ) → i < j → j < length pattern → slice_index pattern i < slice_index pattern j

pub sorted : (T : Model) (pattern : List ℕ) → IsPattern T pattern → Sorted pattern
sorted T pattern p i j l h = up j h (omega arith)
  where
    up : (k : ℕ) → k < length pattern → i < k → slice_index pattern i < slice_index pattern k
    up zero m n = absurd (omega arith)
    up (suc k) m n =
        let e : suc k - 1 ≡ k = omega arith in
        let r : slice_index_or pattern k 0 < slice_index_or pattern (suc k) 0 = subst (λ z. slice_index pattern z < slice_index pattern (suc k)) e (p.rising (suc k) m (omega arith)) in
        ⊎_elim
        (λ (same : i ≡ k). subst (λ z. slice_index pattern z < slice_index pattern (suc k)) (sym same) r)
        (λ (ne : i ≡ k → ⊥). let b = up k (omega arith) (omega arith) in omega arith)
        (cases_eq i k)

pub same_place : (pattern : List ℕ) (i j : ℕ) → Sorted pattern → i < length pattern → j < length pattern → slice_index pattern i ≡ slice_index pattern j → i ≡ j
same_place pattern i j s h l e = ⊎_elim (λ q. q)
    (λ (ne : i ≡ j → ⊥). ⊎_elim
    (λ (a : i < j). absurd (let x = s i j a l in omega arith))
    (λ (a : j ≤ i). absurd (let x = s j i (omega arith) h in omega arith))
    (either i j))
    (cases_eq i j)
  where
    either : (i j : ℕ) → (i < j) ⊎ (j ≤ i)
    either zero zero = inr (omega arith)
    either zero (suc j) = inl (omega arith)
    either (suc i) zero = inr (omega arith)
    either (suc i) (suc j) = ⊎_elim (λ x. inl (omega arith)) (λ x. inr (omega arith)) (either i j)

-- a variable stands at a place of the pattern, or at none
pub record Found (pattern : List ℕ) (v i : ℕ) : Type 0 where
  pub is : place_of pattern v ≡ Some i
  pub inside : i < length pattern
  pub names : slice_index_or pattern i 0 ≡ v

pub record Missing (pattern : List ℕ) (v : ℕ) : Type 0 where
  pub is : place_of pattern v ≡ None
  pub none : (i : ℕ) → i < length pattern → slice_index pattern i ≢ v

pub place_found : (pattern : List ℕ) (v : ℕ) → ((i : ℕ) × Found pattern v i) ⊎ Missing pattern v
place_found [] v = inr (record { is = refl; none = λ i h. absurd (omega arith) })
place_found (u ∷ pattern) v = ⊎_elim
    (λ (e : u ≡ v). inl (0, record { is = cond-true (u == v) (Some 0) (next (place_of pattern v)) (eq-eqb u v e); inside = omega arith; names = e }))
    (λ (ne : u ≡ v → ⊥). let w = cond-false (u == v) (Some 0) (next (place_of pattern v)) (ne_eqb u v ne) in ⊎_elim
    (λ f. inl (suc f.0, record { is = w ∙ ap next f.1.is; inside = (let h = f.1.inside in omega arith); names = f.1.names }))
    (λ f. inr (record { is = w ∙ ap next f.is; none = missing ne f }))
    (place_found pattern v))
    (cases_eq u v)
  where
    missing : (u ≢ v) → Missing pattern v → (i : ℕ) → i < length (u ∷ pattern) → slice_index (u ∷ pattern) i ≢ v
    missing ne f zero h e = ne e
    missing ne f (suc i) h e = f.none i (omega arith) e

pub holds-cut : (pattern : List ℕ) (i x : ℕ) (es : List Entry) → Sorted pattern → i < length pattern → HoldsAt (slice_index pattern i) x es → HoldsAt i x (cut_down pattern es)
holds-cut pattern i x [] s h m = tt
holds-cut pattern i x (e ∷ es) s h m = ⊎_elim
    (λ f. subst (λ z. HoldsAt i x (kept_at z e (cut_down pattern es))) (sym f.1.is)
    ((λ q. m.0 (sym f.1.names ∙ ap (λ z. slice_index pattern z) q)), holds-cut pattern i x es s h m.1))
    (λ f. subst (λ z. HoldsAt i x (kept_at z e (cut_down pattern es))) (sym f.is) (holds-cut pattern i x es s h m.1))
    (place_found pattern e.variable)

pub holds-whole : (pattern : List ℕ) (i x : ℕ) (es : List Entry) → Sorted pattern → i < length pattern → HoldsAt i x (cut_down pattern es) → HoldsAt (slice_index pattern i) x es
holds-whole pattern i x [] s h m = tt
holds-whole pattern i x (e ∷ es) s h m = ⊎_elim
    (λ f. let w = subst (λ z. HoldsAt i x (kept_at z e (cut_down pattern es))) f.1.is m in
    ((λ q. w.0 (same_place pattern f.0 i s f.1.inside h (f.1.names ∙ q))), holds-whole pattern i x es s h w.1))
    (λ f. ((λ q. absurd (f.none i h (sym q))), holds-whole pattern i x es s h (subst (λ z. HoldsAt i x (kept_at z e (cut_down pattern es))) f.is m)))
    (place_found pattern e.variable)

pub admits-cut : (pattern : List ℕ) (i x : ℕ) (es : List Entry) → Sorted pattern → i < length pattern → AdmitsAt (slice_index pattern i) x es → AdmitsAt i x (cut_down pattern es)
admits-cut pattern i x [] s h m = tt
admits-cut pattern i x (e ∷ es) s h m = ⊎_elim
    (λ f. subst (λ z. AdmitsAt i x (kept_at z e (cut_down pattern es))) (sym f.1.is)
    ((λ q. m.0 (sym f.1.names ∙ ap (λ z. slice_index pattern z) q)), admits-cut pattern i x es s h m.1))
    (λ f. subst (λ z. AdmitsAt i x (kept_at z e (cut_down pattern es))) (sym f.is) (admits-cut pattern i x es s h m.1))
    (place_found pattern e.variable)

pub admits-whole : (pattern : List ℕ) (i x : ℕ) (es : List Entry) → Sorted pattern → i < length pattern → AdmitsAt i x (cut_down pattern es) → AdmitsAt (slice_index pattern i) x es
admits-whole pattern i x [] s h m = tt
admits-whole pattern i x (e ∷ es) s h m = ⊎_elim
    (λ f. let w = subst (λ z. AdmitsAt i x (kept_at z e (cut_down pattern es))) f.1.is m in
    ((λ q. w.0 (same_place pattern f.0 i s f.1.inside h (f.1.names ∙ q))), admits-whole pattern i x es s h w.1))
    (λ f. ((λ q. absurd (f.none i h (sym q))), admits-whole pattern i x es s h (subst (λ z. AdmitsAt i x (kept_at z e (cut_down pattern es))) f.is m)))
    (place_found pattern e.variable)

pub after-cut : (pattern : List ℕ) (i x : ℕ) (es : List Entry) → Sorted pattern → i < length pattern → value_after i x (cut_down pattern es) ≡ value_after (slice_index pattern i) x es
after-cut pattern i x [] s h = refl
after-cut pattern i x (e ∷ es) s h = ⊎_elim
    (λ f. ap (λ z. value_after i x (kept_at z e (cut_down pattern es))) f.1.is ∙ after-cut pattern i (cond (f.0 == i) e.value x) es s h ∙ ap (λ z. value_after (slice_index pattern i) z es) (same f))
    (λ f. ap (λ z. value_after i x (kept_at z e (cut_down pattern es))) f.is ∙ after-cut pattern i x es s h
    ∙ ap (λ z. value_after (slice_index pattern i) z es) (sym (cond-false (e.variable == slice_index pattern i) e.value x (ne_eqb e.variable (slice_index pattern i) (λ q. f.none i h (sym q))))))
    (place_found pattern e.variable)
  where
    same : (f : (j : ℕ) × Found pattern e.variable j) → cond (f.0 == i) e.value x ≡ cond (e.variable == slice_index pattern i) e.value x
    same f = ⊎_elim
        (λ (q : f.0 ≡ i). cond-true (f.0 == i) e.value x (eq-eqb f.0 i q)
        ∙ sym (cond-true (e.variable == slice_index pattern i) e.value x (eq-eqb e.variable (slice_index pattern i) (sym f.1.names ∙ ap (λ z. slice_index pattern z) q))))
        (λ (n : f.0 ≡ i → ⊥). cond-false (f.0 == i) e.value x (ne_eqb f.0 i n)
        ∙ sym (cond-false (e.variable == slice_index pattern i) e.value x (ne_eqb e.variable (slice_index pattern i) (λ q. n (same_place pattern f.0 i s f.1.inside h (f.1.names ∙ q))))))
        (cases_eq f.0 i)

-- a part of an operator at a variable is its part at the variable's place, once it is cut down
pub part_cut : (pattern : List ℕ) (i d : ℕ) (o : Action) (p : OperatorPart) → Sorted pattern → i < length pattern → PartOf o (slice_index pattern i) d p → PartOf (cut_action pattern o) i d p
part_cut pattern i d o p s h w = record {
  needed = λ x a b. w.needed x (holds-whole pattern i x o.conditions s h a) (admits-whole pattern i x o.effects s h b);
  enough = λ x a. let r = w.enough x a in (holds-cut pattern i x o.conditions s h r.0, admits-cut pattern i x o.effects s h r.1);
  after = λ x. w.after x ∙ sym (after-cut pattern i x o.effects s h);
  required_fits = w.required_fits;
  value_fits = w.value_fits;
}

pub goal-cut : (pattern : List ℕ) (i : ℕ) (goal : List Entry) (p : Option ℕ) → Sorted pattern → i < length pattern → GoalPart goal (slice_index pattern i) p → GoalPart (cut_down pattern goal) i p
goal-cut pattern i goal p s h w = record {
  needed = λ x a. w.needed x (holds-whole pattern i x goal s h a);
  enough = λ x a. holds-cut pattern i x goal s h (w.enough x a);
}
