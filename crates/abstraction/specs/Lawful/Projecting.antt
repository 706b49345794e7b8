-- Each plan of the task is a plan of the abstract task.
use Rattle.std.specs.Prelude.{◌≡◌, ℕ, ◌<◌, List, [], ◌∷◌, length, slice_index, slice_index_or, slice_set, refl}
use Rattle.std.proofs.Common.{sym, ap, ◌∙◌, subst, ⊎_elim, arith, length-set, ext_get_or, get_or-set_same, get_or-set_other}
use Rattle.std.proofs.lemmas.List.{get_or-map, length-map}
use Rattle.std.proofs.lemmas.Bool.{cases_eq}
use Rattle.tables.specs.declared.records.Entry.{Entry}
use Rattle.task.specs.Model.{Model, IsState, AllHold, Admits, AllAdmit, updated, idle, operator, IsGoal, Applies, applied, Plan, WellFormed}
use Rattle.abstraction.specs.Patterns.{IsPattern, abstraction}
use Rattle.abstraction.specs.Projected.{sizes, kept_at, cut_down, cut_action, projected}
use Rattle.abstraction.specs.Lawful.Cutting.{Sorted, sorted, same_place, Found, Missing, place_found}

pub abstraction-at : (pattern s : List ℕ) (i : ℕ) → i < length pattern → slice_index (abstraction pattern s) i ≡ slice_index s (slice_index pattern i)
abstraction-at pattern s i h = get_or-map (λ v. slice_index s v) pattern i 0 0 h

pub abstract-state : (T : Model) (pattern s : List ℕ) → IsPattern T pattern → IsState T s → IsState (projected T pattern) (abstraction pattern s)
abstract-state T pattern s w st =
    let l = length-map pattern (λ v. slice_index s v) in
    record {
      long = l ∙ sym (length-map pattern (λ v. slice_index T.domains v));
      within = λ i h.
          let k : i < length pattern = omega arith in
          subst (λ z. z < slice_index (sizes T pattern) i) (sym (abstraction-at pattern s i k))
          (subst (λ z. slice_index s (slice_index pattern i) < z) (sym (get_or-map (λ v. slice_index T.domains v) pattern i 0 0 k))
          (st.within (slice_index pattern i) (let q = w.within i k in let r = st.long in omega arith)));
    }

hold-cut : (pattern s : List ℕ) (es : List Entry) → AllHold s es → AllHold (abstraction pattern s) (cut_down pattern es)
hold-cut pattern s [] h = tt
hold-cut pattern s (e ∷ es) h = ⊎_elim
    (λ f. subst (λ z. AllHold (abstraction pattern s) (kept_at z e (cut_down pattern es))) (sym f.1.is)
    (abstraction-at pattern s f.0 f.1.inside ∙ ap (λ z. slice_index s z) f.1.names ∙ h.0, hold-cut pattern s es h.1))
    (λ f. subst (λ z. AllHold (abstraction pattern s) (kept_at z e (cut_down pattern es))) (sym f.is) (hold-cut pattern s es h.1))
    (place_found pattern e.variable)

admit-cut : (pattern s : List ℕ) (es : List Entry) → AllAdmit s es → AllAdmit (abstraction pattern s) (cut_down pattern es)
admit-cut pattern s [] h = tt
admit-cut pattern s (e ∷ es) h = ⊎_elim
    (λ f. subst (λ z. AllAdmit (abstraction pattern s) (kept_at z e (cut_down pattern es))) (sym f.1.is)
    (subst (λ z. Admits z e.required) (sym (abstraction-at pattern s f.0 f.1.inside ∙ ap (λ z. slice_index s z) f.1.names)) h.0, admit-cut pattern s es h.1))
    (λ f. subst (λ z. AllAdmit (abstraction pattern s) (kept_at z e (cut_down pattern es))) (sym f.is) (admit-cut pattern s es h.1))
    (place_found pattern e.variable)

-- one effect on a variable of the pattern, and one on another
set_found : (pattern s : List ℕ) (v x i : ℕ) → Sorted pattern → v < length s → Found pattern v i → abstraction pattern (slice_set s v x) ≡ slice_set (abstraction pattern s) i x
set_found pattern s v x i so h f =
    let la = length-map pattern (λ w. slice_index (slice_set s v x) w) in
    let lb = length-map pattern (λ w. slice_index s w) in
    let lc = length-set (abstraction pattern s) i x in
    ext_get_or 0 _ _ (omega arith)
    (λ k l.
    let kp : k < length pattern = omega arith in
    let inside = f.inside in
    abstraction-at pattern (slice_set s v x) k kp ∙ ⊎_elim
    (λ (e : k ≡ i).
    let it : slice_index_or pattern k 0 ≡ v = ap (λ z. slice_index pattern z) e ∙ f.names in
    ap (λ z. slice_index (slice_set s v x) z) it ∙ get_or-set_same s v x 0 h ∙ sym (ap (λ z. slice_index (slice_set (abstraction pattern s) i x) z) e ∙ get_or-set_same (abstraction pattern s) i x 0 (omega arith)))
    (λ (ne : k ≡ i → ⊥).
    get_or-set_other s v (slice_index pattern k) x 0 (λ q. ne (same_place pattern k i so kp f.inside (q ∙ sym f.names)))
    ∙ sym (abstraction-at pattern s k kp) ∙ sym (get_or-set_other (abstraction pattern s) i k x 0 ne))
    (cases_eq k i))

set-missing : (pattern s : List ℕ) (v x : ℕ) → Missing pattern v → abstraction pattern (slice_set s v x) ≡ abstraction pattern s
set-missing pattern s v x f =
    let la = length-map pattern (λ w. slice_index (slice_set s v x) w) in
    let lb = length-map pattern (λ w. slice_index s w) in
    ext_get_or 0 _ _ (omega arith)
    (λ k l.
    let kp : k < length pattern = omega arith in
    abstraction-at pattern (slice_set s v x) k kp ∙ get_or-set_other s v (slice_index pattern k) x 0 (λ q. f.none k kp q) ∙ sym (abstraction-at pattern s k kp))

-- the effects on variables of the pattern speak of variables that the state has
pub updated-cut : (pattern s : List ℕ) (es : List Entry) → Sorted pattern → ((i : ℕ) → i < length pattern → slice_index pattern i < length s)
    → abstraction pattern (updated s es) ≡ updated (abstraction pattern s) (cut_down pattern es)
updated-cut pattern s [] so w = refl
updated-cut pattern s (e ∷ es) so w =
    let rest = updated-cut pattern (slice_set s e.variable e.value) es so (λ i h. let l = length-set s e.variable e.value in let q = w i h in omega arith) in
    ⊎_elim
    (λ f.
    let inside : e.variable < length s = subst (λ z. z < length s) f.1.names (w f.0 f.1.inside) in
    rest ∙ ap (λ z. updated z (cut_down pattern es)) (set_found pattern s e.variable e.value f.0 so inside f.1)
    ∙ sym (ap (λ z. updated (abstraction pattern s) (kept_at z e (cut_down pattern es))) f.1.is))
    (λ f.
    rest ∙ ap (λ z. updated z (cut_down pattern es)) (set-missing pattern s e.variable e.value f)
    ∙ sym (ap (λ z. updated (abstraction pattern s) (kept_at z e (cut_down pattern es))) f.is))
    (place_found pattern e.variable)

pub operator-cut : (T : Model) (pattern : List ℕ) (o : ℕ) → o < length T.operators → operator (projected T pattern) o ≡ cut_action pattern (operator T o)
operator-cut T pattern o h = get_or-map (cut_action pattern) T.operators o idle idle h

-- an operator that applies to a state applies to its abstract state
pub abstract-applies : (T : Model) (pattern s : List ℕ) (o : ℕ) → Applies T s o → Applies (projected T pattern) (abstraction pattern s) o
unfolding Applies
abstract-applies T pattern s o a =
    let l = length-map T.operators (cut_action pattern) in
    let n = a.0 in (
      omega arith,
      subst (λ z. AllHold (abstraction pattern s) z.conditions) (sym (operator-cut T pattern o n)) (hold-cut pattern s (operator T o).conditions a.1),
      subst (λ z. AllAdmit (abstraction pattern s) z.effects) (sym (operator-cut T pattern o n)) (admit-cut pattern s (operator T o).effects a.2),
    )

-- and leads to the abstract state of the state that it leads to
pub abstract-applied : (T : Model) (pattern s : List ℕ) (o : ℕ) → IsPattern T pattern → IsState T s → Applies T s o → abstraction pattern (applied T s o) ≡ applied (projected T pattern) (abstraction pattern s) o
unfolding Applies applied
abstract-applied T pattern s o w st a =
    updated-cut pattern s (operator T o).effects (sorted T pattern w) (λ i h. let q = w.within i h in let r = st.long in omega arith)
    ∙ ap (λ z. updated (abstraction pattern s) z.effects) (sym (operator-cut T pattern o a.0))

pub abstract-goal : (T : Model) (pattern s : List ℕ) → IsGoal T s → IsGoal (projected T pattern) (abstraction pattern s)
unfolding IsGoal
abstract-goal T pattern s g = hold-cut pattern s T.goal g

pub abstract-plan : (T : Model) (pattern s p : List ℕ) → WellFormed T → IsPattern T pattern → IsState T s → Plan T s p → Plan (projected T pattern) (abstraction pattern s) p
abstract-plan T pattern s [] f w st plan = abstract-goal T pattern s plan
abstract-plan T pattern s (o ∷ p) f w st plan = (
  abstract-applies T pattern s o plan.0,
  subst (λ z. Plan (projected T pattern) z p) (abstract-applied T pattern s o w st plan.0) (abstract-plan T pattern (applied T s o) p f w (f.stays s o st plan.0) plan.1),
)
