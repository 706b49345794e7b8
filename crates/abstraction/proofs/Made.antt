-- Arrays made element by element.
use Rattle.std.proofs.Common.{◌≡◌, ℕ, zero, suc, ◌+◌, ◌<◌, ◌≤◌, List, get_or, length, set, sym, subst, ⊎_elim, arith, get_or-set_other, get_or-set_same}
use Rattle.std.specs.Array.{IsFromFnResultFrom, MapsFrom}
use Rattle.std.specs.Fn.{Called}
use Rattle.std.proofs.lemmas.Bool.{cases_eq}
use denote.Param.Members.{Mut}

made_at : {F B : Type 0} (g : Mut F (ℕ × Unit {0}) B) (f : F) → ((k : ℕ) (y : B) (q : F) → Called g f (k, tt) y q → q ≡ f)
    → (ys : List B) (i n : ℕ) → IsFromFnResultFrom g f ys i n → (k : ℕ) (d : B) → i ≤ k → k < i + n → Called g f (k, tt) (get_or ys k d) f
made_at g f same ys i zero h k d l m = absurd (omega arith)
made_at g f same ys i (suc n) h k d l m =
    let stays = same i h.1 h.0 h.3 in
    ⊎_elim
    (λ (e : k ≡ i). subst (λ z. Called g f (z, tt) (get_or ys z d) f) (sym e) (subst (λ z. Called g f (i, tt) z f) (sym (h.2.1 d)) (subst (Called g f (i, tt) h.1) stays h.3)))
    (λ (ne : k ≡ i → ⊥). made_at g f same ys (i + 1) n (subst (λ z. IsFromFnResultFrom g z ys (i + 1) n) stays h.4) k d (omega arith) (omega arith))
    (cases_eq k i)

-- made by calls of a closure that leave it as it was: what each call's result has, each element has
pub made_each : {F B : Type 0} (g : Mut F (ℕ × Unit {0}) B) (f : F) (Q : ℕ → B → Type 0) → ((k : ℕ) (y : B) (q : F) → Called g f (k, tt) y q → (q ≡ f) × Q k y)
    → (ys : List B) (n : ℕ) → IsFromFnResultFrom g f ys 0 n → (k : ℕ) (d : B) → k < n → Q k (get_or ys k d)
made_each g f Q gives ys n h k d l = (gives k _ f (made_at g f (λ k y q z. (gives k y q z).0) ys 0 n h k d (omega arith) (omega arith))).1

-- one more element that is written, with a fact of its own
pub below_set : {X : Type 0} (P : ℕ → X → Type 0) (xs : List X) (i : ℕ) (y d : X) → i < length xs
    → ((k : ℕ) → k < i → P k (get_or xs k d)) → P i y → (k : ℕ) → k < i + 1 → P k (get_or (set xs i y) k d)
below_set P xs i y d h below here k l = ⊎_elim
    (λ (e : k ≡ i). subst (λ z. P z (get_or (set xs i y) z d)) (sym e) (subst (P i) (sym (get_or-set_same xs i y d h)) here))
    (λ (ne : k ≡ i → ⊥). subst (P k) (sym (get_or-set_other xs i k y d ne)) (below k (omega arith)))
    (cases_eq k i)

mapped_from : {F A B : Type 0} (g : Mut F (A × Unit {0}) B) (f : F) (Q : A → B → Type 0) → ((x : A) (y : B) (q : F) → Called g f (x, tt) y q → (q ≡ f) × Q x y)
    → (xs : List A) (ys : List B) (i n : ℕ) → MapsFrom g f xs ys i n → (k : ℕ) (d : A) (e : B) → i ≤ k → k < i + n → Q (get_or xs k d) (get_or ys k e)
mapped_from g f Q gives xs ys i zero h k d e l m = absurd (omega arith)
mapped_from g f Q gives xs ys i (suc n) h k d e l m =
    let given = gives h.1 h.2 h.0 h.5 in
    ⊎_elim
    (λ (same : k ≡ i). subst (λ z. Q (get_or xs z d) (get_or ys z e)) (sym same) (subst (λ z. Q z (get_or ys i e)) (sym (h.3.1 d)) (subst (Q h.1) (sym (h.4.1 e)) given.1)))
    (λ (ne : k ≡ i → ⊥). mapped_from g f Q gives xs ys (i + 1) n (subst (λ z. MapsFrom g z xs ys (i + 1) n) given.0 h.6) k d e (omega arith) (omega arith))
    (cases_eq k i)

-- made by calls of such a closure at each element of another array
pub mapped_each : {F A B : Type 0} (g : Mut F (A × Unit {0}) B) (f : F) (Q : A → B → Type 0) → ((x : A) (y : B) (q : F) → Called g f (x, tt) y q → (q ≡ f) × Q x y)
    → (xs : List A) (ys : List B) (n : ℕ) → MapsFrom g f xs ys 0 n → (k : ℕ) (d : A) (e : B) → k < n → Q (get_or xs k d) (get_or ys k e)
mapped_each g f Q gives xs ys n h k d e l = mapped_from g f Q gives xs ys 0 n h k d e (omega arith) (omega arith)
