-- How the order of the heap fares when two entries change places, and that its top comes first.
use Rattle.std.proofs.Common.{◌≡◌, ℕ, zero, suc, ◌+◌, ◌*◌, ◌<◌, ◌≤◌, Bool, true, false, List, length, get_or, sym, refl, ap, ◌∙◌, ⊎_elim, arith}
use Rattle.std.proofs.lemmas.Bool.{cases_eq, cases_Bool}
use Rattle.queue.specs.Lawful.Orders.{TotalOrder}
use Rattle.queue.specs.Heap.{parent, HeapOrdered, OrderedButAbove, OrderedButBelow}

-- The entries at a and b have changed places.
pub record Exchanged {X : Type 0} (xs ys : List X) (a b : ℕ) : Type 0 where
  pub long : length ys ≡ length xs
  pub first : (d : X) → get_or ys a d ≡ get_or xs b d
  pub second : (d : X) → get_or ys b d ≡ get_or xs a d
  pub rest : (i : ℕ) (d : X) → (i ≡ a → ⊥) → (i ≡ b → ⊥) → get_or ys i d ≡ get_or xs i d

-- replaces both sides of a comparison
pub compared : {X : Type 0} (no_later : X → X → Bool) {t : Bool} (x y v w : X) → v ≡ x → w ≡ y → no_later x y ≡ t → no_later v w ≡ t
compared no_later x y v w p q h = rw (p, q) h

pub no-later-self : {X : Type 0} (no_later : X → X → Bool) (o : TotalOrder no_later) (x : X) → no_later x x ≡ true
no-later-self no_later o x = ⊎_elim (λ t. t) (λ f. o.total x x f) (cases_Bool (no_later x x))

-- the same element at an equal index
pub there : {X : Type 0} (xs : List X) (d : X) {i j : ℕ} → i ≡ j → get_or xs i d ≡ get_or xs j d
there xs d e = ap (λ m. get_or xs m d) e

module _ {X : Type 0} (no_later : X → X → Bool) (o : TotalOrder no_later) (xs ys : List X) (n i : ℕ) (in-n : i < n) where
  pub up_step : (p : ℕ) → p ≡ parent i → 0 < i → OrderedButAbove no_later xs n i → Exchanged xs ys i p → ((d : X) → no_later (get_or xs p d) (get_or xs i d) ≡ false) → OrderedButAbove no_later ys n p
  up_step p is pos r sw less =
      let up-p : (d : X) → no_later (get_or xs i d) (get_or xs p d) ≡ true = λ d. o.total _ _ (less d) in
      record {
        others = λ j d j_pos j-in j-p.
            ⊎_elim
            (λ ji.
            let e : parent j ≡ p = ap parent ji ∙ sym is in
            compared no_later _ _ _ _ (there ys d e ∙ sw.second d) (there ys d ji ∙ sw.first d) (up-p d))
            (λ ji.
            let same-j = sw.rest j d ji j-p in
            ⊎_elim
            (λ pi. compared no_later _ _ _ _ (there ys d pi ∙ sw.first d ∙ there xs d is) same-j (r.across j d j_pos j-in pi pos))
            (λ pi.
            ⊎_elim
            (λ pp.
            compared no_later _ _ _ _ (there ys d pp ∙ sw.second d) same-j
            (o.transitive _ _ _ (up-p d) (compared no_later _ _ _ _ (there xs d (sym pp)) refl (r.others j d j_pos j-in ji))))
            (λ pp. compared no_later _ _ _ _ (sw.rest (parent j) d pi pp) same-j (r.others j d j_pos j-in ji))
            (cases_eq (parent j) p))
            (cases_eq (parent j) i))
            (cases_eq j i);
        across = λ j d j_pos j-in jp p-pos.
            let above = sw.rest (parent p) d (omega arith) (omega arith) in
            let p-up : no_later (get_or xs (parent p) d) (get_or xs p d) ≡ true = r.others p d p-pos (omega arith) (omega arith) in
            ⊎_elim
            (λ ji. compared no_later _ _ _ _ above (there ys d ji ∙ sw.first d) p-up)
            (λ ji.
            compared no_later _ _ _ _ above (sw.rest j d ji (omega arith))
            (o.transitive _ _ _ p-up (compared no_later _ _ _ _ (there xs d (sym jp)) refl (r.others j d j_pos j-in ji))))
            (cases_eq j i);
      }

  pub up_top : i ≡ 0 → OrderedButAbove no_later xs n i → HeapOrdered no_later xs n
  up_top z r j d pos j-in = r.others j d pos j-in (omega arith)

  pub up-end : OrderedButAbove no_later xs n i → ((d : X) → no_later (get_or xs (parent i) d) (get_or xs i d) ≡ true) → HeapOrdered no_later xs n
  up-end r h j d pos j-in =
      ⊎_elim (λ e. compared no_later _ _ _ _ (there xs d (ap parent e)) (there xs d e) (h d)) (λ ne. r.others j d pos j-in ne) (cases_eq j i)

  pub down_step : (c : ℕ) → parent c ≡ i → 0 < c → c < n → OrderedButBelow no_later xs n i → Exchanged xs ys i c → ((d : X) → no_later (get_or xs i d) (get_or xs c d) ≡ false)
      → ((j : ℕ) (d : X) → 0 < j → j < n → parent j ≡ i → no_later (get_or xs c d) (get_or xs j d) ≡ true) → OrderedButBelow no_later ys n c
  down_step c is pos c-in s sw less least =
      record {
        others = λ j d j_pos j-in j-c.
            ⊎_elim
            (λ jc.
            compared no_later _ _ _ _ (there ys d (ap parent jc ∙ is) ∙ sw.first d) (there ys d jc ∙ sw.second d) (o.total _ _ (less d)))
            (λ jc.
            ⊎_elim
            (λ ji.
            let i-pos : 0 < i = omega arith in
            compared no_later _ _ _ _ (there ys d (ap parent ji) ∙ sw.rest (parent i) d (omega arith) (omega arith)) (there ys d ji ∙ sw.first d)
            (s.across c d pos c-in is i-pos))
            (λ ji.
            let same-j = sw.rest j d ji jc in
            ⊎_elim
            (λ pi. compared no_later _ _ _ _ (there ys d pi ∙ sw.first d) same-j (least j d j_pos j-in pi))
            (λ pi. compared no_later _ _ _ _ (sw.rest (parent j) d pi j-c) same-j (s.others j d j_pos j-in pi))
            (cases_eq (parent j) i))
            (cases_eq j i))
            (cases_eq j c);
        across = λ j d j_pos j-in jc c_pos.
            compared no_later _ _ _ _ (there ys d is ∙ sw.first d ∙ there xs d (sym jc)) (sw.rest j d (omega arith) (omega arith))
            (s.others j d j_pos j-in (omega arith));
      }

  pub down-leaf : n ≤ 2 * i + 1 → OrderedButBelow no_later xs n i → HeapOrdered no_later xs n
  down-leaf leaf s j d pos j-in = s.others j d pos j-in (omega arith)

  pub down-end : OrderedButBelow no_later xs n i → ((j : ℕ) (d : X) → 0 < j → j < n → parent j ≡ i → no_later (get_or xs i d) (get_or xs j d) ≡ true) → HeapOrdered no_later xs n
  down-end s h j d pos j-in =
      ⊎_elim (λ e. compared no_later _ _ _ _ (there xs d e) refl (h j d pos j-in e)) (λ ne. s.others j d pos j-in ne) (cases_eq (parent j) i)

-- The top of a heap comes before every entry.
pub least-top : {X : Type 0} (no_later : X → X → Bool) (o : TotalOrder no_later) (xs : List X) (n : ℕ) (d : X) → HeapOrdered no_later xs n → (fuel j : ℕ) → j < fuel → j < n → no_later (get_or xs 0 d) (get_or xs j d) ≡ true
least-top no_later o xs n d h zero j f l = let b : ⊥ = omega arith in absurd b
least-top no_later o xs n d h (suc fuel) j f l =
    ⊎_elim
    (λ z. compared no_later _ _ _ _ refl (there xs d z) (no-later-self no_later o (get_or xs 0 d)))
    (λ nz. o.transitive _ _ _ (least-top no_later o xs n d h fuel (parent j) (omega arith) (omega arith)) (h j d (omega arith) l))
    (cases_eq j 0)
