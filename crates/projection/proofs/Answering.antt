-- The rank that the weights give a state is the rank of its abstract state.
use Rattle.std.proofs.Common.{◌≡◌, ℕ, zero, suc, ◌+◌, ◌*◌, ◌<◌, ◌≤◌, List, length, get_or, drop, sym, refl, ap, ◌∙◌, ap₂, add-one, arith, get_or-take}
use lib.ListN.{length-map}
use Rattle.task.specs.Model.{Model, IsState}
use Rattle.abstraction.specs.Patterns.{abstraction}
use Rattle.abstraction.specs.Projected.{sizes, projected}
use Rattle.abstraction.specs.Ranks.{product, rank}
use Rattle.abstraction.specs.Lawful.Projecting.{abstraction-at, abstract-state}
use Rattle.abstraction.proofs.Ranks.{lead, rank-lead, rank_lt, state-fit}
use Rattle.projection.specs.declared.projection.Projection.{Projection}
use Rattle.projection.specs.Distances.{distance, at}
use Rattle.projection.specs.Projection.{ranks, distances, Serves, weighed, rank_in, Inside}

weighed-lead : (ds pattern weights state : List ℕ) (n : ℕ) → n ≤ length pattern → ((i : ℕ) → i < length pattern → get_or weights i 0 ≡ product (drop (i + 1) ds))
    → weighed pattern weights state n ≡ lead ds (abstraction pattern state) n
weighed-lead ds pattern weights state zero h w = refl
weighed-lead ds pattern weights state (suc n) h w =
    ap₂ (λ a b. a + b) (weighed-lead ds pattern weights state n (omega arith) w)
    (ap₂ (λ a b. a * b) (sym (abstraction-at pattern state n (omega arith))) (w n (omega arith) ∙ ap (λ z. product (drop z ds)) (add-one n)))

-- what a projection that serves the task has of a state
pub record Served (s : Projection) (T : Model) (weights state : List ℕ) : Type 0 where
  pub ranked : rank_in s weights state ≡ rank (sizes T s.pattern.now) (abstraction s.pattern.now state)
  pub inside : Inside s weights state
  pub entry : get_or (distances s T) (rank (sizes T s.pattern.now) (abstraction s.pattern.now state)) 0 ≡ get_or s.table.now (rank_in s weights state) 0

pub served : (s : Projection) (T : Model) (weights state : List ℕ) → IsState T state → Serves s T weights → Served s T weights state
served s T weights state st v =
    let P = s.pattern.now in
    let a = abstraction P state in
    let is = abstract-state T P state v.pattern st in
    let l = length-map P (λ u. get_or T.domains u 0) in
    let ranked : rank_in s weights state ≡ rank (sizes T P) a = weighed-lead (sizes T P) P weights state (length P) (omega arith) v.weigh ∙ sym (rank-lead (sizes T P) a (length P) is.long (sym l)) in
    let low : rank (sizes T P) a < ranks s T = rank_lt (sizes T P) a (state-fit (projected T P) a is) in
    let room = v.table in
    record {
      ranked = ranked;
      inside = record {
        known = record { few = v.pattern.few; each = λ i h. let w = v.pattern.within i h in let q = st.long in omega arith };
        within = omega arith;
      };
      entry = get_or-take (ranks s T) s.table.now (rank (sizes T P) a) 0 low ∙ ap (λ z. get_or s.table.now z 0) (sym ranked);
    }

pub own-answer : (s : Projection) (T : Model) (weights state : List ℕ) → IsState T state → Serves s T weights
    → distance (get_or s.table.now (rank_in s weights state) 0) ≡ at (projected T s.pattern.now) (distances s T) (abstraction s.pattern.now state)
own-answer s T weights state st v = ap distance (sym (served s T weights state st v).entry)
