-- The written part of the table is the front, and what the abstract task says is said of the projected one.
use Rattle.std.proofs.Common.{◌≡◌, ℕ, ◌+◌, ◌-◌, ◌≤◌, min, List, ◌++◌, length, get_or, take, drop, sym, ap, ◌∙◌, subst, ap₂, ⊎_elim, arith, length-take}
use lib.ListN.{length-map}
use borrow.Rule.Slice.PartMut.{post_of}
use Rattle.std.proofs.lemmas.List.{take_at, drop_at, get_or_past}
use Rattle.std.proofs.lemmas.Bool.{cases_lt}
use Rattle.task.specs.Model.{Model, model}
use Rattle.estimator.specs.Price.{Offer}
use Rattle.abstraction.specs.Projected.{sizes, projected, cut_action}
use Rattle.abstraction.specs.Ranks.{product}
use Rattle.abstraction.specs.AbstractTasks.{abstract_of}
use Rattle.projection.specs.Distances.{IsTable, IsHeld}
use Rattle.projection.proofs.Settling.{Low, settled-table}
use Rattle.projection.proofs.Running.{closed}
use Rattle.projection.proofs.compute.compute.Goals as goal

whole : (p c : ℕ) → c ≡ min p 4294967295 → p ≤ 65536 → c - 0 ≡ p
whole p c e h = omega arith

low : (T : Model) (row : List ℕ) → Offer T row → Low row
low T row f o = ⊎_elim (λ h. f.low o h) (λ h. let e = get_or_past row o 0 h in omega arith) (cases_lt o (length row))

pub fill_distances-requires : goal.fill_distances-requires
fill_distances-requires c =
    let T = model c.args.task.now in
    let P = c.args.pattern.now in
    let A = c.new-abstract_task.result in
    let is : abstract_of A ≡ projected T P = ap₂ projected c.new-abstract_task.ensures.task c.new-abstract_task.ensures.pattern in
    let size : product (abstract_of A).domains ≡ product (sizes T P) = ap (λ z. product z.domains) is in
    let listed : length (abstract_of A).operators ≡ length T.operators = ap (λ z. length z.operators) is ∙ length-map T.operators (cut_action P) in
    let w = whole (product (sizes T P)) c.rank_count-count.result c.rank_count-count.ensures c.requires.few in
    let t = length-take (c.rank_count-count.result - 0) c.args.table.now in
    let o = c.requires.offer.long in
    let a = c.requires.table in
    let b = c.requires.entries in
    let d = c.requires.places in
    record { row = o ∙ sym listed; long = omega arith; entries = omega arith; places = omega arith }

pub saturate-requires : goal.saturate-requires
saturate-requires c =
    let T = model c.args.task.now in
    let P = c.args.pattern.now in
    let A = c.new-abstract_task.result in
    let is : abstract_of A ≡ projected T P = ap₂ projected c.new-abstract_task.ensures.task c.new-abstract_task.ensures.pattern in
    let listed : length (abstract_of A).operators ≡ length T.operators = ap (λ z. length z.operators) is ∙ length-map T.operators (cut_action P) in
    record { row = c.requires.offer.long ∙ sym listed; settled = c.fill_distances.ensures }

pub returns : goal.returns
returns c =
    let T = model c.args.task.now in
    let P = c.args.pattern.now in
    let A = c.new-abstract_task.result in
    let row = c.args.row.now in
    let left = c.saturate.new.row in
    let is : abstract_of A ≡ projected T P = ap₂ projected c.new-abstract_task.ensures.task c.new-abstract_task.ensures.pattern in
    let p = product (sizes T P) in
    let n = c.rank_count-count.result - 0 in
    let w : n ≡ p = whole p c.rank_count-count.result c.rank_count-count.ensures c.requires.few in
    let written = c.fill_distances.new.table in
    let size : product (abstract_of A).domains ≡ p = ap (λ z. product z.domains) is in
    let long : length written ≡ p = c.fill_distances.ensures.long ∙ size in
    let rest = post_of 0 n c.args.table.now in
    let front : take p (written ++ rest) ≡ written = take_at written rest p long in
    let table : IsTable (abstract_of A) row written = settled-table (abstract_of A) row written (closed A) (low T row c.requires.offer) c.fill_distances.ensures in
    record {
      table = subst (IsTable (projected T P) row) (sym front) (subst (λ z. IsTable z row written) is table);
      rest = drop_at written rest p long ∙ ap (λ z. drop z c.args.table.now) w;
      held = λ o h.
          let s = c.saturate.ensures o h in
          (s.0, subst (λ z. IsHeld (projected T P) z o (get_or row o 0 - get_or left o 0)) (sym front) (subst (λ z. IsHeld z written o (get_or row o 0 - get_or left o 0)) is s.1));
      weights = λ i h.
          let pat = c.new-abstract_task.ensures.pattern in
          let pl = ap length pat in
          c.weights.ensures.weights i (omega arith) ∙ ap (λ z. product (drop (i + 1) z.domains)) is;
    }
