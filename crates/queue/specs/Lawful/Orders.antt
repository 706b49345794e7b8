-- That the order of every kind of entries is total, transitive and antisymmetric, where `no_later` says what the type's own comparison does and no two entries are tied.
use Rattle.std.specs.Prelude.{◌≡◌, Bool, true, false}
use Rattle.std.specs.Cmp.{IsTotalOrder, upto}
use Rattle.std.specs.Ordering.{is_le, is_gt, ordering_reverse}
use Rattle.std.specs.declared.cmp.Ordering.{Ordering}
use Rattle.std.specs.declared.cmp.Ordering.TheVariants.{Less, Equal, Greater}
use Rattle.std.proofs.Common.{refl, sym, ap, ◌∙◌}
use Rattle.queue.specs.Entries.{search_no_later, rank_no_later}
use Rattle.queue.specs.contracts.entries.SearchEntryOrd.TheImpl.Laws as search_ord
use Rattle.queue.specs.contracts.entries.SearchEntryQueueEntry.TheImpl.Laws as search_entry
use Rattle.queue.specs.contracts.entries.RankEntryOrd.TheImpl.Laws as rank_ord
use Rattle.queue.specs.contracts.entries.RankEntryQueueEntry.TheImpl.Laws as rank_entry

pub record TotalOrder {X : Type 0} (no_later : X → X → Bool) : Type 0 where
  pub total : (x y : X) → no_later x y ≡ false → no_later y x ≡ true
  pub transitive : (x y z : X) → no_later x y ≡ true → no_later y z ≡ true → no_later x z ≡ true
  pub antisymmetric : (x y : X) → no_later x y ≡ true → no_later y x ≡ true → x ≡ y

turned : (r : Ordering) → is_le r ≡ false → is_le (ordering_reverse r) ≡ true
turned Less h = cc
turned Equal h = cc
turned Greater h = refl

not_after : (r : Ordering) → is_le r ≡ true → is_gt r ≡ false
not_after Less h = refl
not_after Equal h = refl
not_after Greater h = cc

before_or_tied : (r : Ordering) → is_gt r ≡ false → is_le r ≡ true
before_or_tied Less h = refl
before_or_tied Equal h = refl
before_or_tied Greater h = cc

tied : (r : Ordering) → is_le r ≡ true → is_le (ordering_reverse r) ≡ true → r ≡ Equal
tied Less h k = cc
tied Equal h k = refl
tied Greater h k = cc

pub entry_order : {X : Type 0} {cmp : X → X → Ordering} {no_later : X → X → Bool} → IsTotalOrder cmp → ((x y : X) → is_le (cmp x y) ≡ no_later x y) → ((x y : X) → cmp x y ≡ Equal → x ≡ y)
    → TotalOrder no_later
entry_order {cmp = cmp} o is no_ties = record {
  total = λ x y h. sym (is y x) ∙ ap is_le (o.antisymm y x) ∙ turned (cmp x y) (is x y ∙ h);
  transitive = λ x y z h k.
      sym (is x z) ∙ before_or_tied (cmp x z) (upto o x y z (not_after (cmp x y) (is x y ∙ h)) (not_after (cmp y z) (is y z ∙ k)));
  antisymmetric = λ x y h k. no_ties x y (tied (cmp x y) (is x y ∙ h) (sym (ap is_le (o.antisymm y x)) ∙ is y x ∙ k));
}

pub search_order : TotalOrder search_no_later
search_order = entry_order search_ord.total-law search_entry.matches_cmp-law search_entry.no_ties-law

pub rank_order : TotalOrder rank_no_later
rank_order = entry_order rank_ord.total-law rank_entry.matches_cmp-law rank_entry.no_ties-law
