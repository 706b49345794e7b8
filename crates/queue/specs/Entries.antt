-- The two kinds of entries at hand: of the search's open list, and of the distances in a projection.
use Rattle.std.specs.Prelude.{ℕ, Bool, true, false, cond, nat_le, nat_lt}
use Rattle.queue.specs.declared.entries.SearchEntry.{SearchEntry}
use Rattle.queue.specs.declared.entries.RankEntry.{RankEntry}

-- A lexicographic order: the lesser key decides, and where the keys are equal, what comes after them.
abbrev pub then_by : ℕ → ℕ → Bool → Bool
then_by a b rest = cond (nat_lt a b) true (cond (nat_lt b a) false rest)

abbrev pub search_item : SearchEntry → ℕ
search_item x = x.node

-- By f, then by estimate, then by node.
abbrev pub search_no_later : SearchEntry → SearchEntry → Bool
search_no_later x y = then_by x.f y.f (then_by x.estimate y.estimate (nat_le x.node y.node))

abbrev pub rank_item : RankEntry → ℕ
rank_item x = x.rank

-- By distance, then by rank.
abbrev pub rank_no_later : RankEntry → RankEntry → Bool
rank_no_later x y = then_by x.distance y.distance (nat_le x.rank y.rank)
