-- That a queue serves a table is one fact: it has one proof at most.
use Rattle.std.specs.Prelude.{◌≡◌, ℕ, ◌<◌, List, length, Some}
use denote.Struct.Props.{props}
use Rattle.queue.specs.declared.Queue.{Queue}
use Rattle.queue.specs.declared.entries.RankEntry.{RankEntry}
use Rattle.queue.specs.Heap.{Room}
use Rattle.queue.specs.Content.{content, Takes}
use Rattle.queue.specs.Entries.{rank_item}
use Rattle.projection.specs.Open.{Open}

room-prop : (entries : List RankEntry) (places : List ℕ) (item : ℕ) → IsProp (Room entries places item)
room-prop entries places item a b =
    let in_entries : IsProp (item < length entries) = hlevel props in
    let in_places : IsProp (item < length places) = hlevel props in
    λ i. record { in_entries = in_entries a.in_entries b.in_entries i; in_places = in_places a.in_places b.in_places i }

pub open-prop : (table : List ℕ) (q : Queue RankEntry) → IsProp (Open table q)
open-prop table q a b =
    let takes : IsProp ((k : ℕ) → k < length table → Takes q k) = hlevel (props, room-prop) in
    let inside : IsProp ((k : ℕ) (e : RankEntry) → content rank_item q k ≡ Some e → k < length table) = hlevel props in
    λ i. record { takes = takes a.takes b.takes i; inside = inside a.inside b.inside i }
