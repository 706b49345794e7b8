-- What lent records hold: those in use, and how many there are in all.
use Rattle.std.specs.Prelude.{◌≡◌, ℕ, List, length, take}
use Rattle.sections.specs.declared.room.Room.{Room}

-- the records in use
abbrev pub held : {T : Type 0} → Room T → List T
held r = take r.used r.records.now

-- how many records there are
abbrev pub capacity : {T : Type 0} → Room T → ℕ
capacity r = length r.records.now

-- q is p over the same lent records
pub record SameLoan {T : Type 0} (p q : Room T) : Type 0 where
  pub capacity : capacity q ≡ capacity p
  pub lender : q.records.ghost_name ≡ p.records.ghost_name
