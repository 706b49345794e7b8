-- An operator's entries name variables below 32, as all entries do.
use Rattle.std.proofs.Common.{◌+◌, ◌<◌, length}
use Rattle.tables.specs.Records.{zero_entry, end_at, entries_of}
use Rattle.tables.proofs.Lists.{part_at}
use Rattle.tables.proofs.rules.operator_distinct.Goals as goal

pub is_distinct-requires : goal.is_distinct-requires
is_distinct-requires c = λ k l.
    let o = c.args.operator.now in
    let m : k < length (entries_of c.args.entries.now o) = rw c.entries_in.ensures at l in
    let p = part_at c.args.entries.now o.first (end_at o) k zero_entry m in
    rw (c.entries_in.ensures, p.2) (c.requires.inside (o.first + k) p.1)
