-- That the first word is the upper half of the fingerprint, cut to the words.
use Rattle.std.proofs.Common.{◌/◌, ◌%◌, ap, mod-lt}
use Rattle.memory.proofs.index.hash_of.Goals as goal

pub returns : goal.returns
returns c = record { is = ap (λ h. (h / 4294967296) % c.args.slots) c.fingerprint_of-mixed.ensures; low = mod-lt _ c.requires }
