-- That the fold computes the fingerprint.
use Rattle.std.proofs.Common.{◌≡◌, ◌∙◌, rules}
use Rattle.std.specs.List.{fold}
use Rattle.std.proofs.iter.runs.Made.{chains}
use mathlib.Core.List.{reverse}
use Rattle.memory.proofs.Words.{mixed, fingerprint-fold}
use Rattle.memory.proofs.index.fingerprint_of.Goals as goal

pub returns : goal.returns
returns c =
    let e : c.fold.result ≡ fold mixed 0 (reverse c.args.state.now) = search (rules, chains) in
    e ∙ fingerprint-fold c.args.state.now
