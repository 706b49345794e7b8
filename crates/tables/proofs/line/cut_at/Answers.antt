-- The bytes are cut at the first separator's place, if they have one.
use Rattle.std.proofs.Common.{◌≡◌, rules, tests}
use Rattle.std.proofs.lemmas.Iterator.{IsFirst-from_position, YieldsList-from_slice}
use Rattle.std.proofs.lemmas.List.{take_rest}
use Rattle.tables.proofs.Cuts.{cut-at_first}
use Rattle.tables.proofs.line.cut_at.Goals as goal

pub returns-in_err-at-clause-halves : goal.returns-in_err-at-clause-halves
returns-in_err-at-clause-halves c =
    let sep = c.args.separator in
    let s = c.args.bytes.now in
    let e = cut-at_first sep s c.position.result (IsFirst-from_position _ _ _ (λ b. b ≡ sep) (λ b. b ≡ sep → ⊥) c.position.ensures.ran (YieldsList-from_slice s cc) (λ x q k. search (rules, tests)) (λ x q k. search (rules, tests))) in
    search rules

pub returns-clause-halves : goal.returns-clause-halves
returns-clause-halves c =
    let sep = c.args.separator in
    let s = c.args.bytes.now in
    let e = cut-at_first sep s c.position.result (IsFirst-from_position _ _ _ (λ b. b ≡ sep) (λ b. b ≡ sep → ⊥) c.position.ensures.ran (YieldsList-from_slice s cc) (λ x q k. search (rules, tests)) (λ x q k. search (rules, tests))) in
    simp take_rest (rw c.in_ok-at.was at e)
