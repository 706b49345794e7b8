-- Where the source's bytes are known, those up to the limit are read.
use Rattle.std.proofs.Common.{◌≡◌, ℕ, List, [], ◌++◌, Option, Some, None, IfSome, take, ap, sym, arith}
use Rattle.std.proofs.lemmas.List.{take-take}
use Rattle.std.specs.Option.{option_map}
use Rattle.console.proofs.read_text.Goals as goal

cut : (n : ℕ) (o p : Option (List ℕ)) (empty read kept : List ℕ) → n ≡ 65537 → o ≡ p → empty ≡ [] → IfSome (option_map (take n) o) (λ xs. read ≡ empty ++ xs) → kept ≡ take 65537 read → IfSome p (λ bytes. kept ≡ take 65537 bytes)
cut n None p empty read kept l e none known k = rw (sym e) tt
cut n (Some bytes) p empty read kept l e none known k =
    let first : kept ≡ take 65537 bytes = rw (k, known, none, l) (take-take 65537 65537 bytes (omega arith)) in
    rw (sym e) first

pub returns-clause-first : goal.returns-clause-first
returns-clause-first g c = cut c.take.result.limit _ _ _ _ _ c.take.ensures.limit (ap (λ r. g.R.Read.remaining r.now) c.take.ensures.inner) c.in_ok-bytes.ensures.items c.in_ok-read_to_end.ensures.bytes c.truncate.ensures.items
