-- At first no variable is marked.
use Rattle.std.proofs.Common.{◌≡◌, ℕ, zero, suc, Bool, true, false, get_or, replicate, sym, refl, ◌∙◌, arith}
use Rattle.tables.proofs.rules.is_distinct.Goals as goal

unmarked : (n v : ℕ) → get_or (replicate n false) v false ≡ false
unmarked zero v = refl
unmarked (suc n) zero = refl
unmarked (suc n) (suc v) = unmarked n v

pub loop-entry-init : goal.loop-entry-init
loop-entry-init c = (refl, λ k l. absurd (omega arith), λ v e. let z : ◌≡◌ {A = Bool} false true = sym (unmarked 32 v) ∙ e in absurd (let o : ◌≡◌ {A = ℕ} 0 1 = cc in omega arith), λ i j l m. absurd (omega arith))
