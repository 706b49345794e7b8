-- What a status says: when a find is the search's own.
use Rattle.std.proofs.Common.{◌≡◌, ℕ, sym, ap, ◌∙◌}
use Rattle.task.specs.Model.{Model}
use Rattle.plain.specs.Plain as plain
use Rattle.memory.specs.Rows.{nodes_of}
use Rattle.search.specs.declared.answer.Find.{Find}
use Rattle.search.specs.declared.inner.Core.{Core}
use Rattle.search.specs.declared.inner.Status.{Status}
use Rattle.search.specs.declared.inner.Status.TheVariants.{Fresh, Running, Found, NoPlan, Full}
use Rattle.search.specs.Search.{plain_of, find_of, status_of, Standing, Valid}

found-is : (t : Model) (s : Core) (f : Find) (st : Status) → Standing t s st → status_of st ≡ plain.found f.node → (plain.node (nodes_of s.memory) f.node).g ≡ f.cost → st ≡ Found f
found-is t s f Fresh h e c = cc
found-is t s f Running h e c = cc
found-is t s f (Found x) h e c =
    let n : x.node ≡ f.node = cc in
    let q : x.cost ≡ f.cost = sym h.1 ∙ ap (λ (k : ℕ). (plain.node (nodes_of s.memory) k).g) n ∙ c in
    λ i. Found (record { node = n i; cost = q i })
found-is t s f NoPlan h e c = cc
found-is t s f Full h e c = cc

pub not_own : (t : Model) (s : Core) (f : Find) → Valid t s → (s.status ≡ Found f → ⊥) → plain.OwnFind (plain_of s) (find_of f) → ⊥
not_own t s f v h o = h (found-is t s f s.status v.stands o.ends o.costs)
