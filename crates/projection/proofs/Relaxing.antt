-- Lowerings one after another, and to more ranks.
use Rattle.std.proofs.Common.{ℕ, refl, ◌∙◌, inl, inr, ⊎_elim, arith}
use Rattle.projection.specs.declared.distances.Distances.{Distances}
use Rattle.projection.specs.Dijkstra.{Later, Relaxed}

pub later-none : (D : Distances) → Later D D
later-none D = record { same = refl; falls = omega arith }

pub later-then : (D D' D'' : Distances) → Later D D' → Later D' D'' → Later D D''
later-then D D' D'' a b = record { same = b.same ∙ a.same; falls = (let x = a.falls in let y = b.falls in omega arith) }

pub relaxed-none : (C : ℕ → Type 0) (d : ℕ) (D : Distances) → Relaxed C d D D
relaxed-none C d D = record { long = refl; less = λ k. omega arith; quiet = λ k e. (e, refl); cause = λ k. inl refl; later = later-none D }

pub relaxed-then : (C : ℕ → Type 0) (d : ℕ) (D D' D'' : Distances) → Relaxed C d D D' → Relaxed C d D' D'' → Relaxed C d D D''
relaxed-then C d D D' D'' r s = record {
  long = s.long ∙ r.long;
  less = λ k. let a = r.less k in let b = s.less k in omega arith;
  quiet = λ k e. let x = s.quiet k e in let y = r.quiet k x.0 in (y.0, x.1 ∙ y.1);
  cause = λ k. ⊎_elim
      (λ e. ⊎_elim (λ f. inl (e ∙ f)) (λ f. inr (f.0, e ∙ f.1)) (r.cause k))
      (λ e. inr e)
      (s.cause k);
  later = later-then D D' D'' r.later s.later;
}

pub relaxed-wider : (B C : ℕ → Type 0) (d : ℕ) (D D' : Distances) → ((k : ℕ) → B k → C k) → Relaxed B d D D' → Relaxed C d D D'
relaxed-wider B C d D D' w r = record {
  long = r.long;
  less = r.less;
  quiet = r.quiet;
  later = r.later;
  cause = λ k. ⊎_elim (λ e. inl e) (λ e. inr (w k e.0, e.1)) (r.cause k);
}
