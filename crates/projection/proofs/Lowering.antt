-- One entry is lowered, and its rank is queued.
use Rattle.std.proofs.Common.{◌≡◌, ℕ, ◌+◌, ◌<◌, ◌≤◌, List, length, get_or, set, sum, Some, None, Option, sym, ap, ◌∙◌, subst, inl, inr, ⊎_elim, arith, length-set, get_or-set_other, get_or-set_same}
use Rattle.std.proofs.lemmas.Bool.{cases_eq}
use Rattle.std.proofs.lemmas.Map.{update_here, update_apart}
use Rattle.std.proofs.lemmas.List.Sums.{sum_by-set}
use Rattle.queue.specs.declared.Queue.{Queue}
use Rattle.queue.specs.declared.entries.RankEntry.{RankEntry}
use Rattle.queue.specs.Content.{content, Takes, Rows, Changed}
use Rattle.queue.specs.Entries.{rank_item}
use Rattle.projection.specs.declared.distances.Distances.{Distances}
use Rattle.projection.specs.Open.{Open}
use Rattle.projection.specs.Dijkstra.{Relaxed}

pub takes-kept : (q q' : Queue RankEntry) (k : ℕ) → Rows q q' → Takes q k → Takes q' k
takes-kept q q' k r t = record {
  in_entries = (let a = r.entries in let b = t.in_entries in omega arith);
  in_places = (let a = r.places in let b = t.in_places in omega arith);
}

pub some-none : {X : Type 0} {x : X} → ◌≡◌ {A = Option X} (Some x) None → ⊥
some-none e = let z : ◌≡◌ {A = ℕ} 0 1 = cc in omega arith

pub relaxed-put : (D D' : Distances) (rank d : ℕ) → rank < length D.table.now → d < get_or D.table.now rank 0 → D'.table.now ≡ set D.table.now rank d → D'.table.ghost_name ≡ D.table.ghost_name
    → Changed rank_item D.queue D'.queue rank (Some (record { distance = d; rank = rank })) → D'.queue.len ≤ D.queue.len + 1 → Relaxed (λ k. k ≡ rank) d D D'
relaxed-put D D' rank d h l t g c f =
    let same = at rank ∙ get_or-set_same D.table.now rank d 0 h in
    record {
      long = ap length t ∙ length-set D.table.now rank d;
      less = λ k. ⊎_elim
          (λ (m : k ≡ rank). subst (λ z. get_or D'.table.now z 0 ≤ get_or D.table.now z 0) (sym m) (omega arith))
          (λ n. let o = apart k n in omega arith)
          (cases_eq k rank);
      quiet = λ k e. ⊎_elim
          (λ (m : k ≡ rank). absurd (some-none (sym (ap (λ z. content rank_item D'.queue z) m ∙ c rank ∙ update_here (content rank_item D.queue) rank _) ∙ e)))
          (λ n. (sym (c k ∙ update_apart (content rank_item D.queue) rank _ k n) ∙ e, apart k n))
          (cases_eq k rank);
      cause = λ k. ⊎_elim
          (λ (m : k ≡ rank). inr (m, ap (λ z. get_or D'.table.now z 0) m ∙ same))
          (λ n. inl (apart k n))
          (cases_eq k rank);
      later = record { same = g; falls = (let s = sum_by-set (λ x. x) D.table.now rank d 0 h in let e = ap sum t in omega arith) };
    }
  where
    at : (k : ℕ) → get_or D'.table.now k 0 ≡ get_or (set D.table.now rank d) k 0
    at k = ap (λ z. get_or z k 0) t

    apart : (k : ℕ) → (k ≡ rank → ⊥) → get_or D'.table.now k 0 ≡ get_or D.table.now k 0
    apart k n = at k ∙ get_or-set_other D.table.now rank k d 0 n
