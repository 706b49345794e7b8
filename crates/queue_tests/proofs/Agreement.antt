-- A queue and a list that agree still do when both change in one way.
use Rattle.std.proofs.Common.{◌≡◌, ℕ, ◌<◌, ◌≤◌, eqb, List, length, get_or, set, replicate, Some, None, Ok, Err, Option, Result, sym, ap, ◌∙◌, subst, ⊎_elim, arith}
use Rattle.std.proofs.lemmas.List.{length-set, get_or-set_same, get_or-set_other, get_or_past, get_or-replicate, length-replicate}
use Rattle.std.proofs.lemmas.Map.{update_here, update_apart}
use Rattle.std.proofs.lemmas.Bool.{cases_eq, cases_lt}
use Rattle.std.specs.Map.{update}
use Rattle.tables.specs.declared.cause.Cause.{Cause}
use Rattle.queue.specs.declared.Queue.{Queue}
use Rattle.queue.specs.declared.entries.SearchEntry.{SearchEntry}
use Rattle.queue.specs.Content.{content, Takes, Rows, Changed, Put, FirstTaken}
use Rattle.queue.specs.Entries.{search_item, search_no_later}
use Rattle.queue.proofs.First.{some-none}
use Rattle.queue.proofs.Uses.{put-done}
use Rattle.queue_tests.specs.Lists.{Agree}

module _ (p q : Queue SearchEntry) (list : List (Option SearchEntry)) (k : ℕ) (agree : Agree p list) (rows : Rows p q) where
  pub changed-inside : (w : Option SearchEntry) → Changed search_item p q k w → k < length list → Agree q (set list k w)
  changed-inside w changed l = record {
    same = λ j.
        ⊎_elim
        (λ is. changed j ∙ ap (update eqb (content search_item p) k w) is ∙ update_here (content search_item p) k w
        ∙ sym (get_or-set_same list k w None l) ∙ ap (λ z. get_or (set list k w) z None) (sym is))
        (λ ne. changed j ∙ update_apart (content search_item p) k w j ne ∙ agree.same j ∙ sym (get_or-set_other list k j w None ne))
        (cases_eq j k);
    in_entries = rows.entries ∙ agree.in_entries ∙ sym (length-set list k w);
    in_places = rows.places ∙ agree.in_places ∙ sym (length-set list k w);
  }

  pub dropped-outside : Changed search_item p q k None → length list ≤ k → Agree q list
  dropped-outside changed past = record {
    same = λ j.
        ⊎_elim
        (λ is. changed j ∙ ap (update eqb (content search_item p) k None) is ∙ update_here (content search_item p) k None
        ∙ sym (get_or_past list k None past) ∙ ap (λ z. get_or list z None) (sym is))
        (λ ne. changed j ∙ update_apart (content search_item p) k None j ne ∙ agree.same j)
        (cases_eq j k);
    in_entries = rows.entries ∙ agree.in_entries;
    in_places = rows.places ∙ agree.in_places;
  }

pub put-inside : {V : Type 0} (p q : Queue SearchEntry) (list : List (Option SearchEntry)) (x : SearchEntry) (r : Result V Cause)
    → Agree p list → Rows p q → Put search_item x p q r → x.node < length list → Agree q (set list x.node (Some x))
put-inside p q list x r agree rows put l =
    let takes : Takes p x.node = record { in_entries = omega (arith, agree.in_entries); in_places = omega (arith, agree.in_places) } in
    changed-inside p q list x.node agree rows (Some x) (put-done search_item p q x r put takes).changed l

pub put-outside : {V : Type 0} (p q : Queue SearchEntry) (list : List (Option SearchEntry)) (x : SearchEntry) (r : Result V Cause)
    → Agree p list → Put search_item x p q r → length list ≤ x.node → Agree q list
put-outside p q list x (Ok _) agree put past = let b : ⊥ = omega (arith, put.takes.in_entries, agree.in_entries) in absurd b
put-outside p q list x (Err _) agree put past = subst (λ z. Agree z list) (sym put.same) agree

pub taken-inside : (p q : Queue SearchEntry) (list : List (Option SearchEntry)) (x : SearchEntry)
    → Agree p list → FirstTaken search_item search_no_later p q x → x.node < length list
taken-inside p q list x agree taken =
    ⊎_elim (λ l. l)
    (λ past. absurd (some-none (content search_item p x.node) x taken.first.here (agree.same x.node ∙ get_or_past list x.node None past)))
    (cases_lt x.node (length list))

pub empty-list : (q : Queue SearchEntry) (n : ℕ) → ((k : ℕ) → content search_item q k ≡ None) → length q.entries.now ≡ n → length q.places.now ≡ n
    → Agree q (replicate n None)
empty-list q n empty entries places = record {
  same = λ k. empty k ∙ sym (⊎_elim (λ l. get_or-replicate n k None None l) (λ past. get_or_past (replicate n None) k None (simp length-replicate past)) (cases_lt k n));
  in_entries = entries ∙ sym (length-replicate n None);
  in_places = places ∙ sym (length-replicate n None);
}
