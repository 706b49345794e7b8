-- Runs by calls given as data.
use Rattle.std.proofs.Common.{◌≡◌, ℕ, ◌+◌, ◌<◌, ◌≢◌, List, [], ◌∷◌, length, get_or, set, sym, refl, subst, arith, get_or-set_other, get_or-set_same}
use Rattle.task.specs.declared.task.Task.{Task}
use Rattle.task.specs.Model.{model}
use Rattle.task.proofs.Actions.{task-well-formed}
use Rattle.plain.specs.Plain as plain
use Rattle.plain.specs.Plain.{Kind, Lawful, Plain, Answer}
use Rattle.plain.specs.Runs.{Run, Reached}
use Rattle.plain.proofs.Whole.{search-law}
use Rattle.search.specs.declared.data.Call.{Call}
use Rattle.search.specs.declared.data.Reply.{Reply}
use Rattle.search.specs.Replay.{Lent, ReplyOf, OneCall, RunOf, LawfulReplay, zero_node, no_call}

told-stays : (cs : List Call) (rs ts : List Reply) (row₀ : Lent) (run : Run) (n : ℕ) (row : Lent) → ((k : ℕ) → k < n → get_or ts k zero_node ≡ get_or rs k zero_node) → RunOf cs rs row₀ run n row → RunOf cs ts row₀ run n row
told-stays cs rs ts row₀ [] n row h q = q
told-stays cs rs ts row₀ (s ∷ run) n row h q =
    let l : q.0 < n = omega (arith, q.2) in (
      q.0,
      q.1,
      q.2,
      told-stays cs rs ts row₀ run q.0 q.1 (λ k m. h k (omega arith)) q.3,
      q.4,
      subst (λ z. ReplyOf (get_or cs q.0 no_call) z s.answer) (sym (h q.0 l)) q.5,
    )

-- one call more
pub again : {E : Type 0} (est : Kind E) (t t' : Task) (N N' : ℕ) (text : List ℕ → ℕ → List ℕ) (cs : List Call) (rs : List Reply) (row₀ row row' : Lent) (i : ℕ) (r : Reply) (p p' : Plain) (e₀ e e' : E) → t' ≡ t → N' ≡ N → i < length rs →
    (run : Run) × RunOf cs rs row₀ run i row × Reached est (model t) N text e₀ run p e →
    OneCall est (model t') N' text (get_or cs i no_call) row p e r row' p' e' →
    (run : Run) × RunOf cs (set rs i r) row₀ run (i + 1) row' × Reached est (model t) N text e₀ run p' e'
again est t t' N N' text cs rs row₀ row row' i r p p' e₀ e e' et eN l h o = (
  o.step ∷ h.0,
  (
    i,
    row,
    refl,
    told-stays cs rs (set rs i r) row₀ h.0 i row (λ k m. let d : k ≢ i = omega arith in get_or-set_other rs i k r zero_node d) h.1,
    o.asked,
    subst (λ z. ReplyOf (get_or cs i no_call) z o.step.answer) (sym (get_or-set_same rs i r zero_node l)) o.says,
  ),
  (p, e, h.2, subst (λ z. plain.Does est (model z) N text o.step.call p e o.step.answer p' e') et (subst (λ z. plain.Does est (model t') z text o.step.call p e o.step.answer p' e') eN o.does)),
)

pub lawfully : {E : Type 0} (est : Kind E) → Lawful est → (t : Task) (N n m : ℕ) (text : List ℕ → ℕ → List ℕ) (cs : List Call) (rs : List Reply) (row₀ row : Lent) (e₀ : E) (p : Plain) (e : E) → m ≡ n →
    (run : Run) × RunOf cs rs row₀ run m row × Reached est (model t) N text e₀ run p e → LawfulReplay est (model t) N text cs rs n row₀ row e₀ p e
lawfully est law t N n m text cs rs row₀ row e₀ p e q h = record {
  run = h.0;
  bound_read = subst (λ z. RunOf cs rs row₀ h.0 z row) q h.1;
  reached = h.2;
  law = search-law est law (model t) (task-well-formed t) N text e₀ h.0 p e h.2;
}
