-- One step of the search in the words of the plain search.
use Rattle.std.proofs.Common.{◌≡◌, ℕ, zero, suc, ◌+◌, ◌-◌, ◌*◌, ◌^◌, ◌<◌, ◌≤◌, max, List, length, set, Ok, Err, Result, sym, refl, ap, ◌∙◌, subst, mul-le-mul_right, mul-le-mul_left, add-one, arith, get_or-set_same}
use Rattle.task.specs.Model.{Model, prices, dearest, IsGoal}
use Rattle.plain.specs.Plain as plain
use Rattle.plain.specs.Plain.{Plain, Least, GeneratesAll, Expands, Finds, Overflows, Expansions}
use Rattle.plain.proofs.Placed.{set-placed}
use Rattle.plain.proofs.Budget.{budget-take, budget-total}
use Rattle.queue.specs.declared.entries.SearchEntry.{SearchEntry}
use Rattle.search.specs.declared.inner.Core.{Core}
use Rattle.search.specs.declared.inner.Status.TheVariants.{Running}
use Rattle.memory.specs.Rows.{nodes_of, TakenFirst}
use Rattle.memory.specs.Steps.{NoRoom, WithinLimits}
use Rattle.memory.specs.Expanded.{ExpandsTo}
use Rattle.memory.specs.declared.full.Full.{Full}
use Rattle.search.specs.Search.{plain_of, status_of, ended}
use Rattle.memory.specs.Trees.{ParentTree}
use Rattle.memory.specs.declared.memory.Memory.{Memory}
use Rattle.memory.proofs.Held.{count_of}
use Rattle.memory.proofs.Tried.{by_place}
use Rattle.memory.proofs.Trees.{tree-take}

-- taking the least entry out keeps the limits, with one expansion more
pub take-limits : (t : Model) (N total x h : ℕ) (ns : List plain.Node) → Least ns x h → WithinLimits t N total ns → WithinLimits t N (total + 1) (set ns x (plain.dequeued (plain.node ns x)))
take-limits t N total x h ns least limits =
    let v = plain.dequeued (plain.node ns x) in
    let l = least.in_queue.0 in
    record {
      low = by_place ns (set ns x v) x (dearest (prices t)) v (set-placed ns x v l) limits.low (limits.low x l);
      budget = budget-take N (dearest (prices t)) total ns x h v l refl refl least.in_queue.1 limits.budget;
    }

-- an expansion, whole or not, applies the first operators of the task, so many of them
pub expanded-some : {E : Type 0} (est : plain.Kind E) (t : Model) (N x : ℕ) (ns : List plain.Node) (e : E) (r : Result (Unit {0}) Full) (ns' : List plain.Node) (e' : E) → ExpandsTo est t N x ns e r ns' e' → (n : ℕ) × GeneratesAll est t N x 0 n ns e ns' e'
expanded-some est t N x ns e (Ok _) ns' e' h = (length t.operators, h)
expanded-some est t N x ns e (Err full) ns' e' h = (full.operator, h.0)

module _ (ns : List plain.Node) (top : SearchEntry) (ms : List plain.Node) (taken : TakenFirst ns top ms) where
  taken_at : plain.node ms top.node ≡ plain.dequeued (plain.node ns top.node)
  taken_at = ap (λ z. plain.node z top.node) taken.after ∙ get_or-set_same ns top.node _ plain.no_node taken.inside

  pub taken-state : (plain.node ms top.node).state ≡ (plain.node ns top.node).state
  taken-state = ap (λ z. z.state) taken_at

  pub taken-g : (plain.node ms top.node).g ≡ (plain.node ns top.node).g
  taken-g = ap (λ z. z.g) taken_at

  pub taken-inside : (m m' : Memory) → nodes_of m ≡ ns → m'.held ≡ m.held → top.node < m'.held
  taken-inside m m' e h = let l = taken.inside in let n = count_of m in let k = ap length e in omega arith

  -- the limits hold with one expansion more, and so with none more
  pub taken-limits : (t : Model) (N total : ℕ) → WithinLimits t N total ns → WithinLimits t N (total + 1) ms
  taken-limits t N total h = subst (λ z. WithinLimits t N (total + 1) z) (sym taken.after) (take-limits t N total top.node top.estimate ns taken.least h)

  pub taken-tree : ParentTree ns → ParentTree ms
  taken-tree h = subst ParentTree (sym taken.after) (tree-take ns top.node taken.inside h)

-- limits of a greater count are limits of a lesser one
pub fewer-limits : (t : Model) (N total : ℕ) (ns : List plain.Node) → WithinLimits t N (total + 1) ns → WithinLimits t N total ns
fewer-limits t N total ns h = record { low = h.low; budget = record { within = h.budget.within; paid = let p = h.budget.paid in omega arith } }

pub limits-small : (t : Model) (N total : ℕ) (ns : List plain.Node) → WithinLimits t N total ns → N ≤ 65535 → dearest (prices t) ≤ 65535 → total < 2 ^ 60
limits-small t N total ns h ln lk =
    let K = dearest (prices t) in
    let a : total ≤ N * ((N - 1) * K + 1) = budget-total N K total ns h.budget in
    let m : N - 1 ≤ 65535 = omega arith in
    let b : (N - 1) * K ≤ 65535 * K = mul-le-mul_right K m in
    let c : (N - 1) * K + 1 ≤ 4294836226 = omega arith in
    let d : N * ((N - 1) * K + 1) ≤ N * 4294836226 = mul-le-mul_left N c in
    omega arith

module _ {E : Type 0} (est : plain.Kind E) (t : Model) (N : ℕ) (s s' : Core) (top : SearchEntry) (ms : List plain.Node) (taken : TakenFirst (nodes_of s.memory) top ms) (e e' : E) where
  bounds : (b : ℕ) → b ≡ max s.bound top.f → b ≡ max s.bound ((plain.node (nodes_of s.memory) top.node).g + top.estimate)
  bounds b q = q ∙ ap (λ z. max s.bound z) taken.sum

  roomed : (N' n : ℕ) → N' ≡ N → GeneratesAll est t N' top.node 0 n ms e (nodes_of s'.memory) e' → GeneratesAll est t N top.node 0 n ms e (nodes_of s'.memory) e'
  roomed N' n eN r = subst (λ z. GeneratesAll est t z top.node 0 n ms e (nodes_of s'.memory) e') eN r

  pub expands-of : (N' n : ℕ) → N' ≡ N → (IsGoal t (plain.node (nodes_of s.memory) top.node).state → ⊥) → GeneratesAll est t N' top.node 0 n ms e (nodes_of s'.memory) e' → n ≡ length t.operators →
      s'.status ≡ Running → s'.bound ≡ max s.bound top.f → s'.total ≡ s.total + 1 → Expands est t N (plain_of s) e (plain_of s') e'
  expands-of N' n eN short generates en es eb et = record {
    x = top.node;
    h = top.estimate;
    nodes = nodes_of s'.memory;
    least = taken.least;
    short = short;
    generates = subst (λ z. GeneratesAll est t N top.node 0 (length t.operators) z e (nodes_of s'.memory) e') taken.after (subst (λ z. GeneratesAll est t N top.node 0 z ms e (nodes_of s'.memory) e') en (roomed N' n eN generates));
    after = λ j. record { status = status_of (es j); nodes = nodes_of s'.memory; bound = bounds s'.bound eb j; total = et j };
  }

  pub finds-of : IsGoal t (plain.node (nodes_of s.memory) top.node).state → nodes_of s'.memory ≡ ms → s'.bound ≡ max s.bound top.f → s'.total ≡ s.total →
      Finds est t N (plain_of s) top.node (ended (plain.found top.node) (plain_of s'))
  finds-of goal em eb et = record {
    h = top.estimate;
    least = taken.least;
    goal = goal;
    after = λ j. record { status = plain.found top.node; nodes = (em ∙ taken.after) j; bound = bounds s'.bound eb j; total = et j };
  }

  pub overflows-of : (N' n : ℕ) → N' ≡ N → (IsGoal t (plain.node (nodes_of s.memory) top.node).state → ⊥) → GeneratesAll est t N' top.node 0 n ms e (nodes_of s'.memory) e' → NoRoom t N' top.node n (nodes_of s'.memory) →
      s'.bound ≡ max s.bound top.f → s'.total ≡ s.total + 1 → Overflows est t N (plain_of s) e (ended plain.full (plain_of s')) e'
  overflows-of N' n eN short generates full eb et = record {
    x = top.node;
    h = top.estimate;
    i = n;
    nodes = nodes_of s'.memory;
    least = taken.least;
    short = short;
    generates = subst (λ z. GeneratesAll est t N top.node 0 n z e (nodes_of s'.memory) e') taken.after (roomed N' n eN generates);
    applies = full.applies;
    unheld = full.unheld;
    filled = omega (arith, full.filled);
    after = λ j. record { status = plain.full; nodes = nodes_of s'.memory; bound = bounds s'.bound eb j; total = et j };
  }

-- one expansion more
pub expansions-snoc : {E : Type 0} (est : plain.Kind E) (t : Model) (N n : ℕ) (p q r : Plain) (e d f : E) → Expansions est t N n p e q d → Expands est t N q d r f → Expansions est t N (n + 1) p e r f
expansions-snoc {E} est t N n p q r e d f h x = rw add-one (go n p e h)
  where
    go : (n : ℕ) (p : Plain) (e : E) → Expansions est t N n p e q d → Expansions est t N (suc n) p e r f
    go zero p e h = (r, f, subst (λ z. Expands est t N z e r f) h.0 (subst (λ z. Expands est t N q z r f) h.1 x), (refl, refl))
    go (suc n) p e h = (h.0, h.1, h.2, go n h.0 h.1 h.3)
