-- What a change of the memory does to its nodes.
use Rattle.std.proofs.Common.{◌≡◌, ℕ, ◌+◌, ◌*◌, ◌<◌, ◌≤◌, Bool, true, leb, ◌≢◌, ◌⊎◌, List, [], ◌∷◌, ◌++◌, length, get_or, take, drop, set, Some, None, Option, sym, refl, ap, ◌∙◌, subst, inl, inr, mul-le-mul_right, arith, length-set, get_or-set_other, get_or-set_same, MatchOption}
use Rattle.std.proofs.lemmas.Map.{update_here, update_apart}
use Rattle.std.proofs.lemmas.Bool.Decides.{nat_tests}
use Rattle.plain.specs.Plain as plain
use Rattle.plain.specs.Plain.{NoLater, NoLater.by_f, NoLater.by_estimate, NoLater.by_node}
use lib.Seq.{get_or-append_seam}
use Rattle.plain.proofs.Splits.{lt-or-le, same_or_not}
use Rattle.queue.proofs.First.{some-none}
use Rattle.queue.specs.Content.{content, Rows, Changed, First, Taken}
use Rattle.queue.specs.Entries.{then_by, search_item, search_no_later}
use Rattle.memory.specs.declared.node.Node.{Node}
use Rattle.queue.specs.declared.entries.SearchEntry.{SearchEntry}
use Rattle.memory.specs.declared.memory.Memory.{Memory}
use Rattle.memory.specs.Index.{Indexed, Vacant}
use Rattle.memory.specs.Rows.{rows, zero_node, queued_of, state_at, record_at, node_in, nodes_of, EntryFor, QueueAgrees, RoomFor, Consistent, Untouched, TakenFirst}
use Rattle.memory.proofs.Tables.{rows-set, rows-add, rows_upto, slice_is, slice-same, set_last}
use Rattle.memory.proofs.Words.{indexed-add}
use Rattle.memory.proofs.Held.{count_of, node-is, state-is, g-is}

pub node-same : (m m' : Memory) (k : ℕ) → state_at m' k ≡ state_at m k → record_at m' k ≡ record_at m k → content search_item m'.queue k ≡ content search_item m.queue k → node_in m' k ≡ node_in m k
node-same m m' k a b c = λ j. plain.new_node (a j) (b j).g (b j).parent (b j).operator (queued_of (c j))

none_of : (o : Option SearchEntry) → ((e : SearchEntry) → o ≡ Some e → ⊥) → o ≡ None
none_of None h = refl
none_of (Some e) h = absurd (h e refl)

-- what stays of the memory when its state rows and its index do
pub record Kept (m m' : Memory) : Type 0 where
  pub variables : m'.variables ≡ m.variables
  pub capacity : m'.capacity ≡ m.capacity
  pub held : m'.held ≡ m.held
  pub states : m'.states.now ≡ m.states.now
  pub index : m'.index.now ≡ m.index.now

kept-state : (m m' : Memory) → Kept m m' → (k : ℕ) → state_at m' k ≡ state_at m k
kept-state m m' h k = λ j. take (h.variables j) (drop (k * h.variables j) (h.states j))

-- where only records of held nodes and the open list change, the rest of the memory stays
pub kept-untouched : (m m' : Memory) → Kept m m' → length m'.nodes.now ≡ length m.nodes.now → ((k : ℕ) → m.held ≤ k → record_at m' k ≡ record_at m k) → Untouched m m'
kept-untouched m m' h long recs = record {
  variables = h.variables;
  capacity = h.capacity;
  grows = omega (arith, h.held);
  record_count = long;
  byte_count = ap length h.states;
  records = λ k l. recs k (omega (arith, h.held));
  bytes = λ j l. ap (λ z. get_or z j 0) h.states;
}

pub untouched-same : (m : Memory) → Untouched m m
untouched-same m = record { variables = refl; capacity = refl; grows = omega arith; record_count = refl; byte_count = refl; records = λ k l. refl; bytes = λ j l. refl }

pub untouched-both : (m n o : Memory) → Untouched m n → Untouched n o → Untouched m o
untouched-both m n o a b = record {
  variables = b.variables ∙ a.variables;
  capacity = b.capacity ∙ a.capacity;
  grows = omega (arith, a.grows, b.grows);
  record_count = b.record_count ∙ a.record_count;
  byte_count = b.byte_count ∙ a.byte_count;
  records = λ k l. b.records k l ∙ a.records k (omega (arith, b.grows));
  bytes = λ j l. b.bytes j (rw a.variables l) ∙ a.bytes j (omega (arith, mul-le-mul_right m.variables b.grows, l));
}

module _ (m m' : Memory) (consistent : Consistent m) (kept : Kept m m') (long : length m'.nodes.now ≡ length m.nodes.now) (queue : Rows m.queue m'.queue) where
  kept-roomy : RoomFor m'
  kept-roomy = record {
    small = omega (arith, consistent.lent.small, kept.capacity);
    nodes = omega (arith, consistent.lent.nodes, kept.capacity);
    states = rw (kept.capacity, kept.variables, kept.states) consistent.lent.states;
    index = omega (arith, consistent.lent.index, kept.capacity, ap length kept.index);
    entries = omega (arith, consistent.lent.entries, kept.capacity, queue.entries);
    places = omega (arith, consistent.lent.places, kept.capacity, queue.places);
  }

  kept-indexed : Indexed m'.index.now (state_at m') m'.held
  kept-indexed =
      let e : state_at m' ≡ state_at m = λ j k. kept-state m m' kept k j in
      subst (λ z. Indexed m'.index.now (state_at m') z) (sym kept.held)
      (subst (λ z. Indexed z (state_at m') m.held) (sym kept.index) (subst (λ z. Indexed m.index.now z m.held) (sym e) consistent.indexed))

  pub kept_fine : QueueAgrees m' → Consistent m'
  kept_fine t = record { lent = kept-roomy; within = omega (arith, consistent.within, kept.held, kept.capacity); indexed = kept-indexed; agrees = t }

  -- the node k is changed, and no other
  pub kept-nodes : (k : ℕ) (n : plain.Node) → k < m.held → node_in m' k ≡ n → ((j : ℕ) → j ≢ k → (record_at m' j ≡ record_at m j) × (content search_item m'.queue j ≡ content search_item m.queue j)) →
      nodes_of m' ≡ set (nodes_of m) k n
  kept-nodes k n l e h =
      subst (λ z. rows (node_in m') z ≡ set (nodes_of m) k n) (sym kept.held)
      (subst (λ z. rows (node_in m') m.held ≡ set (nodes_of m) k z) e
      (rows-set (node_in m) (node_in m') m.held k l (λ j lj d. node-same m m' j (kept-state m m' kept j) (h j d).0 (h j d).1)))

-- the content of the open list changes at one item
module _ (m m' : Memory) (k : ℕ) (w : Option SearchEntry) (kept : Kept m m') (others : (j : ℕ) → j ≢ k → record_at m' j ≡ record_at m j) (ch : Changed search_item m.queue m'.queue k w) where
  pub here : content search_item m'.queue k ≡ w
  here = ch k ∙ update_here (content search_item m.queue) k w

  pub apart : (j : ℕ) → j ≢ k → content search_item m'.queue j ≡ content search_item m.queue j
  apart j d = ch j ∙ update_apart (content search_item m.queue) k w j d

  pub agrees-change : QueueAgrees m → ((e : SearchEntry) → w ≡ Some e → EntryFor m' k e) → QueueAgrees m'
  agrees-change t new j e q = side (same_or_not j k)
    where
      side : (j ≡ k) ⊎ (j ≢ k) → EntryFor m' j e
      side (inl z) = subst (λ i. EntryFor m' i e) (sym z) (new e (sym here ∙ sym (ap (content search_item m'.queue) z) ∙ q))
      side (inr d) =
          let o = t j e (sym (apart j d) ∙ q) in
          record { inside = omega (arith, o.inside, kept.held); sum = omega (arith, o.sum, ap (λ z. z.g) (others j d)); node = o.node }

-- the order of the open list
key-cases : (a b : ℕ) (t : Bool) → then_by a b t ≡ true → (a < b) ⊎ ((a ≡ b) × (t ≡ true))
key-cases a b t e = side (lt-or-le a b) (lt-or-le b a)
  where
    side : (a < b) ⊎ (b ≤ a) → (b < a) ⊎ (a ≤ b) → (a < b) ⊎ ((a ≡ b) × (t ≡ true))
    side (inl l) _ = inl l
    side (inr l) (inl n) = absurd (grind (arith, nat_tests))
    side (inr l) (inr n) = inr (omega arith, grind (arith, nat_tests))

last-le : (a b : ℕ) → leb a b ≡ true → a ≤ b
last-le a b e = grind (arith, nat_tests)

pub le-before : (x y : SearchEntry) → search_no_later x y ≡ true → NoLater x.f x.estimate x.node y.f y.estimate y.node
le-before x y e = side (key-cases x.f y.f _ e)
  where
    side : (x.f < y.f) ⊎ ((x.f ≡ y.f) × (then_by x.estimate y.estimate (leb x.node y.node) ≡ true)) → NoLater x.f x.estimate x.node y.f y.estimate y.node
    side (inl l) = by_f l
    side (inr q) = next (key-cases x.estimate y.estimate _ q.1)
      where
        next : (x.estimate < y.estimate) ⊎ ((x.estimate ≡ y.estimate) × (leb x.node y.node ≡ true)) → NoLater x.f x.estimate x.node y.f y.estimate y.node
        next (inl l) = by_estimate q.0 l
        next (inr r) = by_node q.0 r.0 (last-le x.node y.node r.1)

queued-some : (o : Option SearchEntry) (j : ℕ) → queued_of o ≡ Some j → (y : SearchEntry) × (o ≡ Some y) × (y.estimate ≡ j)
queued-some None j e = absurd (let z : ◌≡◌ {A = ℕ} 0 1 = cc in omega arith)
queued-some (Some y) j e = (y, refl, cc)

-- a queued node has an entry in the open list
pub queued-entry : (m : Memory) → Consistent m → (k h : ℕ) → plain.Queued (nodes_of m) k h → (y : SearchEntry) × (content search_item m.queue k ≡ Some y) × (y.estimate ≡ h) × EntryFor m k y
queued-entry m consistent k h w =
    let l : k < m.held = omega (arith, w.0, count_of m) in
    let o = queued-some (content search_item m.queue k) h (sym (ap (λ z. z.queued) (node-is m k l)) ∙ w.1) in
    (o.0, o.1, o.2, consistent.agrees k o.0 o.1)

pub entry-queued : (m : Memory) (k : ℕ) (e : SearchEntry) → k < m.held → content search_item m.queue k ≡ Some e → plain.Queued (nodes_of m) k e.estimate
entry-queued m k e l q = (omega (arith, count_of m), ap (λ z. z.queued) (node-is m k l) ∙ ap queued_of q)

pub first-least : (m : Memory) → Consistent m → (e : SearchEntry) → First search_item search_no_later m.queue e → plain.Least (nodes_of m) e.node e.estimate
first-least m consistent e f = record {
  in_queue = entry-queued m e.node e o.inside f.here;
  first = λ k j w.
      let y = queued-entry m consistent k j w in
      let b = le-before e y.0 (f.least k y.0 y.1) in
      moved y.0.f y.0.estimate y.0.node _ j k (y.3.sum ∙ ap (λ z. z + y.0.estimate) (sym (g-is m k y.3.inside)) ∙ ap (λ z. (plain.node (nodes_of m) k).g + z) y.2) y.2 y.3.node
      (from e.f _ sum b);
}
  where
    o : EntryFor m e.node e
    o = consistent.agrees e.node e f.here

    sum : e.f ≡ (plain.node (nodes_of m) e.node).g + e.estimate
    sum = o.sum ∙ ap (λ z. z + e.estimate) (sym (g-is m e.node o.inside))

    from : {h k f' h' k' : ℕ} (a b : ℕ) → a ≡ b → NoLater a h k f' h' k' → NoLater b h k f' h' k'
    from a b q z = rw q at z

    moved : {f h k : ℕ} (a b c a' b' c' : ℕ) → a ≡ a' → b ≡ b' → c ≡ c' → NoLater f h k a b c → NoLater f h k a' b' c'
    moved a b c a' b' c' p q r z = rw (p, q, r) at z

pub none-queued : (m : Memory) → Consistent m → ((k : ℕ) → content search_item m.queue k ≡ None) → (k h : ℕ) → plain.Queued (nodes_of m) k h → ⊥
none-queued m consistent n k h w = let y = queued-entry m consistent k h w in some-none (content search_item m.queue k) y.0 y.1 (n k)

-- one node's record and its entry in the open list are changed
pub change-done : (m m' : Memory) (k : ℕ) (r : Node) (w : Option SearchEntry) → Consistent m → Kept m m' → length m'.nodes.now ≡ length m.nodes.now → Rows m.queue m'.queue →
    k < m.held → record_at m' k ≡ r → ((j : ℕ) → j ≢ k → record_at m' j ≡ record_at m j) → Changed search_item m.queue m'.queue k w →
    ((e : SearchEntry) → w ≡ Some e → EntryFor m' k e) →
    Consistent m' × (nodes_of m' ≡ set (nodes_of m) k (plain.new_node (plain.node (nodes_of m) k).state r.g r.parent r.operator (queued_of w)))
change-done m m' k r w consistent kept long qs l rec others ch new = (
  kept_fine m m' consistent kept long qs (agrees-change m m' k w kept others ch consistent.agrees new),
  kept-nodes m m' consistent kept long qs k _ l is (λ j d. (others j d, apart m m' k w kept others ch j d)),
)
  where
    same : state_at m' k ≡ (plain.node (nodes_of m) k).state
    same = kept-state m m' kept k ∙ sym (state-is m k l)

    at-k : content search_item m'.queue k ≡ w
    at-k = here m m' k w kept others ch

    is : node_in m' k ≡ plain.new_node (plain.node (nodes_of m) k).state r.g r.parent r.operator (queued_of w)
    is = λ j. plain.new_node (same j) (rec j).g (rec j).parent (rec j).operator (queued_of (at-k j))

-- a held node gets another record, and its entry in the open list becomes w
pub record Improved (m m' : Memory) (k : ℕ) (r : Node) (w : Option SearchEntry) : Type 0 where
  pub kept : Kept m m'
  pub nodes : m'.nodes.now ≡ set m.nodes.now k r
  pub rows : Rows m.queue m'.queue
  pub changed : Changed search_item m.queue m'.queue k w
  pub entry : (e : SearchEntry) → w ≡ Some e → (e.f ≡ r.g + e.estimate) × (e.node ≡ k)

pub improve-done : (m m' : Memory) (k : ℕ) (r : Node) (w : Option SearchEntry) → Consistent m → k < m.held → Improved m m' k r w →
    Consistent m' × Untouched m m' × (nodes_of m' ≡ set (nodes_of m) k (plain.new_node (plain.node (nodes_of m) k).state r.g r.parent r.operator (queued_of w)))
improve-done m m' k r w consistent l i =
    let long : length m'.nodes.now ≡ length m.nodes.now = ap length i.nodes ∙ length-set m.nodes.now k r in
    let here : record_at m' k ≡ r = ap (λ z. get_or z k zero_node) i.nodes ∙ get_or-set_same m.nodes.now k r zero_node (omega (arith, consistent.within, consistent.lent.nodes)) in
    let others : (j : ℕ) → j ≢ k → record_at m' j ≡ record_at m j = λ j d. ap (λ z. get_or z j zero_node) i.nodes ∙ get_or-set_other m.nodes.now k j r zero_node d in
    let d = change-done m m' k r w consistent i.kept long i.rows l here others i.changed
    (λ e q. record { inside = omega (arith, i.kept.held); sum = (i.entry e q).0 ∙ ap (λ z. z.g + e.estimate) (sym here); node = (i.entry e q).1 }) in
    (d.0, kept-untouched m m' i.kept long (λ j z. others j (omega arith)), d.1)

-- a record stays, and its entry in the open list goes
dequeued-done : (m m' : Memory) (k : ℕ) → Consistent m → Kept m m' → m'.nodes.now ≡ m.nodes.now → Rows m.queue m'.queue → k < m.held → Changed search_item m.queue m'.queue k None →
    Consistent m' × (nodes_of m' ≡ set (nodes_of m) k (plain.dequeued (plain.node (nodes_of m) k)))
dequeued-done m m' k consistent kept en qs l ch =
    let recs : (j : ℕ) → record_at m' j ≡ record_at m j = λ j. ap (λ z. get_or z j zero_node) en in
    let d = change-done m m' k (record_at m k) None consistent kept (ap length en) qs l (recs k) (λ j _. recs j) ch (λ e q. absurd (some-none None e q refl)) in
    (d.0, d.1 ∙ ap (λ (z : plain.Node). set (nodes_of m) k (plain.new_node (plain.node (nodes_of m) k).state z.g z.parent z.operator None)) (sym (node-is m k l)))

pub kept-all : (m m' : Memory) → Consistent m → Kept m m' → m'.nodes.now ≡ m.nodes.now → Rows m.queue m'.queue → ((k : ℕ) → content search_item m'.queue k ≡ content search_item m.queue k) →
    Consistent m' × (nodes_of m' ≡ nodes_of m)
kept-all m m' consistent kept en qs same =
    let recs : (j : ℕ) → record_at m' j ≡ record_at m j = λ j. ap (λ z. get_or z j zero_node) en in (
      kept_fine m m' consistent kept (ap length en) qs (λ k e q.
          let o = consistent.agrees k e (sym (same k) ∙ q) in
          record { inside = omega (arith, o.inside, kept.held); sum = omega (arith, o.sum, ap (λ z. z.g) (recs k)); node = o.node }),
      subst (λ z. rows (node_in m') z ≡ nodes_of m) (sym kept.held) (rows_upto (node_in m) (node_in m') m.held (λ k l. node-same m m' k (kept-state m m' kept k) (recs k) (same k))),
    )

-- what the least entry of the open list tells, and what is left without it
pub taken-done : (m m' : Memory) (o : Option SearchEntry) → Consistent m → Kept m m' → m'.nodes.now ≡ m.nodes.now → Rows m.queue m'.queue →
    Taken search_item search_no_later m.queue m'.queue o →
    Consistent m' × MatchOption o (((k h : ℕ) → plain.Queued (nodes_of m) k h → ⊥) × (nodes_of m' ≡ nodes_of m)) (λ e. TakenFirst (nodes_of m) e (nodes_of m'))
taken-done m m' None consistent kept en qs h = let d = kept-all m m' consistent kept en qs (λ k. ap (λ q. content search_item q k) h.same) in (d.0, (none-queued m consistent h.empty, d.1))
taken-done m m' (Some e) consistent kept en qs h =
    let o = consistent.agrees e.node e h.first.here in
    let d = dequeued-done m m' e.node consistent kept en qs o.inside h.changed in (
      d.0,
      record {
        inside = omega (arith, count_of m, o.inside);
        least = first-least m consistent e h.first;
        sum = omega (arith, o.sum, g-is m e.node o.inside);
        after = d.1;
      },
    )

-- a state is added, with its word of the index; its record may be any
pub record Added (m m' : Memory) (at : ℕ) (s : List ℕ) : Type 0 where
  pub variables : m'.variables ≡ m.variables
  pub capacity : m'.capacity ≡ m.capacity
  pub held : m'.held ≡ m.held + 1
  pub nodes : m'.nodes.now ≡ m.nodes.now
  pub index : m'.index.now ≡ set m.index.now at (m.held + 1)
  pub queue : m'.queue ≡ m.queue
  pub long : length m'.states.now ≡ length m.states.now
  pub inside : (j : ℕ) → j < length s → get_or m'.states.now (m.held * m.variables + j) 0 ≡ get_or s j 0
  pub before : (j : ℕ) → j < m.held * m.variables → get_or m'.states.now j 0 ≡ get_or m.states.now j 0
  pub beyond : (j : ℕ) → m.held * m.variables + length s ≤ j → get_or m'.states.now j 0 ≡ get_or m.states.now j 0

module _ (m m' : Memory) (at : ℕ) (s : List ℕ) (consistent : Consistent m) (l : m.held < m.capacity) (width : length s ≡ m.variables) (vacant : Vacant m.index.now s at) (a : Added m m' at s) where
  cut : (k : ℕ) → state_at m' k ≡ take m.variables (drop (k * m.variables) m'.states.now)
  cut k = λ j. take (a.variables j) (drop (k * a.variables j) m'.states.now)

  fits : (k : ℕ) → k < m.capacity → k * m.variables + m.variables ≤ length m.states.now
  fits k z = omega (arith, consistent.lent.states, mul-le-mul_right m.variables z)

  old-state : (k : ℕ) → k < m.held → state_at m' k ≡ state_at m k
  old-state k z =
      let f : k * m.variables + m.variables ≤ m.held * m.variables = omega (arith, mul-le-mul_right m.variables z) in
      cut k ∙ slice-same m.variables (k * m.variables) m'.states.now m.states.now (omega (arith, fits k (omega arith), a.long)) a.long (λ j q. a.before j (omega arith))

  new-state : state_at m' m.held ≡ s
  new-state = cut m.held ∙ slice_is m.variables (m.held * m.variables) m'.states.now s (omega (arith, fits m.held l, a.long)) width (λ j q. a.inside j (omega arith))

  same-record : (k : ℕ) → record_at m' k ≡ record_at m k
  same-record k = ap (λ z. get_or z k zero_node) a.nodes

  queue-same : (k : ℕ) → content search_item m'.queue k ≡ content search_item m.queue k
  queue-same k = ap (λ q. content search_item q k) a.queue

  new-idle : content search_item m'.queue m.held ≡ None
  new-idle = queue-same m.held ∙ none_of (content search_item m.queue m.held) (λ e q. let o = consistent.agrees m.held e q in let z : m.held < m.held = o.inside in omega arith)

  indexed' : Indexed m'.index.now (state_at m') m'.held
  indexed' =
      subst (λ z. Indexed m'.index.now (state_at m') z) (sym a.held) (subst (λ z. Indexed z (state_at m') (m.held + 1)) (sym a.index)
      (indexed-add m.index.now (state_at m) (state_at m') m.held at consistent.indexed (subst (λ z. Vacant m.index.now z at) (sym new-state) vacant) old-state))

  abbrev blank : plain.Node
  blank = let r = record_at m m.held in plain.new_node s r.g r.parent r.operator None

  pub add_done : Consistent m' × (nodes_of m' ≡ nodes_of m ++ blank ∷ [])
  add_done = (
    record {
      lent = record {
        small = omega (arith, consistent.lent.small, a.capacity);
        nodes = omega (arith, consistent.lent.nodes, a.capacity, ap length a.nodes);
        states = rw (a.capacity, a.variables) (omega (arith, consistent.lent.states, a.long));
        index = omega (arith, consistent.lent.index, a.capacity, ap length a.index, length-set m.index.now at (m.held + 1));
        entries = rw (a.queue, a.capacity) consistent.lent.entries;
        places = rw (a.queue, a.capacity) consistent.lent.places;
      };
      within = omega (arith, a.held, a.capacity);
      indexed = indexed';
      agrees = λ k e q.
          let o = consistent.agrees k e (sym (queue-same k) ∙ q) in
          record { inside = omega (arith, o.inside, a.held); sum = omega (arith, o.sum, ap (λ z. z.g) (same-record k)); node = o.node };
    },
    subst (λ z. rows (node_in m') z ≡ nodes_of m ++ blank ∷ []) (sym a.held)
        (rows-add (node_in m) (node_in m') m.held _ (λ k z. node-same m m' k (old-state k z) (same-record k) (queue-same k))
        (λ j. plain.new_node (new-state j) (same-record m.held j).g (same-record m.held j).parent (same-record m.held j).operator (queued_of (new-idle j)))),
  )

  pub add-untouched : Untouched m m'
  add-untouched = record {
    variables = a.variables;
    capacity = a.capacity;
    grows = omega (arith, a.held);
    record_count = ap length a.nodes;
    byte_count = a.long;
    records = λ k z. same-record k;
    bytes = λ j z. a.beyond j (let f : (m.held + 1) * m.variables ≤ j = rw a.held at z in omega (arith, width, mul-le-mul_right m.variables l));
  }

-- a state is added, and then gets its record
pub add-settle : (ns ms ks : List plain.Node) (k : ℕ) (v : plain.Node) (g x i : ℕ) (o : Option ℕ) → k ≡ length ns → ms ≡ ns ++ v ∷ [] → ks ≡ set ms k (plain.new_node (plain.node ms k).state g x i o) →
    ks ≡ ns ++ plain.new_node v.state g x i o ∷ []
add-settle ns ms ks k v g x i o e p q =
    let there : plain.node (ns ++ v ∷ []) (length ns) ≡ v = get_or-append_seam ns v [] plain.no_node in
    q ∙ ap (λ j. set ms j (plain.new_node (plain.node ms j).state g x i o)) e ∙ ap (λ z. set z (length ns) (plain.new_node (plain.node z (length ns)).state g x i o)) p ∙
    ap (λ u. set (ns ++ v ∷ []) (length ns) (plain.new_node u.state g x i o)) there ∙ set_last ns v (plain.new_node v.state g x i o)
