-- The law over whole runs.
use Rattle.std.proofs.Common.{◌≡◌, ◌≢◌, ℕ, ◌+◌, ◌-◌, ◌*◌, ◌<◌, ◌≤◌, Bool, true, false, List, [], ◌∷◌, ◌++◌, length, drop, Option, sym, refl, ap, ◌∙◌, subst, inl, inr, arith}
use Rattle.estimator.specs.Price.{Shares}
use Rattle.task.specs.Model.{Model, prices, Plan, Cost, dearest, WellFormed}
use Rattle.plain.specs.declared.fault.Fault.TheVariants.{Set}
use Rattle.plain.specs.Plain.{Kind, Lawful, Node, node, new_node, PathTo, PathTo.home, PathTo.step, Plain, opened, Status, running, fresh, none, full, found}
use Rattle.plain.specs.Plain.{Find, Call, start, advance, read, write, Outcome, refused, started, more, found_plan, no_plan, out_of_room, bound_read, written, reports, Starts, Advances, Writes, Does}
use Rattle.plain.specs.Runs.{Exchange, Run, Answered, last_bound, last_total, Reached, WrittenInto, MemoryFull, EveryAnswer, Law, SearchLaw}
use Rattle.plain.proofs.Keeps.{AdmissibleAt, Invariant}
use Rattle.plain.proofs.Budget.{queue-le}
use Rattle.plain.proofs.Steps.{Ready, answer-fair, answer-ready}
use Rattle.plain.proofs.Expansions.{CheapestFound, Live, expansions-live, empty-none, finds-won, Ended, live-total, finds-ended, overflows-filled}

pub path-one : (ns : List Node) (k : ℕ) (is js : List ℕ) → PathTo ns k is → PathTo ns k js → is ≡ js
path-one ns k is js (home z e) (home z' e') = e ∙ sym e'
path-one ns k is js (home z e) (step ks nz l w e') = absurd (nz z)
path-one ns k is js (step hs nz l w e) (home z e') = absurd (nz z)
path-one ns k is js (step hs nz l w e) (step ks nz' l' w' e') = e ∙ ap (λ ms. ms ++ (node ns k).operator ∷ []) (path-one ns (node ns k).parent hs ks w w') ∙ sym e'

-- a status from which the search goes on
abbrev Going : Status → Type 0
Going fresh = Unit {0}
Going running = Unit {0}
Going none = ⊥
Going full = ⊥
Going (found x) = ⊥

module _ {E : Type 0} (est : Kind E) (lawful : Lawful est) (t : Model) (sound : WellFormed t) (N : ℕ) (text : List ℕ → ℕ → List ℕ) where
  -- what an earlier answer says of the search as it now is
  abbrev Consistent : Status → List Node → Outcome → Type 0
  Consistent st ns (refused f) = Unit {0}
  Consistent st ns started = Unit {0}
  Consistent st ns more = Unit {0}
  Consistent st ns (found_plan f) = (st ≡ found f.node) × (f.cost ≡ (node ns f.node).g)
  Consistent st ns no_plan = st ≡ none
  Consistent st ns out_of_room = st ≡ full
  Consistent st ns bound_read = Unit {0}
  Consistent st ns (written w) = (x : ℕ) × (is : List ℕ) × (st ≡ found x) × PathTo ns x is × (w ≡ text is (node ns x).g)

  abbrev Sits : Status → Run → Plain → E → Type 0
  Sits fresh run p e = p ≡ opened
  Sits running run p e = Live est lawful t sound N p e
  Sits (found x) run p e = CheapestFound t p.nodes x × Answered run (found_plan (record { node = x; cost = (node p.nodes x).g }))
  Sits none run p e = (is : List ℕ) → Plan t t.initial is → ⊥
  Sits full run p e = MemoryFull t N p.nodes

  record Stand (run : Run) (p : Plain) (e : E) : Type 0 where
    every : EveryAnswer t N text run
    bound : last_bound run ≡ p.bound
    total : last_total run ≡ p.total
    below : (is : List ℕ) → Plan t t.initial is → p.bound ≤ Cost (prices t) is
    within : p.total ≤ N * ((N - 1) * dearest (prices t) + 1)
    outcome : (s : Outcome) → Answered run s → Consistent p.status p.nodes s
    sits : Sits p.status run p e

  -- the answer s leaves all as it is
  sits-stays : (s : Exchange) (run : Run) (p : Plain) (e : E) (st : Status) → Sits st run p e → Sits st (s ∷ run) p e
  sits-stays s run p e fresh h = h
  sits-stays s run p e running h = h
  sits-stays s run p e (found x) h = (h.0, inr h.1)
  sits-stays s run p e none h = h
  sits-stays s run p e full h = h

  said_more : (s : Exchange) (run : Run) (st : Status) (ns : List Node) → Consistent st ns s.answer.outcome → ((q : Outcome) → Answered run q → Consistent st ns q) → (q : Outcome) → Answered (s ∷ run) q → Consistent st ns q
  said_more s run st ns f old q (inl e) = subst (λ z. Consistent st ns z) e f
  said_more s run st ns f old q (inr h) = old q h

  stays : (s : Exchange) (q : Outcome) (row : List ℕ) (go : Bool) (run : Run) (p : Plain) (e : E) → Stand run p e → s.answer ≡ reports q row go p → q ≢ more → Consistent p.status p.nodes q →
      ((f : Find) (b w : List ℕ) → s.call ≡ write f b → q ≡ written w → WrittenInto t N text b row w) → Stand (s ∷ run) p e
  stays s q row go run p e h a nm f u = record {
    every = (
      record {
        rises = rw a (omega (arith, h.bound));
        below = λ is l. rw a (h.below is l);
        counts = λ n ec em. absurd (nm (sym (ap (λ z. z.outcome) a) ∙ em));
        total = rw a h.within;
        buffer = λ g b w ec ew. rw a (u g b w ec (sym (ap (λ z. z.outcome) a) ∙ ew));
      },
      h.every,
    );
    bound = rw a;
    total = rw a;
    below = h.below;
    within = h.within;
    outcome = said_more s run p.status p.nodes (rw a f) h.outcome;
    sits = sits-stays s run p e p.status h.sits;
  }

  -- while it is going, nothing final was answered, so that what was answered holds of any search
  going-carries : (st st' : Status) (ns ns' : List Node) (q : Outcome) → Going st → Consistent st ns q → Consistent st' ns' q
  going-carries st st' ns ns' (refused f) g h = tt
  going-carries st st' ns ns' started g h = tt
  going-carries st st' ns ns' more g h = tt
  going-carries st st' ns ns' (found_plan f) g h = absurd (subst Going h.0 g)
  going-carries st st' ns ns' no_plan g h = absurd (subst Going h g)
  going-carries st st' ns ns' out_of_room g h = absurd (subst Going h g)
  going-carries st st' ns ns' bound_read g h = tt
  going-carries st st' ns ns' (written w) g h = absurd (subst Going h.2 g)

  moves : (s : Exchange) (q : Outcome) (row : List ℕ) (go : Bool) (run : Run) (p p' : Plain) (e e' : E) → Stand run p e → Going p.status → ((w : List ℕ) → q ≢ written w) → s.answer ≡ reports q row go p' → Consistent p'.status p'.nodes q →
      Ended est lawful t sound N p p' → ((n : ℕ) → s.call ≡ advance n → q ≡ more → p'.total ≡ p.total + n) → Sits p'.status (s ∷ run) p' e' → Stand (s ∷ run) p' e'
  moves s q row go run p p' e e' h g dry a f d counts sits = record {
    every = (
      record {
        rises = rw a (omega (arith, h.bound, d.rises));
        below = λ is l. rw a (d.below is l);
        counts = λ n ec em. rw a (counts n ec (sym (ap (λ z. z.outcome) a) ∙ em) ∙ ap (λ z. z + n) (sym h.total));
        total = rw a d.total;
        buffer = λ g b w ec ew. absurd (dry w (sym (ap (λ z. z.outcome) a) ∙ ew));
      },
      h.every,
    );
    bound = rw a;
    total = rw a;
    below = d.below;
    within = d.total;
    outcome = said_more s run p'.status p'.nodes (rw a f)
        (λ z m. going-carries p.status p'.status p.nodes p'.nodes z g (h.outcome z m));
    sits = sits;
  }

  live_at : (run : Run) (p : Plain) (e : E) → Stand run p e → p.status ≡ running → Live est lawful t sound N p e
  live_at run p e h r = subst (λ st. Sits st run p e) r h.sits

  fresh_at : (run : Run) (p : Plain) (e : E) → Stand run p e → p.status ≡ fresh → p ≡ opened
  fresh_at run p e h r = subst (λ st. Sits st run p e) r h.sits

  refreshed : (run : Run) (p : Plain) (e e' : E) → Stand run p e → p.status ≡ fresh → Stand run p e'
  refreshed run p e e' h st = record {
    every = h.every;
    bound = h.bound;
    total = h.total;
    below = h.below;
    within = h.within;
    outcome = h.outcome;
    sits = subst (λ z. Sits z run p e') (sym st) (fresh_at run p e h st);
  }

  ended-after : (p q r : Plain) → p.bound ≤ q.bound → Ended est lawful t sound N q r → Ended est lawful t sound N p r
  ended-after p q r l d = record { rises = omega (arith, d.rises); below = d.below; total = d.total }

  zero_of : (k : ℕ) → k < 1 → k ≡ 0
  zero_of k l = omega arith

  first-inv : (w : Option ℕ) → AdmissibleAt t t.initial w → Invariant t (new_node t.initial 0 0 0 w ∷ []) 0 (length t.operators)
  first-inv w f = record {
    some = omega arith;
    root = refl;
    free = refl;
    states = λ k l. rw (zero_of k l) sound.starts;
    sole = λ j k lj lk _. zero_of j lj ∙ sym (zero_of k lk);
    came = λ k l nz. absurd (nz (zero_of k l));
    paths = λ k l. ([], home (zero_of k l) refl);
    low = λ k l. rw (zero_of k l) (omega arith);
    closed = λ k l. inl (rw (zero_of k l) f);
  }

  starts-stand : (s : Exchange) (row : List ℕ) (run : Run) (p p' : Plain) (e e' : E) → Stand run p e → s.call ≡ start row → Starts est t N row p e s.answer p' e' → Stand (s ∷ run) p' e'
  starts-stand s row run p p' e e' h c (Starts.not_fresh ns a ep ee) = rw (ep, ee) (stays s _ _ _ run p e h a (λ q. cc) tt (λ f b w m q. cc))
  starts-stand s row run p p' e e' h c (Starts.no_capacity st z a ep ee) = rw (ep, ee) (stays s _ _ _ run p e h a (λ q. cc) tt (λ f b w m q. cc))
  starts-stand s row run p p' e e' h c (Starts.wrong_row st z l a ep ee) = rw (ep, ee) (stays s _ _ _ run p e h a (λ q. cc) tt (λ f b w m q. cc))
  starts-stand s row run p p' e e' h c (Starts.refused_set f left st z l q a ep) =
      stays s (refused (Set f)) (prices t) false run p' e' (rw ep (refreshed run p e e' h st)) (rw ep a) (λ q. cc) tt (λ f b w m q. cc)
  starts-stand s row run p p' e e' h c (Starts.begins left d w st z l q n ep a) = rw ep (moves s started left true run p p₁ e e' h (subst (λ z. Going z) (sym st) tt) (λ w q. cc) (rw ep at a) tt
      (record { rises = rw (fresh_at run p e h st) (omega arith); below = λ is pl. omega arith; total = omega arith })
      (λ k ec em. cc) live)
    where
      v : Node
      v = new_node t.initial 0 0 0 w

      p₁ : Plain
      p₁ = record { status = running; nodes = v ∷ []; bound = 0; total = 0 }

      got : (held : List ℕ) × est.holds d t held × Shares (prices t) held left
      got = lawful.accepts q

      ready : Ready est t d
      ready = record { held = got.0; holds = got.1; under = λ i. omega (arith, got.2.each i) }

      live : Live est lawful t sound N p₁ e'
      live = record {
        runs = refl;
        still = first-inv w (answer-fair est lawful t sound N d e' t.initial w ready sound.starts n);
        budget = record { within = omega arith; paid = omega (arith, queue-le w) };
        ready = answer-ready est lawful t sound N d e' t.initial w ready n;
        below = λ is pl. omega arith;
      }

  advances-stand : (s : Exchange) (n : ℕ) (run : Run) (p p' : Plain) (e e' : E) → Stand run p e → s.call ≡ advance n → Advances est t N n p e s.answer p' e' → Stand (s ∷ run) p' e'
  advances-stand s n run p p' e e' h c (Advances.not_running ns a ep ee) = rw (ep, ee) (stays s _ _ _ run p e h a (λ q. cc) tt (λ f b w m q. cc))
  advances-stand s n run p p' e e' h c (Advances.expands_all r tu a) =
      let v = expansions-live est lawful t sound N n p p' e e' (live_at run p e h r) tu in
      moves s more [] true run p p' e e' h (subst (λ z. Going z) (sym r) tt) (λ w q. cc) a tt
      (record { rises = v.1; below = v.0.below; total = live-total est lawful t sound N p' e' v.0 })
      (λ k ec em. let z : n ≡ k = cc in omega (arith, v.2))
      (subst (λ st. Sits st (s ∷ run) p' e') (sym v.0.runs) v.0)
  advances-stand s n run p p' e e' h c (Advances.finds m x q r l tu f a) =
      let v = expansions-live est lawful t sound N m p q e e' (live_at run p e h r) tu in
      let b = finds-won est lawful t sound N q p' e' x v.0 f in
      let st : p'.status ≡ found x = ap (λ z. z.status) f.after in
      moves s (found_plan (record { node = x; cost = (node q.nodes x).g })) [] false run p p' e e' h (subst (λ z. Going z) (sym r) tt) (λ w q. cc) a (st, sym b.1)
      (ended-after p q p' v.1 (finds-ended est lawful t sound N q p' e' x v.0 f))
      (λ k ec em. cc)
      (subst (λ z. Sits z (s ∷ run) p' e') (sym st) (b.0, inl (ap (λ z. z.outcome) a ∙ ap (λ (g : ℕ). found_plan (record { node = x; cost = g })) (sym b.1))))
  advances-stand s n run p p' e e' h c (Advances.exhausts m q r l tu em ep a) =
      let v = expansions-live est lawful t sound N m p q e e' (live_at run p e h r) tu in
      rw ep (moves s no_plan [] false run p (record { status = none; nodes = q.nodes; bound = q.bound; total = q.total }) e e' h (subst (λ z. Going z) (sym r) tt) (λ w q. cc) (rw ep at a) refl
      (record { rises = v.1; below = v.0.below; total = live-total est lawful t sound N q e' v.0 })
      (λ k ec emo. cc)
      (empty-none est lawful t sound N q e' v.0 em))
  advances-stand s n run p p' e e' h c (Advances.overflows m q d r l tu o a) =
      let v = expansions-live est lawful t sound N m p q e d (live_at run p e h r) tu in
      let b = overflows-filled est lawful t sound N q p' d e' v.0 o in
      let st : p'.status ≡ full = ap (λ z. z.status) o.after in
      moves s out_of_room [] false run p p' e e' h (subst (λ z. Going z) (sym r) tt) (λ w q. cc) a st
      (ended-after p q p' v.1 b.1)
      (λ k ec em. cc)
      (subst (λ z. Sits z (s ∷ run) p' e') (sym st) b.0)

  writes-stand : (s : Exchange) (f : Find) (buffer : List ℕ) (run : Run) (p : Plain) (e : E) → Stand run p e → s.call ≡ write f buffer → Writes text f buffer p s.answer → Stand (s ∷ run) p e
  writes-stand s f buffer run p e h c (Writes.other o a) = stays s _ _ _ run p e h a (λ q. cc) tt (λ f b w m q. cc)
  writes-stand s f buffer run p e h c (Writes.short is o w l a) = stays s _ _ _ run p e h a (λ q. cc) tt (λ f b w m q. cc)
  writes-stand s f buffer run p e h c (Writes.writes is o w l a) =
      stays s (written (text is f.cost)) _ _ run p e h a (λ q. cc) (f.node, is, o.ends, w, ap (λ z. text is z) (sym o.costs))
      (λ g b v ec ew.
      let eb : buffer ≡ b = cc in
      let ev : text is f.cost ≡ v = cc in
      subst (λ z. WrittenInto t N text z (text is f.cost ++ drop (length (text is f.cost)) buffer) v) eb
      (subst (λ z. WrittenInto t N text buffer (text is f.cost ++ drop (length (text is f.cost)) buffer) z) ev (record { fits = l; is = refl })))

  does-stand : (c : Call) (s : Exchange) (run : Run) (p p' : Plain) (e e' : E) → Stand run p e → s.call ≡ c → Does est t N text c p e s.answer p' e' → Stand (s ∷ run) p' e'
  does-stand (start row) s run p p' e e' h c d = starts-stand s row run p p' e e' h c d
  does-stand (advance n) s run p p' e e' h c d = advances-stand s n run p p' e e' h c d
  does-stand read s run p p' e e' h c d = rw (d.1, d.2) (stays s bound_read _ _ run p e h d.0 (λ q. cc) tt (λ f b w m q. cc))
  does-stand (write f buffer) s run p p' e e' h c d = rw (d.1, d.2) (writes-stand s f buffer run p e h c d.0)

  reached-stand : (e₀ : E) (run : Run) (p : Plain) (e : E) → Reached est t N text e₀ run p e → Stand run p e
  reached-stand e₀ [] p e r = rw r.0 record { every = tt; bound = refl; total = refl; below = λ is _. omega arith; within = omega arith; outcome = λ s h. absurd h; sits = refl }
  reached-stand e₀ (s ∷ run) p e r = does-stand s.call s run r.0 p r.1 e (reached-stand e₀ run r.0 r.1 r.2) refl r.3

  stand-law : (run : Run) (p : Plain) (e : E) → Stand run p e → Law t N text run p
  stand-law run p e h = record {
    finds = λ o m.
        let f = h.outcome (found_plan o) m in
        let w = subst (λ z. Sits z run p e) f.0 h.sits in
        record {
          plan = w.0.plan;
          leads = w.0.leads;
          costs = w.0.costs ∙ sym f.1;
          cheapest = rw f.1 w.0.cheapest;
          texts = λ u k.
              let g = h.outcome (written u) k in
              let e = sym g.2 ∙ f.0 in
              let y : g.0 ≡ o.node = cc in
              g.4 ∙ same_text o.node g.0 g.1 w.0.plan o.cost y g.3 w.0.path f.1;
        };
    writes = λ u k.
        let g = h.outcome (written u) k in
        let w = subst (λ z. Sits z run p e) g.2 h.sits in
        (record { node = g.0; cost = (node p.nodes g.0).g }, w.1);
    none = λ m. subst (λ z. Sits z run p e) (h.outcome no_plan m) h.sits;
    full = λ m. subst (λ z. Sits z run p e) (h.outcome out_of_room m) h.sits;
    every = h.every;
  }
    where
      same_text : (x y : ℕ) (is js : List ℕ) (c : ℕ) → y ≡ x → PathTo p.nodes y is → PathTo p.nodes x js → c ≡ (node p.nodes x).g → text is (node p.nodes y).g ≡ text js c
      same_text x y is js c q v w e = rw (q, e) (ap (λ z. text z (node p.nodes x).g) (path-one p.nodes x is js (rw q at v) w))

pub search-law : {E : Type 0} (est : Kind E) → SearchLaw est
search-law est lawful t sound N text e₀ run p e r = stand-law est lawful t sound N text run p e (reached-stand est lawful t sound N text e₀ run p e r)
