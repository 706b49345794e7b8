-- Lines of plans: their lengths, and that there is room for one more.
use Rattle.std.proofs.Common.{◌≡◌, ℕ, ◌+◌, ◌≤◌, List, [], ◌∷◌, ◌++◌, length, drop, codes, decimal, reverse, sym, refl, ap, ◌∙◌, subst, append_assoc, arith, length-append}
use Rattle.std.proofs.lemmas.List.{reverse-append, reverse-reverse}
use Rattle.task.specs.declared.task.Task.{Task}
use Rattle.task.specs.Names.{operator_name}
use Rattle.text.specs.Lines.{line, cost_line}
use Rattle.text.specs.declared.Tail.{Tail}
use Rattle.text.specs.Written.{Prepends}
use Rattle.text.proofs.Backs.{prepends-both}
use Rattle.memory.specs.Plans.{lines, plan_text}

pub line-length : (name : List ℕ) → length (line name) ≡ length name + 3
line-length name = let e = length-append name (41 ∷ 10 ∷ []) in let f = length-append (40 ∷ []) (name ++ (41 ∷ 10 ∷ [])) in omega arith

module _ (name : ℕ → List ℕ) where
  lines-append : (is js : List ℕ) → lines name (is ++ js) ≡ lines name is ++ lines name js
  lines-append [] js = refl
  lines-append (i ∷ is) js = ap (λ z. line (name i) ++ z) (lines-append is js) ∙ sym (append_assoc (line (name i)) (lines name is) (lines name js))

  pub lines_more : (i : ℕ) (is : List ℕ) → length (lines name (i ∷ is)) ≡ length (name i) + 3 + length (lines name is)
  lines_more i is = let a = length-append (line (name i)) (lines name is) in let b = line-length (name i) in omega arith

  -- there is room for one line more
  pub room-more : (ys rest is : List ℕ) (i at end : ℕ) → ys ++ (i ∷ rest) ≡ reverse is → length (lines name is) ≤ end → at + length (lines name (reverse ys)) ≡ end → length (name i) + 3 ≤ at
  room-more ys rest is i at end e room p =
      let q : is ≡ (reverse rest ++ (i ∷ [])) ++ reverse ys = sym (reverse-reverse is) ∙ ap reverse (sym e) ∙ reverse-append ys (i ∷ rest) ∙ ap (λ z. z ++ reverse ys) (reverse-append (i ∷ []) rest) in
      let a = ap (λ z. length (lines name z)) (q ∙ append_assoc (reverse rest) (i ∷ []) (reverse ys)) in
      let b = ap length (lines-append (reverse rest) (i ∷ reverse ys)) ∙ length-append (lines name (reverse rest)) (lines name (i ∷ reverse ys)) in
      let c = lines_more i (reverse ys) in
      omega arith

pub cost-length : (c : ℕ) → length (cost_line c) ≡ length (decimal c) + 25
cost-length c = let a = length-append (decimal c) (codes " (general cost)" ++ (10 ∷ [])) in let b = length-append (codes "; cost = ") (decimal c ++ (codes " (general cost)" ++ (10 ∷ []))) in omega arith

pub text-length : (t : Task) (is : List ℕ) (c : ℕ) → length (plan_text t is c) ≡ length (lines (operator_name t) is) + (length (decimal c) + 25)
text-length t is c = length-append (lines (operator_name t) is) (cost_line c) ∙ ap (λ z. length (lines (operator_name t) is) + z) (cost-length c)

-- the cost line and then the lines, written into the place of the whole text
pub whole-text : (t : Task) (is js : List ℕ) (c : ℕ) (b u v : Tail) → js ≡ is → b.at ≡ length (lines (operator_name t) is) + (length (decimal c) + 25) → Prepends b (cost_line c) u → Prepends u (lines (operator_name t) js) v →
    plan_text t is c ++ drop (length (plan_text t is c)) b.buffer.now ≡ v.buffer.now
whole-text t is js c b u v e el p q =
    let text = plan_text t is c in
    let r : Prepends b text v = subst (λ k. Prepends b (plan_text t k c) v) e (prepends-both b u v (cost_line c) (lines (operator_name t) js) p q) in
    let long : b.at ≡ length text = el ∙ sym (text-length t is c) in
    let z : v.at ≡ 0 = omega (arith, r.at) in
    sym (sym (ap (λ k. drop k v.buffer.now) z) ∙ r.tail ∙ ap (λ k. text ++ drop k b.buffer.now) long)
