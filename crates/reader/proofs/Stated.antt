-- Records that stand for a valid task keep the rules, state its model and hand out its names.
use Rattle.std.proofs.Common.{◌≡◌, ℕ, zero, suc, ◌+◌, ◌-◌, ◌<◌, ◌≤◌, true, List, [], ◌∷◌, ◌++◌, map, length, get_or, take, Some, None, Option, sym, refl, ap, ◌∙◌, arith}
use Rattle.std.proofs.lemmas.List.{append_assoc, length-append, take_at, drop_at}
use Rattle.std.proofs.ByRecursion.{All-get_or, All-append, All-weaker}
use Rattle.std.specs.List.{flat_map, AllByRecursion}
use Rattle.tables.specs.declared.records.Variable.{Variable}
use Rattle.tables.specs.declared.records.Operator.{Operator}
use Rattle.tables.specs.declared.records.Entry.{Entry}
use Rattle.tables.specs.Lines.{nth_line}
use Rattle.tables.specs.Records.{zero_variable, zero_operator, zero_entry, part, spanned, end_at, effects_at}
use Rattle.tables.specs.Rules.{VariablesFit, EntriesFit, RequiredFit, Distinct, OperatorsFit, OperatorsDistinct, Rules}
use Rattle.task.specs.Model.{action, stated}
use Rattle.lines.specs.Printable.{printable}
use Rattle.format.specs.Whole.{Held}
use Rattle.reader.specs.Named.{NamedVariable, NamedOperator, NamedTask, ValidVariable, ValidOperator, RequiredBelow, FactFits, EffectFits, Valid, domains_of, model_of, entries_of}
use Rattle.reader.specs.Rendering.{spelled}
use Rattle.reader.proofs.Leaves.{cut_line_lem}
use Rattle.reader.proofs.Entries.{domains, domain-at, length-domains}
use Rattle.reader.proofs.Variables as variables
use Rattle.reader.proofs.Operators as operators
use Rattle.reader.proofs.WholeReads.{Stating, domains-at, length-domains_of}

-- variables, by their numbers
variable-fits : (text : List ℕ) (xs : List NamedVariable) (ws : List Variable) → variables.AllIs text xs ws → AllByRecursion ValidVariable xs → VariablesFit (length text) ws
variable-fits text [] [] are valid k l = let no_way : ⊥ = omega arith in absurd no_way
variable-fits text [] (w ∷ ws) are valid k l = absurd are
variable-fits text (x ∷ xs) [] are valid k l = absurd are
variable-fits text (x ∷ xs) (w ∷ ws) are valid zero l =
    let d = are.0.domain in
    (are.0.name_fits, are.0.values_fit, omega (arith, are.1, valid.0.initial), omega (arith, valid.0.many))
variable-fits text (x ∷ xs) (w ∷ ws) are valid (suc k) l = variable-fits text xs ws are.2 valid.1 k (omega arith)

initials-are : (text : List ℕ) (xs : List NamedVariable) (ws : List Variable) → variables.AllIs text xs ws → map (λ w. w.initial) ws ≡ map (λ x. x.initial) xs
initials-are text [] [] are = refl
initials-are text [] (w ∷ ws) are = absurd are
initials-are text (x ∷ xs) [] are = absurd are
initials-are text (x ∷ xs) (w ∷ ws) are = rw (are.1, initials-are text xs ws are.2)

pub variable_names : (text : List ℕ) (xs : List NamedVariable) (ws : List Variable) → variables.AllIs text xs ws → (v : ℕ) (d : NamedVariable) → v < length xs → spanned text (get_or ws v zero_variable).name ≡ (get_or xs v d).name
variable_names text [] ws are v d l = let no_way : ⊥ = omega arith in absurd no_way
variable_names text (x ∷ xs) [] are v d l = absurd are
variable_names text (x ∷ xs) (w ∷ ws) are zero d l = are.0.name
variable_names text (x ∷ xs) (w ∷ ws) are (suc v) d l = variable_names text xs ws are.2 v d (omega arith)

nth-spelled : (ls : List (List ℕ)) (n : ℕ) → AllByRecursion (λ l. printable l ≡ true) ls → n < length ls → nth_line n (spelled ls) ≡ get_or ls n []
nth-spelled [] n prints l = let no_way : ⊥ = omega arith in absurd no_way
nth-spelled (x ∷ ls) zero prints l = rw (cut_line_lem x (spelled ls) prints.0)
nth-spelled (x ∷ ls) (suc n) prints l = rw (cut_line_lem x (spelled ls) prints.0) (nth-spelled ls n prints.1 (omega arith))

pub value_names : (text : List ℕ) (xs : List NamedVariable) (ws : List Variable) → variables.AllIs text xs ws → AllByRecursion ValidVariable xs → (v x : ℕ) (d : NamedVariable) → v < length xs → x < length (get_or xs v d).values
    → nth_line x (spanned text (get_or ws v zero_variable).values) ≡ get_or (get_or xs v d).values x []
value_names text [] ws are valid v n d l k = let no_way : ⊥ = omega arith in absurd no_way
value_names text (x ∷ xs) [] are valid v n d l k = absurd are
value_names text (x ∷ xs) (w ∷ ws) are valid zero n d l k = ap (nth_line n) are.0.values ∙ nth-spelled x.values n valid.0.names k
value_names text (x ∷ xs) (w ∷ ws) are valid (suc v) n d l k = value_names text xs ws are.2 valid.1 v n d (omega arith) k

-- entries, by their numbers
fact-fits : (ds : List ℕ) (e : Entry) → FactFits ds e → EffectFits ds e
fact-fits ds e h =
    let r : RequiredBelow (get_or ds e.variable 0) e.required = rw h.required h.value in
    record { variable = h.variable; required = r; value = h.value }

operators-fit-entries : (ds : List ℕ) (os : List NamedOperator) → AllByRecursion (ValidOperator ds) os → AllByRecursion (EffectFits ds) (flat_map entries_of os)
operators-fit-entries ds [] h = tt
operators-fit-entries ds (o ∷ os) h =
    All-append (EffectFits ds) (entries_of o) (flat_map entries_of os)
    (All-append (EffectFits ds) o.action.conditions o.action.effects (All-weaker (FactFits ds) (EffectFits ds) (fact-fits ds) o.action.conditions h.0.conditions) h.0.effects)
    (operators-fit-entries ds os h.1)

entries_fit : (ws : List Variable) (es : List Entry) → AllByRecursion (EffectFits (domains ws)) es → EntriesFit ws es
entries_fit ws es h k l =
    let e = All-get_or (EffectFits (domains ws)) es k zero_entry l h in
    (omega (arith, e.variable, length-domains ws), omega (arith, e.value, domain-at ws (get_or es k zero_entry).variable))

required-below : (d : ℕ) (o : Option ℕ) (x : ℕ) → RequiredBelow d o → o ≡ Some x → x < d
required-below d None x h e = let bad : ◌≡◌ {A = ℕ} 0 1 = cc in let no_way : ⊥ = omega arith in absurd no_way
required-below d (Some y) x h e = let same : y ≡ x = cc in rw (← same) h

required_fit : (ws : List Variable) (es : List Entry) → AllByRecursion (EffectFits (domains ws)) es → RequiredFit ws es
required_fit ws es h k l x e =
    let f = All-get_or (EffectFits (domains ws)) es k zero_entry l h in
    let b = required-below (get_or (domains ws) (get_or es k zero_entry).variable 0) (get_or es k zero_entry).required x f.required e in
    omega (arith, domain-at ws (get_or es k zero_entry).variable)

-- operators, by their numbers
length-operators : (text : List ℕ) (first : ℕ) (xs : List NamedOperator) (rs : List Operator) → operators.AllAt text first xs rs → length rs ≡ length xs
length-operators text first [] [] are = refl
length-operators text first [] (r ∷ rs) are = absurd are
length-operators text first (x ∷ xs) [] are = absurd are
length-operators text first (x ∷ xs) (r ∷ rs) are = ap suc (length-operators text (first + length (entries_of x)) xs rs are.1)

pub operator_names : (text : List ℕ) (first : ℕ) (xs : List NamedOperator) (rs : List Operator) → operators.AllAt text first xs rs → (i : ℕ) (d : NamedOperator) → i < length xs → spanned text (get_or rs i zero_operator).name ≡ (get_or xs i d).name
operator_names text first [] rs are i d l = let no_way : ⊥ = omega arith in absurd no_way
operator_names text first (x ∷ xs) [] are i d l = absurd are
operator_names text first (x ∷ xs) (r ∷ rs) are zero d l = are.0.name
operator_names text first (x ∷ xs) (r ∷ rs) are (suc i) d l = operator_names text (first + length (entries_of x)) xs rs are.1 i d (omega arith)

operators_fit : (text : List ℕ) (m : ℕ) (ds : List ℕ) (first : ℕ) (xs : List NamedOperator) (rs : List Operator) → operators.AllAt text first xs rs → AllByRecursion (ValidOperator ds) xs → first + length (flat_map entries_of xs) ≤ m → OperatorsFit (length text) m rs
operators_fit text m ds first [] [] are valid fits k l = let no_way : ⊥ = omega arith in absurd no_way
operators_fit text m ds first [] (r ∷ rs) are valid fits k l = absurd are
operators_fit text m ds first (x ∷ xs) [] are valid fits k l = absurd are
operators_fit text m ds first (x ∷ xs) (r ∷ rs) are valid fits zero l =
    let a = are.0 in
    let l1 = length-append (entries_of x) (flat_map entries_of xs) in
    let l2 = length-append x.action.conditions x.action.effects in
    (a.name_fits, omega (arith, a.price, valid.0.price), omega (arith, a.starts, a.conditions, a.effects))
operators_fit text m ds first (x ∷ xs) (r ∷ rs) are valid fits (suc k) l =
    let l1 = length-append (entries_of x) (flat_map entries_of xs) in
    operators_fit text m ds (first + length (entries_of x)) xs rs are.1 valid.1 (omega arith) k (omega arith)

-- the part of a list between two of its places
part-is : {X : Type 0} (pre mid post es : List X) (from to : ℕ) → es ≡ pre ++ (mid ++ post) → from ≡ length pre → to ≡ length pre + length mid → part es from to ≡ mid
part-is pre mid post es from to e f t =
    let k : to - from ≡ length mid = omega arith in
    rw (k, f, e, drop_at pre (mid ++ post) (length pre) refl) (take_at mid post (length mid) refl)

-- an operator's conditions, effects and both
record Parts (text : List ℕ) (es : List Entry) (x : NamedOperator) (r : Operator) : Type 0 where
  pub conditions : part es r.first (effects_at r) ≡ x.action.conditions
  pub effects : part es (effects_at r) (end_at r) ≡ x.action.effects
  pub both : part es r.first (end_at r) ≡ entries_of x

parts_are : (text : List ℕ) (pre post es : List Entry) (x : NamedOperator) (r : Operator) → es ≡ pre ++ (entries_of x ++ post) → operators.OperatorAt text (length pre) x r → Parts text es x r
parts_are text pre post es x r e a =
    let cs = x.action.conditions in
    let fs = x.action.effects in
    let l2 = length-append cs fs in
    let l3 = length-append pre cs in
    record {
      conditions = part-is pre cs (fs ++ post) es r.first (effects_at r) (e ∙ ap (λ z. pre ++ z) (append_assoc cs fs post)) a.starts (omega (arith, a.starts, a.conditions));
      effects = part-is (pre ++ cs) fs post es (effects_at r) (end_at r) (e ∙ (ap (λ z. pre ++ z) (append_assoc cs fs post) ∙ sym (append_assoc pre cs (fs ++ post)))) (omega (arith, a.starts, a.conditions)) (omega (arith, a.starts, a.conditions, a.effects));
      both = part-is pre (cs ++ fs) post es r.first (end_at r) e a.starts (omega (arith, a.starts, a.conditions, a.effects));
    }

next-part : (pre : List Entry) (x : NamedOperator) (xs : List NamedOperator) (es : List Entry) → es ≡ pre ++ (entries_of x ++ flat_map entries_of xs) → es ≡ (pre ++ entries_of x) ++ flat_map entries_of xs
next-part pre x xs es e = e ∙ sym (append_assoc pre (entries_of x) (flat_map entries_of xs))

actions-are : (text : List ℕ) (pre es : List Entry) (xs : List NamedOperator) (rs : List Operator) → es ≡ pre ++ flat_map entries_of xs → operators.AllAt text (length pre) xs rs → map (action es) rs ≡ map (λ o. o.action) xs
actions-are text pre es [] [] e are = refl
actions-are text pre es [] (r ∷ rs) e are = absurd are
actions-are text pre es (x ∷ xs) [] e are = absurd are
actions-are text pre es (x ∷ xs) (r ∷ rs) e are =
    let p = parts_are text pre (flat_map entries_of xs) es x r e are.0 in
    let k : length (pre ++ entries_of x) ≡ length pre + length (entries_of x) = length-append pre (entries_of x) in
    let ih = actions-are text (pre ++ entries_of x) es xs rs (next-part pre x xs es e) (rw k are.1) in
    rw (p.conditions, p.effects, are.0.price, ih)

operators_distinct : (text : List ℕ) (ds : List ℕ) (pre es : List Entry) (xs : List NamedOperator) (rs : List Operator) → es ≡ pre ++ flat_map entries_of xs → operators.AllAt text (length pre) xs rs → AllByRecursion (ValidOperator ds) xs → OperatorsDistinct es rs
operators_distinct text ds pre es [] [] e are valid k l = let no_way : ⊥ = omega arith in absurd no_way
operators_distinct text ds pre es [] (r ∷ rs) e are valid k l = absurd are
operators_distinct text ds pre es (x ∷ xs) [] e are valid k l = absurd are
operators_distinct text ds pre es (x ∷ xs) (r ∷ rs) e are valid zero l =
    let p = parts_are text pre (flat_map entries_of xs) es x r e are.0 in
    let d : Distinct (part es r.first (end_at r)) = rw p.both valid.0.distinct in d
operators_distinct text ds pre es (x ∷ xs) (r ∷ rs) e are valid (suc k) l =
    let n : length (pre ++ entries_of x) ≡ length pre + length (entries_of x) = length-append pre (entries_of x) in
    operators_distinct text ds (pre ++ entries_of x) es xs rs (next-part pre x xs es e) (rw n are.1) valid.1 k (omega arith)

-- the records of a valid task keep the rules
pub rules-kept : (text : List ℕ) (t : NamedTask) (h : Held) → Valid t → Stating text t h → Rules text h.variables (take h.goals h.entries) h.operators h.entries
rules-kept text t h valid st =
    let ds : domains h.variables ≡ domains_of t.variables = domains-at text t.variables h.variables st.variables in
    let len : length h.variables ≡ length t.variables = sym (length-domains h.variables) ∙ (ap length ds ∙ length-domains_of t.variables) in
    let goal_is : take h.goals h.entries ≡ t.goal = rw (st.entries, st.goals) (take_at t.goal (flat_map entries_of t.operators) (length t.goal) refl) in
    let facts : AllByRecursion (EffectFits (domains h.variables)) t.goal = rw ds (All-weaker (FactFits (domains_of t.variables)) (EffectFits (domains_of t.variables)) (fact-fits (domains_of t.variables)) t.goal valid.goal) in
    let rest : AllByRecursion (EffectFits (domains h.variables)) (flat_map entries_of t.operators) = rw ds (operators-fit-entries (domains_of t.variables) t.operators valid.operators) in
    let all : AllByRecursion (EffectFits (domains h.variables)) h.entries = rw st.entries (All-append (EffectFits (domains h.variables)) t.goal (flat_map entries_of t.operators) facts rest) in
    let n = length-operators text (length t.goal) t.operators h.operators st.operators in
    let m : length h.entries ≡ length t.goal + length (flat_map entries_of t.operators) = ap length st.entries ∙ length-append t.goal (flat_map entries_of t.operators) in
    record {
      some = omega (arith, valid.some);
      few = omega (arith, valid.few);
      listed = omega (arith, valid.listed);
      stored = omega (arith, valid.stored, ap length st.entries);
      variables_fit = variable-fits text t.variables h.variables st.variables valid.variables;
      operators_fit = operators_fit text (length h.entries) (domains_of t.variables) (length t.goal) t.operators h.operators st.operators valid.operators (omega arith);
      entries = record {
        goal_fits = rw goal_is (entries_fit h.variables t.goal facts);
        goal_distinct = rw goal_is valid.distinct;
        entries_fit = entries_fit h.variables h.entries all;
        required_fit = required_fit h.variables h.entries all;
        operators_distinct = operators_distinct text (domains_of t.variables) t.goal h.entries t.operators h.operators st.entries st.operators valid.operators;
      };
    }

-- and state its model
pub model-stated : (text : List ℕ) (t : NamedTask) (h : Held) → Stating text t h → stated h.variables (take h.goals h.entries) h.operators h.entries ≡ model_of t
model-stated text t h st =
    let ds : domains h.variables ≡ domains_of t.variables = domains-at text t.variables h.variables st.variables in
    let is = initials-are text t.variables h.variables st.variables in
    let goal_is : take h.goals h.entries ≡ t.goal = rw (st.entries, st.goals) (take_at t.goal (flat_map entries_of t.operators) (length t.goal) refl) in
    let acts = actions-are text t.goal h.entries t.operators h.operators st.entries st.operators in
    rw (ds, is, goal_is, acts)
