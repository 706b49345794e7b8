-- The text of a task with names: its lines in their order, each ended by byte 10.
use Rattle.std.specs.Prelude.{ℕ, List, [], ◌∷◌, ◌++◌, map, length, Some, None, codes, decimal, Option}
use Rattle.std.specs.List.{flat_map}
use Rattle.tables.specs.declared.records.Entry.{Entry}
use Rattle.reader.specs.Named.{NamedVariable, NamedOperator, NamedTask}

-- the bytes of lines, each with its end
abbrev pub spelled : List (List ℕ) → List ℕ
spelled [] = []
spelled (l ∷ ls) = (l ++ codes "\n") ++ spelled ls

-- one number or word, a space, and what follows
abbrev pub spaced : List ℕ → List ℕ → List ℕ
spaced w r = (w ++ codes " ") ++ r

-- a required value, or -1 for none
abbrev pub required_word : Option ℕ → List ℕ
required_word None = codes "-1"
required_word (Some x) = decimal x

-- variable and value
abbrev pub fact_line : Entry → List ℕ
fact_line e = spaced (decimal e.variable) (decimal e.value)

-- 0, variable, required value, value after
abbrev pub effect_line : Entry → List ℕ
effect_line e = spaced (codes "0") (spaced (decimal e.variable) (spaced (required_word e.required) (decimal e.value)))

abbrev pub variable_lines : NamedVariable → List (List ℕ)
variable_lines v =
    codes "begin_variable" ∷ v.name ∷ codes "-1" ∷ decimal (length v.values) ∷
    (v.values ++ codes "end_variable" ∷ [])

abbrev pub operator_lines : NamedOperator → List (List ℕ)
operator_lines o =
    codes "begin_operator" ∷ o.name ∷ decimal (length o.action.conditions) ∷
    (map fact_line o.action.conditions ++ decimal (length o.action.effects) ∷
    (map effect_line o.action.effects ++ decimal o.action.price ∷ codes "end_operator" ∷ []))

abbrev pub task_lines : NamedTask → List (List ℕ)
task_lines t =
    codes "begin_version" ∷ codes "3" ∷ codes "end_version" ∷ codes "begin_metric" ∷ codes "1" ∷ codes "end_metric" ∷
    decimal (length t.variables) ∷
    (flat_map variable_lines t.variables ++ codes "0" ∷
    codes "begin_state" ∷ (map (λ v. decimal v.initial) t.variables ++ codes "end_state" ∷
    codes "begin_goal" ∷ decimal (length t.goal) ∷ (map fact_line t.goal ++ codes "end_goal" ∷
    decimal (length t.operators) ∷ (flat_map operator_lines t.operators ++ codes "0" ∷ []))))

abbrev pub render : NamedTask → List ℕ
render t = spelled (task_lines t)
