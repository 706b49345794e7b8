-- How a fault is printed.
use Rattle.std.specs.Prelude.{ℕ, List, ◌++◌, codes}
use Rattle.std.specs.Fmt.{decimal}
use Rattle.tables.specs.declared.fault.Fault.{Fault}
use Rattle.tables.specs.Causes.{name_of}

-- the line and the cause's name, as in `line 3: WORD`
abbrev pub fault_text : Fault → List ℕ
fault_text f = codes "line " ++ decimal f.line ++ codes ": " ++ name_of f.cause
