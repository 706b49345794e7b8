-- The fault table: the number and the printed name of each cause.
use Rattle.std.specs.Prelude.{ℕ, List, codes}
use Rattle.tables.specs.declared.cause.Cause.{Cause}
use Rattle.tables.specs.declared.cause.Cause.TheVariants as cause

abbrev pub number_of : Cause → ℕ
number_of cause.Long = 1
number_of cause.Cut = 2
number_of cause.Byte = 3
number_of cause.Word = 4
number_of cause.Number = 5
number_of cause.Range = 6
number_of cause.Twice = 7
number_of cause.After = 8
number_of cause.Room = 9
number_of cause.Order = 10
number_of cause.Row = 11
number_of cause.Pattern = 12
number_of cause.Table = 13
number_of cause.Other = 14
number_of cause.Short = 15
number_of cause.Item = 16

abbrev pub name_of : Cause → List ℕ
name_of cause.Long = codes "LONG"
name_of cause.Cut = codes "CUT"
name_of cause.Byte = codes "BYTE"
name_of cause.Word = codes "WORD"
name_of cause.Number = codes "NUMBER"
name_of cause.Range = codes "RANGE"
name_of cause.Twice = codes "TWICE"
name_of cause.After = codes "AFTER"
name_of cause.Room = codes "ROOM"
name_of cause.Order = codes "ORDER"
name_of cause.Row = codes "ROW"
name_of cause.Pattern = codes "PATTERN"
name_of cause.Table = codes "TABLE"
name_of cause.Other = codes "OTHER"
name_of cause.Short = codes "SHORT"
name_of cause.Item = codes "ITEM"
