-- The end of a function in the tables: its row is put among those of the ended functions, where the block rule holds.
use Rattle.std.specs.Prelude.{ℕ, ◌+◌, Bool, true, false, List, leb, Result, Ok, Err}
use Rattle.field.specs.declared.refusal.Refusal.{Refusal}
use Rattle.field.specs.declared.refusal.Refusal.TheVariants.{ValueNotAllowed}
use Rattle.field.specs.Refusal.{number}
use Rattle.module.specs.declared.record.Mark.{Mark}
use Rattle.module.specs.declared.record.Mark.TheVariants.{TY, GV, FN, AR, LV, EX, BK, ST}
use Rattle.module.specs.declared.tables.Counts.{Counts}
use Rattle.module.specs.Blocks.{block_rule}
use Rattle.module.specs.Reading.{in_arguments, closed}
use Rattle.module.specs.File.{Next, go, stop}
use Rattle.module.specs.Tables.{set_row, open_of, reading_of}

-- what a step stands for, by the tables that it left
unfoldable pub next_of : List ℕ → List ℕ → Result Counts Refusal → Next
next_of bytes t (Ok c) = go (reading_of bytes t c)
next_of bytes t (Err r) = stop (number r)

-- the counts with one ended function more
abbrev pub one_more : Counts → Counts
one_more c = record { stage = c.stage; types = c.types; globals = c.globals; functions = c.functions + 1; row = c.row }

-- by whether a function is open, and whether its blocks are right
abbrev pub step_by : Bool → Bool → Counts → Result Counts Refusal
step_by false rule c = Ok c
step_by true false c = Err ValueNotAllowed
step_by true true c = Ok (one_more c)

abbrev pub table_by : Bool → Bool → List ℕ → Counts → List ℕ
table_by false rule t c = t
table_by true false t c = t
table_by true true t c = set_row t c.functions c.row

abbrev pub is_open : Counts → Bool
is_open c = leb in_arguments c.stage

abbrev pub rule_of : List ℕ → List ℕ → Counts → Bool
rule_of bytes t c = block_rule (closed (open_of bytes t c.row))

unfoldable pub step_ended : List ℕ → List ℕ → Counts → Result Counts Refusal
step_ended bytes t c = step_by (is_open c) (rule_of bytes t c) c

unfoldable pub table_ended : List ℕ → List ℕ → Counts → List ℕ
table_ended bytes t c = table_by (is_open c) (rule_of bytes t c) t c

-- where a record of this mark begins
unfoldable pub step_at : List ℕ → List ℕ → Mark → Counts → Result Counts Refusal
step_at bytes t TY c = Ok c
step_at bytes t GV c = Ok c
step_at bytes t FN c = step_ended bytes t c
step_at bytes t AR c = Ok c
step_at bytes t LV c = Ok c
step_at bytes t EX c = Ok c
step_at bytes t BK c = Ok c
step_at bytes t ST c = Ok c

unfoldable pub table_at : List ℕ → List ℕ → Mark → Counts → List ℕ
table_at bytes t TY c = t
table_at bytes t GV c = t
table_at bytes t FN c = table_ended bytes t c
table_at bytes t AR c = t
table_at bytes t LV c = t
table_at bytes t EX c = t
table_at bytes t BK c = t
table_at bytes t ST c = t
