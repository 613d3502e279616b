-- A part and a list of variables where they stand in bytes, as values, and what an index of them leads to.
use Rattle.std.specs.Prelude.{ℕ, ◌≡◌, List, Option, Some, None}
use Rattle.part.specs.PartReq.{PartReq, Subpart, gone, there}
use Rattle.request.specs.Answers.{Tail}
use Rattle.context_bytes.specs.Found.{part_in, list_in}
use Rattle.context_bytes.specs.declared.part_bytes.PartBytes.{PartBytes}
use Rattle.context_bytes.specs.declared.variables_bytes.VariablesBytes.{VariablesBytes}

-- the part that it is
abbrev pub part_of : PartBytes → PartReq
part_of p = part_in p.bytes.now p.depth

-- the requirement that the list is
abbrev pub variables_of : VariablesBytes → PartReq
variables_of v = list_in v.bytes.now

-- a subpart stands in the bytes b
abbrev pub SubpartIs : List ℕ → Subpart → Option PartBytes → Type 0
SubpartIs b sub None = sub ≡ gone
SubpartIs b sub (Some p) = (sub ≡ there (part_of p)) × Tail b p.bytes.now
