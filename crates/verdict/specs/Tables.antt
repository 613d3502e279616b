-- The tables of a function, and what they say of whether it is judged.
use Rattle.std.specs.Prelude.{ℕ, ◌*◌, ◌≡◌, Bool, List, length, Option as Maybe, Some, None}
use Rattle.std.proofs.Math.Option.{Option, some, none as nothing}
use Rattle.module.specs.Tables.{function_of, module_of}
use Rattle.context.specs.Types.{type_words, types_of}
use Rattle.clearance.specs.Tree.{body_tree}
use Rattle.clearance.specs.Judged.{blamed_expression, blamed_statement}
use Rattle.clearance.specs.Verdict.{Answer, unjudged_expression, unjudged_statement}
use Rattle.judge.specs.Unsized.{UnsizedTable}
use Rattle.judge.specs.Given.{scope_at, Given}
use Rattle.judge.specs.declared.subject.Subject.{Subject}
use Rattle.checking.specs.Word.{said}
use Rattle.checking.specs.declared.words.Verdict.{Verdict}

-- as many words as are filled
pub record Sized (bytes t : List ℕ) (f : ℕ) (types alike : List ℕ) (held paths : List Bool) : Type 0 where
  pub types_long : length types ≡ type_words * length (module_of bytes t).types
  pub alike_long : length alike ≡ length (module_of bytes t).types
  pub held_long : length held ≡ length (module_of bytes t).types
  pub paths_long : length paths ≡ length (function_of bytes t f).expressions

pub record Tables (bytes t : List ℕ) (f : ℕ) (types alike : List ℕ) (held paths : List Bool) : Type 0 where
  pub given : Given bytes t f types alike paths
  pub unsized : UnsizedTable (types_of types) held

-- the answer where something is not judged
unfoldable pub unjudged : (expression statement : Option ℕ) → Option Answer
unjudged (some e) s = some (unjudged_expression e)
unjudged nothing (some n) = some (unjudged_statement n)
unjudged nothing nothing = nothing

-- the same as the code has it
abbrev pub said_if : Maybe Verdict → Option Answer
said_if None = nothing
said_if (Some v) = some (said v)

-- r is that of the function f, whatever its marks
pub record Judges (bytes t : List ℕ) (f : ℕ) (r : Maybe Verdict) : Type 0 where
  pub is : (marks : List ℕ) → said_if r ≡ unjudged (blamed_expression (scope_at bytes t f)) (blamed_statement (scope_at bytes t f) (body_tree (function_of bytes t f) marks))

abbrev pub JudgesOf : Subject → Maybe Verdict → Type 0
JudgesOf j r = Judges j.file.now.bytes j.file.now.t j.f.0 r
