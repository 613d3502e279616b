-- A store's target in code: a variable of the module, and the piece of its part.
use Rattle.std.specs.Prelude.{ℕ, ◌+◌, ◌<◌, ◌≤◌, ◌≡◌, false, List, [], length, Option, Some, None}
use Rattle.field.specs.Limits.{max_depth, max_expressions}
use Rattle.part.specs.PartReq.{Subpart, gone, there, entries, over, spine}
use Rattle.part.specs.Store.{top, part, Kept}
use Rattle.module.specs.Module.{FunctionHandle, ExpressionHandle, Module}
use Rattle.context.specs.RequiredContext.{VarRef, Global, Local, handle}
use Rattle.context.specs.Contexts.{variable_of}
use Rattle.walk.specs.Resolve.{function_at, VarRefPart, resolved, unresolved, resolve_var}
use Rattle.target.specs.declared.resolve.Target.{Target}

-- the function f sees this variable
abbrev pub Sees : Module → FunctionHandle → VarRef → Type 0
Sees m f (Global g) = g < length m.globals
Sees m f (Local l) = l < length (function_at m f).locals

-- The store s has the target's piece, and the function f sees its variable, whose number is an index. The part is a path: within the limits it has one entry on
-- each level.
pub record HasTarget (m : Module) (f : FunctionHandle) (s : List ℕ) (x : Target) : Type 0 where
  pub piece : x.part < top s
  pub sees : Sees m f (variable_of x.var)
  pub low : handle (variable_of x.var) < spine
  pub short : over (part s x.part) ≡ false → entries (part s x.part) ≤ max_depth

abbrev pub HasResolved : Module → FunctionHandle → List ℕ → Option Target → Type 0
HasResolved m f s (Some x) = HasTarget m f s x
HasResolved m f s None = Unit {0}

-- what a pointer names, in the store s; or 13 (`refusal` of crate `walk`)
abbrev pub var_ref_part : List ℕ → Option Target → VarRefPart
var_ref_part s (Some x) = resolved (variable_of x.var) (part s x.part)
var_ref_part s None = unresolved

-- from s, t was left: the answer is what the pointer e of the function f names, and at most `max_expressions` cells more are used
pub record Resolves (m : Module) (f : FunctionHandle) (e : ExpressionHandle) (s t : List ℕ) (r : Option Target) : Type 0 where
  pub kept : Kept s t
  pub has : HasResolved m f t r
  pub is : var_ref_part t r ≡ resolve_var m f e []
  pub cost : top t ≤ top s + max_expressions

-- the subpart that an answer of `get` is, in the store s
abbrev pub subpart_of : List ℕ → Option ℕ → Subpart
subpart_of s None = gone
subpart_of s (Some n) = there (part s n)

abbrev pub HasFound : List ℕ → Option ℕ → Type 0
HasFound s None = Unit {0}
HasFound s (Some n) = n < top s
