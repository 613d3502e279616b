-- Contexts in a store: four pieces each, by value, and what the methods on them give.
use Rattle.std.specs.Prelude.{ℕ, ◌+◌, ◌*◌, ◌<◌, ◌≤◌, ◌≡◌, List, Option, Some, None}
use Rattle.part.specs.PartReq.{PartReq, entries}
use Rattle.part.specs.Store.{top, part, Kept}
use Rattle.context.specs.Types.{split_most}
use Rattle.context.specs.RequiredContext.{RequiredContext, pieces, VarRef, Global, Local, RemovedContext, left_context, panic_context}
use Rattle.context.specs.declared.required_context.RequiredContext.{RequiredContext as Pieces}
use Rattle.context.specs.declared.required_context.VarRef.{VarRef as Variable}
use Rattle.context.specs.declared.required_context.VarRef.TheVariants as variables

-- the context that these pieces of the store s are
abbrev pub context_of : List ℕ → Pieces → RequiredContext
context_of s c = record { globals = part s c.globals; locals = part s c.locals; args = part s c.args; retval = part s c.retval }

-- the store s has these pieces
pub record HasContext (s : List ℕ) (c : Pieces) : Type 0 where
  pub globals : c.globals < top s
  pub locals : c.locals < top s
  pub args : c.args < top s
  pub retval : c.retval < top s

-- these pieces are the context d in every store
pub record Always (d : RequiredContext) (c : Pieces) : Type 0 where
  pub has : (s : List ℕ) → 3 ≤ top s → HasContext s c
  pub is : (s : List ℕ) → context_of s c ≡ d

-- from s, t was left: the pieces c are the context d there, and at most k cells more are used
pub record MadeContext (s t : List ℕ) (d : RequiredContext) (k : ℕ) (c : Pieces) : Type 0 where
  pub kept : Kept s t
  pub has : HasContext t c
  pub is : context_of t c ≡ d
  pub cost : top t ≤ top s + k

-- the variable
abbrev pub variable_of : Variable → VarRef
variable_of (variables.Global g) = Global g.0
variable_of (variables.Local l) = Local l.0

-- the piece of the map that it belongs to
abbrev pub map_of : Pieces → Variable → ℕ
map_of c (variables.Global g) = c.globals
map_of c (variables.Local l) = c.locals

-- what is left, in the store s; or 13 (`refusal_context`)
abbrev pub removed : List ℕ → Option Pieces → RemovedContext
removed s (Some c) = left_context (context_of s c)
removed s None = panic_context

abbrev pub HasRemoved : List ℕ → Option Pieces → Type 0
HasRemoved s (Some c) = HasContext s c
HasRemoved s None = Unit {0}

-- from s, t was left: the answer is what the taking out d gives, and at most k cells more are used
pub record TookContext (s t : List ℕ) (d : RemovedContext) (k : ℕ) (r : Option Pieces) : Type 0 where
  pub kept : Kept s t
  pub has : HasRemoved t r
  pub is : removed t r ≡ d
  pub cost : top t ≤ top s + k

-- the cells that taking q out of a variable of the context c takes
abbrev pub take_room : RequiredContext → PartReq → ℕ
take_room c q = pieces c + 2 * split_most * (1 + entries q)
