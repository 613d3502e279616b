-- What is needed at a point, beside `RequiredContext` of src/prune/mod.rs. 01 calls it a context.
-- Each of the Rust's maps is a list of entries; the entry of the variable n has the index `variable n`.
use Rattle.std.specs.Prelude.{ℕ, ◌+◌, Bool, cond, ◌&&◌, ◌||◌, List, ltb, get_or}
use Rattle.std.proofs.Math.Option.{Option, some, none as nothing}
use Rattle.part.specs.PartReq.{PartReq, all, exist, none, more, Subpart, get_subpart, add, contains, entries, over}
pub use Rattle.part.specs.PartReq.{variable}
use Rattle.module.specs.Module.{TypeHandle, TypeInner, GlobalHandle, LocalHandle, Function, Module}
use Rattle.context.specs.Remove.{Removed, left, panic, refusal, ◌>>=◌, remove}

-- the returned value has the index `variable 0`, where it is asked for at all
pub record RequiredContext : Type 0 where
  pub globals : PartReq
  pub locals : PartReq
  pub args : PartReq
  pub retval : PartReq

-- the returned value's entry in a context, where p is asked of it
unfoldable pub return_entry : (p : Option PartReq) → PartReq
return_entry nothing = none
return_entry (some p) = more (variable 0) p none

-- the context in which nothing is needed
abbrev pub empty_context : RequiredContext
empty_context = record { globals = none; locals = none; args = none; retval = none }

-- `contains`
unfoldable pub contains_context : RequiredContext → RequiredContext → Bool
contains_context c d =
    contains c.globals d.globals && contains c.locals d.locals && contains c.args d.args
    && contains c.retval d.retval

-- `merge`
unfoldable pub merge_context : RequiredContext → RequiredContext → RequiredContext
merge_context c d =
    record {
      globals = add c.globals d.globals;
      locals = add c.locals d.locals;
      args = add c.args d.args;
      retval = add c.retval d.retval;
    }

-- What 16 counts of a context: one for each variable and the returned value that is there, and the entries of their parts.
unfoldable pub pieces : RequiredContext → ℕ
pieces c = entries c.globals + entries c.locals + entries c.args + entries c.retval

-- whether a part of a context passes a limit
unfoldable pub over_context : RequiredContext → Bool
over_context c = over c.globals || over c.locals || over c.args || over c.retval

-- `VarRef`
pub data VarRef : Type 0 where
  Global : GlobalHandle → VarRef
  Local : LocalHandle → VarRef

abbrev pub handle : VarRef → ℕ
handle (Global g) = g
handle (Local l) = l

-- what is needed of a variable
abbrev pub required : RequiredContext → VarRef → Subpart
required c (Global g) = get_subpart c.globals (variable g)
required c (Local l) = get_subpart c.locals (variable l)

-- the entry of the index i as `f` leaves it, where there is one
unfoldable pub alter : ℕ → (PartReq → Removed) → PartReq → Removed
alter i f all = left all
alter i f exist = left exist
alter i f none = left none
alter i f (more j p r) =
    cond (ltb j i) (alter i f r >>= λ rest. left (more j p rest))
    (cond (ltb i j) (left (more j p r)) (f p >>= λ reduced. left (more j reduced r)))

pub data RemovedContext : Type 0 where
  left_context : RequiredContext → RemovedContext
  panic_context : RemovedContext

-- 01's number of each: 0 where a context is left
abbrev pub refusal_context : RemovedContext → ℕ
refusal_context (left_context c) = 0
refusal_context panic_context = refusal panic

unfoldable pub with_globals : RequiredContext → Removed → RemovedContext
with_globals c (left p) = left_context (record { globals = p; locals = c.locals; args = c.args; retval = c.retval })
with_globals c panic = panic_context

unfoldable pub with_locals : RequiredContext → Removed → RemovedContext
with_locals c (left p) = left_context (record { globals = c.globals; locals = p; args = c.args; retval = c.retval })
with_locals c panic = panic_context

-- the requirement q taken out of what is needed of a variable, which is of the type t
abbrev pub remove_typed : List TypeInner → RequiredContext → VarRef → TypeHandle → PartReq → RemovedContext
remove_typed types c (Global g) t q = with_globals c (alter (variable g) (λ p. remove types p q (some t)) c.globals)
remove_typed types c (Local l) t q = with_locals c (alter (variable l) (λ p. remove types p q (some t)) c.locals)

abbrev pub variable_type : Module → Function → VarRef → TypeHandle
variable_type m f (Global g) = get_or m.globals g 0
variable_type m f (Local l) = get_or f.locals l 0

-- `remove`, of a variable that the context has (`store_required` has found it there)
unfoldable pub remove_var : Module → Function → RequiredContext → VarRef → PartReq → RemovedContext
remove_var m f c v q = remove_typed m.types c v (variable_type m f v) q
