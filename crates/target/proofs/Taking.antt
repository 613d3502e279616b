-- The type of a target's variable, and that the context without the target is `remove_var`'s.
use Prim.Native.Nat.{ℕ, ◌<◌}
use mathlib.Core.Path.{◌≡◌, sym, ap, ◌∙◌, subst}
use mathlib.Core.List.{List}
use lib.ListN.{length, get_or}
use Rattle.part.specs.PartReq.{PartReq}
use Rattle.module.specs.Module.{FunctionHandle, Function, TypeInner}
use Rattle.module.specs.declared.handles.GlobalHandle.{GlobalHandle}
use Rattle.module.specs.declared.handles.LocalHandle.{LocalHandle}
use Rattle.module.specs.Tables.{function_of, module_of}
use Rattle.access.specs.Access.{global_at, local_at}
use Rattle.access.proofs.Access.{global_is, function_is, local_is}
use Rattle.context.specs.Types.{types_of}
use Rattle.context.specs.RequiredContext.{RequiredContext, VarRef, variable_type, remove_typed, remove_var}
use Rattle.context.specs.Contexts.{variable_of, TookContext}
use Rattle.context.specs.declared.required_context.RequiredContext.{RequiredContext as Pieces}
use Rattle.context.specs.declared.required_context.VarRef.{VarRef as Variable}
use Rattle.context.specs.declared.required_context.VarRef.TheVariants as variables
use Rattle.std.specs.Prelude.{Option}
use Rattle.walk.specs.Resolve.{function_at}
use Rattle.target.specs.Target.{Sees}

module _ (bytes t : List ℕ) (f : FunctionHandle) {var : Variable} {r : ℕ} where
  pub global-type : {g : GlobalHandle} → var ≡ variables.Global g → Sees (module_of bytes t) f (variable_of var) → r ≡ global_at bytes t g.0 → r ≡ variable_type (module_of bytes t) (function_at (module_of bytes t) f) (variable_of var)
  global-type {g} e h q =
      let there : g.0 < length (module_of bytes t).globals = rw e at h in
      rw e (q ∙ sym (global_is bytes t g.0 0 there))

  pub local_type : {l : LocalHandle} → f < length (module_of bytes t).functions → var ≡ variables.Local l → Sees (module_of bytes t) f (variable_of var) → r ≡ local_at bytes t f l.0 → r ≡ variable_type (module_of bytes t) (function_at (module_of bytes t) f) (variable_of var)
  unfolding function_at
  local_type {l} k e h q =
      let same = function_is bytes t f _ k in
      let there : l.0 < length (function_at (module_of bytes t) f).locals = rw e at h in
      let inside : l.0 < length (function_of bytes t f).locals = subst (λ (x : Function). l.0 < length x.locals) same there in
      rw e (q ∙ sym (ap (λ (x : Function). get_or x.locals l.0 0) same ∙ local_is bytes t f l.0 0 inside))

module _ (bytes t types : List ℕ) (table : types_of types ≡ (module_of bytes t).types) (f : FunctionHandle) (d : RequiredContext) (var : VarRef) (q : PartReq) where
  pub taken : {s u : List ℕ} {k ty : ℕ} {r : Option Pieces} → ty ≡ variable_type (module_of bytes t) (function_at (module_of bytes t) f) var → TookContext s u (remove_typed (types_of types) d var ty q) k r → TookContext s u (remove_var (module_of bytes t) (function_at (module_of bytes t) f) d var q) k r
  unfolding remove_var
  taken {s} {u} {k} {ty} {r} e h =
      subst (λ (y : ℕ). TookContext s u (remove_typed (module_of bytes t).types d var y q) k r) e
      (subst (λ (ts : List TypeInner). TookContext s u (remove_typed ts d var ty q) k r) table h)
