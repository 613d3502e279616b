-- Fine totals of a valid module are what a file can hold, and name what is there. By recursion over lists of variables.
use Prim.Native.Nat.{ℕ, suc, ◌≤◌}
use native.Mathlib.Omega.{arith}
use native.Mathlib.Decide.{dec_lt}
use mathlib.Core.Path.{◌≡◌, refl, ap}
use mathlib.Core.Bool.{true, false}
use mathlib.Core.List.{[]}
use mathlib.Core.Option.{Option, some, none as nothing}
use lib.ListN.{length, get_or-eq_default}
use borrow.Author.Tests.{lt-ltb}
use Rattle.field.specs.Limits.{absent}
use Rattle.part.specs.PartReq.{PartReq, all, exist, none, more, spine}
use Rattle.part.specs.Ascending.{From}
use Rattle.part.specs.Limited.{Indexed}
use Rattle.module.specs.Module.{FunctionHandle, Function, Module}
use Rattle.context.specs.RequiredContext.{RequiredContext, variable}
use Rattle.request.specs.Request.{all_below}
use Rattle.request.specs.Context.{known_context}
use Rattle.request.specs.Filed.{Filed, FiledVariables, FiledReturn, FiledContext}
use Rattle.valid.specs.Valid.{Valid}
use Rattle.walk.specs.State.{FunctionReq}
use Rattle.walk.specs.Resolve.{function_at}
use Rattle.walk.specs.Proper.{Fine, VariablesFrom, Variables, FineContext, FineFunction}
use Rattle.sound.proofs.Parts.{variables_within}
use Rattle.sound.proofs.There.{function_valid}
use Rattle.pruner.specs.Form.{known_in}

-- what `function_at` gives where there is no function
abbrev pub no_function : Function
no_function = record { entry = false; result = nothing; arguments = []; locals = []; expressions = []; statements = []; blocks = [] }

-- a total of the function f, where it has one
abbrev pub FineTotal : Module → FunctionHandle → Option FunctionReq → Type 0
FineTotal m f o = (t : FunctionReq) → o ≡ some t → FineFunction m f t

pub part_filed : (p : PartReq) → Fine p → Filed p
part_filed p h = record { ascends = h.ascends; indexed = h.plain; within = h.within }

variables_from : (n k : ℕ) (q : PartReq) → VariablesFrom n k q → From k q
variables_from n k all h = h
variables_from n k exist h = h
variables_from n k none h = tt
variables_from n k (more i p r) h = (h.0, (h.2.ascends, variables_from n (suc i) r h.3))

-- where there are so few variables that none is absent
variables_indexed : (n k : ℕ) (q : PartReq) → n ≤ absent → VariablesFrom n k q → Indexed (variable absent) q
variables_indexed n k all l h = tt
variables_indexed n k exist l h = tt
variables_indexed n k none l h = tt
variables_indexed n k (more i p r) l h = (omega (arith, h.1), (h.2.plain, variables_indexed n (suc i) r l h.3))

pub variables_filed : (n : ℕ) (q : PartReq) → n ≤ absent → Variables n q → FiledVariables q
variables_filed n q l h =
    record { ascends = variables_from n spine q h; indexed = variables_indexed n spine q l h; within = variables_within n spine q (omega arith) h }

-- at most one variable, with nothing after it
none_after : (k : ℕ) (q : PartReq) → variable 1 ≤ k → VariablesFrom 1 k q → q ≡ none
none_after k all l h = absurd h
none_after k exist l h = absurd h
none_after k none l h = refl
none_after k (more i p r) l h = absurd (omega (arith, h.0, h.1))

return_filed : (q : PartReq) → Variables 1 q → FiledReturn q
return_filed all h = h
return_filed exist h = h
return_filed none h = tt
return_filed (more i p r) h =
    let first : spine ≤ i = h.0 in
    let last : i ≤ spine = omega (arith, h.1) in
    (omega arith, none_after (suc i) r (omega arith) h.3, part_filed p h.2)

pub all-below : (n k : ℕ) (q : PartReq) → VariablesFrom n k q → all_below (variable n) q ≡ true
unfolding all_below
all-below n k all h = refl
all-below n k exist h = refl
all-below n k none h = refl
all-below n k (more i p r) h = rw (lt-ltb i (variable n) h.1, all-below n (suc i) r h.3)

-- no variable of a valid module is absent
record Few (m : Module) (f : FunctionHandle) : Type 0 where
  arguments : length (function_at m f).arguments ≤ absent
  locals : length (function_at m f).locals ≤ absent

past : (m : Module) (f : FunctionHandle) → length m.functions ≤ f → function_at m f ≡ no_function
unfolding function_at
past m f l = get_or-eq_default m.functions no_function l

few : (m : Module) → Valid m → (f : FunctionHandle) → Few m f
few m v f =
    elim (dec_lt f (length m.functions)) [
      | yes l ↦
          let parts = (function_valid m v f l).parts in
          record { arguments = omega (arith, parts.few_arguments); locals = omega (arith, parts.few_locals) }
      | no l ↦
          let none_there = past m f (omega arith) in
          let no_arguments : length (function_at m f).arguments ≡ 0 = ap (λ x. length x.arguments) none_there in
          let no_locals : length (function_at m f).locals ≡ 0 = ap (λ x. length x.locals) none_there in
          record { arguments = omega arith; locals = omega arith }
    ]

module _ (m : Module) (f : FunctionHandle) (c : RequiredContext) (h : FineContext m f c) where
  pub context_filed : Valid m → FiledContext c
  context_filed v =
      record {
        globals = variables_filed (length m.globals) c.globals (omega (arith, v.few_globals)) h.globals;
        args = variables_filed _ c.args (few m v f).arguments h.args;
        locals = variables_filed _ c.locals (few m v f).locals h.locals;
        retval = return_filed c.retval h.retval;
      }

  pub context_known : known_in m f c ≡ true
  unfolding known_context
  context_known =
      rw (all-below _ spine c.globals h.globals, all-below _ spine c.args h.args, all-below _ spine c.locals h.locals)
