-- A context whose bytes were read has fine parts, and is fine in its function where the variables that it names are there.
use mathlib.Core.Path.{◌≡◌, refl}
use mathlib.Core.Bool.{Bool, true, false, cond, ◌&&◌}
use mathlib.Core.List.{List}
use mathlib.Core.Option.{Option}
use Prim.Native.Nat.{ℕ}
use lib.ListN.{length}
use Rattle.field.specs.Limits.{absent}
use Rattle.part.specs.PartReq.{PartReq, spine}
use Rattle.module.specs.Module.{FunctionHandle, Module}
use Rattle.context.specs.RequiredContext.{RequiredContext, variable}
use Rattle.request.specs.Fields.{accepted, refused}
use Rattle.request.specs.Part.{read_return, read_variables}
use Rattle.request.specs.Request.{all_below}
use Rattle.request.specs.Context.{read_lists, read_context_body, known_context}
use Rattle.walk.specs.Resolve.{function_at}
use Rattle.walk.specs.Proper.{FineRecord, Variables, FineContext}
use Rattle.walk.proofs.Proper.{retval_asked}
use Rattle.valid.proofs.Fits.{and_left, and_right}
use Rattle.sound.proofs.Parts.{OnGot, on_then, return_fine, SomeVariables, variables_read, variables_there}
use Rattle.sound.proofs.Asked.{OnAccepted}

-- a context of which it is not yet known that what it names is there
pub record SomeContext (c : RequiredContext) : Type 0 where
  pub globals : SomeVariables c.globals
  pub locals : SomeVariables c.locals
  pub args : SomeVariables c.args
  pub retval : Variables 1 c.retval

lists-read : (o : Option PartReq) (fs : List ℕ) → FineRecord o → OnGot SomeContext (read_lists o fs)
unfolding read_lists
lists-read o fs h =
    on_then SomeVariables SomeContext (read_variables fs) _ (variables_read fs)
    (λ globals gs hg.
    on_then SomeVariables SomeContext (read_variables gs) _ (variables_read gs)
    (λ args hs ha.
    on_then SomeVariables SomeContext (read_variables hs) _ (variables_read hs)
    (λ locals ks hl. record { globals = hg; locals = hl; args = ha; retval = retval_asked o h })))

pub body_read : (fs : List ℕ) → OnGot SomeContext (read_context_body fs)
unfolding read_context_body
body_read fs = on_then FineRecord SomeContext (read_return fs) read_lists (return_fine fs) (λ o gs h. lists-read o gs h)

module _ (m : Module) (f : FunctionHandle) where
  abbrev known : RequiredContext → Bool
  known c = known_context (length m.globals) (length (function_at m f).arguments) (length (function_at m f).locals) c

  pub known-fine : (c : RequiredContext) → SomeContext c → known c ≡ true → FineContext m f c
  unfolding known_context
  known-fine c h k =
      let globals = all_below (variable (length m.globals)) c.globals in
      let args = all_below (variable (length (function_at m f).arguments)) c.args in
      let locals = all_below (variable (length (function_at m f).locals)) c.locals in
      let both = and_left (globals && args) locals k in
      record {
        globals = variables_there (length m.globals) spine (variable absent) c.globals (and_left globals args both) h.globals;
        locals = variables_there (length (function_at m f).locals) spine (variable absent) c.locals (and_right (globals && args) locals k) h.locals;
        args = variables_there (length (function_at m f).arguments) spine (variable absent) c.args (and_right globals args both) h.args;
        retval = h.retval;
      }

  judged : (c : RequiredContext) (b : Bool) → (b ≡ true → FineContext m f c) → OnAccepted (FineContext m f) (cond b (accepted c) (refused 11))
  judged c true h = h refl
  judged c false h = tt
