-- A context as a record, a form of our own: the mark CX, a 32-bit body length, the return part, then the globals, the arguments and the
-- locals, each a count and then variable and part each, ascending; all 16-bit fields.
use Rattle.std.specs.Prelude.{ℕ, ◌*◌, ◌/◌, ◌%◌, Bool, cond, ◌&&◌, List, ◌∷◌, ◌++◌, length, drop}
use Rattle.std.proofs.Math.Option.{Option, some, none as nothing}
use Rattle.field.specs.Field.{word_at}
use Rattle.part.specs.PartReq.{PartReq}
use Rattle.module.specs.Module.{Function, Module}
use Rattle.context.specs.RequiredContext.{RequiredContext, variable, return_entry}
use Rattle.request.specs.Fields.{fields, bytes_of, framed, Read, got, ◌>>=◌, whole, Answer, refused, accepted}
use Rattle.request.specs.Part.{read_return, read_variables, write_return, write_variables}
use Rattle.request.specs.Request.{all_below}

unfoldable pub read_lists : Option PartReq → List ℕ → Read RequiredContext
read_lists retval fs =
    read_variables fs >>= λ globals gs. read_variables gs >>= λ args hs. read_variables hs >>= λ locals ks.
    got (record { globals = globals; locals = locals; args = args; retval = return_entry retval }) ks

unfoldable pub read_context_body : List ℕ → Read RequiredContext
read_context_body fs = read_return fs >>= read_lists

-- whether the record CX (67, 88) stands here, whole
abbrev pub is_context : List ℕ → Bool
is_context s = framed 67 88 6 (word_at s 2) s

-- the context that bytes mean, or nothing: 12
unfoldable pub context_of : List ℕ → Option RequiredContext
context_of s = let context = whole (read_context_body (fields (drop 6 s))) in cond (is_context s) context nothing

-- whether there are such globals, arguments and locals
unfoldable pub known_context : (globals args locals : ℕ) → RequiredContext → Bool
known_context globals args locals c =
    all_below (variable globals) c.globals && all_below (variable args) c.args && all_below (variable locals) c.locals

unfoldable pub judge_context : (globals args locals : ℕ) → Option RequiredContext → Answer RequiredContext
judge_context globals args locals nothing = refused 12
judge_context globals args locals (some c) = cond (known_context globals args locals c) (accepted c) (refused 11)

-- what the fields after the return part p answer
unfoldable pub finish_context : (globals args locals : ℕ) → Option PartReq → List ℕ → Answer RequiredContext
finish_context globals args locals p fs = judge_context globals args locals (whole (read_lists p fs))

-- What reading a context of the function f answers: 12 of the whole record, then 11.
abbrev pub read_context : Module → Function → List ℕ → Answer RequiredContext
read_context m f s = judge_context (length m.globals) (length f.arguments) (length f.locals) (context_of s)

unfoldable pub write_context_body : RequiredContext → List ℕ
write_context_body c =
    write_return c.retval ++ (write_variables c.globals ++ (write_variables c.args ++ write_variables c.locals))

unfoldable pub write_context : RequiredContext → List ℕ
write_context c =
    let body = write_context_body c in
    let long = 2 * length body in
    67 ∷ (88 ∷ bytes_of (long % 65536 ∷ (long / 65536 ∷ body)))
