-- What a request file means. RQ: function, return part, count, then global and part each, ascending.
use Rattle.std.specs.Prelude.{ℕ, ◌*◌, Bool, true, cond, ◌&&◌, List, [], ◌∷◌, ◌++◌, ltb, length, drop}
use Rattle.std.proofs.Math.Option.{Option, some, none as nothing}
use Rattle.field.specs.Limits.{absent, min_report}
use Rattle.field.specs.Field.{field_at}
use Rattle.part.specs.PartReq.{PartReq, all, exist, none, more}
use Rattle.module.specs.Module.{FunctionHandle, Module}
use Rattle.context.specs.RequiredContext.{variable}
use Rattle.request.specs.Fields.{fields, bytes_of, as_field, framed, Read, malformed, got, ◌>>=◌, whole, Answer, refused, accepted}
use Rattle.request.specs.Part.{read_return, read_variables, write_return, write_variables}

-- 01 calls it a request. The entry of the global g has the index `variable g`.
pub record Request : Type 0 where
  pub function : FunctionHandle
  pub retval : Option PartReq
  pub globals : PartReq

abbrev pub asking : FunctionHandle → Option PartReq → PartReq → Request
asking f p g = record { function = f; retval = p; globals = g }

unfoldable pub read_body : List ℕ → Read Request
read_body [] = malformed
read_body (f ∷ fs) =
    let request = read_return fs >>= λ p gs. read_variables gs >>= λ g hs. got (asking f p g) hs in
    cond (ltb f absent) request malformed

-- whether the record RQ (82, 81) stands here, whole
abbrev pub is_request : List ℕ → Bool
is_request s = framed 82 81 4 (field_at s 2) s

-- the request that bytes mean, or nothing: 12
unfoldable pub request_of : List ℕ → Option Request
request_of s = let request = whole (read_body (fields (drop 4 s))) in cond (is_request s) request nothing

-- whether every entry's index is below n
unfoldable pub all_below : ℕ → PartReq → Bool
all_below n all = true
all_below n exist = true
all_below n none = true
all_below n (more i p r) = ltb i n && all_below n r

-- whether there are such a function and such globals
unfoldable pub known : (functions globals : ℕ) → Request → Bool
known functions globals q = ltb q.function functions && all_below (variable globals) q.globals

-- 11, then 18
unfoldable pub judge : (functions globals report : ℕ) → Option Request → Answer Request
judge functions globals report nothing = refused 12
judge functions globals report (some q) =
    cond (known functions globals q) (cond (ltb report min_report) (refused 18) (accepted q)) (refused 11)

-- what the fields after the return part answer, where the function f and the return part p are asked
unfoldable pub finish : (functions globals report : ℕ) → FunctionHandle → Option PartReq → List ℕ → Answer Request
finish functions globals report f p fs =
    judge functions globals report (whole (read_variables fs >>= λ g gs. got (asking f p g) gs))

-- What reading a request answers, with the length of the report buffer: 12 of the whole request, then 11, then 18.
abbrev pub read_request : Module → (report : ℕ) → List ℕ → Answer Request
read_request m report s = judge (length m.functions) (length m.globals) report (request_of s)

-- the record of a request, by the returned value's entry and those of the globals
unfoldable pub write_body : FunctionHandle → (retval globals : PartReq) → List ℕ
write_body f retval globals = as_field f ∷ (write_return retval ++ write_variables globals)

unfoldable pub write_request : FunctionHandle → (retval globals : PartReq) → List ℕ
write_request f retval globals =
    let body = write_body f retval globals in
    82 ∷ (81 ∷ bytes_of (as_field (2 * length body) ∷ body))
