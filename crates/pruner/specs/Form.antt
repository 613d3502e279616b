-- The pruner's totals as bytes, a form of our own. Two bytes that are zero: nothing was asked yet. Else the mark PN, a 32-bit length, and a body of
-- 16-bit fields: the total of globals, then for each function of the module 0, or 1 and its total. That is its marks, one field each, its context in the
-- form of a context's record, and for each expression its record: a part, or code 3. What follows the stated length is not looked at.
use Rattle.std.specs.Prelude.{ℕ, zero, suc, ◌+◌, ◌*◌, ◌/◌, ◌%◌, Bool, cond, ◌&&◌, List, [], ◌∷◌, ◌++◌, leb, eqb, length, get_or, take, drop}
use Rattle.std.proofs.Math.Option.{Option, some, none as nothing}
use Rattle.field.specs.Field.{word_at}
use Rattle.field.specs.Limits.{max_pieces}
use Rattle.part.specs.PartReq.{PartReq, entries}
use Rattle.module.specs.Module.{FunctionHandle, Module}
use Rattle.context.specs.RequiredContext.{RequiredContext, variable}
use Rattle.request.specs.Fields.{fields, bytes_of, framed, Read, malformed, got, ◌>>=◌, whole, Answer, refused, accepted}
use Rattle.request.specs.Part.{read_return, read_variables, write_part, write_variables}
use Rattle.request.specs.Request.{all_below}
use Rattle.request.specs.Context.{read_context_body, known_context, write_context_body}
use Rattle.walk.specs.State.{Records, FunctionReq, total_pieces}
use Rattle.walk.specs.Resolve.{function_at}
use Rattle.walk.specs.Marks.{stretch}
use Rattle.walk.specs.Requests.{Pruner, fresh}

-- the least buffer: the totals of every module that can be read fit it
abbrev pub min_pruner : ℕ
min_pruner = 131072

-- what 16 counts of totals
abbrev pub pruner_pieces : Pruner → ℕ
pruner_pieces pruner = entries pruner.globals + total_pieces pruner.functions

unfoldable pub write_record : Option PartReq → List ℕ
write_record nothing = 3 ∷ []
write_record (some p) = write_part p

unfoldable pub write_records : Records → List ℕ
write_records [] = []
write_records (o ∷ es) = write_record o ++ write_records es

unfoldable pub write_total : Option FunctionReq → List ℕ
write_total nothing = 0 ∷ []
write_total (some t) = 1 ∷ (t.marks ++ (write_context_body t.context ++ write_records t.exprs))

unfoldable pub write_totals : List (Option FunctionReq) → List ℕ
write_totals [] = []
write_totals (t ∷ ts) = write_total t ++ write_totals ts

unfoldable pub write_body : Pruner → List ℕ
write_body pruner = write_variables pruner.globals ++ write_totals pruner.functions

-- PN is 80, 78
unfoldable pub write_pruner : Pruner → List ℕ
write_pruner pruner =
    let body = write_body pruner in
    let long = 2 * length body in
    80 ∷ (78 ∷ bytes_of (long % 65536 ∷ (long / 65536 ∷ body)))

-- what was read where it holds, or no such thing
unfoldable pub only : {A : Type 0} → (A → Bool) → Read A → Read A
only holds malformed = malformed
only holds (got a fs) = cond (holds a) (got a fs) malformed

-- n marks, 0 or 1 each
unfoldable pub read_marks : (n : ℕ) → List ℕ → Read (List ℕ)
read_marks zero fs = got [] fs
read_marks (suc n) [] = malformed
read_marks (suc n) (b ∷ fs) = let rest = read_marks n fs >>= λ bs gs. got (b ∷ bs) gs in cond (leb b 1) rest malformed

-- n records, each a part within the limits or code 3
unfoldable pub read_records : (n : ℕ) → List ℕ → Read Records
read_records zero fs = got [] fs
read_records (suc n) fs = read_return fs >>= λ o gs. read_records n gs >>= λ es hs. got (o ∷ es) hs

-- whether the function f has the variables of a context
abbrev pub known_in : Module → FunctionHandle → RequiredContext → Bool
known_in m f c = known_context (length m.globals) (length (function_at m f).arguments) (length (function_at m f).locals) c

-- a total of the function f
unfoldable pub read_kept : Module → FunctionHandle → List ℕ → Read FunctionReq
read_kept m f fs =
    read_marks (stretch m f) fs >>= λ marks gs. only (known_in m f) (read_context_body gs) >>= λ context hs.
    read_records (length (function_at m f).expressions) hs >>= λ exprs ks.
    got (record { marks = marks; context = context; exprs = exprs }) ks

-- the same after 1, or none after 0
unfoldable pub read_total : Module → FunctionHandle → List ℕ → Read (Option FunctionReq)
read_total m f [] = malformed
read_total m f (c ∷ fs) =
    let kept = read_kept m f fs >>= λ t gs. got (some t) gs in
    cond (eqb c 0) (got nothing fs) (cond (eqb c 1) kept malformed)

-- the totals of n functions, from f on
unfoldable pub read_totals : Module → FunctionHandle → (n : ℕ) → List ℕ → Read (List (Option FunctionReq))
read_totals m f zero fs = got [] fs
read_totals m f (suc n) fs = read_total m f fs >>= λ t gs. read_totals m (suc f) n gs >>= λ ts hs. got (t ∷ ts) hs

unfoldable pub read_body : Module → List ℕ → Read Pruner
read_body m fs =
    only (all_below (variable (length m.globals))) (read_variables fs) >>= λ globals gs.
    read_totals m 0 (length m.functions) gs >>= λ functions hs. got (record { globals = globals; functions = functions }) hs

-- the bytes up to the stated length
abbrev pub stated : List ℕ → List ℕ
stated s = take (6 + word_at s 2) s

-- whether the record PN stands at the front, whole and no longer than the least buffer
abbrev pub is_pruner : List ℕ → Bool
is_pruner s = framed 80 78 6 (word_at s 2) (stated s) && leb (6 + word_at s 2) min_pruner

unfoldable pub is_fresh : List ℕ → Bool
is_fresh s = leb 2 (length s) && eqb (get_or s 0 0) 0 && eqb (get_or s 1 0) 0

-- what was read, where 16 allows it
abbrev pub answered : Option Pruner → Answer Pruner
answered nothing = refused 19
answered (some pruner) = cond (leb (pruner_pieces pruner) max_pieces) (accepted pruner) (refused 19)

-- What a lent buffer means. Refused, by 19, is one that is too short for its mark, its header or its stated length; one of another mark, of an odd length, or
-- longer than the least buffer; one whose fields end too early or are left over; and one with a flag or a mark of a statement other than 0 and 1, a part of
-- another code, too deep, too wide or of indexes that do not ascend or are absent, or variables that do not ascend or that the module or the function
-- does not have; and one that counts for more pieces than 16 allows, as no request leaves it.
unfoldable pub read_pruner : Module → List ℕ → Answer Pruner
read_pruner m s =
    let pruner = whole (read_body m (fields (drop 6 (stated s)))) in
    cond (is_fresh s) (accepted (fresh m)) (answered (cond (is_pruner s) pruner nothing))
