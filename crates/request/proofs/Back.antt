-- What is written is read back. Of a list of entries, by recursion over it: its first part by the same law of that part's entries,
-- then the others. A count and an index are the fields that they are written as, since a list that ascends below `absent` is no longer than that.
use Prim.Native.Nat.{ℕ, zero, suc, ◌+◌, ◌*◌, ◌/◌, ◌%◌, ◌≤◌, ◌<◌}
use native.Mathlib.Omega.{arith}
use native.Mathlib.Nat.{mod-add-div}
use mathlib.Core.Path.{◌≡◌, refl, ap, sym, ◌∙◌}
use mathlib.Core.Bool.{Bool, true, false, ◌&&◌, ◌||◌}
use mathlib.Core.List.{List, [], ◌∷◌, ◌++◌, append_assoc, append-nil}
use mathlib.Core.Option.{Option, some, none as nothing}
use lib.Dec.{leb, ltb, eqb}
use borrow.Author.Tests.{lt-ltb, le-leb, eq-eqb, ltb-false}
use lib.ListN.{length}
use Rattle.field.specs.Field.{field_at, word_at}
use Rattle.field.specs.Limits.{absent, max_depth, max_entries}
use Rattle.part.specs.PartReq.{PartReq, all, exist, none, more, width, depth, over, spine}
use Rattle.part.specs.Ascending.{Ascending, From}
use Rattle.module.specs.Module.{Module, Function}
use Rattle.context.specs.RequiredContext.{RequiredContext, variable, return_entry}
use Rattle.request.specs.Fields.{framed, bytes_of, whole, got, ◌>>=◌, accepted, as_field}
use Rattle.request.specs.Part.{read_entries, read_level, by_code, read_part, read_return, read_variables, with_code, write_entries, write_part, write_return, write_variables}
use Rattle.request.specs.Context.{read_context_body, read_lists, write_context_body, is_context, context_of, known_context, judge_context, read_context, write_context}
use Rattle.request.specs.Request.{asking, read_body, is_request, request_of, write_body, write_request}
use Rattle.request.proofs.Bytes.{fields-bytes_of, length-bytes_of}
use Rattle.part.specs.Limited.{Indexed}
use Rattle.request.specs.Filed.{Filed, FiledVariables, FiledReturn, FiledContext}

or_left : (a b : Bool) → a || b ≡ false → a ≡ false
or_left true b h = h
or_left false b h = refl

or_right : (a b : Bool) → a || b ≡ false → b ≡ false
or_right true true h = h
or_right true false h = refl
or_right false b h = h

and_right : (a b : Bool) → a ≡ true → a && b ≡ false → b ≡ false
and_right true b h k = k
and_right false true h k = sym h
and_right false false h k = refl

module _ (i : ℕ) (p r : PartReq) (h : over (more i p r) ≡ false) where
  over-child : over p ≡ false
  unfolding over
  over-child = or_left _ _ h

  over-rest : over r ≡ false
  unfolding over
  over-rest = or_left _ _ (or_right (over p) _ h)

  module _ (low : i < spine) where
    own : ltb max_depth (depth (more i p r)) || ltb max_entries (width (more i p r)) ≡ false
    unfolding over
    own = and_right (ltb i spine) _ (lt-ltb i spine low) (or_right (over r) _ (or_right (over p) _ h))

    pub over_depth : depth (more i p r) ≤ max_depth
    over_depth = ltb-false _ _ (or_left _ _ own)

    pub over_width : width (more i p r) ≤ max_entries
    over_width = ltb-false _ _ (or_right (ltb max_depth (depth (more i p r))) _ own)

-- how long a list is that ascends from k on below b
narrow : (q : PartReq) (k b : ℕ) → k ≤ b → From k q → Indexed b q → k + width q ≤ b
unfolding width
narrow all k b h f u = absurd f
narrow exist k b h f u = absurd f
narrow none k b h f u = omega arith
narrow (more i p r) k b h f u =
    let ih : suc i + width r ≤ b = narrow r (suc i) b u.0 f.1.1 u.1.1 in omega arith

-- how deep a part is that passes no limit
deep : (p : PartReq) → Indexed absent p → over p ≡ false → depth p ≤ max_depth
unfolding depth
deep all u h = omega arith
deep exist u h = omega arith
deep none u h = omega arith
deep (more i p r) u h = over_depth i p r h (omega (arith, u.0))

-- and a list of parts
deep_list : (q : PartReq) (b : ℕ) → Indexed b q → over q ≡ false → depth q ≤ suc max_depth
unfolding depth
deep_list all b u h = omega arith
deep_list exist b u h = omega arith
deep_list none b u h = omega arith
deep_list (more i p r) b u h =
    omega (arith, deep p u.1.0 (over-child i p r h), deep_list r b u.1.1 (over-rest i p r h))

abbrev Named : ℕ → Type 0
Named base = (i : ℕ) → base ≤ i → i < base + absent → base + as_field i ≡ i

named_0 : Named 0
named_0 i h k = omega arith

named_spine : Named spine
named_spine i h k = omega arith

-- what the laws below say of a list of entries and of a part
abbrev Entries : PartReq → Type 0
Entries q =
    (base low d : ℕ) (fs : List ℕ) → Named base → From (base + low) q → Indexed (base + absent) q → over q ≡ false → depth q ≤ suc d
    → read_entries (read_part d) base low (width q) (write_entries q ++ fs) ≡ got q fs

abbrev Part : PartReq → Type 0
Part p =
    (d : ℕ) (fs : List ℕ) → Ascending p → Indexed absent p → over p ≡ false → depth p ≤ d
    → read_part d (with_code p (write_entries p) ++ fs) ≡ got p fs

part_all : Part all
unfolding read_part by_code with_code
part_all zero fs a u h g = refl
part_all (suc d) fs a u h g = refl

part_exist : Part exist
unfolding read_part by_code with_code
part_exist zero fs a u h g = refl
part_exist (suc d) fs a u h g = refl

part_none : Part none
unfolding read_part by_code read_level read_entries with_code write_entries depth
part_none zero fs a u h g = absurd (omega arith)
part_none (suc d) fs a u h g = refl

part_more : (i : ℕ) (p r : PartReq) → Entries (more i p r) → Part (more i p r)
unfolding read_part by_code read_level with_code depth
part_more i p r e zero fs a u h g = absurd (omega arith)
part_more i p r e (suc d) fs a u h g =
    let q = more i p r in
    let from : From (0 + 0) q = (omega arith, a) in
    let count : 0 + width q ≤ absent = narrow q 0 absent (omega arith) from u in
    let same : as_field (width q) ≡ width q = omega arith in
    let few : leb (width q) max_entries ≡ true = le-leb _ _ (over_width i p r h (omega (arith, u.0))) in
    rw (same, few) (e 0 0 d fs named_0 from u h g)

from_at : {k l : ℕ} (q : PartReq) → k ≡ l → From k q → From l q
from_at q e f = rw e at f

-- the law of a list of entries whose first is i: p, from those of the part p and of the list r
entries_more : (i : ℕ) (p r : PartReq) → Part p → Entries r → Entries (more i p r)
unfolding read_entries write_entries width depth
entries_more i p r part rest base low d fs name f u h g =
    let is : base + as_field i ≡ i = name i (omega arith) u.0 in
    let low-test : leb low (as_field i) ≡ true = le-leb low (as_field i) (omega arith) in
    let high-test : ltb (as_field i) absent ≡ true = lt-ltb (as_field i) absent (omega (arith, u.0)) in
    let first = part d (write_entries r ++ fs) f.1.0 u.1.0 (over-child i p r h) (omega arith) in
    let later = rest base (suc (as_field i)) d fs name (from_at r (omega arith) f.1.1) u.1.1 (over-rest i p r h) (omega arith) in
    let one_more : width (more i p r) ≡ suc (width r) = omega arith in
    rw (append_assoc, one_more, low-test, high-test, first, later, is)

part_back : (p : PartReq) → Entries p → Part p
part_back all e = part_all
part_back exist e = part_exist
part_back none e = part_none
part_back (more i p r) e = part_more i p r e

entries_back : (q : PartReq) → Entries q
unfolding read_entries write_entries width
entries_back all = λ base low d fs name f. absurd f
entries_back exist = λ base low d fs name f. absurd f
entries_back none = λ base low d fs name f u h g. refl
entries_back (more i p r) = entries_more i p r (part_back p (entries_back p)) (entries_back r)

-- a part that is written is read back, with what follows it
pub read_part-write_part : (p : PartReq) (fs : List ℕ) → Filed p → read_part max_depth (write_part p ++ fs) ≡ got p fs
unfolding write_part
read_part-write_part p fs f =
    part_back p (entries_back p) max_depth fs f.ascends f.indexed f.within (deep p f.indexed f.within)

pub read_variables-write_variables : (q : PartReq) (fs : List ℕ) → FiledVariables q → read_variables (write_variables q ++ fs) ≡ got q fs
unfolding read_variables write_variables
read_variables-write_variables q fs f =
    let count : variable 0 + width q ≤ variable absent = narrow q (variable 0) (variable absent) (omega arith) f.ascends f.indexed in
    let same : as_field (width q) ≡ width q = omega arith in
    rw same
    (entries_back q spine 0 max_depth fs named_spine f.ascends f.indexed f.within (deep_list q (variable absent) f.indexed f.within))

-- the requirement of a returned value's entry
unfoldable returned : PartReq → Option PartReq
returned all = nothing
returned exist = nothing
returned none = nothing
returned (more i p r) = some p

-- the first code of a requirement is not 3
pub return_part : (p : PartReq) (fs : List ℕ)
    → read_return (write_part p ++ fs) ≡ (read_part max_depth (write_part p ++ fs) >>= λ q gs. got (some q) gs)
unfolding read_return write_part with_code
return_part all fs = refl
return_part exist fs = refl
return_part none fs = refl
return_part (more i p r) fs = refl

read_return-write_return : (p : PartReq) (fs : List ℕ) → FiledReturn p → read_return (write_return p ++ fs) ≡ got (returned p) fs
unfolding write_return returned read_return
read_return-write_return all fs f = absurd f
read_return-write_return exist fs f = absurd f
read_return-write_return none fs f = refl
read_return-write_return (more i p r) fs f = rw (return_part p fs, read_part-write_part p fs f.2)

asked_returned : (p : PartReq) → FiledReturn p → return_entry (returned p) ≡ p
unfolding return_entry returned
asked_returned all f = absurd f
asked_returned exist f = absurd f
asked_returned none f = refl
asked_returned (more i p r) f = rw (f.0, f.1)

returned-asked : (o : Option PartReq) → returned (return_entry o) ≡ o
unfolding return_entry returned
returned-asked nothing = refl
returned-asked (some p) = refl

-- a context's lists, with what follows them
pub context_body : (c : RequiredContext) (fs : List ℕ) → FiledContext c → read_context_body (write_context_body c ++ fs) ≡ got c fs
unfolding read_context_body read_lists write_context_body
context_body c fs f =
    simp append_assoc
    (rw (read_return-write_return c.retval _ f.retval, read_variables-write_variables c.globals _ f.globals, read_variables-write_variables c.args _ f.args, read_variables-write_variables c.locals fs f.locals, asked_returned c.retval f.retval))

-- the header that is written says how long the record is
framed_context : (body : List ℕ)
    → is_context (67 ∷ (88 ∷ bytes_of (2 * length body % 65536 ∷ (2 * length body / 65536 ∷ body)))) ≡ true
unfolding framed bytes_of field_at word_at
framed_context body =
    let l = 2 * length body in
    let s = suc (suc (suc (suc (suc (suc l))))) in
    let long : leb 6 s ≡ true = le-leb 6 s (omega arith) in
    let same : eqb (6 + l) s ≡ true = eq-eqb (6 + l) s (omega arith) in
    let even : eqb (l % 2) 0 ≡ true = eq-eqb (l % 2) 0 (omega arith) in
    rw
    (mod-add-div (l % 65536) 256, mod-add-div (l / 65536) 256, mod-add-div l 65536, length-bytes_of body, long, same, even)

pub context_of-write_context : (c : RequiredContext) → FiledContext c → context_of (write_context c) ≡ some c
unfolding context_of write_context whole bytes_of
context_of-write_context c f =
    let read : read_context_body (write_context_body c) ≡ got c [] = ap read_context_body (sym (append-nil (write_context_body c))) ∙ context_body c [] f in
    rw (framed_context (write_context_body c), fields-bytes_of (write_context_body c), read)

-- A context that is written is read back, where the module and the function have its variables.
pub read_context-write_context : (m : Module) (fn : Function) (c : RequiredContext) → FiledContext c
    → known_context (length m.globals) (length fn.arguments) (length fn.locals) c ≡ true
    → read_context m fn (write_context c) ≡ accepted c
unfolding judge_context
read_context-write_context m fn c f k = rw (context_of-write_context c f, k)

-- a request
request_body : (f : ℕ) (o : Option PartReq) (q : PartReq) → f < absent → FiledReturn (return_entry o) → FiledVariables q → read_body (write_body f (return_entry o) q) ≡ got (asking f o q) []
unfolding read_body write_body
request_body f o q h r g =
    let same : as_field f ≡ f = omega arith in
    rw (same, lt-ltb f absent h, read_return-write_return (return_entry o) _ r, returned-asked o, ← append-nil (write_variables q), read_variables-write_variables q [] g)

framed_request : (body : List ℕ) → 2 * length body < 65536 → is_request (82 ∷ (81 ∷ bytes_of (as_field (2 * length body) ∷ body))) ≡ true
unfolding framed bytes_of field_at
framed_request body h =
    let l = 2 * length body in
    let s = suc (suc (suc (suc l))) in
    let fits : as_field l ≡ l = omega arith in
    let long : leb 4 s ≡ true = le-leb 4 s (omega arith) in
    let same : eqb (4 + l) s ≡ true = eq-eqb (4 + l) s (omega arith) in
    let even : eqb (l % 2) 0 ≡ true = eq-eqb (l % 2) 0 (omega arith) in
    rw (fits, mod-add-div l 256, length-bytes_of body, long, same, even)

pub request_of-write_request : (f : ℕ) (o : Option PartReq) (q : PartReq) → f < absent → FiledReturn (return_entry o) → FiledVariables q
    → 2 * length (write_body f (return_entry o) q) < 65536 → request_of (write_request f (return_entry o) q) ≡ some (asking f o q)
unfolding request_of write_request whole bytes_of
request_of-write_request f o q h r g l =
    rw (framed_request (write_body f (return_entry o) q) l, fields-bytes_of (write_body f (return_entry o) q), request_body f o q h r g)
