-- A request's record as the code writes it: the body field by field, then the header and the function before it; and how long it gets.
use Prim.Native.Nat.{ℕ, ◌+◌, ◌-◌, ◌*◌, ◌≤◌, ◌<◌, ◌^◌}
use native.Mathlib.Omega.{arith}
use mathlib.Core.Path.{◌≡◌, sym, ◌∙◌}
use mathlib.Core.List.{List, ◌∷◌, ◌++◌}
use lib.ListN.{length, set, length-set, length-append}
use lib.Seq.{sets}
use Rattle.field.specs.Field.{set_field}
use Rattle.part.specs.PartReq.{PartReq, all, exist, none, more, entries}
use Rattle.part.specs.Store.{part}
use Rattle.request.specs.Fields.{bytes_of, as_field}
use Rattle.request.specs.Part.{with_code, write_entries, write_part, write_return, write_variables}
use Rattle.request.specs.Request.{write_body, write_request}
use Rattle.request.specs.declared.writer.Writer.{Writer}
use Rattle.request.specs.Written.{Fits, Written, HasRoom, Writes}
use Rattle.request.proofs.Bytes.{length-bytes_of}
use Rattle.request.proofs.Writing.{writes_then, written_long, room_then}
use Rattle.request.proofs.ContextBytes.{before_body}

pub length-request : (f : ℕ) (p q : PartReq) → length (write_request f p q) ≡ 6 + 2 * length (write_return p ++ write_variables q)
unfolding write_request write_body bytes_of
length-request f p q = omega (arith, length-bytes_of (write_return p ++ write_variables q))

module _ (s o : List ℕ) (f retval globals : ℕ) (room : length (write_request f (part s retval) (part s globals)) ≤ length o) where
  abbrev return_fields : List ℕ
  return_fields = write_return (part s retval)

  abbrev globals-fields : List ℕ
  globals-fields = write_variables (part s globals)

  body_room : Fits o 6 (return_fields ++ globals-fields)
  body_room = omega (arith, length-request f (part s retval) (part s globals))

  pub return_fits : Fits o 6 return_fields
  return_fits = omega (arith, body_room, length-append return_fields globals-fields)

  module _ {a b : Writer} (o_is : a.out.now ≡ o) (at_is : a.at ≡ 6) (first : Writes a b return_fields) where
    pub globals_fit : HasRoom b globals-fields
    globals_fit = room_then return_fields globals-fields first (rw (o_is, at_is) body_room)

    module _ {d : Writer} (last : Writes b d globals-fields) where
      abbrev t : List ℕ
      t = d.out.now

      abbrev end : ℕ
      end = d.at

      rest_written : Written o t 6 (return_fields ++ globals-fields) end
      rest_written = rw (o_is, at_is) at (writes_then return_fields globals-fields first last).written

      pub head_room : 6 ≤ length t
      head_room = omega (arith, written_long rest_written, length-request f (part s retval) (part s globals))

      pub end_is : end ≡ length (write_request f (part s retval) (part s globals))
      end_is = rest_written.next_is ∙ sym (length-request f (part s retval) (part s globals))

      pub head_long : {u : List ℕ} → u ≡ set_field (set (set t 0 82) 1 81) 2 (end - 4) → 6 ≤ length u
      unfolding set_field
      head_long e = rw e (simp length-set head_room)

      pub request_written : {u v : List ℕ} {g : ℕ} → length (write_request f (part s retval) (part s globals)) < 2 ^ 16 → u ≡ set_field (set (set t 0 82) 1 81) 2 (end - 4) → g ≡ as_field f → v ≡ set_field u 4 g → v ≡ sets o 0 (write_request f (part s retval) (part s globals))
      unfolding write_request write_body set_field bytes_of
      request_written {u} {v} {g} small e h w =
          let long : end - 4 ≡ as_field (2 * length (as_field f ∷ (return_fields ++ globals-fields))) = omega (arith, rest_written.next_is, end_is) in
          w ∙ rw (e, h, long, rest_written.is) (before_body o (bytes_of (return_fields ++ globals-fields)) _ _ _ _ _ _)

-- an entry has at most three fields: its index, and the code and the count of its part
code_long : (p : PartReq) (fs : List ℕ) → length (with_code p fs) ≤ 2 + length fs
unfolding with_code
code_long all fs = omega arith
code_long exist fs = omega arith
code_long none fs = omega arith
code_long (more i p r) fs = omega arith

entries-long : (p : PartReq) → length (write_entries p) ≤ 3 * entries p
unfolding write_entries entries
entries-long all = omega arith
entries-long exist = omega arith
entries-long none = omega arith
entries-long (more i p r) =
    omega (arith, length-append (with_code p (write_entries p)) (write_entries r), code_long p (write_entries p), entries-long p, entries-long r)

return_long : (p : PartReq) → length (write_return p) ≤ 2 + 3 * entries p
unfolding write_return write_part entries
return_long all = omega arith
return_long exist = omega arith
return_long none = omega arith
return_long (more i p r) = omega (arith, code_long p (write_entries p), entries-long p)

variables_long : (q : PartReq) → length (write_variables q) ≤ 1 + 3 * entries q
unfolding write_variables
variables_long q = omega (arith, entries-long q)

pub request_long : (f : ℕ) (p q : PartReq) → length (write_request f p q) ≤ 12 + 6 * (entries p + entries q)
request_long f p q =
    omega (arith, length-request f p q, length-append (write_return p) (write_variables q), return_long p, variables_long q)
