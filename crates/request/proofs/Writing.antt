-- Fields written into a slice. Writing fields from a byte on is writing the first and then the others from two bytes on; so what the code writes field by
-- field is what `sets` says of all of them.
use Prim.Native.Nat.{ℕ, zero, suc, ◌+◌, ◌*◌, ◌/◌, ◌%◌, ◌≤◌, ◌<◌}
use native.Mathlib.Omega.{arith}
use native.Mathlib.Numerals.{add-one, add-two}
use native.Mathlib.Nat.{add-zero}
use mathlib.Core.Path.{◌≡◌, refl, ap, sym, ◌∙◌}
use mathlib.Core.Bool.{false}
use mathlib.Core.List.{List, [], ◌∷◌, ◌++◌}
use lib.ListN.{length, set, length-append}
use lib.Seq.{sets, length-sets}
use Rattle.field.specs.Field.{set_field, set_word}
use Rattle.part.specs.PartReq.{PartReq, all, exist, none, more, width, is_all, is_exist}
use Rattle.part.specs.Store.{top, part, Seen}
use Rattle.part.proofs.Pieces.{part-0, part-1, part-2, not_all, not_exist}
use Rattle.request.specs.Fields.{bytes_of, as_field}
use Rattle.context.specs.Contexts.{context_of}
use Rattle.context.specs.declared.required_context.RequiredContext.{RequiredContext as Pieces}
use Rattle.request.specs.Part.{with_code, write_entries, write_part, write_return, write_variables}
use Rattle.request.specs.Context.{write_context_body}
use Rattle.request.specs.declared.writer.Writer.{Writer}
use Rattle.request.specs.Written.{Written, HasRoom, Writes}

-- one field, and the others after it
sets-cons : (o : List ℕ) (at f : ℕ) (fs : List ℕ) → sets o at (bytes_of (f ∷ fs)) ≡ sets (set_field o at f) (at + 2) (bytes_of fs)
unfolding bytes_of set_field
sets-cons o at f fs = rw (add-one at, add-two at)

sets-append : (o : List ℕ) (at : ℕ) (fs gs : List ℕ) → sets o at (bytes_of (fs ++ gs)) ≡ sets (sets o at (bytes_of fs)) (at + 2 * length fs) (bytes_of gs)
unfolding bytes_of
sets-append o at [] gs = rw (add-zero at)
sets-append o at (f ∷ fs) gs =
    let place : suc (suc at) + 2 * length fs ≡ at + 2 * length (f ∷ fs) = omega arith in
    sets-append (set (set o at (f % 256)) (suc at) (f / 256)) (suc (suc at)) fs gs ∙ rw place

-- what was written, with what is written after it
pub written_one : {o p : List ℕ} {at f : ℕ} → p ≡ set_field o at f → Written o p at (f ∷ []) (at + 2)
unfolding bytes_of
written_one {o} {p} {at} {f} e = record { is = e ∙ sym (sets-cons o at f []); next_is = omega arith }

pub written_two : {o p : List ℕ} {at : ℕ} (w : ℕ) → p ≡ set_word o at w → Written o p at (w % 65536 ∷ (w / 65536 ∷ [])) (at + 4)
unfolding set_word bytes_of set_field
written_two {o} {p} {at} w e = record { is = e ∙ sym (sets-cons o at (w % 65536) (w / 65536 ∷ []) ∙ sets-cons (set_field o at (w % 65536)) (at + 2) (w / 65536) []); next_is = omega arith }

pub writes_then : {a b c : Writer} (fs gs : List ℕ) → Writes a b fs → Writes b c gs → Writes a c (fs ++ gs)
writes_then {a} fs gs v w =
    record {
      same = w.same ∙ v.same;
      written = record {
        is = w.written.is ∙ rw (v.written.is, v.written.next_is) (sym (sets-append a.out.now a.at fs gs));
        next_is = w.written.next_is ∙ rw (v.written.next_is, length-append fs gs) (omega arith);
      };
    }

pub written_long : {o p : List ℕ} {at next : ℕ} {fs : List ℕ} → Written o p at fs next → length p ≡ length o
written_long {o} {p} {at} {next} {fs} w = ap length w.is ∙ length-sets o at (bytes_of fs)

-- there is room for what follows
pub room_then : {a b : Writer} (fs gs : List ℕ) → Writes a b fs → HasRoom a (fs ++ gs) → HasRoom b gs
room_then fs gs v h = omega (arith, written_long v.written, v.written.next_is, length-append fs gs)

pub room_first : (a : Writer) (fs gs : List ℕ) → HasRoom a (fs ++ gs) → HasRoom a fs
room_first a fs gs h = omega (arith, length-append fs gs)

-- all and exist are their codes alone, which are their numbers
part-code : (s : List ℕ) (n : ℕ) → n < 2 → write_part (part s n) ≡ n ∷ []
unfolding write_part with_code
part-code s zero h = rw (part-0 s)
part-code s (suc zero) h = rw (part-1 s)
part-code s (suc (suc n)) h = absurd (omega arith)

-- any other has a count and entries
counted : (q : PartReq) → is_all q ≡ false → is_exist q ≡ false → write_part q ≡ 2 ∷ (as_field (width q) ∷ write_entries q)
unfolding write_part with_code width
counted all h k = let z : ◌≡◌ {A = ℕ} 0 1 = cc in absurd (omega arith)
counted exist h k = let z : ◌≡◌ {A = ℕ} 0 1 = cc in absurd (omega arith)
counted none h k = refl
counted (more i p r) h k = refl

part_count : (s : List ℕ) (n : ℕ) → 2 ≤ n → write_part (part s n) ≡ 2 ∷ (as_field (width (part s n)) ∷ write_entries (part s n))
part_count s n h = counted (part s n) (not_all s n (omega arith)) (not_exist s n (omega arith))

module _ (s : List ℕ) (n : ℕ) (a : Writer) (room : HasRoom a (write_part (part s n))) where
  pub code_room : n < 2 → HasRoom a (n ∷ [])
  code_room l = rw (part-code s n l) at room

  module _ (g : 2 ≤ n) where
    counted_room : HasRoom a ((2 ∷ []) ++ ((as_field (width (part s n)) ∷ []) ++ write_entries (part s n)))
    counted_room = rw (part_count s n g) at room

    pub kind_room : a.at + 2 ≤ length a.out.now
    kind_room = omega (arith, counted_room)

    module _ {b : Writer} (first : Writes a b (2 ∷ [])) where
      after_kind : HasRoom b ((as_field (width (part s n)) ∷ []) ++ write_entries (part s n))
      after_kind = room_then (2 ∷ []) ((as_field (width (part s n)) ∷ []) ++ write_entries (part s n)) first counted_room

      pub count_room : b.at + 2 ≤ length b.out.now
      count_room = omega (arith, after_kind)

      module _ {w f : ℕ} (wide : w ≡ width (part s n)) (field : f ≡ as_field w) {c : Writer} (second : Writes b c (f ∷ [])) where
        count_is : Writes b c (as_field (width (part s n)) ∷ [])
        count_is = rw (field ∙ ap as_field wide) at second

        pub entries_room : HasRoom c (write_entries (part s n))
        entries_room = room_then (as_field (width (part s n)) ∷ []) (write_entries (part s n)) count_is after_kind

        pub count_writes : {d : Writer} → Writes c d (write_entries (part s n)) → Writes a d (write_part (part s n))
        count_writes rest =
            rw (part_count s n g) (writes_then (2 ∷ []) (as_field (width (part s n)) ∷ write_entries (part s n)) first (writes_then (as_field (width (part s n)) ∷ []) (write_entries (part s n)) count_is rest))

pub code_writes : (s : List ℕ) {a b : Writer} {n : ℕ} → n < 2 → Writes a b (n ∷ []) → Writes a b (write_part (part s n))
code_writes s {n = n} h w = rw (part-code s n h) w

-- the entries from the piece m on are still to be written
pub record Left (s : List ℕ) (a : Writer) (n : ℕ) (b : Writer) (m : ℕ) : Type 0 where
  pub low : m < top s
  pub under : m ≤ n
  pub same : b.out.ghost_name ≡ a.out.ghost_name
  pub long : length b.out.now ≡ length a.out.now
  pub rest_is : sets b.out.now b.at (bytes_of (write_entries (part s m))) ≡ sets a.out.now a.at (bytes_of (write_entries (part s n)))
  pub end_is : b.at + 2 * length (write_entries (part s m)) ≡ a.at + 2 * length (write_entries (part s n))

pub left_first : {s : List ℕ} {a : Writer} {n : ℕ} → n < top s → Left s a n a n
left_first h = record { low = h; under = omega arith; same = refl; long = refl; rest_is = refl; end_is = refl }

no_entries : (s : List ℕ) (m : ℕ) → m ≤ 2 → write_entries (part s m) ≡ []
unfolding write_entries
no_entries s zero h = rw (part-0 s)
no_entries s (suc zero) h = rw (part-1 s)
no_entries s (suc (suc zero)) h = rw (part-2 s)
no_entries s (suc (suc (suc m))) h = absurd (omega arith)

entries_seen : {s : List ℕ} {m i c r : ℕ} → Seen s m i c r → write_entries (part s m) ≡ as_field i ∷ (write_part (part s c) ++ write_entries (part s r))
unfolding write_entries write_part
entries_seen x = rw x.is

module _ {s : List ℕ} {a b : Writer} {n m : ℕ} (so : Left s a n b m) where
  pub left_done : m ≤ 2 → Writes a b (write_entries (part s n))
  unfolding bytes_of
  left_done h =
      let none_left = no_entries s m h in
      record {
        same = so.same;
        written = record {
          is = rw none_left at so.rest_is;
          next_is = let e : b.at + 2 * length {A = ℕ} [] ≡ a.at + 2 * length (write_entries (part s n)) = rw none_left at so.end_is in omega arith;
        };
      }

  module _ {i c r : ℕ} (x : Seen s m i c r) (room : HasRoom a (write_entries (part s n))) where
    left_room : HasRoom b (as_field i ∷ (write_part (part s c) ++ write_entries (part s r)))
    left_room = rw (entries_seen x) at (let h : HasRoom b (write_entries (part s m)) = omega (arith, so.long, so.end_is) in h)

    pub index_room : b.at + 2 ≤ length b.out.now
    index_room = omega (arith, left_room)

    module _ {p : Writer} {f : ℕ} (field : f ≡ as_field i) (wrote : Writes b p (f ∷ [])) where
      first_field : Writes b p (as_field i ∷ [])
      first_field = rw field at wrote

      pub child_room : HasRoom p (write_part (part s c))
      child_room =
          room_first p (write_part (part s c)) (write_entries (part s r)) (room_then (as_field i ∷ []) (write_part (part s c) ++ write_entries (part s r)) first_field left_room)

      pub left_again : {q : Writer} → Writes p q (write_part (part s c)) → Left s a n q r
      left_again {q} child =
          let entry : Writes b q (as_field i ∷ write_part (part s c)) = writes_then (as_field i ∷ []) (write_part (part s c)) first_field child in
          let size : length (as_field i ∷ (write_part (part s c) ++ write_entries (part s r))) ≡ length (as_field i ∷ write_part (part s c)) + length (write_entries (part s r)) = length-append (as_field i ∷ write_part (part s c)) (write_entries (part s r)) in
          let end_is : b.at + 2 * length (as_field i ∷ (write_part (part s c) ++ write_entries (part s r))) ≡ a.at + 2 * length (write_entries (part s n)) = rw (entries_seen x) at so.end_is in
          record {
            low = omega (arith, x.rest_low, so.low);
            under = omega (arith, x.rest_low, so.under);
            same = entry.same ∙ so.same;
            long = written_long entry.written ∙ so.long;
            rest_is =
                rw (entry.written.is, entry.written.next_is)
                (sym (sets-append b.out.now b.at (as_field i ∷ write_part (part s c)) (write_entries (part s r))) ∙ (rw (entries_seen x) at so.rest_is));
            end_is = omega (arith, entry.written.next_is, size, end_is);
          }

-- the return part and a list of variables
return_none : (s : List ℕ) (n : ℕ) → n < 3 → write_return (part s n) ≡ 3 ∷ []
unfolding write_return
return_none s zero h = rw (part-0 s)
return_none s (suc zero) h = rw (part-1 s)
return_none s (suc (suc zero)) h = rw (part-2 s)
return_none s (suc (suc (suc n))) h = absurd (omega arith)

return_seen : {s : List ℕ} {n i c r : ℕ} → Seen s n i c r → write_return (part s n) ≡ write_part (part s c)
unfolding write_return
return_seen x = rw x.is

module _ (s : List ℕ) (n : ℕ) (a : Writer) where
  pub return_room : n < 3 → HasRoom a (write_return (part s n)) → HasRoom a (3 ∷ [])
  return_room h room = rw (return_none s n h) at room

  pub return_writes : {b : Writer} → n < 3 → Writes a b (3 ∷ []) → Writes a b (write_return (part s n))
  return_writes h w = rw (return_none s n h) w

  pub return_child_room : {i c r : ℕ} → Seen s n i c r → HasRoom a (write_return (part s n)) → HasRoom a (write_part (part s c))
  return_child_room x room = rw (return_seen x) at room

  pub return_part_writes : {b : Writer} {i c r : ℕ} → Seen s n i c r → Writes a b (write_part (part s c)) → Writes a b (write_return (part s n))
  return_part_writes x w = rw (return_seen x) w

  pub variables_room : HasRoom a (write_variables (part s n)) → a.at + 2 ≤ length a.out.now
  unfolding write_variables
  variables_room room = omega arith

  module _ {b : Writer} {w f : ℕ} (wide : w ≡ width (part s n)) (field : f ≡ as_field w) (wrote : Writes a b (f ∷ [])) where
    count_field : Writes a b (as_field (width (part s n)) ∷ [])
    count_field = rw (field ∙ ap as_field wide) at wrote

    pub variables_left : HasRoom a (write_variables (part s n)) → HasRoom b (write_entries (part s n))
    unfolding write_variables
    variables_left room = room_then (as_field (width (part s n)) ∷ []) (write_entries (part s n)) count_field room

    pub variables_writes : {d : Writer} → Writes b d (write_entries (part s n)) → Writes a d (write_variables (part s n))
    unfolding write_variables
    variables_writes rest = writes_then (as_field (width (part s n)) ∷ []) (write_entries (part s n)) count_field rest

-- the lists of a context, one after the other
module _ (s : List ℕ) (c : Pieces) (a : Writer) (room : HasRoom a (write_context_body (context_of s c))) where
  abbrev return_fields : List ℕ
  return_fields = write_return (part s c.retval)

  abbrev globals_fields : List ℕ
  globals_fields = write_variables (part s c.globals)

  abbrev args_fields : List ℕ
  args_fields = write_variables (part s c.args)

  abbrev locals_fields : List ℕ
  locals_fields = write_variables (part s c.locals)

  body_room : HasRoom a (return_fields ++ (globals_fields ++ (args_fields ++ locals_fields)))
  unfolding write_context_body
  body_room = room

  pub return_fits : HasRoom a return_fields
  return_fits = room_first a return_fields (globals_fields ++ (args_fields ++ locals_fields)) body_room

  module _ {b : Writer} (first : Writes a b return_fields) where
    after_return : HasRoom b (globals_fields ++ (args_fields ++ locals_fields))
    after_return = room_then return_fields (globals_fields ++ (args_fields ++ locals_fields)) first body_room

    pub globals_fit : HasRoom b globals_fields
    globals_fit = room_first b globals_fields (args_fields ++ locals_fields) after_return

    module _ {d : Writer} (second : Writes b d globals_fields) where
      after_globals : HasRoom d (args_fields ++ locals_fields)
      after_globals = room_then globals_fields (args_fields ++ locals_fields) second after_return

      pub args_fit : HasRoom d args_fields
      args_fit = room_first d args_fields locals_fields after_globals

      module _ {e : Writer} (third : Writes d e args_fields) where
        pub locals_fit : HasRoom e locals_fields
        locals_fit = room_then args_fields locals_fields third after_globals

        pub lists_write : {f : Writer} → Writes e f locals_fields → Writes a f (write_context_body (context_of s c))
        unfolding write_context_body
        lists_write fourth =
            writes_then return_fields (globals_fields ++ (args_fields ++ locals_fields)) first
            (writes_then globals_fields (args_fields ++ locals_fields) second (writes_then args_fields locals_fields third fourth))
