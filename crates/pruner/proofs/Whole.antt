-- What the code writes of all totals: a function's is there or 0 stands for it, one function after the other, and then the header before the body.
use Prim.Native.Nat.{ℕ, zero, suc, ◌+◌, ◌-◌, ◌*◌, ◌<◌, ◌≤◌, ◌^◌}
use native.Mathlib.Omega.{arith}
use native.Mathlib.Nat.{zero-add}
use native.Mathlib.Decide.{dec_lt}
use native.Mathlib.Numerals.{add-one}
use mathlib.Core.Path.{◌≡◌, refl, ap, sym, ◌∙◌}
use mathlib.Core.Bool.{true, false}
use mathlib.Core.List.{List, [], ◌∷◌, ◌++◌, append_assoc, append-nil}
use mathlib.Core.Option.{Option, some, none as nothing}
use lib.ListN.{length, get_or, set, take, drop, length-append}
use lib.Seq.{sets, sets-eq}
use Rattle.field.specs.Limits.{min_report}
use Rattle.field.specs.Field.{set_field, set_word}
use Rattle.part.specs.Store.{part}
use Rattle.module.specs.Module.{FunctionHandle}
use Rattle.module.specs.Decode.{tab}
use Rattle.module.specs.Tables.{module_of}
use Rattle.request.specs.Fields.{bytes_of}
use Rattle.request.specs.Part.{write_variables}
use Rattle.request.specs.declared.writer.Writer.{Writer}
use Rattle.request.specs.Written.{Fits, Written, HasRoom, Writes}
use Rattle.request.proofs.Writing.{writes_then, written_long, room_then}
use Rattle.request.proofs.ContextBytes.{before_body}
use Rattle.walk.specs.State.{FunctionReq}
use Rattle.walk.specs.Requests.{Pruner}
use Rattle.memory.specs.Layout.{globals_slot, totals_slot, functions_slot}
use Rattle.memory.specs.Memory.{read}
use Rattle.memory.proofs.Slots.{read_at, slot_low}
use Rattle.marks.specs.declared.places.MarkPlaces.{MarkPlaces}
use Rattle.marks.specs.declared.totals.MarkTotals.{MarkTotals}
use Rattle.marks.specs.Places.{places_of, start_in, Inside}
use Rattle.marks.specs.Report.{has_total}
use Rattle.marks.proofs.Placed.{few}
use Rattle.marks.proofs.Buffers.{inside, size_is}
use Rattle.marks.proofs.Sums.{total_there, total_missing}
use Rattle.state.proofs.Own.{fits}
use Rattle.leave.specs.Leave.{RecordsAt}
use Rattle.leave.specs.declared.leave.Stretch.{Stretch}
use Rattle.block.specs.Standing.{total_of, total_in, functions_in}
use Rattle.pruner.specs.Form.{min_pruner, write_total, write_totals, write_body, write_pruner}
use Rattle.pruner.specs.Stored as stored
use Rattle.pruner.specs.Stored.{Stored, pruner_in, HasTotals}
use Rattle.pruner.proofs.Back as back
use Rattle.pruner.proofs.Writing.{Going, none_written, one_more, next-room}

-- one function
module _ {bytes t starts s rs : List ℕ} {totals : MarkTotals} (h : HasTotals bytes t starts s rs totals) (f : FunctionHandle) (there : f < length (module_of bytes t).functions) where
  abbrev places : MarkPlaces
  places = places_of starts h.firsts

  pub flag_there : f < length totals.flags
  flag_there = omega (arith, few bytes t h.was_read, h.flags_long)

  lies : Inside starts f min_report
  lies = inside bytes t places h.was_read h.placed f min_report there (omega arith)

  pub starts_there : f + 1 < length starts
  starts_there = lies.entry

  abbrev total : Option FunctionReq
  total = total_in (module_of bytes t) t (read s rs) totals f

  module _ (a : Writer) (e : has_total totals f ≡ false) where
    none_there : total ≡ nothing
    unfolding total_in total_of
    none_there = rw (total_missing (module_of bytes t) totals f e)

    pub none_room : HasRoom a (write_total total) → HasRoom a (0 ∷ [])
    unfolding write_total
    none_room room = rw none_there at room

    pub none_done : {b : Writer} → Writes a b (0 ∷ []) → Writes a b (write_total total)
    unfolding write_total
    none_done w = rw none_there w

  module _ {r : Stretch} (own : RecordsAt t f r) where
    pub records_small : totals_slot + r.from ≤ functions_slot
    records_small = omega (arith, fits f h.was_read there, own.from)

    pub total_stored : Stored s rs (functions_slot + 4 * f) (totals_slot + r.from) r.n
    total_stored = record {
      good = h.memory.good;
      below = h.memory.below;
      context_there = omega (arith, few bytes t h.was_read, h.memory.slots);
      records_there = omega (arith, fits f h.was_read there, own.from, own.n, h.memory.slots);
    }

    module _ {from to : ℕ} (a : from ≡ start_in starts f) (b : to ≡ start_in starts (f + 1)) where
      pub own_inside : (from ≤ to) × (to ≤ length totals.marks)
      own_inside = (omega (arith, lies.ascends), omega (arith, lies.within, h.marks_long))

      module _ (u : Writer) (there-is : has_total totals f ≡ true) where
        abbrev in_memory : FunctionReq
        in_memory = stored.total_in s rs (take (to - from) (drop from totals.marks)) (functions_slot + 4 * f) (totals_slot + r.from) r.n

        total_is : total ≡ some in_memory
        unfolding total_in total_of
        total_is =
            let m = module_of bytes t in
            let start = h.placed.starts f (omega arith) in
            let size = size_is bytes t places h.was_read h.placed f there in
            rw (total_there m totals f there-is, ← start, ← size, a, b, own.from, own.n)

        pub total-room : HasRoom u (write_total total) → HasRoom u (write_total (some in_memory))
        total-room room = rw total_is at room

        pub total-done : {v : Writer} → Writes u v (write_total (some in_memory)) → Writes u v (write_total total)
        total-done w = rw total_is w

-- one function after the other
totals_append : (ts us : List (Option FunctionReq)) → write_totals (ts ++ us) ≡ write_totals ts ++ write_totals us
unfolding write_totals
totals_append [] us = refl
totals_append (t ∷ ts) us = rw (totals_append ts us) (sym (append_assoc (write_total t) (write_totals ts) (write_totals us)))

module _ (each : ℕ → Option FunctionReq) where
  abbrev fields_to : ℕ → List ℕ
  fields_to k = write_totals (tab k each)

  fields_more : (k : ℕ) → fields_to (k + 1) ≡ fields_to k ++ write_total (each k)
  unfolding tab write_totals
  fields_more k = ap fields_to (add-one k) ∙ totals_append (tab k each) (each k ∷ []) ∙ ap (λ (fs : List ℕ). fields_to k ++ fs) (append-nil (write_total (each k)))

  fields_grow : (k n : ℕ) → k ≤ n → length (fields_to k) ≤ length (fields_to n)
  fields_grow k zero l = let e : k ≡ 0 = omega arith in rw e (omega arith)
  fields_grow k (suc n) l = elim (dec_lt n k) [
    | yes b ↦ let e : k ≡ suc n = omega arith in rw e (omega arith)
    | no b ↦
        let last : length (fields_to (n + 1)) ≡ length (fields_to n) + length (write_total (each n)) = ap length (fields_more n) ∙ length-append (fields_to n) (write_total (each n)) in
        let same : length (fields_to (n + 1)) ≡ length (fields_to (suc n)) = ap (λ (k : ℕ). length (fields_to k)) (add-one n) in
        omega (arith, fields_grow k n (omega arith))
  ]

  pub functions_none : {n : ℕ} {a : Writer} → Going n 0 a a (fields_to 0)
  unfolding tab write_totals
  functions_none = none_written

  module _ {n : ℕ} {a b : Writer} {k : ℕ} (g : Going n k a b (fields_to k)) (l : k < n) where
    pub function_room : HasRoom a (fields_to n) → HasRoom b (write_total (each k))
    function_room room = next-room fields_to (write_total (each k)) g (fields_more k) (fields_grow (k + 1) n (omega arith)) room

    pub function_again : {c : Writer} → Writes b c (write_total (each k)) → Going n (k + 1) a c (fields_to (k + 1))
    function_again w = one_more fields_to (write_total (each k)) g l (fields_more k) w

module _ (bytes t s rs : List ℕ) (totals : MarkTotals) {n : ℕ} (count : n ≡ length (module_of bytes t).functions) where
  abbrev fields_of : List ℕ
  fields_of = write_totals (functions_in (module_of bytes t) t (read s rs) totals)

  abbrev each_total : ℕ → Option FunctionReq
  each_total = total_in (module_of bytes t) t (read s rs) totals

  all_fields : fields_of ≡ write_totals (tab n each_total)
  unfolding functions_in
  all_fields = rw count

  pub functions_room : (a : Writer) → HasRoom a fields_of → HasRoom a (write_totals (tab n each_total))
  functions_room a room = rw all_fields at room

  pub functions_done : {a b : Writer} {k : ℕ} → Going n k a b (write_totals (tab k each_total)) → n ≤ k → Writes a b fields_of
  functions_done {k = k} g l =
      let same : k ≡ n = omega (arith, g.few) in
      rw all_fields (rw same at g.writes)

-- the whole
module _ {bytes t starts s rs : List ℕ} {totals : MarkTotals} (h : HasTotals bytes t starts s rs totals) where
  abbrev pruner : Pruner
  pruner = pruner_in bytes t s rs totals

  abbrev globals_fields : List ℕ
  globals_fields = write_variables (part s (get_or rs globals_slot 0))

  abbrev functions_fields : List ℕ
  functions_fields = write_totals (functions_in (module_of bytes t) t (read s rs) totals)

  body_is : write_body pruner ≡ globals_fields ++ functions_fields
  unfolding write_body
  body_is = rw (read_at s rs globals_slot (slot_low h.memory globals_slot (omega arith)).0)

  module _ (o : List ℕ) (least : min_pruner ≤ length o) (room : length (write_pruner pruner) ≤ min_pruner) where
    long : length (write_pruner pruner) ≡ 6 + 2 * length (globals_fields ++ functions_fields)
    long = back.written_long pruner [] ∙ ap (λ (fs : List ℕ). 6 + 2 * length fs) body_is

    body_fits : Fits o 6 (globals_fields ++ functions_fields)
    body_fits = omega (arith, long)

    pub globals_fit : Fits o 6 globals_fields
    globals_fit = omega (arith, body_fits, length-append globals_fields functions_fields)

    module _ {a b : Writer} (o_is : a.out.now ≡ o) (at_is : a.at ≡ 6) (first : Writes a b globals_fields) where
      pub functions_fit : HasRoom b functions_fields
      functions_fit = room_then globals_fields functions_fields first (rw (o_is, at_is) body_fits)

      module _ {c : Writer} (second : Writes b c functions_fields) where
        abbrev q : List ℕ
        q = c.out.now

        abbrev end : ℕ
        end = c.at

        body_written : Written o q 6 (globals_fields ++ functions_fields) end
        body_written = rw (o_is, at_is) at (writes_then globals_fields functions_fields first second).written

        pub head_room : (6 ≤ end) × (end ≤ length q) × (end < 2 ^ 32)
        head_room =
            let at_end = body_written.next_is in
            let size = written_long body_written in
            (omega (arith, at_end), omega (arith, at_end, size, body_fits), omega (arith, at_end, long, room))

        pruner-set : {u : List ℕ} → u ≡ set_word (set (set q 0 80) 1 78) 2 (end - 6) → u ≡ sets o 0 (write_pruner pruner)
        unfolding write_pruner set_word set_field bytes_of
        pruner-set {u} e =
            let size : end - 6 ≡ 2 * length (write_body pruner) = omega (arith, body_written.next_is, ap length body_is) in
            let is : q ≡ sets o 6 (bytes_of (write_body pruner)) = body_written.is ∙ ap (λ (fs : List ℕ). sets o 6 (bytes_of fs)) (sym body_is) in
            e ∙ rw (size, is) (before_body o (bytes_of (write_body pruner)) _ _ _ _ _ _)

        pub pruner-written : {u : List ℕ} → u ≡ set_word (set (set q 0 80) 1 78) 2 (end - 6) → u ≡ write_pruner pruner ++ drop (length (write_pruner pruner)) o
        pruner-written e =
            pruner-set e ∙ sets-eq (write_pruner pruner) o 0 (omega arith)
            ∙ ap (λ (k : ℕ). write_pruner pruner ++ drop k o) (zero-add (length (write_pruner pruner)))
