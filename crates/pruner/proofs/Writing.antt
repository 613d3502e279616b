-- What the code writes of a total, list by list: of n marks or records the first k are written, and then one more.
use Prim.Native.Nat.{ℕ, zero, suc, ◌+◌, ◌-◌, ◌<◌, ◌≤◌}
use native.Mathlib.Omega.{arith}
use native.Mathlib.Nat.{add-zero}
use native.Mathlib.Numerals.{add-one}
use mathlib.Core.Path.{◌≡◌, refl, ap, sym, ◌∙◌}
use mathlib.Core.List.{List, [], ◌∷◌, ◌++◌, append_assoc, append-nil}
use mathlib.Core.Option.{some}
use lib.ListN.{length, get_or, take, drop, length-append, length-take}
use lib.Seq.{take-length}
use Rattle.std.proofs.lemmas.List.{take_more}
use Rattle.part.specs.PartReq.{PartReq, all, exist, none, more}
use Rattle.part.specs.Store.{part, top, Below}
use Rattle.context.specs.Contexts.{context_of, HasContext}
use Rattle.request.specs.Fields.{bytes_of}
use Rattle.request.specs.Part.{write_return}
use Rattle.request.specs.Context.{write_context_body}
use Rattle.request.specs.declared.writer.Writer.{Writer}
use Rattle.request.specs.Written.{HasRoom, Writes}
use Rattle.request.proofs.Writing.{writes_then, written_long, room_then, room_first}
use Rattle.walk.specs.State.{FunctionReq}
use Rattle.memory.specs.Memory.{read, record_of, records_of, context_at}
use Rattle.memory.specs.Stretches.{pieces_at}
use Rattle.memory.proofs.Slots.{read_at}
use Rattle.marks.proofs.Write.{slice_at}
use Rattle.pruner.specs.Form.{write_record, write_records, write_total}

-- k of n are written, which are the fields fs
pub record Going (n k : ℕ) (a b : Writer) (fs : List ℕ) : Type 0 where
  pub few : k ≤ n
  pub writes : Writes a b fs

pub none_written : {n : ℕ} {a : Writer} → Going n 0 a a []
unfolding bytes_of
none_written = record { few = omega arith; writes = record { same = refl; written = record { is = refl; next_is = omega arith } } }

-- those before the n-th are all
pub all_written : (fs : ℕ → List ℕ) {n k : ℕ} {a b : Writer} → Going n k a b (fs k) → n ≤ k → Writes a b (fs n)
all_written fs {n} {k} g l = let same : k ≡ n = omega (arith, g.few) in rw same at g.writes

pub one_more : (fs : ℕ → List ℕ) (gs : List ℕ) {n k : ℕ} {a b c : Writer} → Going n k a b (fs k) → k < n → fs (k + 1) ≡ fs k ++ gs
    → Writes b c gs → Going n (k + 1) a c (fs (k + 1))
one_more fs gs {k = k} g l e w = record { few = omega arith; writes = rw e (writes_then (fs k) gs g.writes w) }

-- there is room for one more
pub next-room : (fs : ℕ → List ℕ) (gs : List ℕ) {n k : ℕ} {a b : Writer} → Going n k a b (fs k) → fs (k + 1) ≡ fs k ++ gs
    → length (fs (k + 1)) ≤ length (fs n) → HasRoom a (fs n) → HasRoom b gs
next-room fs gs {k = k} g e l h =
    omega (arith, written_long g.writes.written, g.writes.written.next_is, ap length e, length-append (fs k) gs)

-- marks
module _ (marks : List ℕ) where
  abbrev marks_of : ℕ → List ℕ
  marks_of k = take k marks

  module _ {a b : Writer} {k : ℕ} (g : Going (length marks) k a b (marks_of k)) (l : k < length marks) where
    mark_more : marks_of (k + 1) ≡ marks_of k ++ (get_or marks k 0 ∷ [])
    mark_more = take_more marks k 0 l

    pub mark_room : HasRoom a marks → HasRoom b (get_or marks k 0 ∷ [])
    mark_room h = next-room marks_of (get_or marks k 0 ∷ []) g mark_more (simp length-take (omega arith)) (rw (take-length marks) h)

    pub mark_again : {c : Writer} → Writes b c (get_or marks k 0 ∷ []) → Going (length marks) (k + 1) a c (marks_of (k + 1))
    mark_again w = one_more marks_of (get_or marks k 0 ∷ []) g l mark_more w

-- records
return_record : (p : PartReq) → write_return p ≡ write_record (record_of p)
unfolding write_return write_record record_of
return_record all = refl
return_record exist = refl
return_record none = refl
return_record (more i p r) = refl

module _ (ps : List PartReq) where
  abbrev fields_of : (base k : ℕ) → List ℕ
  fields_of base k = write_records (records_of ps base k)

  abbrev field_of : ℕ → List ℕ
  field_of j = write_record (record_of (get_or ps j none))

  records_suc : (base k : ℕ) → fields_of base (suc k) ≡ fields_of base k ++ field_of (base + k)
  unfolding write_records records_of
  records_suc base zero = rw (append-nil (field_of base), add-zero base)
  records_suc base (suc k) =
      let place : suc base + k ≡ base + suc k = omega arith in
      ap (λ (fs : List ℕ). field_of base ++ fs) (records_suc (suc base) k) ∙ sym (append_assoc (field_of base) (fields_of (suc base) k) (field_of (suc base + k)))
      ∙ ap (λ (j : ℕ). fields_of base (suc k) ++ field_of j) place

  records_grow : (base k n : ℕ) → k ≤ n → length (fields_of base k) ≤ length (fields_of base n)
  unfolding write_records records_of
  records_grow base zero n l = omega arith
  records_grow base (suc k) zero l = absurd (omega arith)
  records_grow base (suc k) (suc n) l =
      omega (arith, length-append (field_of base) (fields_of (suc base) k), length-append (field_of base) (fields_of (suc base) n), records_grow (suc base) k n (omega arith))

module _ (s rs : List ℕ) (base n : ℕ) (inside : base + n ≤ length rs) where
  abbrev record_fields : ℕ → List ℕ
  record_fields k = write_records (records_of (read s rs) base k)

  pub records_none : {a : Writer} → Going n 0 a a (record_fields 0)
  unfolding write_records records_of
  records_none = none_written

  -- the piece that the loop gives
  abbrev slot : ℕ → ℕ
  slot k = get_or (take (base + n - base) (drop base rs)) k 0

  slot_is : {k : ℕ} → k < n → slot k ≡ get_or rs (base + k) 0
  slot_is {k} l = slice_at rs base n k l

  pub slot_below : {k : ℕ} → Below rs (top s) → k < n → slot k < top s
  slot_below {k} below l = omega (arith, slot_is l, below (base + k) (omega arith))

  abbrev written : ℕ → List ℕ
  written k = write_return (part s (slot k))

  record_more : {k : ℕ} → k < n → record_fields (k + 1) ≡ record_fields k ++ written k
  record_more {k} l =
      let here = read_at s rs (base + k) (omega arith) in
      ap record_fields (add-one k) ∙ records_suc (read s rs) base k
      ∙ ap (λ (p : PartReq). record_fields k ++ write_record (record_of p)) here
      ∙ ap (λ (fs : List ℕ). record_fields k ++ fs) (sym (return_record (part s (get_or rs (base + k) 0))))
      ∙ ap (λ (p : ℕ). record_fields k ++ write_return (part s p)) (sym (slot_is l))

  module _ {a b : Writer} {k : ℕ} (g : Going n k a b (record_fields k)) (l : k < n) where
    pub record_room : HasRoom a (record_fields n) → HasRoom b (written k)
    record_room h = next-room record_fields (written k) g (record_more l) (records_grow (read s rs) base (k + 1) n (omega arith)) h

    pub record_again : {c : Writer} → Writes b c (written k) → Going n (k + 1) a c (record_fields (k + 1))
    record_again w = one_more record_fields (written k) g l (record_more l) w

-- the context in the four slots from x on
module _ (s rs : List ℕ) (x : ℕ) (inside : x + 4 ≤ length rs) where
  pub context_is : context_at (read s rs) x ≡ context_of s (pieces_at rs x)
  context_is =
      rw (read_at s rs x (omega arith), read_at s rs (x + 1) (omega arith), read_at s rs (x + 2) (omega arith), read_at s rs (x + 3) (omega arith))

  pub pieces_there : Below rs (top s) → HasContext s (pieces_at rs x)
  pieces_there below =
      record { globals = below x (omega arith); locals = below (x + 1) (omega arith); args = below (x + 2) (omega arith); retval = below (x + 3) (omega arith) }

-- a total: 1, its marks, its context and its records
abbrev context_fields : FunctionReq → List ℕ
context_fields t = write_context_body t.context

abbrev exprs_fields : FunctionReq → List ℕ
exprs_fields t = write_records t.exprs

module _ (t : FunctionReq) (a : Writer) (room : HasRoom a (write_total (some t))) where
  total_fits : HasRoom a ((1 ∷ []) ++ (t.marks ++ ((context_fields t) ++ (exprs_fields t))))
  unfolding write_total
  total_fits = room

  pub flag_room : HasRoom a (1 ∷ [])
  flag_room = room_first a (1 ∷ []) (t.marks ++ ((context_fields t) ++ (exprs_fields t))) total_fits

  module _ {b : Writer} (flag : Writes a b (1 ∷ [])) where
    after_flag : HasRoom b (t.marks ++ ((context_fields t) ++ (exprs_fields t)))
    after_flag = room_then (1 ∷ []) (t.marks ++ ((context_fields t) ++ (exprs_fields t))) flag total_fits

    pub marks_fit : HasRoom b t.marks
    marks_fit = room_first b t.marks ((context_fields t) ++ (exprs_fields t)) after_flag

    module _ {c : Writer} (first : Writes b c t.marks) where
      after-marks : HasRoom c ((context_fields t) ++ (exprs_fields t))
      after-marks = room_then t.marks ((context_fields t) ++ (exprs_fields t)) first after_flag

      pub context_fits : HasRoom c (context_fields t)
      context_fits = room_first c (context_fields t) (exprs_fields t) after-marks

      module _ {d : Writer} (second : Writes c d (context_fields t)) where
        pub exprs_fit : HasRoom d (exprs_fields t)
        exprs_fit = room_then (context_fields t) (exprs_fields t) second after-marks

        pub total_writes : {e : Writer} → Writes d e (exprs_fields t) → Writes a e (write_total (some t))
        unfolding write_total
        total_writes third =
            writes_then (1 ∷ []) (t.marks ++ ((context_fields t) ++ (exprs_fields t))) flag
            (writes_then t.marks ((context_fields t) ++ (exprs_fields t)) first (writes_then (context_fields t) (exprs_fields t) second third))
