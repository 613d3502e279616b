-- The record of a result, by its slot's number: a number below 3 is no record.
use Prim.Native.Nat.{ℕ, zero, suc, ◌+◌, ◌<◌, ◌≤◌}
use native.Mathlib.Omega.{arith}
use mathlib.Core.Path.{◌≡◌, refl, sym, ap, ◌∙◌}
use mathlib.Core.Bool.{false}
use mathlib.Core.List.{List, []}
use mathlib.Core.Option.{Option, some, none as nothing}
use lib.ListN.{length, get_or, set}
use Rattle.std.specs.Prelude.{Option as Optional, Some, None}
use Rattle.part.specs.PartReq.{none, gone, there}
use Rattle.part.specs.Store.{top, part, Good}
use Rattle.part.proofs.Pieces.{part-0, part-1, part-2}
use Rattle.part.proofs.Write.{seen}
use Rattle.module.specs.Module.{Function}
use Rattle.module.specs.Tables.{module_of, row_at, expressions_from}
use Rattle.access.specs.Access.{expression_number, handle_in}
use Rattle.access.proofs.Access.{function_is, expressions-are}
use Rattle.walk.specs.Resolve.{function_at}
use Rattle.walk.specs.Statement.{need_of, record_of}
use Rattle.memory.specs.Layout.{exprs_slot}
use Rattle.memory.specs.Memory as memory
use Rattle.memory.specs.Memory.{read}
use Rattle.memory.specs.Want.{kid}
use Rattle.memory.proofs.Slots.{read_at, slot_low}
use Rattle.memory.proofs.Records.{records_at}
use Rattle.state.specs.State.{records_in}
use Rattle.state.specs.declared.frame.Frame.{Frame}
use Rattle.state.proofs.Others.{ready_fits}
use Rattle.statement.specs.Aside.{aside_field, aside_slots, Loading}

low_gone : (s : List ℕ) (x : ℕ) → x < 3 → need_of (memory.record_of (part s x)) ≡ gone
unfolding need_of memory.record_of
low_gone s zero l = rw part-0
low_gone s (suc zero) l = rw part-1
low_gone s (suc (suc zero)) l = rw part-2
low_gone s (suc (suc (suc x))) l = absurd (omega arith)

high_there : (s : List ℕ) (x : ℕ) → Good s → 3 ≤ x → x < top s → need_of (memory.record_of (part s x)) ≡ there (kid (part s x))
unfolding need_of memory.record_of kid
high_there s x g l h = rw (seen s x g (omega arith) h).is

module _ {bytes t s rs : List ℕ} {fr : Frame} {result : Option ℕ} (q : Loading bytes t s rs fr result) where
  pub load_absent : result ≡ nothing → record_of (records_in t exprs_slot fr.function.0 (read s rs)) result ≡ gone
  unfolding record_of
  load_absent e = rw e refl

  module _ {e : ℕ} (there_is : result ≡ some e) where
    inside : e < (row_at t fr.function.0).expressions
    unfolding function_at
    inside =
        let l : e < length (function_at (module_of bytes t) fr.function.0).expressions = rw there_is at q.below in
        omega (
          arith,
          l,
          ap (λ (x : Function). length x.expressions) (function_is bytes t fr.function.0 none_there q.ready.function),
          expressions-are t fr.function.0 (row_at t fr.function.0) refl bytes,
        )
      where
        none_there : Function
        none_there = record { entry = false; result = nothing; arguments = []; locals = []; expressions = []; statements = []; blocks = [] }

    module _ {n : ℕ} (number : n ≡ expression_number t fr.function.0 e) where
      slot : (exprs_slot + n < length rs) × (get_or rs (exprs_slot + n) 0 < top s)
      slot = slot_low q.ready.memory (exprs_slot + n) (omega (arith, number, inside, ready_fits q.ready))

      pub load_slot : exprs_slot + n < length rs
      load_slot = slot.0

      pub load_piece : get_or rs (exprs_slot + n) 0 < top s
      load_piece = slot.1

      is : record_of (records_in t exprs_slot fr.function.0 (read s rs)) result ≡ need_of (memory.record_of (part s (get_or rs (exprs_slot + n) 0)))
      unfolding record_of
      is =
          let z : exprs_slot + expressions_from (row_at t fr.function.0) + e ≡ exprs_slot + n = omega (arith, number) in
          rw there_is
          (ap need_of (records_at (read s rs) (exprs_slot + expressions_from (row_at t fr.function.0)) (row_at t fr.function.0).expressions e inside
          ∙ ap (λ (k : ℕ). memory.record_of (get_or (read s rs) k none)) z
          ∙ ap memory.record_of (read_at s rs (exprs_slot + n) slot.0)))

      pub load_none : {x : ℕ} → x ≡ get_or rs (exprs_slot + n) 0 → x ≤ 2 → record_of (records_in t exprs_slot fr.function.0 (read s rs)) result ≡ gone
      load_none {x} h l = is ∙ low_gone s (get_or rs (exprs_slot + n) 0) (omega (arith, h, l))

      pub load_there : {c : ℕ} → 3 ≤ get_or rs (exprs_slot + n) 0 → (c < top s) × (part s c ≡ kid (part s (get_or rs (exprs_slot + n) 0)))
          → (c < top s) × (record_of (records_in t exprs_slot fr.function.0 (read s rs)) result ≡ there (part s c))
      load_there l h = (h.0, is ∙ high_there s (get_or rs (exprs_slot + n) 0) q.ready.memory.good l slot.1 ∙ ap there (sym h.1))

-- what is put aside
pub aside_none : {found : Optional ℕ} (rs : List ℕ) (k : ℕ) (e : Option ℕ) → found ≡ None → (handle_in None ≡ aside_field found e) × (rs ≡ aside_slots rs k found)
unfolding handle_in
aside_none rs k e h = rw h (refl, refl)

pub aside_there : {found : Optional ℕ} {n : ℕ} (rs : List ℕ) (k : ℕ) (e : Option ℕ) → found ≡ Some n → (e ≡ aside_field found e) × (set rs k n ≡ aside_slots rs k found)
aside_there rs k e h = rw h (refl, refl)
