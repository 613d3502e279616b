-- A total with its flag, read as the definition reads it: none after 0, one after 1, and nothing else.
use Prim.Native.Nat.{ℕ, ◌+◌, ◌≤◌, ◌<◌}
use native.Mathlib.Omega.{arith}
use mathlib.Core.Path.{◌≡◌, refl, sym, ◌∙◌}
use mathlib.Core.Bool.{true, false}
use mathlib.Core.List.{List}
use mathlib.Core.Option.{some, none as nothing}
use borrow.Author.Tests.{eq-eqb, ne_eqb}
use lib.ListN.{length}
use Rattle.field.specs.Limits.{max_pieces}
use Rattle.part.specs.PartReq.{PartReq}
use Rattle.module.specs.Module.{FunctionHandle, Module}
use Rattle.module.specs.Tables.{row_at, module_of}
use Rattle.request.specs.Fields.{fields, Read, malformed, got, ◌>>=◌}
use Rattle.request.specs.Answers.{Field}
use Rattle.request.proofs.Bytes.{no_field, tail_then}
use Rattle.request.proofs.Entries.{kept_same}
use Rattle.walk.specs.State.{FunctionReq, function_pieces}
use Rattle.memory.specs.Memory.{read, Memory}
use Rattle.marks.specs.declared.totals.MarkTotals.{MarkTotals}
use Rattle.marks.specs.Report.{has_total}
use Rattle.marks.proofs.Sums.{total_there, total_missing}
use Rattle.block.specs.Standing.{total_of, total_in}
use Rattle.block.specs.Total.{total_count}
use Rattle.pruner.specs.Form.{read_kept, read_total}
use Rattle.pruner.specs.Reading.{Next, RoomBeside, TooMany, kept_pieces, KeptBy, KeptWasRead, TotalBy, TotalWasRead}
use Rattle.std.specs.Prelude.{Some, None}
use Rattle.std.specs.Borrow.{Bor}

-- what a total counts for
pub no_total : (m : Module) (t : List ℕ) (ps : List PartReq) (totals : MarkTotals) (f : FunctionHandle) → has_total totals f ≡ false → total_in m t ps totals f ≡ nothing
unfolding total_in total_of
no_total m t ps totals f e = rw (total_missing m totals f e) refl

pub flagged_count : (m : Module) (t : List ℕ) (ps : List PartReq) (totals : MarkTotals) (f : FunctionHandle) → has_total totals f ≡ true → function_pieces (total_in m t ps totals f) ≡ total_count t f ps
unfolding total_in total_of function_pieces
flagged_count m t ps totals f e = rw (total_there m totals f e) refl

pub missing_count : (m : Module) (t : List ℕ) (ps : List PartReq) (totals : MarkTotals) (f : FunctionHandle) → has_total totals f ≡ false → function_pieces (total_in m t ps totals f) ≡ 0
unfolding function_pieces
missing_count m t ps totals f e = rw (no_total m t ps totals f e) refl

many_some : (sum : ℕ) (x : Read FunctionReq) → TooMany kept_pieces sum x → TooMany function_pieces sum (x >>= λ total gs. got (some total) gs)
unfolding function_pieces
many_some sum malformed h = tt
many_some sum (got total gs) h = h

module _ (bytes t s rs : List ℕ) (totals : MarkTotals) (b : List ℕ) (f : FunctionHandle) (sum : ℕ) where
  abbrev m : Module
  m = module_of bytes t

  refuse : Memory s rs → read_total m f (fields b) ≡ malformed → TotalWasRead bytes t s rs totals b f sum s rs totals None
  refuse mem e = record { kept = kept_same mem.good; long = refl; by = rw e tt }

  pub total_ends : Memory s rs → length b < 2 → TotalWasRead bytes t s rs totals b f sum s rs totals None
  unfolding read_total
  total_ends mem h = refuse mem (rw (no_field b h) refl)

  module _ {x : ℕ} {c : List ℕ} (x-is : Field b x c) where
    pub total_other : Memory s rs → (x ≡ 0 → ⊥) → (x ≡ 1 → ⊥) → TotalWasRead bytes t s rs totals b f sum s rs totals None
    unfolding read_total
    total_other mem zero-not one-not = refuse mem (rw (x-is.is, ne_eqb x 0 zero-not, ne_eqb x 1 one-not) refl)

    none_read : x ≡ 0 → read_total m f (fields b) ≡ got nothing (fields c)
    unfolding read_total
    none_read e = rw (x-is.is, eq-eqb x 0 e) refl

    pub total_none : {d : Bor (List ℕ)} → d.now ≡ c → Memory s rs → has_total totals f ≡ false → sum ≤ max_pieces → x ≡ 0 → TotalWasRead bytes t s rs totals b f sum s rs totals (Some (d, sum))
    total_none same mem flag few e = record {
      kept = kept_same mem.good;
      long = refl;
      by = rw same (record {
        is = none_read e ∙ rw (no_total m t (read s rs) totals f flag) refl;
        sums = omega (arith, missing_count m t (read s rs) totals f flag);
        few = few;
        memory = mem;
        spent = record { further = omega (arith, x-is.left); cost = omega (arith, x-is.left); tail = x-is.tail };
        same = λ k no_record no_context. refl;
        unwalked = λ z. refl;
        others = λ g l ne. refl;
      });
    }

    one_read : x ≡ 1 → read_total m f (fields b) ≡ (read_kept m f (fields c) >>= λ total gs. got (some total) gs)
    unfolding read_total
    one_read e =
        let zero-not : x ≡ 0 → ⊥ = omega arith in
        rw (x-is.is, ne_eqb x 0 zero-not, eq-eqb x 1 e) refl

    pub kept_room : RoomBeside s b (1 + (row_at t f).expressions) → RoomBeside s c (1 + (row_at t f).expressions)
    kept_room room = omega (arith, x-is.left)

    by_kept : (u us : List ℕ) (after : MarkTotals) (r : Next) → x ≡ 1 → KeptBy bytes t s rs totals c f sum u us after r → TotalBy bytes t s rs totals b f sum u us after r
    by_kept u us after None e k = rw (one_read e) (many_some sum (read_kept m f (fields c)) k)
    by_kept u us after (Some (next, n)) e k = record {
      is = one_read e ∙ k.is;
      sums = omega (arith, k.sums, flagged_count m t (read u us) after f k.flagged);
      few = k.few;
      memory = k.memory;
      spent = record { further = omega (arith, k.spent.further, x-is.left); cost = omega (arith, k.spent.cost, x-is.left); tail = tail_then x-is.tail k.spent.tail };
      same = k.same;
      unwalked = λ z. let nope : true ≡ false = sym k.flagged ∙ z in let i : ◌≡◌ {A = ℕ} 0 1 = cc in absurd (omega arith);
      others = k.others;
    }

    pub total_kept : {u us : List ℕ} {after : MarkTotals} {r : Next} → x ≡ 1 → KeptWasRead bytes t s rs totals c f sum u us after r → TotalWasRead bytes t s rs totals b f sum u us after r
    total_kept {u} {us} {after} {r} e k = record { kept = k.kept; long = k.long; by = by_kept u us after r e k.by }
