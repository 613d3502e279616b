-- A record has at least its header, four bytes: so a module that was read has at most a quarter as many records as its file has bytes. By the rule of reading
-- (`valid`, proofs/Records).
use mathlib.Core.Path.{◌≡◌}
use mathlib.Core.Bool.{Bool, true, false}
use mathlib.Core.List.{List, [], ◌∷◌}
use Prim.Native.Nat.{ℕ, suc, ◌+◌, ◌*◌, ◌≤◌}
use native.Mathlib.Omega.{arith}
use lib.ListN.{length, length-append}
use Rattle.field.specs.Limits.{max_bytes}
use Rattle.module.specs.Module.{Module}
use Rattle.module.specs.declared.record.Mark.{Mark}
use Rattle.module.specs.declared.record.Mark.TheVariants.{TY, GV, FN, AR, LV, EX, BK, ST}
use Rattle.module.specs.Reading.{Open, Reading, opened, grown, added, closed}
use Rattle.module.specs.File.{accepted, start, read_module}
use Rattle.module.proofs.Tab.{length-tab}
use Rattle.sound.specs.Sizes.{records_of, total}
use Rattle.sound.proofs.Totals.{total-append}
use Rattle.valid.proofs.Records.{opens, with_last, Before, Keeps, kept}

-- the records of an open function
abbrev open_records : Open → ℕ
open_records f = length f.arguments + length f.locals + length f.expressions + length f.statements + length f.starts

closed-records : (f : Open) → records_of (closed f) ≡ open_records f
unfolding closed
closed-records f = rw length-tab

last_records : (b : Bool) (r : Reading) → total records_of (with_last b r).functions ≤ total records_of r.functions + open_records r.open_one
unfolding total
last_records true r =
    let all = total-append records_of r.functions (closed r.open_one ∷ []) in
    let one = closed-records r.open_one in
    omega arith
last_records false r = omega arith

-- one record more
grown-records : (mark : Mark) (fs : List ℕ) (f : Open) → open_records (grown mark fs f) ≤ suc (open_records f)
unfolding grown opened
grown-records TY fs f = omega arith
grown-records GV fs f = omega arith
grown-records FN fs f = omega arith
grown-records AR fs f = rw length-append (omega arith)
grown-records LV fs f = rw length-append (omega arith)
grown-records EX fs f = rw length-append (omega arith)
grown-records BK fs f = rw length-append (omega arith)
grown-records ST fs f = rw length-append (omega arith)

abbrev Within : ℕ → Reading → Type 0
Within at r = 4 * (total records_of r.functions + open_records r.open_one) ≤ at

abbrev EndedWithin : ℕ → Reading → Type 0
EndedWithin at r = 4 * total records_of r.functions ≤ at

start_within : Within 0 start
unfolding start opened total
start_within = omega arith

added-within : (at next : ℕ) (mark : Mark) (fs : List ℕ) (r : Reading) → at + 4 ≤ next → Before (Within at) (EndedWithin at) mark r → Within next (added mark fs r)
unfolding added grown opened
added-within at next TY fs r l h = omega arith
added-within at next GV fs r l h = omega arith
added-within at next FN fs r l h = omega arith
added-within at next AR fs r l h = omega (arith, grown-records AR fs r.open_one)
added-within at next LV fs r l h = omega (arith, grown-records LV fs r.open_one)
added-within at next EX fs r l h = omega (arith, grown-records EX fs r.open_one)
added-within at next BK fs r l h = omega (arith, grown-records BK fs r.open_one)
added-within at next ST fs r l h = omega (arith, grown-records ST fs r.open_one)

sizes : Keeps
sizes =
    record {
      While = Within;
      Ended = EndedWithin;
      begins = start_within;
      ends = λ at r h e. omega (arith, last_records (opens r) r, h);
      adds = λ at next mark fs r l h t. added-within at next mark fs r l h;
    }

-- The records of a module that was read.
pub few_records : (bytes : List ℕ) (m : Module) → read_module bytes ≡ accepted m → 4 * total records_of m.functions ≤ max_bytes
unfolding sizes
few_records bytes m e = kept bytes sizes (λ x. 4 * total records_of x.functions ≤ max_bytes) (λ at r h l few. omega arith) m e
