-- What reading answers is determined by the bytes: there is one number, and where it is 0 one module.
use mathlib.Core.Path.{◌≡◌, refl}
use mathlib.Core.List.{List}
use Prim.Native.Nat.{ℕ, zero, suc}
use native.Mathlib.Omega.{arith}
use Rattle.module.specs.Tables.{module_of}
use Rattle.reading.specs.Reads.{Reads}

pub one_number : (bytes t u : List ℕ) (n m : ℕ) → Reads bytes t n → Reads bytes u m → n ≡ m
one_number bytes t u zero zero a b = refl
one_number bytes t u zero (suc m) a b =
    let p = (a.accepts refl).0 in
    let q = b.refuses (omega arith) in
    let z : ◌≡◌ {A = ℕ} 0 1 = cc in
    absurd (omega arith)
one_number bytes t u (suc n) zero a b =
    let p = (b.accepts refl).0 in
    let q = a.refuses (omega arith) in
    let z : ◌≡◌ {A = ℕ} 0 1 = cc in
    absurd (omega arith)
one_number bytes t u (suc n) (suc m) a b =
    let p = a.refuses (omega arith) in
    let q = b.refuses (omega arith) in
    cc

pub one_module : (bytes t u : List ℕ) → Reads bytes t 0 → Reads bytes u 0 → module_of bytes t ≡ module_of bytes u
one_module bytes t u a b =
    let p = (a.accepts refl).0 in
    let q = (b.accepts refl).0 in
    cc
