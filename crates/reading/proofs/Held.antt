-- What a statement holds is what its fields name: kind by kind.
use mathlib.Core.Path.{◌≡◌, refl, ap, ◌∙◌}
use mathlib.Core.List.{List, map}
use Prim.Native.Nat.{ℕ, zero, suc, ◌+◌, ◌*◌, ◌<◌, ◌≤◌}
use native.Mathlib.Omega.{arith}
use lib.ListN.{get_or}
use Rattle.module.specs.Module.{BlockHandle, SwitchCase, Break}
use Rattle.module.specs.Decode.{tab, case_of, statement_of, st_of}
use Rattle.module.specs.Blocks.{held}
use Rattle.module.proofs.Each.{each}
use Rattle.module.proofs.Tab.{map-tab, tab-same, get_d_tab}
use Rattle.reading.specs.declared.blocks.Holding.{Holding}
use Rattle.reading.specs.Holding.{holding_of, field_of, fields_of, held_at}
use Rattle.module.specs.declared.tables.Row.{Row}
use Rattle.module.specs.Tables.{open_of}

-- the blocks that the fields name
abbrev pub named : List ℕ → Holding → List BlockHandle
named fs h = tab h.count (λ i. get_or fs (field_of h i) 0)

switch : (fs : List ℕ) (n : ℕ) → map (λ (k : SwitchCase). k.body) (tab n (case_of (λ j. get_or fs (1 + j) 0))) ≡ tab n (λ i. get_or fs (4 + 2 * i) 0)
unfolding case_of
switch fs n =
    map-tab (λ (k : SwitchCase). k.body) n (case_of (λ j. get_or fs (1 + j) 0))
    ∙ tab-same n (λ i. get_or fs (1 + (3 + 2 * i)) 0) (λ i. get_or fs (4 + 2 * i) 0) (λ i l. ap (λ (k : ℕ). get_or fs k 0) (omega arith))

by-kind : (fs : List ℕ) (kind : ℕ) → held (statement_of kind (λ j. get_or fs (1 + j) 0)) ≡ named fs (holding_of kind (get_or fs 2 0))
unfolding statement_of held holding_of tab
by-kind fs =
    each (λ k. held (statement_of k (λ j. get_or fs (1 + j) 0)) ≡ named fs (holding_of k (get_or fs 2 0))) 21
    (refl, (refl, (refl, (switch fs (get_or fs 2 0), (refl, (refl, (refl, (refl, (refl, (refl, (refl, (refl, (refl, (refl, (refl, (refl, (refl, (refl, (refl, (refl, (refl, tt)))))))))))))))))))))
    (λ k. refl)

pub held_is : (fs : List ℕ) → held (st_of fs) ≡ named fs (holding_of (get_or fs 0 0) (get_or fs 2 0))
unfolding st_of
held_is fs = by-kind fs (get_or fs 0 0)

-- the steps are small
stride-small : (kind cases i : ℕ) → (holding_of kind cases).stride * i ≤ 2 * i
unfolding holding_of
stride-small zero cases i = omega arith
stride-small (suc zero) cases i = omega arith
stride-small (suc (suc zero)) cases i = omega arith
stride-small (suc (suc (suc zero))) cases i = omega arith
stride-small (suc (suc (suc (suc zero)))) cases i = omega arith
stride-small (suc (suc (suc (suc (suc kind))))) cases i = omega arith

first_small : (kind cases : ℕ) → (holding_of kind cases).first ≤ 4
unfolding holding_of
first_small zero cases = omega arith
first_small (suc zero) cases = omega arith
first_small (suc (suc zero)) cases = omega arith
first_small (suc (suc (suc zero))) cases = omega arith
first_small (suc (suc (suc (suc zero)))) cases = omega arith
first_small (suc (suc (suc (suc (suc kind))))) cases = omega arith

pub held-at : (bytes t : List ℕ) (row : Row) (s kind cases : ℕ) (h : Holding) → s < row.statements → h ≡ holding_of kind cases → kind ≡ get_or (fields_of bytes t row s) 0 0 → cases ≡ get_or (fields_of bytes t row s) 2 0 → held_at bytes t row s ≡ named (fields_of bytes t row s) h
unfolding open_of
held-at bytes t row s kind cases h l e k n = rw (e, k, n, get_d_tab row.statements (λ i. st_of (fields_of bytes t row i)) s Break l) (held_is (fields_of bytes t row s))

pub fits_mul : (h : Holding) (kind cases i : ℕ) → h ≡ holding_of kind cases → i < 65536 → h.stride * i < 4294967296
fits_mul h kind cases i e l = rw e (omega (arith, stride-small kind cases i))

pub fits_add : (h : Holding) (kind cases i : ℕ) → h ≡ holding_of kind cases → i < 65536 → h.first + h.stride * i < 4294967296
fits_add h kind cases i e l = rw e (omega (arith, stride-small kind cases i, first_small kind cases))
