-- The blocks and statements of a function that was read: a statement of a block is one of the function, and holds lower blocks.
use Prim.Native.Nat.{ℕ, ◌+◌, ◌-◌, ◌*◌, ◌<◌}
use native.Mathlib.Omega.{arith}
use mathlib.Core.Path.{◌≡◌, ap, subst, ◌∙◌}
use mathlib.Core.List.{List, map}
use lib.ListN.{length, get_or}
use Rattle.field.specs.Limits.{max_statements}
use Rattle.module.specs.Module.{BlockRange, SwitchCase, Statement, Function, Break, Kill}
use Rattle.module.specs.Blocks.{held}
use Rattle.module.specs.Decode.{tab, case_of, statement_of}
use Rattle.module.specs.Tables.{function_of}
use Rattle.module.proofs.Tab.{length-tab, get_d_tab, map-tab}
use Rattle.access.specs.declared.kinded.Kinded.{Kinded}
use Rattle.access.specs.Access.{operand_at, statement_row, range_at}
use Rattle.access.proofs.Access.{statement_is, statement-of, range_is}
use Rattle.valid.specs.Valid.{EachBelow}
use Rattle.valid.specs.There.{There}
use Rattle.valid.proofs.Uses.{held_below, has_body}
use Rattle.judge.proofs.PathSteps.{function_valid}
use Rattle.strays.specs.Places.{BlockOf, StatementIn, CasesIn}

-- the body
pub body_there : {bytes t : List ℕ} {f b : ℕ} → There bytes t f → b ≡ length (function_of bytes t f).blocks - 1 → BlockOf bytes t f b
body_there {bytes} {t} {f} T h =
    let l = has_body (function_of bytes t f) (function_valid bytes t f T.read T.there).blocks in
    record { of = T; block = omega arith }

module _ {bytes t : List ℕ} {f b : ℕ} (p : BlockOf bytes t f b) where
  pub statement_in : (r : BlockRange) (k : ℕ) → r ≡ range_at t f b → k < r.count → StatementIn bytes t f b (r.first + k)
  statement_in r k e l =
      let x : r.first ≡ (range_at t f b).first = ap (λ (y : BlockRange). y.first) e in
      let y : r.count ≡ (range_at t f b).count = ap (λ (y : BlockRange). y.count) e in
      record { of_block = p; low = omega arith; high = omega arith }

module _ {bytes t : List ℕ} {f b s : ℕ} (p : StatementIn bytes t f b s) where
  abbrev F : Function
  F = function_of bytes t f

  range : get_or F.blocks b (range_at t f b) ≡ range_at t f b
  range = range_is bytes t f b (range_at t f b) p.of_block.block

  pub in_function : s < length F.statements
  in_function =
      let a = (function_valid bytes t f p.of_block.of.read p.of_block.of.there).ranges b (range_at t f b) p.of_block.block in
      let x = ap (λ (r : BlockRange). r.first) range in
      let y = ap (λ (r : BlockRange). r.count) range in
      let l = p.low in
      let h = p.high in
      omega arith

  pub statement_small : s < max_statements
  statement_small =
      omega (arith, (function_valid bytes t f p.of_block.of.read p.of_block.of.there).parts.few_statements, in_function)

  module _ {row : Kinded} (is : row ≡ statement_row bytes t f s) where
    abbrev o : ℕ → ℕ
    o = operand_at bytes row

    pub decoded : (k : ℕ) → row.kind ≡ k → get_or F.statements s Kill ≡ statement_of k o
    decoded k h = statement_is bytes t f s Kill in_function ∙ statement-of bytes t f s k row is h

    each_lower : (k : ℕ) → row.kind ≡ k → EachBelow b (held (statement_of k o))
    each_lower k h =
        let x = ap (λ (r : BlockRange). r.first) range in
        let y = ap (λ (r : BlockRange). r.count) range in
        let l = p.low in
        let u = p.high in
        let z : (get_or F.blocks b (range_at t f b)).first + (s - (range_at t f b).first) ≡ s = omega arith in
        let lower = held_below F (function_valid bytes t f p.of_block.of.read p.of_block.of.there).blocks b (s - (range_at t f b).first) (range_at t f b) p.of_block.block (omega arith) in
        let same : get_or F.statements s Break ≡ statement_of k o = statement_is bytes t f s Break in_function ∙ statement-of bytes t f s k row is h in
        subst (λ (x : Statement). EachBelow b (held x)) same (rw z at lower)

    -- a lower block
    pub there : {x : ℕ} (j : ℕ) → x ≡ o j → o j < b → (x < b) × BlockOf bytes t f x
    there j at l =
        let k = p.of_block.block in
        (omega arith, record { of = p.of_block.of; block = omega arith })

    pub block_low : row.kind ≡ 1 → o 0 < b
    unfolding statement_of held
    block_low h = each_lower 1 h 0 (omega arith)

    pub accept_low : row.kind ≡ 2 → o 1 < b
    unfolding statement_of held
    accept_low h = each_lower 2 h 0 (omega arith)

    pub reject_low : row.kind ≡ 2 → o 2 < b
    unfolding statement_of held
    reject_low h = each_lower 2 h 1 (omega arith)

    pub body_low : row.kind ≡ 4 → o 0 < b
    unfolding statement_of held
    body_low h = each_lower 4 h 0 (omega arith)

    pub continuing_low : row.kind ≡ 4 → o 1 < b
    unfolding statement_of held
    continuing_low h = each_lower 4 h 1 (omega arith)

    case_low : row.kind ≡ 3 → (i : ℕ) → i < o 1 → o (3 + 2 * i) < b
    unfolding statement_of held case_of
    case_low h i l =
        let bodies : map (λ c. c.body) (tab (o 1) (case_of o)) ≡ tab (o 1) (λ i. o (3 + 2 * i)) = map-tab (λ (c : SwitchCase). c.body) (o 1) (case_of o) in
        let long : length (map (λ c. c.body) (tab (o 1) (case_of o))) ≡ o 1 = ap length bodies ∙ length-tab (o 1) (λ i. o (3 + 2 * i)) in
        let at : get_or (map (λ c. c.body) (tab (o 1) (case_of o))) i 0 ≡ o (3 + 2 * i) = ap (λ (xs : List ℕ). get_or xs i 0) bodies ∙ get_d_tab (o 1) (λ i. o (3 + 2 * i)) i 0 l in
        omega (arith, each_lower 3 h i (omega arith))

    pub cases_in : row.kind ≡ 3 → CasesIn bytes t f b row
    cases_in h = record { of_block = p.of_block; each = case_low h }

-- a case's block
pub case_there : {bytes t : List ℕ} {f b : ℕ} {row : Kinded} → CasesIn bytes t f b row → {x : ℕ} (i : ℕ) → i < operand_at bytes row 1 → x ≡ operand_at bytes row (3 + 2 * i) → (x < b) × BlockOf bytes t f x
case_there p i l e =
    let k = p.of_block.block in
    let h = p.each i l in
    (omega arith, record { of = p.of_block.of; block = omega arith })
