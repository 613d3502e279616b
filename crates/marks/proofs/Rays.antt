-- The first RayQuery: a statement's blocks are looked through from the last number to the first, a block's statements in order, and each block that a
-- statement holds is lower than its holder.
use mathlib.Core.Path.{◌≡◌, refl, sym, ap, ◌∙◌, subst}
use mathlib.Core.Logic.{◌⊎◌, inl, inr}
use mathlib.Core.List.{List, [], ◌∷◌, ◌++◌, map}
use mathlib.Core.Option.{Option, some, none as nothing}
use Prim.Native.Nat.{ℕ, zero, suc, pred, ◌+◌, ◌-◌, ◌*◌, ◌<◌, ◌≤◌}
use native.Mathlib.Decide.{ℕ_discrete}
use native.Mathlib.Omega.{arith}
use lib.ListN.{length, get_or}
use Rattle.field.specs.Limits.{max_statements}
use Rattle.module.specs.Module.{BlockRange, SwitchCase, Statement, Break, Kill, Function, Module}
use Rattle.module.specs.Knot.{below}
use Rattle.module.specs.KindNumbers.{statement_code}
use Rattle.module.specs.declared.kinds.StatementKind.{StatementKind}
use Rattle.module.specs.declared.kinds.StatementKind.TheVariants.{If, Loop}
use Rattle.module.specs.Decode.{tab, case_of, statement_of}
use Rattle.module.specs.Blocks.{held}
use Rattle.module.specs.Tables.{function_of, module_of}
use Rattle.module.proofs.Knot.{knot-is, below-lt}
use Rattle.module.proofs.Tab.{length-tab, get_d_tab, map-tab}
use Rattle.access.specs.declared.kinded.Kinded.{Kinded}
use Rattle.access.specs.Access.{operand_at, statement_row, range_at}
use Rattle.access.proofs.Access.{function_is, statement-at, range_is}
use Rattle.valid.specs.Valid.{EachBelow, FunctionValid, entries_below}
use Rattle.valid.proofs.Accepted.{valid}
use Rattle.valid.proofs.Uses.{held_below, has_body}
use Rattle.walk.specs.Resolve.{function_at}
use Rattle.walk.specs.Marks.{statement_at, block_at, body_of, or_else, ray_of_cases, ray_of, ray_from, first_ray}
use Rattle.access.specs.Laid.{WasRead}
use Rattle.marks.specs.Ray.{held_count, held_number, ray_in, BlockOf, StatementIn}
use Rattle.std.specs.Prelude as std
use Rattle.std.specs.Prelude.{Some, None}
use Rattle.marks.proofs.Counts.{by-kind}
use Rattle.marks.proofs.Placed.{at_function}

or_end : (x : Option ℕ) → or_else x nothing ≡ x
or_end nothing = refl
or_end (some s) = refl

or_assoc : (x y z : Option ℕ) → or_else (or_else x y) z ≡ or_else x (or_else y z)
or_assoc nothing y z = refl
or_assoc (some s) y z = refl

-- the first in the blocks g (n - 1) to g 0
unfoldable pub ray_down : (ℕ → Option ℕ) → (ℕ → ℕ) → ℕ → Option ℕ
ray_down w g zero = nothing
ray_down w g (suc n) = or_else (w (g n)) (ray_down w g n)

-- the cases of a switch
cases_last : (w : ℕ → Option ℕ) (xs : List SwitchCase) (c : SwitchCase) → ray_of_cases w (xs ++ (c ∷ [])) ≡ or_else (w c.body) (ray_of_cases w xs)
unfolding ray_of_cases
cases_last w [] c = sym (or_end (w c.body))
cases_last w (x ∷ xs) c =
    ap (λ (r : Option ℕ). or_else r (w x.body)) (cases_last w xs c) ∙ or_assoc (w c.body) (ray_of_cases w xs) (w x.body)

cases_down : (w : ℕ → Option ℕ) (o : ℕ → ℕ) (n : ℕ) → ray_of_cases w (tab n (case_of o)) ≡ ray_down w (λ j. o (3 + 2 * j)) n
unfolding tab ray_down ray_of_cases case_of
cases_down w o zero = refl
cases_down w o (suc n) =
    cases_last w (tab n (case_of o)) (case_of o n) ∙ ap (λ (r : Option ℕ). or_else (w (o (3 + 2 * n))) r) (cases_down w o n)

-- a statement by its kind: one that holds blocks, or none
pub held_ray : (k : ℕ) (w : ℕ → Option ℕ) (s : ℕ) (o : ℕ → ℕ) → (16 ≤ k → 20 < k) → ray_down w (held_number k o) (held_count k o) ≡ ray_of w s (statement_of k o)
unfolding statement_of ray_of ray_down held_number held_count
held_ray k w s o =
    by-kind 21 (λ k. (16 ≤ k → 20 < k) → ray_down w (held_number k o) (held_count k o) ≡ ray_of w s (statement_of k o))
    (λ h. refl, (λ h. or_end (w (o 0)), (λ h. ap (or_else (w (o 1))) (or_end (w (o 2))), (λ h. sym (cases_down w o (o 1)), (λ h. ap (or_else (w (o 0))) (or_end (w (o 1))), (λ h. refl, (λ h. refl, (λ h. refl, (λ h. refl, (λ h. refl, (λ h. refl, (λ h. refl, (λ h. refl, (λ h. refl, (λ h. refl, (λ h. refl, (λ h. absurd (omega (arith, h (omega arith))), (λ h. absurd (omega (arith, h (omega arith))), (λ h. absurd (omega (arith, h (omega arith))), (λ h. absurd (omega (arith, h (omega arith))), (λ h. absurd (omega (arith, h (omega arith))), λ k h. refl)))))))))))))))))))))
    k

-- or one that is joined as a RayQuery
module _ (w : ℕ → Option ℕ) (s : ℕ) (o : ℕ → ℕ) where
  pub ray_kind : (k : ℕ) → 16 ≤ k → k ≤ 20 → some s ≡ ray_of w s (statement_of k o)
  unfolding statement_of ray_of
  ray_kind =
      by-kind 21 (λ k. 16 ≤ k → k ≤ 20 → some s ≡ ray_of w s (statement_of k o))
      (λ l h. absurd (omega arith), (λ l h. absurd (omega arith), (λ l h. absurd (omega arith), (λ l h. absurd (omega arith), (λ l h. absurd (omega arith), (λ l h. absurd (omega arith), (λ l h. absurd (omega arith), (λ l h. absurd (omega arith), (λ l h. absurd (omega arith), (λ l h. absurd (omega arith), (λ l h. absurd (omega arith), (λ l h. absurd (omega arith), (λ l h. absurd (omega arith), (λ l h. absurd (omega arith), (λ l h. absurd (omega arith), (λ l h. absurd (omega arith), (λ l h. refl, (λ l h. refl, (λ l h. refl, (λ l h. refl, (λ l h. refl, λ k l h. absurd (omega arith))))))))))))))))))))))

-- the blocks that a statement holds are below b
two : (P : ℕ → Type 0) → P 0 → P 1 → (j : ℕ) → j < 2 → P j
two P a b zero h = a
two P a b (suc zero) h = b
two P a b (suc (suc j)) h = absurd (omega arith)

case_below : (b : ℕ) (o : ℕ → ℕ) (n j : ℕ) → EachBelow b (map (λ c. c.body) (tab n (case_of o))) → j < n → o (3 + 2 * j) < b
unfolding case_of
case_below b o n j h l =
    let bodies : map (λ c. c.body) (tab n (case_of o)) ≡ tab n (λ i. o (3 + 2 * i)) = map-tab (λ (c : SwitchCase). c.body) n (case_of o) in
    let long : length (map (λ c. c.body) (tab n (case_of o))) ≡ n = ap length bodies ∙ length-tab n (λ i. o (3 + 2 * i)) in
    let at : get_or (map (λ c. c.body) (tab n (case_of o))) j 0 ≡ o (3 + 2 * j) = ap (λ (xs : List ℕ). get_or xs j 0) bodies ∙ get_d_tab n (λ i. o (3 + 2 * i)) j 0 l in
    omega (arith, h j (omega arith))

pub held-lower : (k b : ℕ) (o : ℕ → ℕ) → EachBelow b (held (statement_of k o)) → (j : ℕ) → j < held_count k o → held_number k o j < b
unfolding statement_of held held_number held_count
held-lower k b o =
    by-kind 5 (λ k. EachBelow b (held (statement_of k o)) → (j : ℕ) → j < held_count k o → held_number k o j < b)
    (λ h j l. absurd (omega arith), (λ h j l. h 0 (omega arith), (λ h. two (λ j. o (2 - j) < b) (h 1 (omega arith)) (h 0 (omega arith)), (λ h j l. case_below b o (o 1) j h l, (λ h. two (λ j. o (1 - j) < b) (h 1 (omega arith)) (h 0 (omega arith)), λ k h j l. absurd (omega arith))))))
    k

-- the kinds that hold no blocks, and the last that does
pub count_none : (k : ℕ) (o : ℕ → ℕ) → (k ≡ 1 → ⊥) → (k ≡ 2 → ⊥) → (k ≡ 3 → ⊥) → (k ≡ 4 → ⊥) → 0 ≡ held_count k o
unfolding held_count
count_none k o =
    by-kind 5 (λ k. (k ≡ 1 → ⊥) → (k ≡ 2 → ⊥) → (k ≡ 3 → ⊥) → (k ≡ 4 → ⊥) → 0 ≡ held_count k o)
    (λ a b c d. refl, (λ a b c d. absurd (a refl), (λ a b c d. absurd (b refl), (λ a b c d. absurd (c refl), (λ a b c d. absurd (d refl), λ k a b c d. refl)))))
    k

pub count_two : {k : StatementKind} (o : ℕ → ℕ) → (k ≡ If) ⊎ (k ≡ Loop) → 2 ≡ held_count (statement_code k) o
unfolding held_count
count_two o (inl e) = rw e
count_two o (inr e) = rw e

pub count_last : (k : ℕ) (o : ℕ → ℕ) (j : ℕ) → (k ≡ 1 → ⊥) → (k ≡ 2 → ⊥) → (k ≡ 3 → ⊥) → j < held_count k o → (k ≡ 4) × (j < 2)
count_last k o j a b c h =
    elim (ℕ_discrete k 4) [
      | yes e ↦ (e, unfold held_count in rw e at h)
      | no d ↦ absurd (omega (arith, count_none k o a b c d))
    ]

-- what a call has found
pub found_is : {r : std.Option ℕ} {i : ℕ} {x : Option ℕ} → r ≡ Some i → ray_in r ≡ x → some i ≡ x
found_is e h = rw e at h

pub nothing_is : {r : std.Option ℕ} {x : Option ℕ} → r ≡ None → ray_in r ≡ x → nothing ≡ x
nothing_is e h = rw e at h

-- a turn over the blocks of a statement
module _ (w : ℕ → Option ℕ) (g : ℕ → ℕ) (n j : ℕ) (total : Option ℕ) (e : n ≡ suc j) (rest : ray_down w g n ≡ total) where
  whole : or_else (w (g j)) (ray_down w g j) ≡ total
  unfolding ray_down
  whole = rw e at rest

  pub down_found : (i : ℕ) → some i ≡ w (g j) → some i ≡ total
  down_found i h = rw (← h) at whole

  pub down_next : nothing ≡ w (g j) → ray_down w g j ≡ total
  down_next h = rw (← h) at whole

down_same : (w v : ℕ → Option ℕ) (g : ℕ → ℕ) (n : ℕ) → ((j : ℕ) → j < n → w (g j) ≡ v (g j)) → ray_down w g n ≡ ray_down v g n
unfolding ray_down
down_same w v g zero h = refl
down_same w v g (suc n) h = rw (h n (omega arith), down_same w v g n (λ j l. h j (omega arith)))

pub down_end : (w : ℕ → Option ℕ) (g : ℕ → ℕ) (n : ℕ) (total : Option ℕ) → n ≡ 0 → ray_down w g n ≡ total → nothing ≡ total
unfolding ray_down
down_end w g n total e h = rw e at h

-- a turn over the statements of a block
module _ (m : Module) (f : ℕ) (w : ℕ → Option ℕ) (first k count : ℕ) (total : Option ℕ) (h : k < count) (rest : ray_from m f w (first + k) (count - k) ≡ total) where
  among : or_else (ray_of w (first + k) (statement_at m f (first + k))) (ray_from m f w (first + (k + 1)) (count - (k + 1))) ≡ total
  unfolding ray_from
  among =
      let z : count - k ≡ suc (count - (k + 1)) = omega arith in
      let y : first + (k + 1) ≡ suc (first + k) = omega arith in
      rw y (rw z at rest)

  pub from_found : (i : ℕ) → some i ≡ ray_of w (first + k) (statement_at m f (first + k)) → some i ≡ total
  from_found i e = rw (← e) at among

  pub from_next : nothing ≡ ray_of w (first + k) (statement_at m f (first + k)) → ray_from m f w (first + (k + 1)) (count - (k + 1)) ≡ total
  from_next e = rw (← e) at among

pub from_end : (m : Module) (f : ℕ) (w : ℕ → Option ℕ) (first k count : ℕ) (total : Option ℕ) → k ≡ count → ray_from m f w (first + k) (count - k) ≡ total → nothing ≡ total
unfolding ray_from
from_end m f w first k count total e h = let z : count - k ≡ 0 = omega arith in rw z at h

-- what reading guarantees of the function
module _ (bytes t : List ℕ) (f : ℕ) (was : WasRead bytes t) (hf : f < length (module_of bytes t).functions) where
  fine : FunctionValid (length (module_of bytes t).types) (length (module_of bytes t).globals) (entries_below f (module_of bytes t).functions) (function_of bytes t f)
  fine =
      subst (FunctionValid _ _ _) (function_is bytes t f (function_of bytes t f) hf)
      ((valid bytes (module_of bytes t) was.module_is).functions f (function_of bytes t f) hf)

  pub body_is : (b : ℕ) → b ≡ pred (length (function_of bytes t f).blocks) → BlockOf bytes t f b
  body_is b e =
      let h = has_body (function_of bytes t f) fine.blocks in
      record { was = was; function = hf; block = omega arith }

  pub body_at : (b : ℕ) → b ≡ pred (length (function_of bytes t f).blocks) → first_ray (module_of bytes t) f b ≡ first_ray (module_of bytes t) f (body_of (module_of bytes t) f)
  unfolding body_of
  body_at b e = ap (first_ray (module_of bytes t) f) (e ∙ ap (λ (x : Function). pred (length x.blocks)) (sym (at_function bytes t was f hf)))

-- the block b of f
module _ (bytes t : List ℕ) (f b : ℕ) (p : BlockOf bytes t f b) where
  abbrev m : Module
  m = module_of bytes t

  range : range_at t f b ≡ block_at m f b
  unfolding block_at
  range = sym (rw (at_function bytes t p.was f p.function) (range_is bytes t f b _ p.block))

  pub ray_begins : (first count : ℕ) → ◌≡◌ {A = BlockRange} (record { first = first; count = count }) (range_at t f b) → ray_from m f (below (first_ray m f) nothing b) (first + 0) (count - 0) ≡ first_ray m f b
  ray_begins first count e =
      let whole : first_ray m f b ≡ ray_from m f (below (first_ray m f) nothing b) (block_at m f b).first (block_at m f b).count = unfold first_ray in knot-is _ nothing b in
      let same = e ∙ range in
      let x : first + 0 ≡ (block_at m f b).first = omega (arith, ap (λ (r : BlockRange). r.first) same) in
      let y : count - 0 ≡ (block_at m f b).count = omega (arith, ap (λ (r : BlockRange). r.count) same) in
      rw (x, y) (sym whole)

  pub statement_in : (first count k : ℕ) → ◌≡◌ {A = BlockRange} (record { first = first; count = count }) (range_at t f b) → k < count → StatementIn bytes t f b (first + k)
  statement_in first count k e h =
      let same = e ∙ range in
      let x : first ≡ (block_at m f b).first = ap (λ (r : BlockRange). r.first) same in
      let y : count ≡ (block_at m f b).count = ap (λ (r : BlockRange). r.count) same in
      record { of_block = p; low = omega arith; high = omega arith }

-- the statement s in it, by its row
module _ (bytes t : List ℕ) (f b s : ℕ) (p : StatementIn bytes t f b s) (r : Kinded) (is : r ≡ statement_row bytes t f s) where
  abbrev o : ℕ → ℕ
  o = operand_at bytes r

  of : BlockOf bytes t f b
  of = p.of_block

  in_function : s < length (function_of bytes t f).statements
  in_function =
      let a = (fine bytes t f of.was of.function).ranges b (range_at t f b) of.block in
      let c = range_is bytes t f b (range_at t f b) of.block ∙ range bytes t f b of in
      let x = ap (λ (r : BlockRange). r.first) c in
      let y = ap (λ (r : BlockRange). r.count) c in
      let l = p.low in
      let h = p.high in
      omega arith

  pub decoded : statement_at (module_of bytes t) f s ≡ statement_of r.kind (operand_at bytes r)
  unfolding statement_at function_at
  decoded = statement-at bytes t f s r.kind r _ Kill of.function in_function is refl

  each_lower : EachBelow b (held (statement_of r.kind (operand_at bytes r)))
  each_lower =
      let c = range_is bytes t f b (range_at t f b) of.block ∙ range bytes t f b of in
      let x = ap (λ (r : BlockRange). r.first) c in
      let y = ap (λ (r : BlockRange). r.count) c in
      let l = p.low in
      let h = p.high in
      let i = s - (block_at (module_of bytes t) f b).first in
      let z : (get_or (function_of bytes t f).blocks b (range_at t f b)).first + (s - (block_at (module_of bytes t) f b).first) ≡ s = omega arith in
      let lower = held_below (function_of bytes t f) (fine bytes t f of.was of.function).blocks b (s - (block_at (module_of bytes t) f b).first) (range_at t f b) of.block (omega arith) in
      let same : get_or (function_of bytes t f).statements s Break ≡ statement_of r.kind (operand_at bytes r) =
      ap (λ (x : Function). get_or x.statements s Break) (sym (function_is bytes t f (function_of bytes t f) of.function))
      ∙ statement-at bytes t f s r.kind r (function_of bytes t f) Break of.function in_function is refl in
      subst (λ (x : Statement). EachBelow b (held x)) same (rw z at lower)

  pub statement_small : s < max_statements
  statement_small =
      let a = (fine bytes t f of.was of.function).parts.few_statements in
      let b = in_function in
      omega arith

  pub held_block : (j : ℕ) → j < held_count r.kind (operand_at bytes r) → (held_number r.kind (operand_at bytes r) j < b) × BlockOf bytes t f (held_number r.kind (operand_at bytes r) j)
  held_block j h =
      let l = held-lower r.kind b (operand_at bytes r) each_lower j h in
      let k = of.block in
      (l, record { was = of.was; function = of.function; block = omega arith })

  -- what the blocks that the statement holds give
  pub statement_ray : (16 ≤ r.kind → 20 < r.kind) → ray_down (first_ray (module_of bytes t) f) (held_number r.kind (operand_at bytes r)) (held_count r.kind (operand_at bytes r)) ≡ ray_of (below (first_ray (module_of bytes t) f) nothing b) s (statement_at (module_of bytes t) f s)
  statement_ray h =
      down_same (first_ray (module_of bytes t) f) (below (first_ray (module_of bytes t) f) nothing b) (held_number r.kind (operand_at bytes r)) (held_count r.kind (operand_at bytes r))
      (λ j l. sym (below-lt (first_ray (module_of bytes t) f) nothing b (held_number r.kind (operand_at bytes r) j) (held_block j l).0))
      ∙ held_ray r.kind (below (first_ray (module_of bytes t) f) nothing b) s (operand_at bytes r) h
      ∙ ap (ray_of (below (first_ray (module_of bytes t) f) nothing b) s) (sym decoded)
