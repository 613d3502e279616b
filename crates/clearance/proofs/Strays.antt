-- The strays are exactly the breaks, continues and returns that leave where they may not: the body, or a loop's continuing block. Both by
-- induction over the body; their numbers are numbers of the function's statements.
use Prim.Native.Nat.{ℕ, zero, suc, ◌<◌}
use native.Mathlib.Omega.{arith}
use native.Mathlib.Decide.{dec_lt}
use mathlib.Core.Path.{◌≡◌, refl, sym}
use mathlib.Core.Bool.{Bool, true, false}
use mathlib.Core.List.{List, [], ◌∷◌}
use mathlib.Core.Logic.{◌↔◌, ◌⊎◌, inl, inr}
use mathlib.Core.Option.{Option}
use lib.ListN.{length, get_or, get_or-eq_default}
use Rattle.part.proofs.Equations.{never}
use Rattle.module.specs.Module.{ExpressionHandle, BlockHandle, Statement, SwitchCase, Function}
use Rattle.module.specs.Module.{Emit, Block, If, Switch, Loop, Break, Continue, Return, Kill, ControlBarrier, MemoryBarrier, ImageAtomic, Store}
use Rattle.module.specs.Module.{AtomicStatement, Call, ImageStore, RayQuery, WorkGroupUniformLoad, SubgroupBallot, SubgroupGather, SubgroupCollectiveOperation}
use Rattle.module.proofs.Knot.{knot-all}
use Rattle.clearance.specs.Tree.{Act, Tree, nop, seq, act, branch, switch, loop, break, continue, return, unmarked, marked, by_mark, emits, case_at, statement, statements_from, block_tree, body_tree}
use Rattle.clearance.specs.Needs.{Exit, next, broke, continued, returned, only_next}
use Rattle.clearance.specs.Judged.{at_top, in_case, in_body, unless, strays}
use Rattle.clearance.specs.Rules.{Member, here}
use Rattle.clearance.specs.Rules.{Leaves, by_break, by_continue, by_return, from_first, from_second, from_accept, from_reject, case_continues, case_returns, body_returns, continuing_continues, continuing_returns, from_unmarked}
use Rattle.clearance.specs.IsJudged.{ContinuingIn, of_this, in_first, in_second, in_accept, in_reject, in_continuing, in_unmarked, in_case as of_case, in_body as of_body}
use Rattle.clearance.proofs.Exactly.{no_next}
use Rattle.clearance.proofs.Lowest.{no_member, first_or_later}
use Rattle.clearance.proofs.Faults.{either_list, in_left, in_right, of_concat, in_concat}

module _ (n : ℕ) where
  -- the statement n leaves a by an exit that e does not allow, or leaves a continuing block in it
  Stray : Tree → (Exit → Bool) → Type 0
  Stray a e = ((y : Exit) × Leaves n y a × (e y ≡ false)) ⊎ ((b : Tree) × (y : Exit) × ContinuingIn b a × Leaves n y b)

  unless-is : (b : Bool) (m : ℕ) → Member n (unless b m) → (b ≡ false) × (n ≡ m)
  unfolding unless
  unless-is true m h = no_member n [] refl h
  unless-is false m h = (refl, first_or_later m n [] h (λ e. e) (no_member n [] refl))

  outward : (a b : Tree) (e : Exit → Bool) → ((y : Exit) → Leaves n y a → Leaves n y b) → ((c : Tree) → ContinuingIn c a → ContinuingIn c b) → Stray a e → Stray b e
  unfolding Stray
  outward a b e f g (inl z) = inl (z.0, f z.0 z.1, z.2)
  outward a b e f g (inr z) = inr (z.0, z.1, g z.0 z.2, z.3)

  from_case : (c : ExpressionHandle) (vs : List ℕ) (f : ℕ → Tree) (e : Exit → Bool) (i : ℕ) → i < length vs → Stray (f i) (in_case e) → Stray (switch c vs f) e
  unfolding Stray in_case
  from_case c vs f e i l (inl (next, h, z)) = never (sym z)
  from_case c vs f e i l (inl (broke, h, z)) = never (sym z)
  from_case c vs f e i l (inl (continued, h, z)) = inl (continued, case_continues i l h, z)
  from_case c vs f e i l (inl (returned, h, z)) = inl (returned, case_returns i l h, z)
  from_case c vs f e i l (inr (b, y, h, z)) = inr (b, y, of_case i l h, z)

  from_body : (m : ℕ) (a b : Tree) (c : Option ExpressionHandle) (e : Exit → Bool) → Stray a (in_body e) → Stray (loop m a b c) e
  unfolding Stray in_body
  from_body m a b c e (inl (next, h, z)) = never (sym z)
  from_body m a b c e (inl (broke, h, z)) = never (sym z)
  from_body m a b c e (inl (continued, h, z)) = never (sym z)
  from_body m a b c e (inl (returned, h, z)) = inl (returned, body_returns h, z)
  from_body m a b c e (inr (d, y, h, z)) = inr (d, y, of_body h, z)

  from_continuing : (m : ℕ) (a b : Tree) (c : Option ExpressionHandle) (e : Exit → Bool) → Stray b only_next → Stray (loop m a b c) e
  unfolding Stray
  from_continuing m a b c e (inl (y, h, z)) = inr (b, y, of_this, h)
  from_continuing m a b c e (inr (d, y, h, z)) = inr (d, y, in_continuing h, z)

  stray_of : (a : Tree) (e : Exit → Bool) → Member n (strays a e) → Stray a e
  unfolding strays Stray
  stray_of nop e h = no_member n [] refl h
  stray_of (seq a b) e h =
      either_list n _ (strays b e) h (λ m. outward a _ e (λ y. from_first) (λ c. in_first) (stray_of a e m)) (λ m. outward b _ e (λ y. from_second) (λ c. in_second) (stray_of b e m))
  stray_of (act x) e h = no_member n [] refl h
  stray_of (branch c a b) e h =
      either_list n _ (strays b e) h (λ m. outward a _ e (λ y. from_accept) (λ c. in_accept) (stray_of a e m)) (λ m. outward b _ e (λ y. from_reject) (λ c. in_reject) (stray_of b e m))
  stray_of (switch c vs f) e h =
      let z = of_concat n (length vs) (λ i. strays (f i) (in_case e)) h in
      from_case c vs f e z.0 z.1 (stray_of (f z.0) (in_case e) z.2)
  stray_of (loop m a b c) e h =
      either_list n _ (strays b only_next) h (λ i. from_body m a b c e (stray_of a (in_body e) i)) (λ i. from_continuing m a b c e (stray_of b only_next i))
  stray_of (break m) e h = let z = unless-is (e broke) m h in inl (broke, rw z.1 by_break, z.0)
  stray_of (continue m) e h = let z = unless-is (e continued) m h in inl (continued, rw z.1 by_continue, z.0)
  stray_of (return m v) e h = let z = unless-is (e returned) m h in inl (returned, rw z.1 by_return, z.0)
  stray_of (unmarked m mark a) e h = outward a _ e (λ y. from_unmarked) (λ c. in_unmarked) (stray_of a e h)

  leaves_stray : (a : Tree) (e : Exit → Bool) (y : Exit) → Leaves n y a → e y ≡ false → Member n (strays a e)
  unfolding strays unless in_case in_body only_next
  leaves_stray a e y by_break z = rw (z, unless) here
  leaves_stray a e y by_continue z = rw (z, unless) here
  leaves_stray a e y by_return z = rw (z, unless) here
  leaves_stray a e y (from_first h) z = in_left n _ _ (leaves_stray _ e y h z)
  leaves_stray a e y (from_second {a = x} h) z = in_right n (strays x e) _ (leaves_stray _ e y h z)
  leaves_stray a e y (from_accept h) z = in_left n _ _ (leaves_stray _ e y h z)
  leaves_stray a e y (from_reject {a = x} h) z = in_right n (strays x e) _ (leaves_stray _ e y h z)
  leaves_stray a e y (case_continues {vs = vs} {f = f} i l h) z = in_concat n (length vs) (λ i. strays (f i) (in_case e)) i l (leaves_stray _ (in_case e) continued h z)
  leaves_stray a e y (case_returns {vs = vs} {f = f} i l h) z = in_concat n (length vs) (λ i. strays (f i) (in_case e)) i l (leaves_stray _ (in_case e) returned h z)
  leaves_stray a e y (body_returns h) z = in_left n _ _ (leaves_stray _ (in_body e) returned h z)
  leaves_stray a e y (continuing_continues {a = x} h) z = in_right n (strays x (in_body e)) _ (leaves_stray _ only_next continued h refl)
  leaves_stray a e y (continuing_returns {a = x} h) z = in_right n (strays x (in_body e)) _ (leaves_stray _ only_next returned h refl)
  leaves_stray a e y (from_unmarked h) z = leaves_stray _ e y h z

  continuing_stray : (b : Tree) (y : Exit) → Leaves n y b → (a : Tree) (e : Exit → Bool) → ContinuingIn b a → Member n (strays a e)
  unfolding strays
  continuing_stray b y h a e (of_this {a = x}) = in_right n (strays x (in_body e)) _ (leaves_stray b only_next y h (no_next y b h))
  continuing_stray b y h a e (in_first c) = in_left n _ _ (continuing_stray b y h _ e c)
  continuing_stray b y h a e (in_second {x = x} c) = in_right n (strays x e) _ (continuing_stray b y h _ e c)
  continuing_stray b y h a e (in_accept c) = in_left n _ _ (continuing_stray b y h _ e c)
  continuing_stray b y h a e (in_reject {x = x} c) = in_right n (strays x e) _ (continuing_stray b y h _ e c)
  continuing_stray b y h a e (of_case {vs = vs} {f = f} i l c) = in_concat n (length vs) (λ i. strays (f i) (in_case e)) i l (continuing_stray b y h _ (in_case e) c)
  continuing_stray b y h a e (of_body c) = in_left n _ _ (continuing_stray b y h _ (in_body e) c)
  continuing_stray b y h a e (in_continuing {x = x} c) = in_right n (strays x (in_body e)) _ (continuing_stray b y h _ only_next c)
  continuing_stray b y h a e (in_unmarked c) = continuing_stray b y h _ e c

  -- at the top: no break and no continue leaves the body, and nothing leaves a continuing block
  abbrev pub Stays : Tree → Type 0
  Stays a = (Leaves n broke a → ⊥) × (Leaves n continued a → ⊥) × ((b : Tree) → ContinuingIn b a → (y : Exit) → Leaves n y b → ⊥)

  no_stray : (a : Tree) → Stays a → Stray a at_top → ⊥
  unfolding Stray at_top
  no_stray a s (inl (next, h, z)) = never (sym z)
  no_stray a s (inl (broke, h, z)) = s.0 h
  no_stray a s (inl (continued, h, z)) = s.1 h
  no_stray a s (inl (returned, h, z)) = never (sym z)
  no_stray a s (inr (b, y, h, z)) = s.2 b h y z

  pub stays_exactly : (a : Tree) → (Member n (strays a at_top) → ⊥) ↔ Stays a
  unfolding at_top
  stays_exactly a = (
    (λ m. (
      (λ h. m (leaves_stray a at_top broke h refl)),
      (λ h. m (leaves_stray a at_top continued h refl)),
      (λ b c y h. m (continuing_stray b y h a at_top c)),
    )),
    (λ s m. no_stray a s (stray_of a at_top m)),
  )

-- Their numbers

module _ (f : Function) (marks : List ℕ) where
  -- every stray is a statement of the function
  Low : Tree → Type 0
  Low a = (e : Exit → Bool) (n : ℕ) → Member n (strays a e) → n < length f.statements

  seq-low : (a b : Tree) → Low a → Low b → Low (seq a b)
  unfolding Low strays
  seq-low a b h g e n m = either_list n _ (strays b e) m (h e n) (g e n)

  nop-low : Low nop
  unfolding Low strays
  nop-low e n m = no_member n [] refl m

  own_low : (k : ℕ) → k < length f.statements → (b : Bool) (n : ℕ) → Member n (unless b k) → n < length f.statements
  own_low k l b n m = let z = unless-is n b k m in rw z.1 l

  marked-low : (n mark : ℕ) (b : Bool) (a : Tree) → Low a → Low (marked n mark b a)
  unfolding marked Low strays
  marked-low n mark true a h = h
  marked-low n mark false a h = h

  by_low : (n i : ℕ) (a : Tree) → Low a → Low (by_mark f marks n i a)
  unfolding by_mark
  by_low n i a h = marked-low n _ _ a h

  act-low : (x : Act) → Low (act x)
  unfolding Low strays
  act-low x e n m = no_member n [] refl m

  emits_low : (n : ℕ) (first : ExpressionHandle) (i k : ℕ) → Low (emits f marks n first i k)
  unfolding emits
  emits_low n first i zero = nop-low
  emits_low n first i (suc k) = seq-low _ _ (by_low n i _ (act-low _)) (emits_low n first (suc i) k)

  case_low : (block : BlockHandle → Tree) → ((b : BlockHandle) → Low (block b)) → (cs : List SwitchCase) (i : ℕ) → Low (case_at block cs i)
  unfolding case_at
  case_low block h [] i = nop-low
  case_low block h (c ∷ cs) zero = h _
  case_low block h (c ∷ cs) (suc i) = case_low block h cs i

  module _ (block : BlockHandle → Tree) (h : (b : BlockHandle) → Low (block b)) where
    branch-low : (c : ExpressionHandle) (a b : BlockHandle) → Low (branch c (block a) (block b))
    unfolding Low strays
    branch-low c a b e n m = either_list n _ (strays (block b) e) m (h a e n) (h b e n)

    switch-low : (c : ExpressionHandle) (vs : List ℕ) (cs : List SwitchCase) → Low (switch c vs (case_at block cs))
    unfolding Low strays
    switch-low c vs cs e n m = let z = of_concat n (length vs) (λ i. strays (case_at block cs i) (in_case e)) m in case_low block h cs z.0 (in_case e) n z.2

    loop-low : (k : ℕ) (a b : BlockHandle) (c : Option ExpressionHandle) → Low (loop k (block a) (block b) c)
    unfolding Low strays
    loop-low k a b c e n m = either_list n _ (strays (block b) only_next) m (h a (in_body e) n) (h b only_next n)

    break_low : (k : ℕ) → k < length f.statements → Low (break k)
    unfolding Low strays
    break_low k l e n m = own_low k l (e broke) n m

    continue-low : (k : ℕ) → k < length f.statements → Low (continue k)
    unfolding Low strays
    continue-low k l e n m = own_low k l (e continued) n m

    return_low : (k : ℕ) (v : Option ExpressionHandle) → k < length f.statements → Low (return k v)
    unfolding Low strays
    return_low k v l e n m = own_low k l (e returned) n m

    statement_low : (n : ℕ) → n < length f.statements → (x : Statement) → Low (statement f marks block n x)
    unfolding statement
    statement_low n l (Emit first last) = emits_low n first 0 _
    statement_low n l (Block b) = h b
    statement_low n l (If condition accept reject) = by_low n 0 _ (branch-low condition accept reject)
    statement_low n l (Switch selector cases) = by_low n 0 _ (switch-low selector _ cases)
    statement_low n l (Loop b continuing break_if) = by_low n 0 _ (loop-low n b continuing break_if)
    statement_low n l Break = break_low n l
    statement_low n l Continue = continue-low n l
    statement_low n l (Return value) = return_low n value l
    statement_low n l Kill = nop-low
    statement_low n l ControlBarrier = nop-low
    statement_low n l MemoryBarrier = nop-low
    statement_low n l ImageAtomic = nop-low
    statement_low n l (Store pointer value) = by_low n 0 _ (act-low _)
    statement_low n l (AtomicStatement pointer value result) = nop-low
    statement_low n l (Call function arguments result) = nop-low
    statement_low n l (ImageStore image coordinate array_index value) = nop-low
    statement_low n l (RayQuery query) = nop-low
    statement_low n l (WorkGroupUniformLoad pointer result) = nop-low
    statement_low n l (SubgroupBallot result predicate) = nop-low
    statement_low n l (SubgroupGather mode argument result) = nop-low
    statement_low n l (SubgroupCollectiveOperation argument result) = nop-low

    kill_low : (n : ℕ) (x : Statement) → x ≡ Kill → Low (statement f marks block n x)
    unfolding statement
    kill_low n x e = rw (e, statement) nop-low

    at_low : (n : ℕ) → Low (statement f marks block n (get_or f.statements n Kill))
    at_low n =
        elim (dec_lt n (length f.statements)) [
          | yes l ↦ statement_low n l _
          | no l ↦ kill_low n _ (get_or-eq_default f.statements Kill {n = n} (omega arith))
        ]

    from_low : (n k : ℕ) → Low (statements_from f marks block n k)
    unfolding statements_from
    from_low n zero = nop-low
    from_low n (suc k) = seq-low _ _ (at_low n) (from_low (suc n) k)

    block_low : (b : BlockHandle) → Low (block_tree f marks block b)
    unfolding block_tree
    block_low b = from_low _ _

  body_low : Low (body_tree f marks)
  unfolding body_tree
  body_low = knot-all (λ b a. Low a) (block_tree f marks) nop (λ b. nop-low) (λ w b h. block_low w h b) _

  pub stray_low : (n : ℕ) → Member n (strays (body_tree f marks) at_top) → n < length f.statements
  unfolding Low
  stray_low n m = body_low at_top n m
