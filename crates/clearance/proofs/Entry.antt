-- A round loop by loop: what it makes of the re-entry needs of one loop.
use Prim.Native.Nat.{ℕ, zero, suc}
use mathlib.Core.Path.{◌≡◌, refl, sym, ap, ◌∙◌}
use mathlib.Core.Bool.{Bool, true, false, cond}
use mathlib.Core.List.{[], ◌∷◌}
use lib.Dec.{eqb}
use lib.ListN.{length}
use native.Mathlib.Omega.{arith}
use borrow.Author.Tests.{eq-eqb, ne_eqb, eqb-true, eqb-false}
use Rattle.part.specs.PartReq.{PartReq, none, add}
use Rattle.clearance.specs.Tree.{Tree, nop, seq, act, branch, switch, loop, break, continue, return, unmarked}
use Rattle.clearance.specs.Needs.{Exit, next, upon, of_case, through, obeys, after_continuing, Setting, walk, after_body, Table, reentry, join_at, sweep, round}
use Rattle.clearance.proofs.Small.{cases}

module _ (W : Setting) (r : ℕ → PartReq) where
  -- m joined with what stands before the body of the loop j
  unfoldable pub entry : Tree → (Exit → PartReq) → ℕ → PartReq → PartReq
  entry nop k j m = m
  entry (seq a b) k j m = entry a (upon (walk W r b k) k) j (entry b k j m)
  entry (act x) k j m = m
  entry (branch c a b) k j m = entry a k j (entry b k j m)
  entry (switch c vs f) k j m = through (length vs) (λ i. entry (f i) (of_case k) j) m
  entry (loop n a b c) k j m =
      let i = entry a (after_body W r n b c k) j (entry b (after_continuing W.scope (r n) c k) j m) in
      cond (eqb n j) (add (walk W r a (after_body W r n b c k)) i) i
  entry (break n) k j m = m
  entry (continue n) k j m = m
  entry (return n v) k j m = m
  entry (unmarked n mark a) k j m = cond (obeys W.scope (k next) a) m (entry a k j m)

eqb-suc : (n j : ℕ) → eqb (suc n) (suc j) ≡ eqb n j
eqb-suc n j =
    cases (eqb n j)
    (λ e. eq-eqb (suc n) (suc j) (ap suc (eqb-true n j e)) ∙ sym e)
    (λ e. ne_eqb (suc n) (suc j) (λ h. eqb-false n j e (omega (arith, h))) ∙ sym e)

apart : (n j : ℕ) (x y : PartReq) → (n ≡ j → ⊥) → y ≡ cond (eqb n j) x y
apart n j x y h = rw (ne_eqb n j h)

pub join-at : (n : ℕ) (m : PartReq) (t : Table) (j : ℕ) → reentry (join_at n m t) j ≡ cond (eqb n j) (add m (reentry t j)) (reentry t j)
unfolding join_at reentry
join-at zero m [] zero = refl
join-at zero m [] (suc j) = apart 0 (suc j) (add m none) none (omega arith)
join-at (suc n) m [] zero = apart (suc n) 0 (add m none) none (omega arith)
join-at (suc n) m [] (suc j) = rw (eqb-suc n j) (join-at n m [] j)
join-at zero m (x ∷ t) zero = refl
join-at zero m (x ∷ t) (suc j) = apart 0 (suc j) _ _ (omega arith)
join-at (suc n) m (x ∷ t) zero = apart (suc n) 0 (add m x) x (omega arith)
join-at (suc n) m (x ∷ t) (suc j) = rw (eqb-suc n j) (join-at n m t j)

through-at : (n : ℕ) (f : ℕ → Table → Table) (g : ℕ → PartReq → PartReq) (j : ℕ) → ((i : ℕ) (t : Table) → reentry (f i t) j ≡ g i (reentry t j)) →
    (t : Table) → reentry (through n f t) j ≡ through n g (reentry t j)
unfolding through
through-at zero f g j h t = refl
through-at (suc n) f g j h t = h n _ ∙ ap (g n) (through-at n f g j h t)

cond-at : (b : Bool) (t u : Table) (j : ℕ) → reentry (cond b t u) j ≡ cond b (reentry t j) (reentry u j)
cond-at true t u j = refl
cond-at false t u j = refl

module _ (W : Setting) (r : ℕ → PartReq) where
  sweep-at : (a : Tree) (k : Exit → PartReq) (j : ℕ) (t : Table) → reentry (sweep W r a k t) j ≡ entry W r a k j (reentry t j)
  unfolding sweep entry
  sweep-at nop k j t = refl
  sweep-at (seq a b) k j t = sweep-at a _ j _ ∙ ap (entry W r a (upon (walk W r b k) k) j) (sweep-at b k j t)
  sweep-at (act x) k j t = refl
  sweep-at (branch c a b) k j t = sweep-at a k j _ ∙ ap (entry W r a k j) (sweep-at b k j t)
  sweep-at (switch c vs f) k j t = through-at (length vs) _ (λ i. entry W r (f i) (of_case k) j) j (λ i u. sweep-at (f i) (of_case k) j u) t
  sweep-at (loop n a b c) k j t =
      let z = sweep-at a (after_body W r n b c k) j _ ∙ ap (entry W r a (after_body W r n b c k) j) (sweep-at b (after_continuing W.scope (r n) c k) j t) in
      join-at n _ _ j ∙ ap (λ m. cond (eqb n j) (add (walk W r a (after_body W r n b c k)) m) m) z
  sweep-at (break n) k j t = refl
  sweep-at (continue n) k j t = refl
  sweep-at (return n v) k j t = refl
  sweep-at (unmarked n mark a) k j t = cond-at (obeys W.scope (k next) a) _ _ j ∙ ap (cond (obeys W.scope (k next) a) (reentry t j)) (sweep-at a k j t)

pub round-at : (W : Setting) (a : Tree) (k : Exit → PartReq) (t : Table) (j : ℕ) → reentry (round W a k t) j ≡ entry W (reentry t) a k j (reentry t j)
unfolding round
round-at W a k t j = sweep-at W (reentry t) a k j t
