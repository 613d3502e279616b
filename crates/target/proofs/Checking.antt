-- `check_part`'s loop: what is left of the part, with what is needed there, gives the whole. And what is needed of a target is fine, and no more than the context
-- that it is taken from.
use Prim.Native.Nat.{ℕ, ◌<◌, ◌≤◌}
use native.Mathlib.Omega.{arith}
use native.Mathlib.Decide.{ℕ_discrete}
use mathlib.Core.Path.{◌≡◌, refl, sym, ◌∙◌, subst}
use mathlib.Core.Bool.{false}
use mathlib.Core.List.{List}
use Rattle.std.specs.Prelude.{Option, Some, None}
use Rattle.part.specs.PartReq.{PartReq, all, exist, none, more, Subpart, gone, there, get_subpart, is_all, is_exist, entries}
use Rattle.part.specs.Store.{top, part, Good, Seen}
use Rattle.part.specs.Found.{Got}
use Rattle.part.proofs.Pieces.{part-0, part-1, part-2, not_all, not_exist}
use Rattle.part.proofs.Equations.{never, get_subpart-exist, get_subpart-none}
use Rattle.module.specs.Module.{FunctionHandle, Module}
use Rattle.context.specs.RequiredContext.{RequiredContext, VarRef, Global, Local, pieces, required}
use Rattle.context.specs.Contexts.{context_of, variable_of}
use Rattle.context.specs.declared.required_context.RequiredContext.{RequiredContext as Pieces}
use Rattle.walk.specs.Proper.{Sound, Fine, FineContext}
use Rattle.walk.specs.Resolve.{needed, needed_at, check_part, store_required}
use Rattle.walk.proofs.Keeps.{Needs}
use Rattle.walk.proofs.Limits.{Few, store_few}
use Rattle.walk.proofs.Proper.{proper, asked_fine, fine_context}
use Rattle.target.specs.Target.{subpart_of}
use Rattle.target.specs.declared.resolve.Target.{Target}

-- where nothing is needed of the whole, nothing is needed of a part
check_gone : (q : PartReq) → check_part q gone ≡ gone
unfolding check_part needed needed_at
check_gone all = refl
check_gone exist = refl
check_gone none = refl
check_gone (more j q s) = refl

-- one entry down
check_entry : (j : ℕ) (q s p : PartReq) → is_all p ≡ false → check_part (more j q s) (there p) ≡ check_part q (get_subpart p j)
unfolding check_part needed_at
check_entry j q s all h = never (sym h)
check_entry j q s exist h = rw (get_subpart-exist j, check_gone q)
check_entry j q s none h = rw (get_subpart-none j)
check_entry j q s (more i p r) h = refl

whole_needed : (p : PartReq) → is_exist p ≡ false → needed (there p) ≡ there p
unfolding needed
whole_needed all h = refl
whole_needed exist h = never (sym h)
whole_needed none h = refl
whole_needed (more i p r) h = refl

-- what an answer of `get` is
got_is : (s : List ℕ) (p : Subpart) (f : Option ℕ) → Got s p f → subpart_of s f ≡ p
got_is s p None h = sym h
got_is s p (Some n) h = sym h.1

-- of the part q the piece n is left, and p is needed of what has that part
pub record Checking (s : List ℕ) (q whole n p : ℕ) : Type 0 where
  pub left_in : n < top s
  pub right_in : p < top s
  pub is : check_part (part s n) (there (part s p)) ≡ check_part (part s q) (there (part s whole))

module _ (s : List ℕ) (q : ℕ) (f : Option ℕ) where
  pub checking_none : f ≡ None → check_part (part s q) (subpart_of s f) ≡ gone
  checking_none e = rw e (check_gone (part s q))

module _ {s : List ℕ} {q whole n p : ℕ} {f : Option ℕ} (e : f ≡ Some whole) (a : Checking s q whole n p) where
  answer : (r : Option ℕ) → Got s (check_part (part s n) (there (part s p))) r → Got s (check_part (part s q) (subpart_of s f)) r
  answer r h = subst (λ (x : Subpart). Got s x r) (a.is ∙ rw e) h

  -- the end of the part
  pub checked_part : 0 < n → n ≤ 2 → Got s (check_part (part s q) (subpart_of s f)) None
  unfolding check_part
  checked_part l h =
      answer None
      (elim (ℕ_discrete n 1) [
        | yes k ↦ rw (k, part-1 s)
        | no k ↦ let two : n ≡ 2 = omega arith in rw (two, part-2 s)
      ])

  pub checked_exist : n ≤ 0 → p ≡ 1 → Got s (check_part (part s q) (subpart_of s f)) None
  unfolding check_part needed
  checked_exist l k = let z : n ≡ 0 = omega arith in answer None (rw (z, k, part-0 s, part-1 s))

  pub checked_whole : n ≤ 0 → (p ≡ 1 → ⊥) → Got s (check_part (part s q) (subpart_of s f)) (Some p)
  unfolding check_part
  checked_whole l k =
      let z : n ≡ 0 = omega arith in
      answer (Some p) (a.right_in, rw (z, part-0 s) (whole_needed (part s p) (not_exist s p k)))

  -- an entry
  module _ {i c r : ℕ} (x : Seen s n i c r) where
    pub checked_all : Good s → p ≡ 0 → Got s (check_part (part s q) (subpart_of s f)) (Some 0)
    unfolding check_part needed_at
    checked_all g k = answer (Some 0) (omega (arith, g.base), rw (k, x.is, part-0 s))

    down : (p ≡ 0 → ⊥) → check_part (part s n) (there (part s p)) ≡ check_part (part s c) (get_subpart (part s p) i)
    down h = rw x.is (check_entry i (part s c) (part s r) (part s p) (not_all s p h))

    pub checked_gone : {g : Option ℕ} → (p ≡ 0 → ⊥) → Got s (get_subpart (part s p) i) g → g ≡ None → Got s (check_part (part s q) (subpart_of s f)) None
    checked_gone {g} h d k = answer None (down h ∙ rw (subst (λ (y : Option ℕ). Got s (get_subpart (part s p) i) y) k d) (check_gone (part s c)))

    pub checking_next : {g : Option ℕ} {b : ℕ} → (p ≡ 0 → ⊥) → Got s (get_subpart (part s p) i) g → g ≡ Some b → Checking s q whole c b
    checking_next {g} h d k =
        let there_is = subst (λ (y : Option ℕ). Got s (get_subpart (part s p) i) y) k d in
        record { left_in = omega (arith, x.child_low, a.left_in); right_in = there_is.0; is = rw (← there_is.1) (sym (down h)) ∙ a.is }

-- `store_required` is `check_part` of what is needed of the variable
store_is : (c : RequiredContext) (var : VarRef) (q : PartReq) → store_required c var q ≡ check_part q (required c var)
unfolding store_required
store_is c (Global g) q = refl
store_is c (Local l) q = refl

module _ (s : List ℕ) (c : Pieces) (x : Target) (g : Option ℕ) (h : Got s (required (context_of s c) (variable_of x.var)) g) where
  pub store_checks : (r : Option ℕ) → Got s (check_part (part s x.part) (subpart_of s g)) r → Got s (store_required (context_of s c) (variable_of x.var) (part s x.part)) r
  store_checks r = subst (λ (p : Subpart). Got s p r) (rw (got_is s _ g h) (sym (store_is (context_of s c) (variable_of x.var) (part s x.part))))

-- what is needed of a target of the context c
pub record FineNeed (c : RequiredContext) (p : PartReq) : Type 0 where
  pub fine : Fine p
  pub few : entries p ≤ pieces c

pub need_fine : (m : Module) → Sound m → (f : FunctionHandle) (c : RequiredContext) (var : VarRef) (q : PartReq) (s : List ℕ) (n : ℕ) → FineContext m f c → Got s (store_required c var q) (Some n) → FineNeed c (part s n)
need_fine m sound f c var q s n h g =
    record {
      fine = asked_fine m sound 0 (part s n) (subst (Needs (proper m sound 0).Asked) g.1 ((proper m sound 0).store_need f c var q (fine_context m sound 0 f c h)));
      few = subst (Few (pieces c)) g.1 (store_few c var q);
    }
