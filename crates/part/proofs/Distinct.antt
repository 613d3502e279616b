-- Sums in which each requirement of a list counts once: they depend on the set of requirements alone and grow with it, by induction on the smaller list,
-- whose first requirement is taken out of the larger. So for `once` and `different`, and for what 16 counts of all that is held (`pieces`).
use Prim.Native.Nat.{ℕ, ◌+◌, ◌≤◌}
use native.Mathlib.Omega.{arith}
use mathlib.Core.Path.{◌≡◌, refl, sym, ap, ◌∙◌}
use mathlib.Core.Bool.{Bool, true, false, cond, ◌||◌}
use mathlib.Core.List.{List, [], ◌∷◌, ◌++◌, append_assoc}
use Rattle.part.specs.PartReq.{PartReq, width}
use Rattle.part.specs.Count.{same, among, each_once, Held, ◌and◌, pieces}
use Rattle.part.proofs.Counting.{same_refl, same_is, by_bool}

pub or_left : (a b : Bool) → a ≡ true → a || b ≡ true
or_left a b e = rw e

pub or_right_true : (a b : Bool) → b ≡ true → a || b ≡ true
or_right_true true b e = refl
or_right_true false b e = e

pub or_cases : (C : Type 0) (a b : Bool) → a || b ≡ true → (a ≡ true → C) → (b ≡ true → C) → C
or_cases C true b e f g = f refl
or_cases C false b e f g = g e

pub untrue : {C : Type 0} → false ≡ true → C
untrue e = absurd (let z : ◌≡◌ {A = ℕ} 0 1 = cc in omega arith)

pub not_true_false : (b : Bool) → (b ≡ true → ⊥) → b ≡ false
not_true_false true h = absurd (h refl)
not_true_false false h = refl

-- what stands in two lists together
pub among-left : (q : PartReq) (l m : List PartReq) → among q l ≡ true → among q (l ++ m) ≡ true
unfolding among
among-left q [] m e = untrue e
among-left q (p ∷ l) m e =
    or_cases (same q p || among q (l ++ m) ≡ true) (same q p) (among q l) e
    (λ z. or_left (same q p) _ z)
    (λ z. or_right_true (same q p) _ (among-left q l m z))

pub among-right : (q : PartReq) (l m : List PartReq) → among q m ≡ true → among q (l ++ m) ≡ true
unfolding among
among-right q [] m e = e
among-right q (p ∷ l) m e = or_right_true (same q p) _ (among-right q l m e)

pub among_cases : (C : Type 0) (q : PartReq) (l m : List PartReq) → among q (l ++ m) ≡ true → (among q l ≡ true → C) → (among q m ≡ true → C) → C
unfolding among
among_cases C q [] m e f g = g e
among_cases C q (p ∷ l) m e f g =
    or_cases C (same q p) (among q (l ++ m)) e
    (λ z. f (or_left (same q p) _ z))
    (λ z. among_cases C q l m z (λ y. f (or_right_true (same q p) _ y)) g)

-- all that stands in the one stands in the other
abbrev pub Among : List PartReq → List PartReq → Type 0
Among l m = (q : PartReq) → among q l ≡ true → among q m ≡ true

-- a list without p
without : PartReq → List PartReq → List PartReq
without p [] = []
without p (q ∷ l) = cond (same p q) (without p l) (q ∷ without p l)

without_other : (p q : PartReq) → (p ≡ q → ⊥) → (l : List PartReq) → among q (without p l) ≡ among q l
unfolding without among
without_other p q ne [] = refl
without_other p q ne (o ∷ l) =
    let ih = without_other p q ne l in
    by_bool (λ b. among q (cond b (without p l) (o ∷ without p l)) ≡ same q o || among q l) (same p o)
    (λ e. ih ∙ sym (ap (λ b. b || among q l) (not_true_false (same q o) (λ z. ne (same_is p o e ∙ sym (same_is q o z))))))
    (λ e. ap (λ b. same q o || b) ih)

without-none : (p : PartReq) (l : List PartReq) → among p l ≡ false → without p l ≡ l
unfolding without among
without-none p [] e = refl
without-none p (q ∷ l) e =
    let a : same p q ≡ false = not_true_false (same p q) (λ z. untrue (sym e ∙ or_left (same p q) (among p l) z)) in
    rw (a, without-none p l (rw a at e))

module _ (w : PartReq → ℕ) where
  taken_out : (p : PartReq) (l : List PartReq) → among p l ≡ true → each_once w l ≡ w p + each_once w (without p l)
  unfolding each_once without among
  taken_out p [] e = untrue e
  taken_out p (q ∷ l) e =
      by_bool (λ b. (b || among p l ≡ true) → (same p q ≡ b) → cond (among q l) (each_once w l) (w q + each_once w l) ≡ w p + each_once w (cond b (without p l) (q ∷ without p l)))
      (same p q)
      (λ i a z.
      rw (← same_is p q i)
      (by_bool (λ b. cond b (each_once w l) (w p + each_once w l) ≡ w p + each_once w (without p l)) (among p l)
      (λ h. taken_out p l h)
      (λ h. rw (without-none p l h))))
      (λ i a z.
      let ih = taken_out p l a in
      let ne : p ≡ q → ⊥ = λ y. untrue (sym i ∙ rw (← y) (same_refl p)) in
      rw (without_other p q ne l)
      (by_bool (λ b. cond b (each_once w l) (w q + each_once w l) ≡ w p + cond b (each_once w (without p l)) (w q + each_once w (without p l))) (among q l)
      (λ h. ih)
      (λ h. omega arith)))
      e refl

  pub once_monotone : (l m : List PartReq) → Among l m → each_once w l ≤ each_once w m
  unfolding each_once among
  once_monotone [] m h = omega arith
  once_monotone (p ∷ l) m h =
      by_bool (λ b. cond b (each_once w l) (w p + each_once w l) ≤ each_once w m) (among p l)
      (λ e. once_monotone l m (λ q z. h q (or_right_true (same q p) _ z)))
      (λ e.
      let a = taken_out p m (h p (or_left _ _ (same_refl p))) in
      let b = once_monotone l (without p m)
      (λ q z.
      let ne : p ≡ q → ⊥ = λ y. untrue (sym e ∙ rw y z) in
      without_other p q ne m ∙ h q (or_right_true (same q p) _ z)) in
      omega arith)

  -- it depends on the set alone
  pub once_set : (l m : List PartReq) → Among l m → Among m l → each_once w l ≡ each_once w m
  once_set l m h g = let a = once_monotone l m h in let b = once_monotone m l g in omega arith

  pub once_cons : (p : PartReq) (l : List PartReq) → each_once w (p ∷ l) ≤ w p + each_once w l
  unfolding each_once
  once_cons p l = go (among p l)
    where
      go : (b : Bool) → cond b (each_once w l) (w p + each_once w l) ≤ w p + each_once w l
      go true = omega arith
      go false = omega arith

  pub once_append : (l m : List PartReq) → each_once w (l ++ m) ≤ each_once w l + each_once w m
  unfolding each_once
  once_append [] m = omega arith
  once_append (p ∷ l) m =
      let ih = once_append l m in
      by_bool (λ b. each_once w (p ∷ (l ++ m)) ≤ cond b (each_once w l) (w p + each_once w l) + each_once w m) (among p l)
      (λ e. rw (among-left p l m e) ih)
      (λ e. let a = once_cons p (l ++ m) in omega arith)

  -- what stands there already adds nothing
  pub once_again : (l m : List PartReq) → Among m l → each_once w (l ++ m) ≡ each_once w l
  once_again l m h =
      once_set (l ++ m) l (λ q e. among_cases (among q l ≡ true) q l m e (λ z. z) (λ z. h q z)) (λ q e. among-left q l m e)

-- what 16 counts of two things that are held together
pub pieces-and : (a b : Held) → pieces (a and b) ≤ pieces a + pieces b
unfolding pieces
pieces-and a b = let l = once_append width a.held b.held in omega arith

pub pieces-left : (a b : Held) → pieces a ≤ pieces (a and b)
unfolding pieces
pieces-left a b = let l = once_monotone width a.held (a.held ++ b.held) (λ q e. among-left q a.held b.held e) in omega arith

pub pieces-swap : (a b : Held) → pieces (a and b) ≡ pieces (b and a)
unfolding pieces
pieces-swap a b =
    let l = once_set width (a.held ++ b.held) (b.held ++ a.held) (turn a.held b.held) (turn b.held a.held) in
    omega arith
  where
    turn : (l m : List PartReq) → Among (l ++ m) (m ++ l)
    turn l m q e = among_cases (among q (m ++ l) ≡ true) q l m e (λ z. among-right q m l z) (λ z. among-left q m l z)

pub pieces-assoc : (a b c : Held) → pieces ((a and b) and c) ≡ pieces (a and (b and c))
unfolding pieces
pieces-assoc a b c = rw (append_assoc a.held b.held c.held) (omega arith)

-- where all parts of b are held already, b adds its own entries alone
pub pieces-again : (a b : Held) → Among b.held a.held → pieces (a and b) ≡ pieces a + b.own
unfolding pieces
pieces-again a b h = let l = once_again width a.held b.held h in omega arith
