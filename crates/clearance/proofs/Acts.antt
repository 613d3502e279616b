-- An emit and a store against the run: where the needs before it agree, the needs after it do; one that gives nothing needed leaves
-- what is needed as it was.
use Prim.Native.Nat.{ℕ}
use mathlib.Core.Path.{◌≡◌, refl, sym, ap, ◌∙◌}
use mathlib.Core.Bool.{true, false}
use mathlib.Core.List.{List, [], ◌∷◌, ◌++◌, map}
use mathlib.Core.Option.{Option, some as present, none as nothing}
use lib.Dec.{eqb}
use borrow.Author.Tests.{not-true}
use Rattle.part.specs.PartReq.{PartReq}
use Rattle.part.proofs.Equations.{never}
use Rattle.module.specs.Module.{ExpressionHandle}
use Rattle.clearance.specs.Shape.{leaf, inside, cov, some, hit, take_out, begins, after}
use Rattle.clearance.specs.Scope.{Scope, Place, slot, evaluated, frame, arm, Path, path_of, front, indexes, target}
use Rattle.clearance.specs.Tree.{Act, emit, store}
use Rattle.clearance.specs.Needs.{of_value, ask_whole, asks, gives, overlap, without, storing, giving, before, idle}
use Rattle.clearance.proofs.Small.{cases, both_true}
use Rattle.clearance.proofs.Cov.{cov-trim, cov-hit, within_leaf, cov-out, starts_rest, cov-some}
use Rattle.clearance.specs.Run.{Value, State, Operators, look, put, value, place, stored, perform}
use Rattle.clearance.specs.Claim.{ByComponent}
use Rattle.clearance.proofs.Agree.{Agree, look-leaf, look-by, AllMet, needs-rest, needs-met, met_whole}
use Rattle.clearance.proofs.Values.{regroup, Below, place-front, place-static, place_same, evaluate-same}

-- a path at or below a longer one is at or below the shorter
pub begins-shorter : (p r q : List ℕ) → begins (p ++ r) q ≡ true → begins p q ≡ true
unfolding begins
begins-shorter [] r q h = refl
begins-shorter (i ∷ p) r [] h = never h
begins-shorter (i ∷ p) r (j ∷ q) h =
    let z = both_true (eqb i j) (begins (p ++ r) q) h in
    rw z.0 (begins-shorter p r q z.1)

pub put-off : (s : State) (v : Value) (p q : Place) → begins p q ≡ false → put p v s q ≡ s q
unfolding put
put-off s v p q e = rw e

module _ (S : Scope) where
  module _ (s u : State) where
    -- the same in the place of what is asked there, and the same elsewhere
    put_same : (p : Place) (v w : Value) (n : PartReq) → ((r : List ℕ) → leaf (frame S) (p ++ r) ≡ true → cov n (p ++ r) ≡ true → v r ≡ w r) →
        ((q : List ℕ) → leaf (frame S) q ≡ true → begins p q ≡ false → cov n q ≡ true → look S s q ≡ look S u q) →
        (q : List ℕ) → cov n q ≡ true → leaf (frame S) q ≡ true → put p v s q ≡ put p w u q
    unfolding put
    put_same p v w n h g q c l =
        cases (begins p q)
        (λ e. let z = starts_rest p q e in rw e (h (after p q) (ap (leaf (frame S)) z ∙ l) (ap (cov n) z ∙ c)))
        (λ e. rw e (sym (look-leaf S s q l) ∙ g q l e c ∙ look-leaf S u q l))

    pub put-agree : (p : Place) (v w : Value) (n : PartReq) → ((r : List ℕ) → leaf (frame S) (p ++ r) ≡ true → cov n (p ++ r) ≡ true → v r ≡ w r) →
        ((q : List ℕ) → leaf (frame S) q ≡ true → begins p q ≡ false → cov n q ≡ true → look S s q ≡ look S u q) →
        Agree S n (put p v s) (put p w u)
    put-agree p v w n h g q c = look-by S _ _ q (λ l. look-leaf S _ q l ∙ put_same p v w n h g q c l ∙ sym (look-leaf S _ q l))

  -- what is needed lies outside a place of which nothing is needed
  spared : (p : Place) (n : PartReq) → some (hit (frame S) n p) ≡ false → (q : List ℕ) → leaf (frame S) q ≡ true → cov n q ≡ true → begins p q ≡ false
  spared p n h q l c =
      cases (begins p q)
      (λ e.
      let z = starts_rest p q e in
      never (sym h ∙ cov-some (hit (frame S) n p) (after p q) (cov-hit (frame S) n p (after p q) (ap (inside (frame S)) z ∙ within_leaf (frame S) q l) (ap (cov n) z ∙ c))))
      (λ e. e)

  spared_below : (p r : Place) (n : PartReq) → some (hit (frame S) n p) ≡ false → (q : List ℕ) → leaf (frame S) q ≡ true → cov n q ≡ true → begins (p ++ r) q ≡ false
  spared_below p r n h q l c = cases (begins (p ++ r) q) (λ e. never (sym (spared p n h q l c) ∙ begins-shorter p r q e)) (λ e. e)

  put-spared : (s : State) (v : Value) (p r : Place) (n : PartReq) → some (hit (frame S) n p) ≡ false → Agree S n s (put (p ++ r) v s)
  put-spared s v p r n h q c =
      look-by S _ _ q (λ l. look-leaf S _ q l ∙ sym (put-off s v (p ++ r) q (spared_below p r n h q l c)) ∙ sym (look-leaf S _ q l))

  put-spared_at : (s : State) (v : Value) (p : Place) (n : PartReq) → some (hit (frame S) n p) ≡ false → Agree S n s (put p v s)
  put-spared_at s v p n h q c =
      look-by S _ _ q (λ l. look-leaf S _ q l ∙ sym (put-off s v p q (spared p n h q l c)) ∙ sym (look-leaf S _ q l))

  module _ (ops : Operators) where
    stored-spared : (s : State) (root f : Place) (v : Value) (o : Option (List ℕ)) (n : PartReq) → Below f o →
        some (hit (frame S) n (root ++ f)) ≡ false → Agree S n s (stored S ops s root v o)
    unfolding stored Below
    stored-spared s root f v nothing n b h = λ q c. refl
    stored-spared s root f v (present p) n b h =
        let z : (root ++ f) ++ b.0 ≡ root ++ p = regroup root f b.0 ∙ ap (◌++◌ root) (sym b.1) in
        rw z at (put-spared s v (root ++ f) b.0 n h)

    -- an act that gives nothing needed
    pub perform-spared : (x : Act) (n : PartReq) (s : State) → some (overlap S x n) ≡ false → Agree S n s (perform S ops s x)
    unfolding perform overlap target
    perform-spared (emit e) n s h =
        cases (gives (arm S e))
        (λ g. rw g (put-spared_at s _ (slot (evaluated e)) n (rw g at h)))
        (λ g. rw g (λ q c. refl))
    perform-spared (store p v) n s h = stored-spared s _ (front (path_of S p).steps) _ _ n (place-front S ops s s (path_of S p) s) h

    without-agree : (s u : State) (p : Place) (n : PartReq) → Agree S (without S p n) s u →
        (q : List ℕ) → leaf (frame S) q ≡ true → begins p q ≡ false → cov n q ≡ true → look S s q ≡ look S u q
    unfolding without
    without-agree s u p n g q l o c = g q (cov-trim (take_out (frame S) n p) (frame S) q (within_leaf (frame S) q l) (cov-out p (frame S) n q o l c))

    stored-whole : (s u : State) (root : Place) (v w : Value) (o : Option (List ℕ)) (n : PartReq) → ((q : List ℕ) → v q ≡ w q) → Agree S n s u →
        Agree S n (stored S ops s root v o) (stored S ops u root w o)
    unfolding stored
    stored-whole s u root v w nothing n h g = g
    stored-whole s u root v w (present p) n h g = put-agree s u (root ++ p) v w n (λ r l c. h r) (λ q l o c. g q c)

    storing-agree : (s u : State) (p : Path) (is : List ExpressionHandle) (v : ExpressionHandle) (n : PartReq) → indexes p.steps ≡ is →
        Agree S (storing S p is v (hit (frame S) n (target p)) n) s u →
        Agree S n (stored S ops s p.root (value S ops s v) (place S ops s p)) (stored S ops u p.root (value S ops u v) (place S ops u p))
    unfolding storing AllMet
    storing-agree s u p [] v n e g =
        let m = needs-met S ops s u (of_value v (hit (frame S) n (target p)) ∷ []) _ g in
        let k = needs-rest S ops s u (of_value v (hit (frame S) n (target p)) ∷ []) _ g in
        unfold stored target in
        rw (place-static S ops s u p e s, place-static S ops s u p e u)
        (put-agree s u (target p) _ _ n
        (λ r l c. m.0 r (cov-hit (frame S) n (target p) r (within_leaf (frame S) (target p ++ r) l) c)) (without-agree s u (target p) n k))
    storing-agree s u p (i ∷ is) v n e g =
        let m = needs-met S ops s u (ask_whole v ∷ ask_whole i ∷ map ask_whole is) _ g in
        let k = needs-rest S ops s u (ask_whole v ∷ ask_whole i ∷ map ask_whole is) _ g in
        let z = place_same S ops s u p (rw e m.1) in
        rw (sym z) (stored-whole s u p.root _ _ _ n (λ q. ap (λ (f : Value). f q) (met_whole S ops s u v m.0)) k)

    perform-giving : ByComponent S ops → (s u : State) (x : Act) (n : PartReq) → some (overlap S x n) ≡ true →
        Agree S (giving S x (overlap S x n) n) s u → Agree S n (perform S ops s x) (perform S ops u x)
    unfolding giving overlap perform
    perform-giving B s u (emit e) n h g =
        cases (gives (arm S e))
        (λ i.
        let a = hit (frame S) n (slot (evaluated e)) in
        let f = rw i at g in
        let m = needs-met S ops s u (asks S (arm S e) a) _ f in
        let k = needs-rest S ops s u (asks S (arm S e) a) _ f in
        rw i
        (put-agree s u (slot (evaluated e)) _ _ n
        (λ r l c. evaluate-same S ops s u B e (arm S e) refl a m r (cov-hit (frame S) n (slot (evaluated e)) r (within_leaf (frame S) (slot (evaluated e) ++ r) l) c))
        (without-agree s u (slot (evaluated e)) n k)))
        (λ i. never (rw i at h))
    perform-giving B s u (store p v) n h g = storing-agree s u (path_of S p) _ v n refl g

    -- the needs before an act
    pub perform-before : ByComponent S ops → (x : Act) (n : PartReq) (s u : State) → Agree S (before S x n) s u → Agree S n (perform S ops s x) (perform S ops u x)
    unfolding before
    perform-before B x n s u g =
        cases (some (overlap S x n))
        (λ h. perform-giving B s u x n h (rw h at g))
        (λ h q c. sym (perform-spared x n s h q c) ∙ (rw h at g) q c ∙ perform-spared x n u h q c)

    pub perform-idle : (x : Act) (n : PartReq) (s : State) → idle S x n ≡ true → Agree S n s (perform S ops s x)
    unfolding idle
    perform-idle x n s h = perform-spared x n s (not-true _ h)
