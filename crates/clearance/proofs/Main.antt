-- The frame lemma: an unmarked statement that obeys its rule leaves what is needed as it was and ends at its end. The main lemma: two
-- runs of one statement from states that agree on the needs before it end alike, and agree on the needs after that end.
use Prim.Native.Nat.{ℕ, zero, suc, ◌<◌}
use native.Mathlib.Omega.{arith}
use native.Mathlib.Decide.{ℕ_discrete}
use mathlib.Core.Path.{◌≡◌, refl, sym, ◌∙◌}
use mathlib.Core.Bool.{Bool, true, false, cond}
use mathlib.Core.List.{List, [], ◌∷◌, ◌++◌}
use mathlib.Core.Option.{Option, some as present, none as nothing}
use lib.Dec.{eqb}
use lib.ListN.{length}
use borrow.Author.Tests.{eq-eqb}
use Rattle.field.specs.Limits.{absent}
use Rattle.part.specs.PartReq.{PartReq, contains}
use Rattle.part.proofs.Equations.{never}
use Rattle.module.specs.Module.{ExpressionHandle}
use Rattle.clearance.specs.Shape.{leaf, cov, begins, after}
use Rattle.clearance.specs.Scope.{Scope, Place, slot, result, frame}
use Rattle.clearance.specs.Tree.{Tree, nop, seq, act, branch, switch, loop, break, continue, return, unmarked}
use Rattle.clearance.specs.Needs.{of_value, Exit, next, broke, continued, returned, upon, out_break, out_continue, of_case, of_continuing, of_body, union}
use Rattle.clearance.specs.Needs.{quiet, only_next, obeys, turning, valued, after_continuing, Setting, walk, after_body, lacking, broken, stable}
use Rattle.clearance.proofs.Small.{both_true, neither, unbroken, each_at, concat-at}
use Rattle.clearance.proofs.Cov.{cov-add-left, cov-add-right, cov-contains}
use Rattle.clearance.specs.Run.{Value, State, Operators, look, put, zeroes, onward, is_zero, number_of, give_back, Outcome, unended, ended, then, end_by, turns, position, or_else, pick, in_picked}
use Rattle.clearance.specs.Run.{Mode, everything, needed_only, passing, again, exec}
use Rattle.clearance.specs.Claim.{ByComponent}
use Rattle.clearance.proofs.Agree.{Agree, look-leaf, look-by, AllMet, needs-rest, needs-met, wholly-rest, wholly-zero, wholly-number}
use Rattle.clearance.proofs.Acts.{put-off, perform-before, perform-idle}

-- Small things

begins-own : (p q : Place) → begins p (p ++ q) ≡ true
unfolding begins
begins-own [] q = refl
begins-own (i ∷ p) q = rw (eq-eqb i i refl) (begins-own p q)

after-own : (p q : Place) → after p (p ++ q) ≡ q
unfolding after
after-own [] q = refl
after-own (i ∷ p) q = after-own p q

put_at : (s : State) (v : Value) (p q : Place) → put p v s (p ++ q) ≡ v q
unfolding put
put_at s v p q = rw (begins-own p q, after-own p q)

-- a case that is picked is one of the switch
Within : ℕ → Option ℕ → Type 0
Within n nothing = Unit
Within n (present i) = i < n

within_onward : (n : ℕ) (o : Option ℕ) → Within n o → Within (suc n) (onward o (λ i. present (suc i)))
unfolding Within onward
within_onward n nothing h = tt
within_onward n (present i) h = omega arith

within_cond : (n : ℕ) (b : Bool) (x y : Option ℕ) → Within n x → Within n y → Within n (cond b x y)
within_cond n true x y h g = h
within_cond n false x y h g = g

position-within : (v : ℕ) (xs : List ℕ) → Within (length xs) (position v xs)
unfolding Within position
position-within v [] = tt
position-within v (x ∷ xs) = within_cond _ (eqb x v) _ _ (omega arith) (within_onward (length xs) (position v xs) (position-within v xs))

else_within : (n : ℕ) (x y : Option ℕ) → Within n x → Within n y → Within n (or_else x y)
unfolding or_else
else_within n nothing y h g = g
else_within n (present i) y h g = h

option_within : (xs : List ℕ) (o : Option ℕ) → Within (length xs) (onward o (λ v. position v xs))
unfolding Within onward
option_within xs nothing = tt
option_within xs (present v) = position-within v xs

pick-within : (xs : List ℕ) (o : Option ℕ) → Within (length xs) (pick xs o)
unfolding pick
pick-within xs o = else_within _ _ _ (option_within xs o) (position-within absent xs)

-- Ends

-- an end of a run of a quiet statement from s
data Held (Like : State → State → Type 0) (e : Exit → Bool) (s : State) : Outcome → Type 0 where
  going : Held Like e s unended
  held : {x : Exit} {t : State} → e x ≡ true → Like s t → Held Like e s (ended x t)

-- ends of two runs, with what holds of them by exit
pub data Alike (P : Exit → State → State → Type 0) : Outcome → Outcome → Type 0 where
  left : {r : Outcome} → Alike P unended r
  right : {r : Outcome} → Alike P r unended
  ends : {x : Exit} {s t : State} → P x s t → Alike P (ended x s) (ended x t)

held_then : (L : State → State → Type 0) (e : Exit → Bool) (s : State) (r : Outcome) (f : State → Outcome) →
    Held L e s r → ((t : State) → L s t → Held L e s (f t)) → Held L e s (then r f)
unfolding then
held_then L e s r f going g = going
held_then L e s r f (held {x = next} h l) g = g _ l
held_then L e s r f (held {x = broke} h l) g = held h l
held_then L e s r f (held {x = continued} h l) g = held h l
held_then L e s r f (held {x = returned} h l) g = held h l

held_end : (L : State → State → Type 0) (d e : Exit → Bool) (out : Exit → Exit) → ((x : Exit) → d x ≡ true → e (out x) ≡ true) → (s : State) (r : Outcome) →
    Held L d s r → Held L e s (end_by out r)
unfolding end_by
held_end L d e out f s r going = going
held_end L d e out f s r (held {x = x} h l) = held (f x h) l

alike_then : (P Q : Exit → State → State → Type 0) (r q : Outcome) (f g : State → Outcome) → Alike P r q →
    ((s t : State) → P next s t → Alike Q (f s) (g t)) → ((s t : State) → P broke s t → Q broke s t) →
    ((s t : State) → P continued s t → Q continued s t) → ((s t : State) → P returned s t → Q returned s t) → Alike Q (then r f) (then q g)
unfolding then
alike_then P Q r q f g left n b c d = left
alike_then P Q r q f g right n b c d = right
alike_then P Q r q f g (ends {x = next} h) n b c d = n _ _ h
alike_then P Q r q f g (ends {x = broke} h) n b c d = ends (b _ _ h)
alike_then P Q r q f g (ends {x = continued} h) n b c d = ends (c _ _ h)
alike_then P Q r q f g (ends {x = returned} h) n b c d = ends (d _ _ h)

alike_end : (P Q : Exit → State → State → Type 0) (out : Exit → Exit) → ((x : Exit) (s t : State) → P x s t → Q (out x) s t) → (r q : Outcome) →
    Alike P r q → Alike Q (end_by out r) (end_by out q)
unfolding end_by
alike_end P Q out f r q left = left
alike_end P Q out f r q right = right
alike_end P Q out f r q (ends {x = x} h) = ends (f x _ _ h)

either : (P : Outcome → Type 0) (b : Bool) (r q : Outcome) → P r → P q → P (cond b r q)
either P true r q h k = h
either P false r q h k = k

passed : (P : Outcome → Type 0) (m : Mode) (r q : Outcome) → P r → P q → P (passing m r q)
unfolding passing
passed P everything r q h k = h
passed P needed_only r q h k = k

in-picked : (P : Outcome → Type 0) (n : ℕ) (o : Option ℕ) (f : ℕ → Outcome) → Within n o → P unended → ((i : ℕ) → i < n → P (f i)) → P (in_picked o f)
unfolding Within in_picked
in-picked P n nothing f w u h = u
in-picked P n (present i) f w u h = h i w

alike_picked : (P : Exit → State → State → Type 0) (n : ℕ) (o : Option ℕ) (f g : ℕ → Outcome) → Within n o → ((i : ℕ) → i < n → Alike P (f i) (g i)) →
    Alike P (in_picked o f) (in_picked o g)
unfolding Within in_picked
alike_picked P n nothing f g w h = left
alike_picked P n (present i) f g w h = h i w

alike_cond : (P : Exit → State → State → Type 0) (b : Bool) (r r' q q' : Outcome) → Alike P r q → Alike P r' q' → Alike P (cond b r r') (cond b q q')
alike_cond P true r r' q q' h l = h
alike_cond P false r r' q q' h l = l

only_next-is : (x : Exit) → only_next x ≡ true → x ≡ next
unfolding only_next
only_next-is next h = refl
only_next-is broke h = never h
only_next-is continued h = never h
only_next-is returned h = never h

-- The frame lemma

module _ (S : Scope) (ops : Operators) where
  held-from : (m : PartReq) (e : Exit → Bool) (s t : State) (r : Outcome) → Agree S m s t → Held (Agree S m) e t r → Held (Agree S m) e s r
  held-from m e s t r g going = going
  held-from m e s t r g (held h l) = held h (λ q c. g q c ∙ l q c)

  held_turns : (m : PartReq) (e : Exit → Bool) (f : State → Outcome) → ((s : State) → Held (Agree S m) e s (f s)) →
      (n : ℕ) (s : State) → Held (Agree S m) e s (turns f n s)
  unfolding turns
  held_turns m e f h zero s = going
  held_turns m e f h (suc n) s = held_then (Agree S m) e s (f s) (turns f n) (h s) (λ t g. held-from m e s t _ g (held_turns m e f h n t))

  held_again : (mode : Mode) (fuel : ℕ) (m : PartReq) (e : Exit → Bool) → e next ≡ true → (c : Option ExpressionHandle) (s : State) →
      Held (Agree S m) (of_continuing true e) s (again S ops mode fuel c s)
  unfolding again of_continuing upon of_case out_break
  held_again mode fuel m e i nothing s = held refl (λ q c. refl)
  held_again mode fuel m e i (present c) s =
      either (Held (Agree S m) (of_continuing true e) s) (is_zero S ops s c) _ _ (held refl (λ q c. refl)) (held i (λ q c. refl))

  out_body : (e : Exit → Bool) (x : Exit) → of_body true e x ≡ true → of_continuing true e (out_continue x) ≡ true
  unfolding of_body
  out_body e x h = h

  out_loop : (e : Exit → Bool) → e next ≡ true → (x : Exit) → of_continuing true e x ≡ true → e (out_break x) ≡ true
  unfolding of_continuing upon of_case out_break
  out_loop e i next h = i
  out_loop e i broke h = h
  out_loop e i continued h = h
  out_loop e i returned h = h

  case_next : (e : Exit → Bool) → e next ≡ true → of_case e next ≡ true
  unfolding of_case out_break
  case_next e h = h

  body-next : (e : Exit → Bool) → of_body true e next ≡ true
  unfolding of_body out_continue of_continuing upon
  body-next e = refl

  continuing_returned : (e : Exit → Bool) → e returned ≡ false → of_continuing true e returned ≡ false
  unfolding of_continuing upon of_case out_break
  continuing_returned e h = h

  body_returned : (e : Exit → Bool) → e returned ≡ false → of_body true e returned ≡ false
  unfolding of_body out_continue of_continuing upon of_case out_break
  body_returned e h = h

  continuing_next : (e : Exit → Bool) → of_continuing true e next ≡ true
  unfolding of_continuing upon
  continuing_next e = refl

  frames : (fuel : ℕ) (mode : Mode) (a : Tree) (m : PartReq) (e : Exit → Bool) (s : State) →
      e next ≡ true → e returned ≡ false → quiet S m a e ≡ true → Held (Agree S m) e s (exec S ops mode fuel a s)
  unfolding quiet exec
  frames n mode nop m e s i o h = held i (λ q c. refl)
  frames n mode (seq a b) m e s i o h =
      let q = both_true _ _ h in
      held_then (Agree S m) e s _ _ (frames n mode a m e s i o q.0) (λ t g. held-from m e s t _ g (frames n mode b m e t i o q.1))
  frames n mode (act x) m e s i o h = held i (perform-idle S ops x m s h)
  frames n mode (branch c a b) m e s i o h =
      let q = both_true _ _ h in
      either (Held (Agree S m) e s) (is_zero S ops s c) _ _ (frames n mode b m e s i o q.1) (frames n mode a m e s i o q.0)
  frames n mode (switch c vs f) m e s i o h =
      held_end (Agree S m) (of_case e) e out_break (λ x k. unfold of_case in k) s _
      (in-picked (Held (Agree S m) (of_case e) s) (length vs) _ _ (pick-within vs (number_of S ops s c)) going
      (λ j l. frames n mode (f j) m (of_case e) s (case_next e i) (unfold of_case out_break in o) (each_at (length vs) (λ k. quiet S m (f k) (of_case e)) h j l)))
  frames n mode (loop l a b c) m e s i o h =
      let q = both_true _ _ h in
      let d = of_continuing true e in
      held_end (Agree S m) d e out_break (out_loop e i) s _
      (held_turns m d _
      (λ t.
      held_then (Agree S m) d t _ _ (held_end (Agree S m) (of_body true e) d out_continue (out_body e) t _ (frames n mode a m (of_body true e) t (body-next e) (body_returned e o) q.0))
      (λ u g. held-from m d t u _ g
      (held_then (Agree S m) d u _ _ (frames n mode b m d u (continuing_next e) (continuing_returned e o) q.1) (λ w k. held-from m d u w _ k (held_again mode n m e i c w)))))
      n s)
  frames n mode (break l) m e s i o h = held h (λ q c. refl)
  frames n mode (continue l) m e s i o h = held h (λ q c. refl)
  frames n mode (return l v) m e s i o h = never (sym o ∙ h)
  frames n mode (unmarked l mark a) m e s i o h = passed (Held (Agree S m) e s) mode _ _ (frames n mode a m e s i o h) (held i (λ q c. refl))

  frames_obey : (fuel : ℕ) (mode : Mode) (i mark : ℕ) (a : Tree) (m : PartReq) (s : State) → obeys S m a ≡ true →
      Held (Agree S m) only_next s (exec S ops mode fuel (unmarked i mark a) s)
  unfolding obeys quiet only_next
  frames_obey fuel mode i mark a m s h = frames fuel mode (unmarked i mark a) m only_next s refl refl h

-- The main lemma

module _ (W : Setting) (ops : Operators) (B : ByComponent W.scope ops) where
  abbrev S : Scope
  S = W.scope

  -- what a return leaves: the needs of the end outside the returned value, and its asked part
  abbrev pub Returned : PartReq → State → State → Type 0
  Returned n s t =
      ((q : Place) → begins (slot result) q ≡ false → cov n q ≡ true → look W.scope s q ≡ look W.scope t q)
      × ((q : List ℕ) → cov W.asked q ≡ true → look W.scope s (slot result ++ q) ≡ look W.scope t (slot result ++ q))

  -- what holds after a statement, by exit
  unfoldable pub After : (Exit → PartReq) → Exit → State → State → Type 0
  After k next s t = Agree W.scope (k next) s t
  After k broke s t = Agree W.scope (k broke) s t
  After k continued s t = Agree W.scope (k continued) s t
  After k returned s t = Returned (k returned) s t

  into_case : (k : Exit → PartReq) (x : Exit) (s t : State) → After (of_case k) x s t → After k (out_break x) s t
  unfolding After of_case out_break
  into_case k next s t h = h
  into_case k broke s t h = h
  into_case k continued s t h = h
  into_case k returned s t h = h

  into_body : (m : PartReq) (k : Exit → PartReq) (x : Exit) (s t : State) → After (of_body m k) x s t → After (of_continuing m k) (out_continue x) s t
  unfolding After of_body out_continue
  into_body m k next s t h = h
  into_body m k broke s t h = h
  into_body m k continued s t h = h
  into_body m k returned s t h = h

  -- a return's value
  returns : (s t : State) (v w : Value) (n : PartReq) → Agree S n s t →
      ((q : List ℕ) → cov W.asked q ≡ true → leaf (frame S) (slot result ++ q) ≡ true → v q ≡ w q) → Returned n (put (slot result) v s) (put (slot result) w t)
  returns s t v w n g h = (outside, within)
    where
      outside : (q : Place) → begins (slot result) q ≡ false → cov n q ≡ true → look S (put (slot result) v s) q ≡ look S (put (slot result) w t) q
      outside q e c =
          look-by S _ _ q
          (λ l. look-leaf S _ q l ∙ put-off s v (slot result) q e ∙ sym (look-leaf S s q l) ∙ g q c ∙ look-leaf S t q l ∙ sym (put-off t w (slot result) q e) ∙ sym (look-leaf S _ q l))

      within : (q : List ℕ) → cov W.asked q ≡ true → look S (put (slot result) v s) (slot result ++ q) ≡ look S (put (slot result) w t) (slot result ++ q)
      within q c = look-by S _ _ (slot result ++ q) (λ l. look-leaf S _ _ l ∙ put_at s v (slot result) q ∙ h q c l ∙ sym (put_at t w (slot result) q) ∙ sym (look-leaf S _ _ l))

  valued-returns : (s t : State) (v : Option ExpressionHandle) (n : PartReq) → Agree S (valued S W.asked v n) s t →
      Returned n (give_back S ops s v) (give_back S ops t v)
  unfolding valued give_back AllMet
  valued-returns s t nothing n g = returns s t zeroes zeroes n g (λ q c l. refl)
  valued-returns s t (present v) n g =
      returns s t _ _ n (needs-rest S ops s t (of_value v W.asked ∷ []) n g) (λ q c l. (needs-met S ops s t (of_value v W.asked ∷ []) n g).0 q c)

  union-at : (n : ℕ) (f : ℕ → PartReq) (s t : State) → Agree S (union n f) s t → (i : ℕ) → i < n → Agree S (f i) s t
  unfolding union
  union-at zero f s t g i l = absurd (omega arith)
  union-at (suc n) f s t g i l =
      elim (ℕ_discrete i n) [
        | yes e ↦ rw e (λ q c. g q (cov-add-left (f n) (union n f) q c))
        | no e ↦ union-at n f s t (λ q c. g q (cov-add-right (f n) (union n f) q c)) i (omega arith)
      ]

  holds_agree : (m n : PartReq) (s t : State) → contains m n ≡ true → Agree S m s t → Agree S n s t
  holds_agree m n s t h g q c = g q (cov-contains m n q h c)

  alike_held : (k : Exit → PartReq) (s t : State) (r q : Outcome) →
      Agree S (k next) s t → Held (Agree S (k next)) only_next s r → Held (Agree S (k next)) only_next t q → Alike (After k) r q
  unfolding After
  alike_held k s t r q g going y = left
  alike_held k s t r q g (held h l) going = right
  alike_held k s t r q g (held {x = x} {t = s'} h l) (held {x = y} {t = t'} i o) =
      rw (only_next-is x h, only_next-is y i) (ends {x = next} (λ z c. sym (l z c) ∙ g z c ∙ o z c))

  module _ (r : ℕ → PartReq) (one other : Mode) (m n : ℕ) where
    alike_again : (again' : PartReq) (c : Option ExpressionHandle) (k : Exit → PartReq) (s t : State) → Agree S (turning S again' c (k next)) s t →
        Alike (After (upon again' (of_case k))) (again S ops one m c s) (again S ops other n c t)
    unfolding turning again After upon of_case out_break
    alike_again again' nothing k s t g = ends g
    alike_again again' (present c) k s t g =
        let z = wholly-rest S ops s t c _ g in
        rw (wholly-zero S ops s t c _ g)
        (alike_cond (After (upon again' (of_case k))) (is_zero S ops t c) _ _ _ _
        (ends (λ q e. z q (cov-add-right (k next) again' q e))) (ends (λ q e. z q (cov-add-left (k next) again' q e))))

    alike_turns : (k : Exit → PartReq) (l o : PartReq) (f g : State → Outcome) → contains l o ≡ true →
        ((s t : State) → Agree S o s t → Alike (After (upon l (of_case k))) (f s) (g t)) →
        (x y : ℕ) (s t : State) → Agree S o s t → Alike (After (of_case k)) (turns f x s) (turns g y t)
    unfolding turns After upon
    alike_turns k l o f g i h zero y s t a = left
    alike_turns k l o f g i h (suc x) zero s t a = right
    alike_turns k l o f g i h (suc x) (suc y) s t a =
        alike_then (After (upon l (of_case k))) (After (of_case k)) _ _ _ _ (h s t a)
        (λ s' t' b. alike_turns k l o f g i h x y s' t' (holds_agree l o s' t' i b)) (λ s t z. z) (λ s t z. z) (λ s t z. z)

    pub main : (a : Tree) (k : Exit → PartReq) (s t : State) →
        broken W r a k ≡ [] → stable W r a k ≡ true → Agree S (walk W r a k) s t → Alike (After k) (exec S ops one m a s) (exec S ops other n a t)
    unfolding lacking stable walk exec after_body after_continuing After upon of_continuing
    main nop k s t b c g = ends {x = next} g
    main (seq a d) k s t b c g =
        let q = both_true _ _ c in
        let p = neither _ _ b in
        alike_then (After (upon (walk W r d k) k)) (After k) _ _ _ _ (main a (upon (walk W r d k) k) s t p.0 q.0 g)
        (λ s' t' h. main d k s' t' p.1 q.1 (h))
        (λ s t z. z) (λ s t z. z) (λ s t z. z)
    main (act x) k s t b c g = ends {x = next} (perform-before S ops B x (k next) s t g)
    main (branch x a d) k s t b c g =
        let q = both_true _ _ c in
        let p = neither _ _ b in
        let j = wholly-rest S ops s t x _ g in
        rw (wholly-zero S ops s t x _ g)
        (alike_cond (After k) (is_zero S ops t x) _ _ _ _
        (main d k s t p.1 q.1 (λ z e. j z (cov-add-right (walk W r a k) _ z e)))
        (main a k s t p.0 q.0 (λ z e. j z (cov-add-left _ (walk W r d k) z e))))
    main (switch x vs f) k s t b c g =
        rw (wholly-number S ops s t x _ g)
        (alike_end (After (of_case k)) (After k) out_break (into_case k) _ _
        (alike_picked (After (of_case k)) (length vs) _ _ _ (pick-within vs (number_of S ops t x))
        (λ i l.
        main (f i) (of_case k) s t (concat-at (length vs) (λ i. broken W r (f i) (of_case k)) b i l) (each_at (length vs) (λ i. stable W r (f i) (of_case k)) c i l)
        (union-at (length vs) (λ i. walk W r (f i) (of_case k)) s t (wholly-rest S ops s t x _ g) i l))))
    main (loop l a d x) k s t b c g =
        let q = both_true _ _ c in
        let u = both_true _ _ q.1 in
        let p = neither _ _ b in
        let mt = turning S (r l) x (k next) in
        let md = walk W r d (after_continuing S (r l) x k) in
        alike_end (After (of_case k)) (After k) out_break (into_case k) _ _
        (alike_turns k (r l) _ _ _ q.0
        (λ s' t' h.
        alike_then (After (of_continuing md k)) (After (upon (r l) (of_case k))) _ _ _ _
        (alike_end (After (of_body md k)) (After (of_continuing md k)) out_continue (into_body md k) _ _ (main a (after_body W r l d x k) s' t' p.0 u.0 h))
        (λ s'' t'' h'.
        alike_then (After (of_continuing mt k)) (After (upon (r l) (of_case k))) _ _ _ _
        (main d (after_continuing S (r l) x k) s'' t'' p.1 u.1 (h'))
        (λ s''' t''' h''. alike_again (r l) x k s''' t''' (h''))
        (λ s t z. z) (λ s t z. z) (λ s t z. z))
        (λ s t z. z) (λ s t z. z) (λ s t z. z))
        m n s t g)
    main (break l) k s t b c g = ends {x = broke} g
    main (continue l) k s t b c g = ends {x = continued} g
    main (return l v) k s t b c g = ends {x = returned} (valued-returns s t v (k returned) g)
    main (unmarked i mark a) k s t b c g =
        let q = unbroken (obeys S (k next) a) i _ b in
        alike_held k s t _ _ (rw q at g)
        (frames_obey S ops m one i mark a (k next) s q) (frames_obey S ops n other i mark a (k next) t q)
