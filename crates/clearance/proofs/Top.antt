-- Demand 3: the starts agree on the needs at the start, since a change that is unneeded lies outside what the context has; the main
-- lemma carries that through both runs; what is asked at the end is what they agree on there.
use Prim.Native.Nat.{ℕ, ◌≤◌}
use native.Mathlib.Omega.{arith}
use mathlib.Core.Path.{◌≡◌, refl, sym, ap, ◌∙◌}
use mathlib.Core.Bool.{true, false, not}
use mathlib.Core.List.{List, [], ◌∷◌, ◌++◌}
use mathlib.Core.Option.{some}
use borrow.Author.Tests.{eq-eqb}
use Rattle.part.specs.PartReq.{PartReq, all, exist, none, more, get_subpart, contains}
use Rattle.part.proofs.Equations.{before as less, after as greater, at as level, way, never}
use Rattle.clearance.specs.Shape.{cov, or_none, below, under, begins, after}
use Rattle.clearance.specs.Scope.{Scope, Slot, global, local, argument, result, evaluated, variable, Place, slot, frame}
use Rattle.clearance.specs.Needs.{Exit, next, broke, continued, returned, reentry}
use Rattle.clearance.specs.Verdict.{Request, Report, ending, setting, body, start_needs, faults, needs_expression, starts}
use Rattle.clearance.proofs.Small.{cases, both_true}
use Rattle.clearance.proofs.Cov.{cov-none, cov-exist, cov-all, cov-or_none, cov-below, cov-contains, cov-trim, cov-after, cov-before, cov-here, within_leaf, starts_rest}
use Rattle.clearance.proofs.Cleared.{clear-passed, passed_stable}
use Rattle.clearance.specs.Run.{Value, State, Operators, put, zeroes, Outcome, begin, final, run}
use Rattle.clearance.specs.Claim.{ByComponent, context, entry_at, entries_at, bare, is_input, Unneeded, Changed, unchanged, changed, asked, Required, Demand3}
use Rattle.clearance.proofs.Agree.{Agree, look-leaf, look-by}
use Rattle.clearance.proofs.Values.{regroup}
use Rattle.clearance.proofs.Acts.{put-off}
use Rattle.clearance.proofs.Main.{Alike, left, right, ends, Returned, After, main}

-- Contexts

bare-cov : (p : PartReq) (q : List ℕ) → bare p ≡ true → cov p q ≡ false
unfolding bare cov
bare-cov all q h = never h
bare-cov exist q h = cov-exist q
bare-cov none q h = cov-none q
bare-cov (more i p r) [] h = refl
bare-cov (more i p r) (j ∷ q) h =
    let e = both_true (bare p) (bare r) h in
    elim (way i j) [
      | less l ↦ cov-after i j p r q l ∙ bare-cov r (j ∷ q) e.1
      | greater l ↦ cov-before i j p r q l
      | level eq ↦ let l : j ≤ i = omega arith in let m : i ≤ j = omega arith in cov-here i j p r q l m ∙ bare-cov p q e.0
    ]

-- what is covered below a path is covered at or above it, or by the entries there
entries_cov : (p : PartReq) (q r : List ℕ) → cov p q ≡ false → cov p (q ++ r) ≡ true → cov (entries_at p q) r ≡ true
unfolding entries_at entry_at cov
entries_cov p [] r h c = c
entries_cov all (j ∷ q) r h c = never (sym h ∙ cov-all (j ∷ q))
entries_cov exist (j ∷ q) r h c = never (sym (cov-exist (j ∷ (q ++ r))) ∙ c)
entries_cov none (j ∷ q) r h c = never (sym (cov-none (j ∷ (q ++ r))) ∙ c)
entries_cov (more i p s) (j ∷ q) r h c =
    entries_cov (or_none (get_subpart (more i p s) j)) q r (cov-or_none (get_subpart (more i p s) j) q ∙ h) (cov-or_none (get_subpart (more i p s) j) (q ++ r) ∙ c)

module _ (P : Report) (n : PartReq) (h : starts P n ≡ true) where
  globals-in : contains P.globals (below n (variable 0 ∷ [])) ≡ true
  unfolding starts
  globals-in = (both_true _ _ (both_true (not (needs_expression n)) _ h).1).0

  args_in : contains P.args (below n (variable 2 ∷ [])) ≡ true
  unfolding starts
  args_in = (both_true (contains P.globals (below n (variable 0 ∷ []))) _ (both_true (not (needs_expression n)) _ h).1).1

  global_cov : (q : List ℕ) → cov n (variable 0 ∷ q) ≡ true → cov (context P) (variable 0 ∷ q) ≡ true
  unfolding context
  global_cov q c =
      cov-here (variable 0) (variable 0) P.globals _ q (omega arith) (omega arith)
      ∙ cov-contains _ _ q globals-in (cov-below n (variable 0 ∷ []) q ∙ c)

  arg_cov : (q : List ℕ) → cov n (variable 2 ∷ q) ≡ true → cov (context P) (variable 2 ∷ q) ≡ true
  unfolding context
  arg_cov q c =
      cov-after (variable 0) (variable 2) P.globals _ q (omega arith)
      ∙ cov-here (variable 2) (variable 2) P.args _ q (omega arith) (omega arith)
      ∙ cov-contains _ _ q args_in (cov-below n (variable 2 ∷ []) q ∙ c)

  -- what is needed of an input, the context has
  input_cov : (x : Slot) → is_input x ≡ true → (r : List ℕ) → cov n (slot x ++ r) ≡ true → cov (context P) (slot x ++ r) ≡ true
  unfolding slot
  input_cov (global g) i r c = global_cov (variable g ∷ r) c
  input_cov (local l) i r c = never i
  input_cov (argument a) i r c = arg_cov (variable a ∷ r) c
  input_cov result i r c = never i
  input_cov (evaluated e) i r c = never i

-- Starts

module _ (P : Report) (n : PartReq) (h : starts P n ≡ true) where
  -- a needed place is outside an unneeded part
  apart : (x : Slot) (q : List ℕ) → Unneeded P x q → (p : Place) → cov n p ≡ true → begins (slot x ++ q) p ≡ false
  apart x q U p c =
      cases (begins (slot x ++ q) p)
      (λ e.
      let z = starts_rest (slot x ++ q) p e in
      let r = after (slot x ++ q) p in
      let y = regroup (slot x) q r in
      let d = input_cov P n h x U.input (q ++ r) (ap (cov n) (sym y ∙ z) ∙ c) in
      never (sym (bare-cov _ r U.beneath) ∙ entries_cov (context P) (slot x ++ q) r U.above (ap (cov (context P)) y ∙ d)))
      (λ e. e)

  begin-same : (s u : State) (p : Place) → s p ≡ u p → begin s p ≡ begin u p
  unfolding begin
  begin-same s u p e = rw e

  pub starts_agree : (S : Scope) (a b : State) → Changed P a b → Agree S n (begin a) (begin b)
  starts_agree S a b unchanged q c = refl
  starts_agree S a b (changed {b = w} x q v U d) p c =
      starts_agree S a w d p c
      ∙ look-by S (begin w) _ p
      (λ l. look-leaf S (begin w) p l ∙ begin-same w (put (slot x ++ q) v w) p (sym (put-off w v (slot x ++ q) p (apart x q U p c))) ∙ sym (look-leaf S _ p l))

-- Outputs

asked-global : (R : Request) (p : Place) → cov (asked R) p ≡ true → begins (slot result) p ≡ false → cov (under (variable 0 ∷ []) R.globals) p ≡ true
unfolding asked under slot begins
asked-global R [] c e = never (unfold cov in c)
asked-global R (j ∷ q) c e =
    elim (way (variable 0) j) [
      | level eq ↦ let l : j ≤ (variable 0) = omega arith in let m : (variable 0) ≤ j = omega arith in cov-here (variable 0) j _ _ q l m ∙ sym (cov-here (variable 0) j _ _ q l m) ∙ c
      | greater l ↦ never (sym (cov-before (variable 0) j _ _ q l) ∙ c)
      | less l ↦
          let d = sym (cov-after (variable 0) j R.globals _ q l) ∙ c in
          elim (way (variable 3) j) [
            | level eq ↦ let k : j ≤ (variable 3) = omega arith in let m : (variable 3) ≤ j = omega arith in never (sym (rw (eq-eqb (variable 3) j (omega arith)) at e))
            | greater k ↦ never (sym (cov-before (variable 3) j _ _ q k) ∙ d)
            | less k ↦ never (sym (cov-none (j ∷ q)) ∙ sym (cov-after (variable 3) j R.value none q k) ∙ d)
          ]
    ]

asked-result : (R : Request) (r : List ℕ) → cov (asked R) (slot result ++ r) ≡ true → cov R.value r ≡ true
unfolding asked slot
asked-result R r c =
    sym (cov-here (variable 3) (variable 3) R.value none r (omega arith) (omega arith))
    ∙ sym (cov-after (variable 0) (variable 3) R.globals _ r (omega arith)) ∙ c

put-inside : (s u : State) (v : Value) (p q : Place) → begins p q ≡ true → put p v s q ≡ put p v u q
unfolding put
put-inside s u v p q e = rw e

module _ (S : Scope) (R : Request) (p : Place) (Q : Required S R p) where
  ending-cov : (x : Exit) → begins (slot result) p ≡ false → cov (ending S R x) p ≡ true
  unfolding ending
  ending-cov x e = cov-trim _ (frame S) p (within_leaf (frame S) p Q.exists) (asked-global R p Q.wanted e)

  plain : (s t : State) (x : Exit) → Agree S (ending S R x) s t → put (slot result) zeroes s p ≡ put (slot result) zeroes t p
  plain s t x g =
      cases (begins (slot result) p) (put-inside s t zeroes (slot result) p)
      (λ e.
      put-off s zeroes (slot result) p e ∙ sym (look-leaf S s p Q.exists) ∙ g p (ending-cov x e) ∙ look-leaf S t p Q.exists
      ∙ sym (put-off t zeroes (slot result) p e))

  returning : (ops : Operators) (B : ByComponent S ops) (s t : State) → Returned (setting S R) ops B (ending S R returned) s t → s p ≡ t p
  returning ops B s t g =
      sym (look-leaf S s p Q.exists)
      ∙ cases (begins (slot result) p)
      (λ e.
      let z = starts_rest (slot result) p e in
      rw z at (g.1 (after (slot result) p) (asked-result R _ (ap (cov (asked R)) z ∙ Q.wanted))))
      (λ e. g.0 p e (ending-cov returned e))
      ∙ look-leaf S t p Q.exists

  outputs : (ops : Operators) (B : ByComponent S ops) (x y : Outcome) (s t : State) → Alike (After (setting S R) ops B (ending S R)) x y →
      final x ≡ some s → final y ≡ some t → s p ≡ t p
  unfolding final After
  outputs ops B x y s t left e f = cc
  outputs ops B x y s t right e f = cc
  outputs ops B x y s t (ends {x = next} {s = a} {t = b} g) e f =
      let z : put (slot result) zeroes a ≡ s = cc e in
      let w : put (slot result) zeroes b ≡ t = cc f in
      rw z at (rw w at (plain a b next g))
  outputs ops B x y s t (ends {x = broke} {s = a} {t = b} g) e f =
      let z : put (slot result) zeroes a ≡ s = cc e in
      let w : put (slot result) zeroes b ≡ t = cc f in
      rw z at (rw w at (plain a b broke g))
  outputs ops B x y s t (ends {x = continued} {s = a} {t = b} g) e f =
      let z : put (slot result) zeroes a ≡ s = cc e in
      let w : put (slot result) zeroes b ≡ t = cc f in
      rw z at (rw w at (plain a b continued g))
  outputs ops B x y s t (ends {x = returned} {s = a} {t = b} g) e f =
      let z : a ≡ s = cc e in
      let w : b ≡ t = cc f in
      rw z at (rw w at (returning ops B a b g))

pub demand3 : Demand3
unfolding run start_needs faults
demand3 = record {
  holds = λ S R P c ops B a b d one other m n s t e f p Q.
      let z = clear-passed S R P c in
      let C = z.1 in
      outputs S R p Q ops B _ _ s t
      (main (setting S R) ops B (reentry z.0) one other m n (body S P) (ending S R) (begin a) (begin b) C.rules (passed_stable S R P z.0 C)
      (starts_agree P _ C.start S a b d))
      e f;
}
