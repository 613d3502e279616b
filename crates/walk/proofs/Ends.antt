-- What holds where a walk goes on, and of the refusal's number where it does not, carried through sequencing.
use mathlib.Core.Path.{◌≡◌, refl}
use mathlib.Core.Bool.{Bool, true, false, cond, ◌&&◌, ◌||◌}
use Prim.Native.Nat.{ℕ, ◌<◌, ◌≤◌}
use native.Mathlib.Omega.{arith}
use lib.Dec.{leb, ltb, eqb}
use borrow.Author.Tests.{ltb-true, ltb-false, leb-true, eqb-true}
use Rattle.field.specs.Limits.{max_pieces, max_visits}
use Rattle.part.specs.PartReq.{PartReq, over}
use Rattle.context.specs.RequiredContext.{RequiredContext, over_context}
use Rattle.walk.specs.State.{State, Place, Out, went, halt, Walk, ◌>>=◌, ◌>>◌, visited, count, counted, limited, limited_context, visit_when, visit}
use Rattle.walk.proofs.Bind.{and_left, and_right}

-- P holds of the state and the answer, if there is one, and N of the number of a refusal
pub data Ends {A : Type 0} (N : ℕ → Type 0) (P : State → A → Type 0) : Out A → Type 0 where
  ends : {st : State} {a : A} → P st a → Ends N P (went st a)
  stops : {n : ℕ} {at : Place} → N n → Ends N P (halt n at)

-- a number that a walk refuses by: 13 to 17, and 5, which no module that was read comes to
abbrev pub Told : ℕ → Type 0
Told n = (eqb n 5 || (leb 13 n && leb n 17)) ≡ true

pub told_range : (n : ℕ) → Told n → (5 ≤ n) × (n ≤ 17)
told_range n h = go (eqb n 5) refl h
  where
    go : (b : Bool) → eqb n 5 ≡ b → (b || (leb 13 n && leb n 17)) ≡ true → (5 ≤ n) × (n ≤ 17)
    go true e h = let z = eqb-true n 5 e in (omega arith, omega arith)
    go false e h =
        let a = leb-true 13 n (and_left (leb 13 n) (leb n 17) h) in
        let b = leb-true n 17 (and_right (leb 13 n) (leb n 17) h) in
        (omega arith, omega arith)

-- any number
abbrev pub Any : ℕ → Type 0
Any n = Unit {0}

abbrev Holds : {A : Type 0} → (ℕ → Type 0) → (State → A → Type 0) → Out A → Type 0
Holds N P (went st a) = P st a
Holds N P (halt n at) = N n

holds : {A : Type 0} (N : ℕ → Type 0) (P : State → A → Type 0) (x : Out A) → Ends N P x → Holds N P x
holds N P (went st a) (ends h) = h
holds N P (halt n at) (stops h) = h

-- where it is known what the outcome is
pub ended : {A : Type 0} {N : ℕ → Type 0} {P : State → A → Type 0} {x : Out A} {st : State} {a : A} → Ends N P x → x ≡ went st a → P st a
ended {N} {P} {x} {st} {a} h e = holds N P (went st a) (rw e at h)

-- a weaker claim
pub ends_weaker : {A : Type 0} {N M : ℕ → Type 0} {P R : State → A → Type 0} {x : Out A} → Ends N P x → ((n : ℕ) → N n → M n) → ((st : State) (a : A) → P st a → R st a) → Ends M R x
ends_weaker (ends {st} {a} h) g f = ends (f st a h)
ends_weaker (stops {n} h) g f = stops (g n h)

pub ends_then : {A B : Type 0} {N : ℕ → Type 0} {P : State → A → Type 0} {R : State → B → Type 0} {x : Out A} (k : State → A → Out B) → Ends N P x → ((st : State) (a : A) → P st a → Ends N R (k st a)) → Ends N R (x >>= k)
ends_then k (ends {st} {a} h) hk = hk st a h
ends_then k (stops h) hk = stops h

pub ends_next : {B : Type 0} {N : ℕ → Type 0} {P : State → Unit {0} → Type 0} {R : State → B → Type 0} {x : Out (Unit {0})} (k : Walk B) → Ends N P x → ((st : State) → P st tt → Ends N R (k st)) → Ends N R (x >> k)
ends_next k (ends {st} {a} h) hk = hk st h
ends_next k (stops h) hk = stops h

pub ends_limited : {P : State → Unit {0} → Type 0} (here : Place) (p : PartReq) (st : State) → (over p ≡ false → P st tt) → Ends Told P (limited here p st)
unfolding limited
ends_limited {P} here p st h = go (over p) refl
  where
    go : (b : Bool) → over p ≡ b → Ends Told P (cond (over p) (halt 15 here) (went st tt))
    go true e = rw e (stops refl)
    go false e = rw e (ends (h e))

pub ends_limited_context : {P : State → Unit {0} → Type 0} (here : Place) (c : RequiredContext) (st : State) → (over_context c ≡ false → P st tt) → Ends Told P (limited_context here c st)
unfolding limited_context
ends_limited_context {P} here c st h = go (over_context c) refl
  where
    go : (b : Bool) → over_context c ≡ b → Ends Told P (cond (over_context c) (halt 15 here) (went st tt))
    go true e = rw e (stops refl)
    go false e = rw e (ends (h e))

ends_counted : {N : ℕ → Type 0} {P : State → Unit {0} → Type 0} → N 16 → (held : ℕ) (here : Place) (st : State) → (ltb max_pieces (count held st) ≡ false → P st tt) → Ends N P (counted held here st)
unfolding counted
ends_counted {N} {P} tells held here st h = go (ltb max_pieces (count held st)) refl
  where
    go : (b : Bool) → ltb max_pieces (count held st) ≡ b → Ends N P (cond (ltb max_pieces (count held st)) (halt 16 here) (went st tt))
    go true e = rw e (stops tells)
    go false e = rw e (ends (h e))

-- A visit: what its arm brings about, from the state in which it is counted, and that 16 is not passed as it ends. It refuses as its arm does, or by a number of the walk.
pub ends_visit : {A : Type 0} {N : ℕ → Type 0} {P R : State → A → Type 0} → ((n : ℕ) → Told n → N n) → (held : ℕ) (here : Place) (arm : Walk A) (st : State) → (st.visits < max_visits → Ends N P (arm (visited st))) → ((left : State) (a : A) → P left a → count held left ≤ max_pieces → R left a) → Ends N R (visit held here arm st)
unfolding visit_when
ends_visit {A} {N} {P} {R} tells held here arm st h close = go (ltb st.visits max_visits) refl
  where
    go : (b : Bool) → ltb st.visits max_visits ≡ b → Ends N R (visit held here arm st)
    go true e =
        rw e
        (ends_then (λ ended a. counted held here ended >> λ left. went left a)
        (ends_next {P = λ s u. s ≡ visited st} arm (ends_counted (tells 16 refl) held here (visited st) (λ e. refl)) (λ s q. rw q (h (ltb-true st.visits max_visits e))))
        (λ ended a p.
        ends_next {P = λ s u. (s ≡ ended) × (count held ended ≤ max_pieces)} (λ left. went left a)
        (ends_counted (tells 16 refl) held here ended (λ e. (refl, ltb-false max_pieces (count held ended) e)))
        (λ s q. ends (rw q.0 (close ended a p q.1)))))
    go false e = rw e (stops (tells 17 refl))
