-- Sequencing: what a walk goes on with, once the answer of the one before is known.
use mathlib.Core.Path.{◌≡◌, refl}
use mathlib.Core.Bool.{Bool, true, false, ◌&&◌, false≢true}
use Prim.Native.Nat.{ℕ, ◌<◌, ◌≤◌}
use borrow.Author.Tests.{lt-ltb, le-ltb}
use Rattle.field.specs.Limits.{max_pieces, max_visits}
use Rattle.part.specs.PartReq.{PartReq, over}
use Rattle.walk.specs.State.{State, Place, Out, went, halt, Walk, ◌>>=◌, ◌>>◌, visited, count, counted, limited, visit_when, visit}

pub then_went : {A B : Type 0} {x : Out A} {st : State} {a : A} (k : State → A → Out B) → x ≡ went st a → (x >>= k) ≡ k st a
then_went k h = rw h

pub then_halt : {A B : Type 0} {x : Out A} {n : ℕ} {at : Place} (k : State → A → Out B) → x ≡ halt n at → (x >>= k) ≡ halt n at
then_halt k h = rw h

pub next_went : {B : Type 0} {x : Out (Unit {0})} {st : State} {a : Unit {0}} (k : Walk B) → x ≡ went st a → (x >> k) ≡ k st
next_went k h = rw h

pub next_halt : {B : Type 0} {x : Out (Unit {0})} {n : ℕ} {at : Place} (k : Walk B) → x ≡ halt n at → (x >> k) ≡ halt n at
next_halt k h = rw h

pub then_then : {A B C : Type 0} (x : Out A) (k : State → A → Out B) (l : State → B → Out C) → ((x >>= k) >>= l) ≡ (x >>= λ st a. k st a >>= l)
then_then (went st a) k l = refl
then_then (halt n at) k l = refl

pub next_then : {B C : Type 0} (x : Out (Unit {0})) (k : Walk B) (l : State → B → Out C) → ((x >> k) >>= l) ≡ (x >> λ st. k st >>= l)
next_then (went st a) k l = refl
next_then (halt n at) k l = refl

pub next_next : {B : Type 0} (x : Out (Unit {0})) (k : Walk (Unit {0})) (l : Walk B) → ((x >> k) >> l) ≡ (x >> λ st. k st >> l)
next_next (went st a) k l = refl
next_next (halt n at) k l = refl

pub next_self : (x : Out (Unit {0})) → (x >> λ st. went st tt) ≡ x
next_self (went st a) = refl
next_self (halt n at) = refl

-- 16 and 15, passed and not
pub counted-over : (held : ℕ) (here : Place) (st : State) → max_pieces < count held st → counted held here st ≡ halt 16 here
unfolding counted
counted-over held here st h = rw (lt-ltb max_pieces (count held st) h)

pub counted-under : (held : ℕ) (here : Place) (st : State) → count held st ≤ max_pieces → counted held here st ≡ went st tt
unfolding counted
counted-under held here st h = rw (le-ltb max_pieces (count held st) h)

pub limited_over : (here : Place) (p : PartReq) (st : State) → over p ≡ true → limited here p st ≡ halt 15 here
unfolding limited
limited_over here p st h = rw h

pub limited-under : (here : Place) (p : PartReq) (st : State) → over p ≡ false → limited here p st ≡ went st tt
unfolding limited
limited-under here p st h = rw h

-- a visit that the limit of visits stops, and one that it does not
pub visit-late : {A : Type 0} (held : ℕ) (here : Place) (arm : Walk A) (st : State) → max_visits ≤ st.visits → visit held here arm st ≡ halt 17 here
unfolding visit_when
visit-late held here arm st h = rw (le-ltb st.visits max_visits h)

pub visit-begins : {A : Type 0} (held : ℕ) (here : Place) (arm : Walk A) (st : State) → st.visits < max_visits → visit held here arm st ≡ (counted held here (visited st) >> arm >>= λ ended a. counted held here ended >> λ left. went left a)
unfolding visit_when
visit-begins held here arm st h = rw (lt-ltb st.visits max_visits h)

-- what goes on alike
pub then_same : {A B : Type 0} (x : Out A) (k l : State → A → Out B) → ((st : State) (a : A) → k st a ≡ l st a) → (x >>= k) ≡ (x >>= l)
then_same (went st a) k l h = h st a
then_same (halt n at) k l h = refl

pub next_same : {B : Type 0} (x : Out (Unit {0})) (k l : Walk B) → ((st : State) → k st ≡ l st) → (x >> k) ≡ (x >> l)
next_same (went st a) k l h = h st
next_same (halt n at) k l h = refl

-- both of two tests
pub and_left : (a b : Bool) → (a && b) ≡ true → a ≡ true
and_left true b h = refl
and_left false b h = h

pub and_right : (a b : Bool) → (a && b) ≡ true → b ≡ true
and_right true b h = h
and_right false b h = absurd (false≢true h)
