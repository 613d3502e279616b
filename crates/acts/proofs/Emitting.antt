-- The expressions of an emit in a pass, from the last to the first: one more is one statement before those that were walked, with the point between them. Where the bound is passed, the
-- rest is never reached.
use Prim.Native.Nat.{ℕ, zero, suc, ◌+◌, ◌-◌, ◌<◌, ◌≤◌}
use native.Mathlib.Omega.{arith}
use mathlib.Core.Path.{◌≡◌, refl, sym, ap, ◌∙◌}
use mathlib.Core.Bool.{Bool, true, false}
use mathlib.Core.List.{List}
use lib.ListN.{length}
use Rattle.part.proofs.Equations.{never}
use Rattle.module.specs.Module.{Statement}
use Rattle.module.specs.Marks.{marks_before}
use Rattle.clearance.specs.Scope.{Scope}
use Rattle.clearance.specs.Tree.{Tree, seq, act, emit, mark_at, by_mark, emits}
use Rattle.clearance.specs.Needs.{upon}
use Rattle.pass.specs.Pass.{Passed, ◌>>=◌, point, pass_inside}
use Rattle.hold.specs.Hold.{in_slot}
use Rattle.standing.specs.Slots.{Ready}
use Rattle.standing.specs.Standing.{setting_of, Targets, Walked, Noted, inside}
use Rattle.standing.specs.Passing.{Passing}
use Rattle.standing.specs.Exits.{Exits}
use Rattle.standing.proofs.Walks.{walked_full, walked_nop, walked_seq}
use Rattle.acts.specs.Marks.{ByMark, EmitsPassed}
use Rattle.acts.proofs.Marked.{walked_mark}

seq-full : {S : Scope} (a : Tree) {b : Tree} {s rs : List ℕ} {n : ℕ} {x : Exits} {p : Passing} {t us : List ℕ} {q : Passing} → q.full ≡ true → Walked S (inside b) s rs n x p t us q → Walked S (inside (seq a b)) s rs n x p t us q
unfolding pass_inside
seq-full {S} a e w =
    walked_full w.cells w.slots e
    (λ v r aside k c h. ap (λ (o : Passed). o >>= λ d m. pass_inside (setting_of S v) r a aside (upon m k) (point m d)) ((w.is v r aside k c h).full e))

-- the expressions from the i-th on, of so many
pub record Emitted (S : Scope) (marks : List ℕ) (l first count i : ℕ) (s rs : List ℕ) (n : ℕ) (p : Passing) (t us : List ℕ) (q : Passing) : Type 0 where
  pub going : q.full ≡ false
  pub ready : Ready S t us n
  pub cells : length t ≡ length s
  pub slots : length us ≡ length rs
  pub low : i ≤ count
  pub walked : (e : Exits) → Targets n e → Walked S (inside (emits S.function marks l first i (count - i))) s rs n e p t us q

module _ (S : Scope) (marks : List ℕ) (l first count : ℕ) {s rs : List ℕ} {n : ℕ} {p : Passing} where
  -- none
  pub emitted_none : Ready S s rs n → p.full ≡ false → Emitted S marks l first count count s rs n p s rs p
  unfolding emits
  emitted_none d g =
      let z : count - count ≡ 0 = omega arith in
      record {
        going = g;
        ready = d;
        cells = refl;
        slots = refl;
        low = omega arith;
        walked = λ e y. rw z (walked_nop d g);
      }

  -- those before the i-th are not reached
  before_full : (i k : ℕ) {e : Exits} {t us : List ℕ} {q : Passing} → q.full ≡ true → Walked S (inside (emits S.function marks l first i k)) s rs n e p t us q →
      Walked S (inside (emits S.function marks l first 0 (i + k))) s rs n e p t us q
  unfolding emits
  before_full zero k f w = let z : 0 + k ≡ k = omega arith in rw z w
  before_full (suc i) k f w =
      let z : suc i + k ≡ i + suc k = omega arith in
      rw z (before_full i (suc k) f (seq-full (by_mark S.function marks l i (act (emit (first + i)))) f w))

  -- one more
  module _ {i : ℕ} {t us : List ℕ} {q : Passing} (d : Emitted S marks l first count (suc i) s rs n p t us q) {q' : Passing} (o : Noted (in_slot t us (n - 1)) q q')
      {m : Bool} (h : m ≡ mark_at marks (marks_before S.function.statements l + i)) {u ws before after : List ℕ} {z : Passing}
      (w : ByMark S l m (emit (first + i)) t us n q' u ws before after z) where
    next_walked : (e : Exits) → Targets n e → Walked S (inside (emits S.function marks l first i (count - i))) s rs n e p u ws z
    unfolding emits
    next_walked e y =
        let k : count - i ≡ suc (count - suc i) = omega (arith, d.low) in
        rw k (walked_seq d.ready.high y (d.walked e y) d.going o (walked_mark S.function marks l i h w e y))

    pub emitted_on : z.full ≡ false → Emitted S marks l first count i s rs n p u ws z
    emitted_on f = record {
      going = f;
      ready = w.ready f;
      cells = w.cells ∙ d.cells;
      slots = w.slots ∙ d.slots;
      low = omega (arith, d.low);
      walked = next_walked;
    }

    -- the bound is passed
    pub emitted_full : {last : ℕ} → count ≡ (last + 1) - first → {start : List ℕ} → length before ≡ length start → z.full ≡ true → EmitsPassed S marks l first last s rs n p u ws start after z
    emitted_full c k f =
        let j : i + (count - i) ≡ count = omega (arith, d.low) in
        record {
          ready = λ g. never (sym g ∙ f);
          each = λ e y. rw (← c) (rw j at (before_full i (count - i) f (next_walked e y)));
          long = w.long ∙ k;
        }

  -- all
  pub emitted_all : {last : ℕ} → count ≡ (last + 1) - first → {i : ℕ} → i ≤ 0 → {t us : List ℕ} {q : Passing} → Emitted S marks l first count i s rs n p t us q → {before after : List ℕ} → length after ≡ length before →
      EmitsPassed S marks l first last s rs n p t us before after q
  emitted_all c {i} o d k =
      let e : i ≡ 0 = omega arith in
      let g : count - 0 ≡ count = omega arith in
      record { ready = λ _. d.ready; each = λ x y. rw (← c) (rw (e, g) at (d.walked x y)); long = k }

-- how the code has it
pub back : {S : Scope} {marks : List ℕ} {l first count i : ℕ} {s rs : List ℕ} {n : ℕ} {p : Passing} {t us : List ℕ} {q : Passing} → 0 < i → Emitted S marks l first count i s rs n p t us q →
    Emitted S marks l first count (suc (i - 1)) s rs n p t us q
back {i = i} h d = let e : i ≡ suc (i - 1) = omega arith in rw e at d

pub mark_is : (ss : List Statement) (marks : List ℕ) (l b i : ℕ) {m : Bool} → b ≡ marks_before ss l → m ≡ mark_at marks (b + i) → m ≡ mark_at marks (marks_before ss l + i)
mark_is ss marks l b i e h = rw e at h
