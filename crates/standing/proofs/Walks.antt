-- Walks put together: nothing, one statement after the other, a statement with the points before and after it, a step from the needs at hand, an exit taken.
use Prim.Native.Nat.{ℕ, ◌+◌, ◌-◌, ◌<◌}
use native.Mathlib.Omega.{arith}
use mathlib.Core.Path.{◌≡◌, refl, sym, ap, ◌∙◌}
use mathlib.Core.Bool.{Bool, true, false}
use mathlib.Core.List.{List}
use lib.ListN.{length}
use Rattle.part.specs.PartReq.{PartReq}
use Rattle.part.proofs.Equations.{never}
use Rattle.clearance.specs.Scope.{Scope}
use Rattle.clearance.specs.Tree.{Tree, nop, seq}
use Rattle.clearance.specs.Needs.{Exit, next, upon}
use Rattle.pass.specs.Pass.{Carried, Passed, on, full, ◌>>=◌, point, pointed, pass_inside}
use Rattle.hold.specs.Hold.{in_slot}
use Rattle.standing.specs.Slots.{table_size, stack_slot, Ready}
use Rattle.standing.specs.Standing.{setting_of, Targets, Stands, Went, Came, Walked, Stepped, Noted, Keeps, Stretch, inside, around, step, outcome}
use Rattle.standing.specs.Passing.{Passing}
use Rattle.standing.specs.Exits.{Exits}
use Rattle.standing.proofs.Stands.{keeps_refl, keeps_trans, carries_point, stands_below, stands_point, stands_on}

pub came_full : {o : Passed} {t us : List ℕ} {n : ℕ} {q : Passing} → q.full ≡ true → o ≡ full → Came o t us n q
came_full e f = record { full = λ _. f; on = λ g. never (sym g ∙ e) }

pub came_on : {o : Passed} {t us : List ℕ} {n : ℕ} {q : Passing} → q.full ≡ false → Went o t us n q → Came o t us n q
came_on e w = record { full = λ g. never (sym e ∙ g); on = λ _. w }

-- the same outcome, said otherwise
pub came_is : {o o' : Passed} {t us : List ℕ} {n : ℕ} {q : Passing} → o ≡ o' → Came o t us n q → Came o' t us n q
came_is e w = rw e at w

pub went_is : {o o' : Passed} {t us : List ℕ} {n : ℕ} {q : Passing} → o ≡ o' → Went o t us n q → Went o' t us n q
went_is e w = record { carried = w.carried; is = sym e ∙ w.is; carries = w.carries; new = w.new }

module _ {S : Scope} {s rs : List ℕ} {n : ℕ} {x : Exits} where
  -- the bound was passed
  pub walked_full : {o : Stretch} {p : Passing} {t us : List ℕ} {q : Passing} → length t ≡ length s → length us ≡ length rs → q.full ≡ true →
      ((v : PartReq) (r : ℕ → PartReq) (aside : List PartReq) (k : Exit → PartReq) (c : Carried) → Stands S v r aside k c s rs n x p → outcome S o v r aside k c ≡ full) →
      Walked S o s rs n x p t us q
  walked_full a b e f = record {
    cells = a;
    slots = b;
    ready = λ g. never (sym g ∙ e);
    kept = λ g. never (sym g ∙ e);
    is = λ v r aside k c h. came_full e (f v r aside k c h);
  }

  -- it was not
  pub walked_on : {o : Stretch} {p : Passing} {t us : List ℕ} {q : Passing} → length t ≡ length s → length us ≡ length rs → q.full ≡ false → Ready S t us n → Keeps s rs t us n →
      ((v : PartReq) (r : ℕ → PartReq) (aside : List PartReq) (k : Exit → PartReq) (c : Carried) → Stands S v r aside k c s rs n x p → Went (outcome S o v r aside k c) t us n q) →
      Walked S o s rs n x p t us q
  walked_on a b e d w f = record {
    cells = a;
    slots = b;
    ready = λ g. d;
    kept = λ g. w;
    is = λ v r aside k c h. came_on e (f v r aside k c h);
  }

  -- nothing
  pub walked_nop : {p : Passing} → Ready S s rs n → p.full ≡ false → Walked S (inside nop) s rs n x p s rs p
  unfolding pass_inside
  walked_nop d e =
      walked_on refl refl e d (keeps_refl s rs n)
      (λ v r aside k c h. record { carried = c; is = ap (on c) (sym h.hand); carries = h.carries; new = h.new })

  module _ (high : stack_slot < n) (y : Targets n x) where
    -- after the first of two walks, what stands
    pub went_stands : {o : Passed} {p q : Passing} {t us : List ℕ} {v : PartReq} {r : ℕ → PartReq} {aside : List PartReq} {k : Exit → PartReq} {c : Carried} →
        Stands S v r aside k c s rs n x p → Keeps s rs t us n → (w : Went o t us n q) → Stands S v r aside (upon (in_slot t us (n - 1)) k) w.carried t us n x q
    went_stands h e w = stands_on h high e w.new w.carries y

    -- one statement before others that were walked
    pub walked_seq : {a b : Tree} {p q q' z : Passing} {t us u ws : List ℕ} → Walked S (inside b) s rs n x p t us q → q.full ≡ false → Noted (in_slot t us (n - 1)) q q' →
        Walked S (inside a) t us n x q' u ws z → Walked S (inside (seq a b)) s rs n x p u ws z
    unfolding pass_inside upon
    walked_seq {a} {b} {p} {q} {q'} {z} {t} {us} {u} {ws} first e d second = record {
      cells = second.cells ∙ first.cells;
      slots = second.slots ∙ first.slots;
      ready = second.ready;
      kept = λ g. keeps_trans (omega arith) (first.kept e) (second.kept g);
      is = λ v r aside k c h.
          let w = (first.is v r aside k c h).on e in
          let m : PartReq = in_slot t us (n - 1) in
          came_is (sym (ap (λ o. o >>= λ d m. pass_inside (setting_of S v) r a aside (upon m k) (point m d)) w.is))
          (second.is v r aside (upon m k) (point m w.carried) (stands_point (went_stands h (first.kept e) w) d));
    }

    -- with the points before and after it
    pub walked_pointed : {a : Tree} {p p' q z : Passing} {t us : List ℕ} → Noted (in_slot s rs (n - 1)) p p' → Walked S (inside a) s rs n x p' t us q → q.full ≡ false →
        Noted (in_slot t us (n - 1)) q z → Walked S (around a) s rs n x p t us z
    unfolding pointed point
    walked_pointed {a} {p} {p'} {q} {z} {t} {us} d first e f =
        walked_on first.cells first.slots (f.full ∙ e) (first.ready e) (first.kept e)
        (λ v r aside k c h.
        let w = (first.is v r aside k (point (k next) c) (stands_point h d)).on e in
        record {
          carried = point (in_slot t us (n - 1)) w.carried;
          is = ap (λ o. o >>= λ d m. on (point m d) m) w.is;
          carries = carries_point _ f w.carries;
          new = record { is = w.new.is; short = w.new.short };
        })

    pub pointed_full : {a : Tree} {p p' q : Passing} {t us : List ℕ} → Noted (in_slot s rs (n - 1)) p p' → Walked S (inside a) s rs n x p' t us q → q.full ≡ true →
        Walked S (around a) s rs n x p t us q
    unfolding pointed point
    pointed_full {a} {p} {p'} {q} {t} {us} d first e =
        walked_full first.cells first.slots e
        (λ v r aside k c h. ap (λ o. o >>= λ d m. on (point m d) m) ((first.is v r aside k (point (k next) c) (stands_point h d)).full e))

  -- a step from the needs at hand, which changes no table
  pub walked_step : {f : List PartReq → PartReq → Carried → Passed} {p : Passing} {t us : List ℕ} {b : Bool} → Ready S s rs n → Stepped S f s rs n t us b → b ≡ true → p.full ≡ false →
      Walked S (step f) s rs n x p t us p
  walked_step {f} {p} {t} {us} {b} d w g e =
      walked_on w.cells w.slots e (w.ready g) (record { is = λ j l _. w.kept g j l })
      (λ v r aside k c h. record {
        carried = c;
        is = rw (h.hand, g) at (w.is aside c (stands_below h d));
        carries = h.carries;
        new = record { is = λ j l. w.kept g (table_size + j) (omega (arith, d.high)) ∙ h.new.is j l; short = h.new.short };
      })

  pub step-full : {f : List PartReq → PartReq → Carried → Passed} {p q : Passing} {t us : List ℕ} {b : Bool} → Ready S s rs n → Stepped S f s rs n t us b → b ≡ false → q.full ≡ true →
      Walked S (step f) s rs n x p t us q
  step-full {f} d w g e = walked_full w.cells w.slots e (λ v r aside k c h. rw (h.hand, g) at (w.is aside c (stands_below h d)))
