-- An act with its mark: marked it is a step; unmarked and idle nothing changes; else it is walked with the needs after it kept aside, which it does not keep as well, and is blamed.
use Prim.Native.Nat.{ℕ, ◌+◌, ◌-◌, ◌<◌}
use native.Mathlib.Omega.{arith}
use mathlib.Core.Path.{◌≡◌, refl, sym, ◌∙◌}
use mathlib.Core.Bool.{Bool, true, false}
use mathlib.Core.List.{List}
use lib.ListN.{length, get_or, set, length-set}
use Rattle.part.proofs.Equations.{never}
use Rattle.module.specs.Module.{Function}
use Rattle.module.specs.Marks.{marks_before}
use Rattle.clearance.specs.Scope.{Scope}
use Rattle.clearance.specs.Tree.{Act, act, marked, mark_at, by_mark}
use Rattle.clearance.specs.Needs.{quiet, obeys}
use Rattle.pass.specs.Pass.{pass_inside}
use Rattle.hold.specs.Hold.{in_slot}
use Rattle.quiet.specs.Acts.{Needing, Idle}
use Rattle.standing.specs.Slots.{Ready}
use Rattle.standing.specs.Standing.{Targets, Walked, Stepped, Blames, inside, step}
use Rattle.standing.specs.Passing.{Passing}
use Rattle.standing.specs.Exits.{Exits}
use Rattle.standing.proofs.Walks.{walked_step, step-full}
use Rattle.standing.proofs.Taken.{walked_obeys, broken_full, walked_broken}
use Rattle.ends.proofs.Merges.{act-closed}
use Rattle.acts.specs.Acts.{ActGiven, act_of, Acted}
use Rattle.acts.specs.Marks.{PassGiven, ByMark}
use Rattle.acts.proofs.Steps.{hand_kept, above_ready}

-- What an act is given
module _ {bytes tab : List ℕ} {f : ℕ} {types alike : List ℕ} {paths : List Bool} {s rs path : List ℕ} {n : ℕ} {p : Passing} (g : PassGiven bytes tab f types alike paths s rs path n p) where
  pub here_given : ActGiven bytes tab f types alike paths s rs path n
  here_given = record { world = g.world; ready = g.ready; spare = omega (arith, g.spare); room = g.room }

  pub hand_needing : Needing bytes tab f types alike paths s (get_or rs (n - 1) 0)
  hand_needing = record {
    world = g.world;
    store = g.ready.live.loose.good;
    there = g.ready.live.loose.pieces (n - 1) (omega (arith, g.ready.high));
    kept = hand_kept g.ready;
  }

  pub above_asks : (n - 1 < length rs) × (n < length rs)
  above_asks = (omega (arith, g.spare), omega (arith, g.spare))

act-inside : {S : Scope} {x : Act} {s rs : List ℕ} {n : ℕ} {e : Exits} {p : Passing} {t us : List ℕ} {q : Passing} → Walked S (step (act_of S x)) s rs n e p t us q → Walked S (inside (act x)) s rs n e p t us q
unfolding pass_inside
act-inside w = record { cells = w.cells; slots = w.slots; ready = w.ready; kept = w.kept; is = w.is }

module _ {S : Scope} {s rs : List ℕ} {n : ℕ} (d : Ready S s rs n) (l : ℕ) where
  -- marked
  module _ {x : Act} {t us before after : List ℕ} {r : Bool} (w : Acted S x s rs n t us before after r) {m : Bool} (h : m ≡ true) where
    pub marked_on : {p : Passing} → p.full ≡ false → r ≡ true → ByMark S l m x s rs n p t us before after p
    unfolding marked
    marked_on g e = rw h record { cells = w.step.cells; slots = w.step.slots; ready = λ z. w.step.ready e; each = λ z mark y. act-inside (walked_step d w.step e g); long = w.long }

    pub marked_full : {p q : Passing} → r ≡ false → q.full ≡ true → ByMark S l m x s rs n p t us before after q
    unfolding marked
    marked_full e f = rw h record { cells = w.step.cells; slots = w.step.slots; ready = λ z. never (sym z ∙ f); each = λ z mark y. act-inside (step-full d w.step e f); long = w.long }

  -- not marked
  module _ {x : Act} {before between : List ℕ} {r : Bool} (i : Idle S x (in_slot s rs (n - 1)) before between r) where
    obeys-is : obeys S (in_slot s rs (n - 1)) (act x) ≡ r
    unfolding obeys quiet
    obeys-is = sym i.is

    pub obeys_on : {m : Bool} → m ≡ false → {p : Passing} → p.full ≡ false → r ≡ true → ByMark S l m x s rs n p s rs before between p
    unfolding marked
    obeys_on h g e = rw h record { cells = refl; slots = refl; ready = λ z. d; each = λ z mark y. walked_obeys d y l mark (act x) g (obeys-is ∙ e); long = i.long }

    module _ (b : r ≡ false) (room : n < length rs) {ys : List ℕ} (c : ys ≡ set rs n (get_or rs (n - 1) 0)) {t us after : List ℕ} {o : Bool} (w : Acted S x s ys (n + 1) t us between after o) where
      above : Stepped S (act_of S x) s (set rs n (get_or rs (n - 1) 0)) (n + 1) t us o
      above = (rw c at w).step

      pub breaks_full : {m : Bool} → m ≡ false → {p q : Passing} → o ≡ false → q.full ≡ true → ByMark S l m x s rs n p t us before after q
      unfolding marked
      breaks_full h e f =
          rw h
          record {
            cells = above.cells;
            slots = above.slots ∙ length-set rs n _;
            ready = λ z. never (sym z ∙ f);
            each = λ z mark y. broken_full d y room l mark (act x) (obeys-is ∙ b) (act-inside (step-full (above_ready d room) above e f)) f;
            long = w.long ∙ i.long;
          }

      pub back_asks : o ≡ true → (n < length us) × (n - 1 < length us)
      back_asks e = let few = (above.ready e).live.loose.few in (omega arith, omega arith)

      pub breaks_on : {m : Bool} → m ≡ false → {p : Passing} → p.full ≡ false → o ≡ true → {q : Passing} → Blames l p q → {vs : List ℕ} → vs ≡ set us (n - 1) (get_or us n 0) → ByMark S l m x s rs n p t vs before after q
      unfolding marked
      breaks_on h g e z k =
          let c = act-closed x (above.ready e) d.high in
          rw (h, k)
          record {
            cells = above.cells;
            slots = c.slots ∙ (above.slots ∙ length-set rs n _);
            ready = λ u. c.ready refl;
            each = λ u mark y.
                walked_broken d y room l mark (act x) (obeys-is ∙ b) (act-inside (walked_step (above_ready d room) above e g)) g z
                c refl;
            long = w.long ∙ i.long;
          }

-- what has the mark i of the statement l
pub walked_mark : {S : Scope} (F : Function) (marks : List ℕ) (l i : ℕ) {m : Bool} {x : Act} {s rs : List ℕ} {n : ℕ} {p : Passing} {t us before after : List ℕ} {q : Passing} → m ≡ mark_at marks (marks_before F.statements l + i) →
    ByMark S l m x s rs n p t us before after q → (e : Exits) → Targets n e → Walked S (inside (by_mark F marks l i (act x))) s rs n e p t us q
unfolding by_mark
walked_mark F marks l i h w e y = rw h at (w.each e (marks_before F.statements l + i) y)
