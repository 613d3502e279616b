-- A round: what stands between two rounds is what a pass over the body finds, and what it comes to is the definition's `pass_once`.
use Prim.Native.Nat.{ℕ, ◌+◌, ◌-◌, ◌*◌, ◌<◌, ◌≤◌}
use native.Mathlib.Omega.{arith}
use native.Mathlib.Decide.{dec_lt}
use mathlib.Core.Path.{◌≡◌, refl, sym, ap, ◌∙◌}
use mathlib.Core.Bool.{Bool, true, false}
use mathlib.Core.List.{List, ◌∷◌}
use lib.ListN.{length, get_or, get_or-eq_default}
use borrow.Author.Tests.{lt-ltb, le-ltb}
use Rattle.std.specs.Prelude.{None}
use Rattle.part.specs.PartReq.{PartReq, none}
use Rattle.module.specs.Tables.{function_of}
use Rattle.module.proofs.Tab.{get_d_tab, tab-past}
use Rattle.clearance.specs.Scope.{Scope}
use Rattle.clearance.specs.Tree.{Tree, body_tree}
use Rattle.clearance.specs.Needs.{Exit, next, broke, continued, returned, Table, reentry}
use Rattle.clearance.specs.Verdict.{Request, setting, ending}
use Rattle.pass.specs.Pass.{on, ◌>>=◌, within, pass}
use Rattle.pass.specs.Checked.{fresh, asked_of, pass_once}
use Rattle.hold.specs.Hold.{in_slot, Reach}
use Rattle.hold.proofs.Reach.{reach_trans, reach_cons, reach_exchange, reach_get_d}
use Rattle.quiet.specs.Places.{tree_of}
use Rattle.strays.specs.Places.{BlockOf}
use Rattle.strays.proofs.Found.{body_there}
use Rattle.standing.specs.Slots.{table_size, asked_slot, end_slot, stack_slot, besides, aside_of}
use Rattle.standing.specs.Standing.{Carries, TableIn, Targets, Stands, around, outcome}
use Rattle.standing.specs.Passing.{Passing}
use Rattle.standing.specs.Exits.{Exits}
use Rattle.standing.proofs.Aside.{aside_more}
use Rattle.standing.proofs.Stands.{stands_reach}
use Rattle.standing.proofs.Taken.{within-fits}
use Rattle.standing.proofs.Walks.{came_is}
use Rattle.backward.specs.Course.{Course, Passes}
use Rattle.rounds.specs.Rounds.{Between, Rounding, Rounded}

-- the needs after a body are the same at each exit
ending-same : (S : Scope) (R : Request) (x : Exit) → ending S R x ≡ ending S R next
unfolding ending
ending-same S R x = refl

-- where each exit leads, and what a pass begins with
abbrev pub to_end : Exits
to_end = record { broke = end_slot; continued = end_slot; returned = end_slot }

abbrev pub anew : Passing
anew = record { full = false; fault = None; held = true; deep = false; wide = false }

end_targets : Targets (stack_slot + 1) to_end
end_targets = record { broke = (omega arith, omega arith); continued = (omega arith, omega arith); returned = (omega arith, omega arith) }

anew-carries : (o : Table) → Carries anew (fresh o)
unfolding fresh
anew-carries o = record { fault = refl; held = refl; deep = refl; wide = refl }

-- the old table's slots reach what the table does
table_aside : (s rs : List ℕ) (o : Table) → ((j : ℕ) → j < table_size → in_slot s rs j ≡ reentry o j) → length o ≤ table_size → Reach (aside_of s rs asked_slot) o
unfolding aside_of besides reentry
table_aside s rs o h l =
    reach_get_d (aside_of s rs asked_slot) o
    (λ j.
    elim (dec_lt j table_size) [
      | yes a ↦ get_d_tab asked_slot (besides (λ i. in_slot s rs i)) j none (omega arith) ∙ rw (lt-ltb j table_size a) (h j a)
      | no a ↦
          let past : get_or o j none ≡ none = get_or-eq_default o none (omega arith) in
          elim (dec_lt j asked_slot) [
            | yes b ↦ get_d_tab asked_slot (besides (λ i. in_slot s rs i)) j none b ∙ rw (le-ltb j table_size (omega arith), lt-ltb j asked_slot b) (sym past)
            | no b ↦ tab-past asked_slot (besides (λ i. in_slot s rs i)) j none (omega arith) ∙ sym past
          ]
    ])

abbrev apart_of : Scope → Request → Table → List PartReq
apart_of S R o = asked_of (setting S R) ∷ ending S R returned ∷ o

module _ {S : Scope} {R : Request} {o : Table} {s rs : List ℕ} (b : Between S R o s rs) where
  between_apart : Reach (aside_of s rs stack_slot) (apart_of S R o)
  between_apart =
      let e : in_slot s rs end_slot ≡ ending S R returned = b.end ∙ sym (ending-same S R returned) in
      let asked = rw b.value at (aside_more s rs asked_slot (omega arith)) in
      let both = rw e at (aside_more s rs end_slot (omega arith)) in
      reach_trans both
      (reach_trans (reach_cons (ending S R returned) (reach_trans asked (reach_cons (asked_of (setting S R)) (table_aside s rs o b.old b.short))))
      (reach_exchange (ending S R returned) (asked_of (setting S R)) o))

  between_new : TableIn s rs (fresh o)
  unfolding fresh
  between_new = record { is = b.new; short = b.short }

  between_stands : Stands S R.value (reentry o) (apart_of S R o) (ending S R) (fresh o) s rs (stack_slot + 1) to_end anew
  between_stands = record {
    value = b.value;
    old = b.old;
    new = between_new;
    hand = b.hand;
    broke = b.end ∙ sym (ending-same S R broke);
    continued = b.end ∙ sym (ending-same S R continued);
    returned = b.end ∙ sym (ending-same S R returned);
    apart = between_apart;
    carries = anew-carries o;
  }

  between_fits : within (apart_of S R o) (ending S R next) (fresh o) ≡ on (fresh o) (ending S R next)
  between_fits = within-fits (apart_of S R o) b.ready.live (stands_reach between_stands b.ready)

  between_once : (a : Tree) → outcome S (around a) R.value (reentry o) (apart_of S R o) (ending S R) (fresh o) ≡ pass_once (setting S R) a (ending S R) o
  unfolding pass_once pass
  between_once a = sym (ap (λ p. p >>= λ c _. pass (setting S R) (reentry o) a (apart_of S R o) (ending S R) c) between_fits)

-- what the pass is given
module _ {bytes t : List ℕ} {f : ℕ} {types alike : List ℕ} {paths : List Bool} {firsts s rs path : List ℕ} (g : Rounding bytes t f types alike paths firsts s rs path) where
  pub round_course : Course bytes t f types alike paths firsts s rs path (stack_slot + 1) to_end anew
  round_course = record { world = g.world; begins = g.begins; ready = g.ready; targets = end_targets; going = refl; long = g.path_long }

  module _ {b : ℕ} (e : b ≡ length (function_of bytes t f).blocks - 1) where
    pub round_block : BlockOf bytes t f b
    round_block = body_there g.world.given.of e

    pub round_room : stack_slot + 1 + (3 * b + 12) ≤ length rs
    round_room = omega (arith, g.slots)

-- and what it comes to
pub rounded : {S : Scope} (marks : List ℕ) {b : ℕ} → b ≡ length S.function.blocks - 1 → {s rs t us before after : List ℕ} {q : Passing} →
    Passes S (around (tree_of S.function marks b)) s rs (stack_slot + 1) to_end anew t us before after q →
    Rounded S (body_tree S.function marks) s rs t us before after q
unfolding body_tree
rounded {S} marks {b} e {s} {rs} {t} {us} {before} {after} {q} w = record {
  cells = w.walked.cells;
  slots = w.walked.slots;
  long = w.long;
  ready = w.walked.ready;
  kept = w.walked.kept;
  is = λ R o z.
      came_is (ap (λ i. outcome S (around (tree_of S.function marks i)) R.value (reentry o) (apart_of S R o) (ending S R) (fresh o)) e ∙ between_once z (body_tree S.function marks))
      (w.walked.is R.value (reentry o) (apart_of S R o) (ending S R) (fresh o) (between_stands z));
}
