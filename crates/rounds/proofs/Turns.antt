-- Round by round: what is left of the rounds is the whole, for the table that both tables' slots mean.
use Prim.Native.Nat.{ℕ, zero, suc, ◌+◌, ◌-◌, ◌<◌, ◌≤◌}
use native.Mathlib.Omega.{arith}
use native.Mathlib.Decide.{dec_lt, ℕ_discrete}
use mathlib.Core.Path.{◌≡◌, refl, sym, ap, ◌∙◌}
use mathlib.Core.Bool.{true, false}
use mathlib.Core.List.{List, []}
use mathlib.Core.Option.{Option, some, none as nothing}
use lib.ListN.{get_or}
use Rattle.part.specs.PartReq.{PartReq}
use Rattle.part.specs.Store.{part}
use Rattle.context.specs.RequiredContext.{RequiredContext}
use Rattle.request.specs.Context.{context_of}
use Rattle.clearance.specs.Scope.{Scope}
use Rattle.clearance.specs.Tree.{Tree, body_tree}
use Rattle.clearance.specs.Needs.{Exit, Setting, Table}
use Rattle.clearance.specs.Verdict.{Request, Answer, refused, setting, ending}
use Rattle.pass.specs.Pass.{Carried, Passed, on, full}
use Rattle.pass.specs.Checked.{pass_once, settled_by, settle_within, max_rounds, last_pass, answer_of}
use Rattle.hold.specs.Hold.{in_slot}
use Rattle.standing.specs.Slots.{table_size, asked_slot, end_slot, stack_slot, Ready}
use Rattle.standing.specs.Standing.{Carries, TableIn, Went, Keeps}
use Rattle.standing.specs.Passing.{Passing}
use Rattle.standing.proofs.Aside.{beside_high}
use Rattle.rounds.specs.Settling.{Settled, reported}
use Rattle.rounds.specs.Rounds.{Between, Rounded, Renewed, Answers, Settles}

-- `left` rounds are left, and their outcome is that of all
pub record Turn (S : Scope) (R : Request) (a : Tree) (left : ℕ) (s rs : List ℕ) : Type 0 where
  pub table : Table
  pub between : Between S R table s rs
  pub rest : settle_within (setting S R) a (ending S R) left table ≡ settle_within (setting S R) a (ending S R) max_rounds []

settle_more : (W : Setting) (a : Tree) (k : Exit → PartReq) (n : ℕ) (o : Table) → 0 < n → settle_within W a k n o ≡ settled_by (pass_once W a k o) (settle_within W a k (n - 1))
unfolding settle_within
settle_more W a k zero o h = absurd (omega arith)
settle_more W a k (suc n) o h = let e : suc n - 1 ≡ n = omega arith in rw e

settle_none : (W : Setting) (a : Tree) (k : Exit → PartReq) (n : ℕ) (o : Table) → n ≤ 0 → settle_within W a k n o ≡ nothing
unfolding settle_within
settle_none W a k zero o h = refl
settle_none W a k (suc n) o h = absurd (omega arith)

held-settles : (c : Carried) (m : PartReq) (again : Table → Option Passed) → c.held ≡ true → settled_by (on c m) again ≡ some (on c m)
unfolding settled_by
held-settles c m again h = rw h

turns_on : (c : Carried) (m : PartReq) (again : Table → Option Passed) → c.held ≡ false → settled_by (on c m) again ≡ again c.table
unfolding settled_by
turns_on c m again h = rw h

full-settles : (again : Table → Option Passed) → settled_by full again ≡ some full
unfolding settled_by
full-settles again = refl

-- what the last pass came to
record Last (S : Scope) (R : Request) (a : Tree) (t us : List ℕ) (q : Passing) : Type 0 where
  carried : Carried
  carries : Carries q carried
  is : settle_within (setting S R) a (ending S R) max_rounds [] ≡ some (on carried (in_slot t us stack_slot))

record Source (us ws : List ℕ) (j : ℕ) : Type 0 where
  at : ℕ
  low : at < stack_slot + 1
  apart : (j ≡ asked_slot → ⊥) → at ≡ asked_slot → ⊥
  is : get_or ws j 0 ≡ get_or us at 0

-- the new table was copied, and the needs at the end are at hand again
module _ {S : Scope} {t us ws : List ℕ} (d : Ready S t us (stack_slot + 1)) (w : Renewed us ws) where
  old_is : (j : ℕ) → j < table_size → in_slot t ws j ≡ in_slot t us (table_size + j)
  old_is j l = ap (part t) (w.old j l)

  other_is : (j : ℕ) → table_size ≤ j → j < stack_slot → in_slot t ws j ≡ in_slot t us j
  other_is j l h = ap (part t) (w.others j l h)

  hand_is : in_slot t ws stack_slot ≡ in_slot t us end_slot
  hand_is = ap (part t) w.hand

  asked_is : in_slot t ws asked_slot ≡ in_slot t us asked_slot
  asked_is = other_is asked_slot (omega arith) (omega arith)

  -- each slot has what some slot had, and only the asked part's has that
  source : (j : ℕ) → j < stack_slot + 1 → Source us ws j
  source j l =
      elim (dec_lt j table_size) [
        | yes a ↦ record { at = table_size + j; low = omega arith; apart = λ h e. omega arith; is = w.old j a }
        | no a ↦
            elim (ℕ_discrete j stack_slot) [
              | yes e ↦ record { at = end_slot; low = omega arith; apart = λ h i. omega arith; is = rw e w.hand }
              | no e ↦ record { at = j; low = l; apart = λ h. h; is = w.others j (omega arith) (omega arith) }
            ]
      ]

  renewed_ready : Ready S t ws (stack_slot + 1)
  renewed_ready = record {
    live = record {
      loose = record {
        good = d.live.loose.good;
        few = omega (arith, d.live.loose.few, w.long);
        pieces = λ j l. let f = source j l in rw f.is (d.live.loose.pieces f.at f.low);
        long = d.live.loose.long;
      };
      slim = d.live.slim;
    };
    high = omega arith;
    needs = λ j l h. let f = source j l in rw f.is (d.needs f.at f.low (f.apart h));
    asked = rw asked_is d.asked;
  }

  renewed : {R : Request} {o : Table} {s rs : List ℕ} → Between S R o s rs → Keeps s rs t us (stack_slot + 1) → {c : Carried} → TableIn t us c → Between S R c.table t ws
  renewed b k n =
      let end = k.is end_slot (omega arith) (beside_high end_slot (omega arith)) ∙ b.end in
      record {
        ready = renewed_ready;
        value = asked_is ∙ k.is asked_slot (omega arith) (beside_high asked_slot (omega arith)) ∙ b.value;
        end = other_is end_slot (omega arith) (omega arith) ∙ end;
        hand = hand_is ∙ end;
        old = λ j l. old_is j l ∙ n.is j l;
        new = λ j l. other_is (table_size + j) (omega arith) (omega arith) ∙ n.is j l;
        short = n.short;
      }

-- one round
module _ {S : Scope} {R : Request} {a : Tree} {left : ℕ} {s rs t us before after : List ℕ} {q : Passing} (u : Turn S R a left s rs) (more : 0 < left) (w : Rounded S a s rs t us before after q) where
  step : settle_within (setting S R) a (ending S R) max_rounds [] ≡ settled_by (pass_once (setting S R) a (ending S R) u.table) (settle_within (setting S R) a (ending S R) (left - 1))
  step = sym u.rest ∙ settle_more (setting S R) a (ending S R) left u.table more

  step_by : {p : Passed} → pass_once (setting S R) a (ending S R) u.table ≡ p →
      settle_within (setting S R) a (ending S R) max_rounds [] ≡ settled_by p (settle_within (setting S R) a (ending S R) (left - 1))
  step_by e = step ∙ ap (λ p. settled_by p (settle_within (setting S R) a (ending S R) (left - 1))) e

  turn_full : q.full ≡ true → settle_within (setting S R) a (ending S R) max_rounds [] ≡ some full
  turn_full h = step_by ((w.is R u.table u.between).full h) ∙ full-settles (settle_within (setting S R) a (ending S R) (left - 1))

  module _ (on-it : q.full ≡ false) where
    went : Went (pass_once (setting S R) a (ending S R) u.table) t us (stack_slot + 1) q
    went = (w.is R u.table u.between).on on-it

    turn_last : q.held ≡ true → Last S R a t us q
    turn_last h = record {
      carried = went.carried;
      carries = went.carries;
      is =
          step_by went.is
          ∙ held-settles went.carried (in_slot t us stack_slot) (settle_within (setting S R) a (ending S R) (left - 1)) (sym went.carries.held ∙ h);
    }

    turn_again : q.held ≡ false → {ws : List ℕ} → Renewed us ws → Turn S R a (left - 1) t ws
    turn_again h n = record {
      table = went.carried.table;
      between = renewed (w.ready on-it) n u.between (w.kept on-it) went.new;
      rest =
          sym
          (step_by went.is
          ∙ turns_on went.carried (in_slot t us stack_slot) (settle_within (setting S R) a (ending S R) (left - 1)) (sym went.carries.held ∙ h));
    }

turn_none : {S : Scope} {R : Request} {a : Tree} {left : ℕ} {s rs : List ℕ} → Turn S R a left s rs → left ≤ 0 → settle_within (setting S R) a (ending S R) max_rounds [] ≡ nothing
turn_none {S} {R} {a} {left} u h = sym u.rest ∙ settle_none (setting S R) a (ending S R) left u.table h

-- the answer by the last pass's outcome
module _ {S : Scope} {R : Request} {marks : List ℕ} (context : List ℕ) where
  settled-by : {o : Option Passed} {r : Answer} → settle_within (setting S R) (body_tree S.function marks) (ending S R) max_rounds [] ≡ o →
      ((c : RequiredContext) → context_of context ≡ some c → r ≡ answer_of (reported marks c) o) → Settled S R marks context r
  unfolding last_pass
  settled-by e h = record { is = λ c z. h c z ∙ ap (answer_of (reported marks c)) (sym e) }

  settled_full : settle_within (setting S R) (body_tree S.function marks) (ending S R) max_rounds [] ≡ some full → Settled S R marks context (refused 26)
  unfolding answer_of
  settled_full e = settled-by e (λ c z. refl)

  settled_past : settle_within (setting S R) (body_tree S.function marks) (ending S R) max_rounds [] ≡ nothing → Settled S R marks context (refused 26)
  unfolding answer_of
  settled_past e = settled-by e (λ c z. refl)

  settled_last : {t us : List ℕ} {q : Passing} {r : Answer} → Last S R (body_tree S.function marks) t us q → Answers t (get_or us stack_slot 0) q context r → Settled S R marks context r
  settled_last l a = settled-by l.is (λ c z. a.is c marks l.carried z l.carries)

-- The loop's invariant: of s₀, rs₀, whatever was asked, so many rounds are left.
pub record Turning (S : Scope) (a : Tree) (s₀ rs₀ : List ℕ) (left : ℕ) (s rs : List ℕ) : Type 0 where
  pub ready : Ready S s rs (stack_slot + 1)
  pub turn : (R : Request) → Between S R [] s₀ rs₀ → Turn S R a left s rs

module _ {S : Scope} (marks : List ℕ) {s₀ rs₀ : List ℕ} {left : ℕ} {s rs : List ℕ} (u : Turning S (body_tree S.function marks) s₀ rs₀ left s rs) where
  -- no round is left
  pub turning_none : (context : List ℕ) → left ≤ 0 → Settles S marks context s₀ rs₀ (refused 26)
  turning_none context h = record { is = λ R b. settled_past context (turn_none (u.turn R b) h) }

  module _ (more : 0 < left) {t us before after : List ℕ} {q : Passing} (w : Rounded S (body_tree S.function marks) s rs t us before after q) where
    pub turning_full : (context : List ℕ) → q.full ≡ true → Settles S marks context s₀ rs₀ (refused 26)
    turning_full context h = record { is = λ R b. settled_full context (turn_full (u.turn R b) more w h) }

    pub turning_last : (context : List ℕ) → q.full ≡ false → q.held ≡ true → {r : Answer} → Answers t (get_or us stack_slot 0) q context r → Settles S marks context s₀ rs₀ r
    turning_last context g h a = record { is = λ R b. settled_last context (turn_last (u.turn R b) more w g h) a }

    pub turning_again : q.full ≡ false → q.held ≡ false → {ws : List ℕ} → Renewed us ws → Turning S (body_tree S.function marks) s₀ rs₀ (left - 1) t ws
    turning_again g h n = record { ready = renewed_ready (w.ready g) n; turn = λ R b. turn_again (u.turn R b) more w g h n }
