-- A switch: the union of its cases stands above the needs after it, and each case is walked above the union.
use Prim.Native.Nat.{ℕ, zero, suc, ◌+◌, ◌-◌, ◌*◌, ◌<◌, ◌≤◌}
use native.Mathlib.Numerals.{add-one}
use native.Mathlib.Omega.{arith}
use mathlib.Core.Path.{◌≡◌, refl, sym, ap, ◌∙◌}
use mathlib.Core.Bool.{Bool, true, false}
use mathlib.Core.List.{List, ◌∷◌, map}
use lib.ListN.{length, get_or, set, length-set}
use Rattle.part.specs.PartReq.{PartReq, none}
use Rattle.module.specs.Module.{BlockHandle, SwitchCase, Function}
use Rattle.module.specs.Decode.{tab, case_of, statement_of}
use Rattle.module.specs.Tables.{function_of}
use Rattle.access.specs.declared.kinded.Kinded.{Kinded}
use Rattle.access.specs.Access.{operand_at}
use Rattle.clearance.specs.Scope.{Scope}
use Rattle.clearance.specs.Tree.{Tree}
use Rattle.clearance.specs.Needs.{broke, upon}
use Rattle.judge.specs.Given.{scope_at}
use Rattle.pass.specs.Pass.{Carried, Passed, full, ◌>>=◌, pointed, joining, pass_cases, pass_inside}
use Rattle.hold.specs.Hold.{in_slot}
use Rattle.quiet.specs.Places.{tree_of}
use Rattle.strays.specs.Places.{BlockOf}
use Rattle.strays.proofs.Found.{cases_in}
use Rattle.framed.proofs.Kept.{kept_none}
use Rattle.standing.specs.Standing.{setting_of, Walked, Closed, inside, around, cases}
use Rattle.standing.specs.Passing.{Passing}
use Rattle.standing.specs.Exits.{Exits}
use Rattle.standing.proofs.Walks.{came_is, walked_full}
use Rattle.standing.proofs.Arms.{targets_more}
use Rattle.standing.proofs.Cases.{case_exits, switch_ends, cases_start, case_ready, case_full, cases_more, cases-end_full, case_targets, union_ready, union_none, switch-full, walked_switch, switch-end_full}
use Rattle.ends.specs.Merged.{Merged, EndGiven}
use Rattle.ends.proofs.Merges.{case_closed}
use Rattle.strays.proofs.Trees.{values_long}
use Rattle.backward.specs.Course.{Course, Passes, RowIn, blocks_under, case_tree, case_block, switch_tree}
use Rattle.backward.proofs.Course.{course_on, block_asks}
use Rattle.backward.proofs.Trees.{case_is, uses_of}

-- where some cases pass the bound, more of them do
more_full : (d j : ℕ) (f : ℕ → List PartReq → Carried → Passed) (aside : List PartReq) (c : Carried) → pass_cases j f aside c ≡ full → pass_cases (d + j) f aside c ≡ full
unfolding pass_cases
more_full zero j f aside c e = let z : zero + j ≡ j = omega arith in rw z e
more_full (suc d) j f aside c e =
    let z : suc d + j ≡ suc (d + j) = omega arith in
    rw z (ap (λ o. o >>= λ d' u. f (d + j) (u ∷ aside) d' >>= λ e m. joining aside m u e) (more_full d j f aside c e))

stays_full : {S : Scope} {f : ℕ → Tree} {s rs : List ℕ} {n : ℕ} {x : Exits} {p : Passing} {t us before after : List ℕ} {q : Passing} (j m : ℕ) → j ≤ m → q.full ≡ true →
    Passes S (cases j f) s rs n x p t us before after q → Passes S (cases m f) s rs n x p t us before after q
stays_full j m l g w =
    let z : m ≡ (m - j) + j = omega arith in
    record {
      walked = rw z (walked_full w.walked.cells w.walked.slots g (λ v r aside k c h. more_full (m - j) j _ aside c ((w.walked.is v r aside k c h).full g)));
      long = w.long;
    }

-- cases by trees that are the same
same_cases : (i : ℕ) (f g : ℕ → List PartReq → Carried → Passed) → ((j : ℕ) → j < i → f j ≡ g j) → (aside : List PartReq) (c : Carried) → pass_cases i f aside c ≡ pass_cases i g aside c
unfolding pass_cases
same_cases zero f g h aside c = refl
same_cases (suc i) f g h aside c = rw (same_cases i f g (λ j l. h j (omega arith)) aside c, h i (omega arith))

walked_same : {S : Scope} (i : ℕ) (f g : ℕ → Tree) → ((j : ℕ) → j < i → f j ≡ g j) → {s rs : List ℕ} {n : ℕ} {x : Exits} {p : Passing} {t us : List ℕ} {q : Passing} →
    Walked S (cases i f) s rs n x p t us q → Walked S (cases i g) s rs n x p t us q
walked_same {S} i f g h w = record {
  cells = w.cells;
  slots = w.slots;
  ready = w.ready;
  kept = w.kept;
  is = λ v r aside k c a.
      came_is (same_cases i _ _ (λ j l. ap {B = List PartReq → Carried → Passed} (λ (b : Tree). λ aside'. pointed (k broke) (pass_inside (setting_of S v) r b aside' (upon (k broke) k))) (h j l)) aside c)
      (w.is v r aside k c a);
}

-- the first i cases were walked, and the bound was not passed
pub record Union (S : Scope) (i : ℕ) (f : ℕ → Tree) (s rs : List ℕ) (n : ℕ) (x : Exits) (p : Passing) (t us before after : List ℕ) (q : Passing) : Type 0 where
  pub passes : Passes S (cases i f) s rs n x p t us before after q
  pub going : q.full ≡ false

module _ {bytes t : List ℕ} {f : ℕ} {types alike : List ℕ} {paths : List Bool} {firsts s rs path : List ℕ} {n : ℕ} {x : Exits} {p : Passing} (g : Course bytes t f types alike paths firsts s rs path n x p)
    {b l : ℕ} {row : Kinded} (r : RowIn bytes t f b l row) (h : row.kind ≡ 3) (marks : List ℕ) where
  abbrev S : Scope
  S = scope_at bytes t f

  abbrev F : Function
  F = function_of bytes t f

  abbrev o : ℕ → ℕ
  o = operand_at bytes row

  abbrev w : BlockHandle → Tree
  w = blocks_under F marks b

  -- Cases

  pub no_case : in_slot s rs (n - 1) ≡ none → Union S 0 (case_block F marks o) s rs n x p s rs path path p
  no_case e = record { passes = record { walked = cases_start g.ready g.targets (case_block F marks o) g.going e; long = refl }; going = g.going }

  module _ (room : n + (3 * b + 10) ≤ length rs) (i : ℕ) {t₀ us₀ path₀ : List ℕ} {q₀ : Passing} (before : Union S i (case_block F marks o) s rs n x p t₀ us₀ path path₀ q₀) where
    abbrev so_far : Walked S (cases i (case_block F marks o)) s rs n x p t₀ us₀ q₀
    so_far = before.passes.walked

    slots_before : length us₀ ≡ length rs
    slots_before = so_far.slots

    pub case_copy : (x.broke < length us₀) × (n < length us₀)
    case_copy = (omega (arith, slots_before, g.targets.broke.1), omega (arith, slots_before))

    module _ (there : i < o 1) {us : List ℕ} (c : us ≡ set us₀ n (get_or us₀ x.broke 0)) {y : ℕ} (e : y ≡ o (3 + 2 * i)) where
      case_long : length us ≡ length rs
      case_long = ap length c ∙ length-set us₀ n _ ∙ slots_before

      low : o (3 + 2 * i) < b
      low = (cases_in r.statement r.is h).each i there

      pub case_asks : (y < b) × (Course bytes t f types alike paths firsts t₀ us path₀ (n + 1) x q₀ × (((n + 1) + (3 * y + 12) ≤ length us) × BlockOf bytes t f y))
      case_asks =
          block_asks g r (3 + 2 * i) e low (n - 1) (omega (arith, case_long, g.ready.high)) (omega (arith, g.ready.high))
          (rw c (case_ready g.ready g.targets (case_block F marks o) i so_far before.going case_copy.1))
          (targets_more g.targets (omega arith)) before.going before.passes.long

      module _ {t₁ us₁ path₁ : List ℕ} {q₁ : Passing} (one : Passes S (around (tree_of F marks y)) t₀ us (n + 1) x q₀ t₁ us₁ path₀ path₁ q₁) where
        walked_one : Walked S (around (case_block F marks o i)) t₀ (set us₀ n (get_or us₀ x.broke 0)) (n + 1) x q₀ t₁ us₁ q₁
        walked_one = rw (c, e) at one.walked

        pub case_passes : q₁.full ≡ true → Passes S (cases (o 1) (case_block F marks o)) s rs n x p t₁ us₁ path path₁ q₁
        case_passes k = stays_full (suc i) (o 1) (omega arith) k record {
          walked = case_full g.ready g.targets (case_block F marks o) i so_far before.going case_copy.1 walked_one k;
          long = one.long ∙ before.passes.long;
        }

        module _ (g₁ : q₁.full ≡ false) where
          slots_one : length us₁ ≡ length rs
          slots_one = one.walked.slots ∙ case_long

          module _ {t₂ us₂ : List ℕ} {k : Bool} (last : Merged t₁ us₁ n n (n - 1) t₂ us₂ k) where
            pub case_more : k ≡ true → Union S (i + 1) (case_block F marks o) s rs n x p t₂ us₂ path path₁ q₁
            case_more m =
                rw add-one
                record {
                  passes = record {
                    walked =
                        cases_more g.ready g.targets (case_block F marks o) i so_far before.going case_copy.1 walked_one g₁
                        (case_closed (one.walked.ready g₁) g.ready.high last) m;
                    long = one.long ∙ before.passes.long;
                  };
                  going = g₁;
                }

            pub case_ends_full : k ≡ false → {q : Passing} → q.full ≡ true → Passes S (cases (o 1) (case_block F marks o)) s rs n x p t₂ us₂ path path₁ q
            case_ends_full m u = stays_full (suc i) (o 1) (omega arith) u record {
              walked =
                  cases-end_full g.ready g.targets (case_block F marks o) i so_far before.going case_copy.1 walked_one g₁
                  (case_closed (one.walked.ready g₁) g.ready.high last) m u;
              long = one.long ∙ before.passes.long;
            }

  pub all_cases : {i m : ℕ} → m ≡ o 1 → i ≡ m → {t₀ us₀ path₀ : List ℕ} {q₀ : Passing} → Union S i (case_block F marks o) s rs n x p t₀ us₀ path path₀ q₀ →
      Passes S (cases (o 1) (case_block F marks o)) s rs n x p t₀ us₀ path path₀ q₀
  all_cases e d u = rw (d, e) at u.passes

  -- The switch

  module _ (room : n + (3 * b + 11) ≤ length rs) where
    pub switch_write : n < length rs
    switch_write = omega arith

    selector_there : o 0 < length F.expressions
    unfolding statement_of
    selector_there = (uses_of r 3 h g.world.given.of.read g.world.given.of.there).0

    module _ {us : List ℕ} (c : us ≡ set rs n 2) {y : Exits} (e : y ≡ case_exits n x) where
      first_long : length us ≡ length rs
      first_long = ap length c ∙ length-set rs n 2

      pub cases_ask : Course bytes t f types alike paths firsts s us path (n + 1) y p × (((n + 1) + (3 * b + 10) ≤ length us) × (in_slot s us ((n + 1) - 1) ≡ none))
      cases_ask = (
        course_on g (rw c (union_ready g.ready g.targets switch_write (kept_none S))) (rw e (case_targets g.ready g.targets switch_write (kept_none S))) g.going refl,
        (omega (arith, first_long), rw c (union_none g.ready g.targets switch_write (kept_none S))),
      )

      module _ {t₁ us₁ path₁ : List ℕ} {q₁ : Passing} (one : Passes S (cases (o 1) (case_block F marks o)) s us (n + 1) y p t₁ us₁ path path₁ q₁) where
        walked_cases : Walked S (cases (length (map (λ (c : SwitchCase). c.value) (tab (o 1) (case_of o)))) (case_tree w o)) s (set rs n 2) (n + 1) (case_exits n x) p t₁ us₁ q₁
        walked_cases = rw (values_long o) (walked_same (o 1) (case_block F marks o) (case_tree w o) (λ i l. sym (case_is r marks h i l refl)) (rw (c, e) at one.walked))

        abbrev values : List ℕ
        values = map (λ (c : SwitchCase). c.value) (tab (o 1) (case_of o))

        pub switch_passes : q₁.full ≡ true → Passes S (inside (switch_tree w o)) s rs n x p t₁ us₁ path path₁ q₁
        switch_passes k = record { walked = switch-full g.ready g.targets switch_write (kept_none S) (o 0) values (case_tree w o) walked_cases k; long = one.long }

        module _ (g₁ : q₁.full ≡ false) {v : ℕ} (j : v ≡ o 0) where
          pub switch_end_asks : EndGiven S t₁ us₁ n v
          switch_end_asks = record {
            read = g.world.read;
            judged = g.world.judged;
            ready = one.walked.ready g₁;
            high = g.ready.high;
            spare = omega (arith, one.walked.slots, first_long);
            there = rw j selector_there;
          }

          module _ {t₂ us₂ : List ℕ} {k : Bool} (last : Closed S (switch_ends S v) t₁ us₁ n t₂ us₂ k) where
            pub switch-ends : k ≡ true → Passes S (inside (switch_tree w o)) s rs n x p t₂ us₂ path path₁ q₁
            switch-ends m = record {
              walked = walked_switch g.ready g.targets switch_write (kept_none S) (o 0) values (case_tree w o) walked_cases g₁ (rw j at last) m;
              long = one.long;
            }

            pub switch_ends_full : k ≡ false → {q : Passing} → q.full ≡ true → Passes S (inside (switch_tree w o)) s rs n x p t₂ us₂ path path₁ q
            switch_ends_full m u = record {
              walked = switch-end_full g.ready g.targets switch_write (kept_none S) (o 0) values (case_tree w o) walked_cases g₁ (rw j at last) m u;
              long = one.long;
            }
