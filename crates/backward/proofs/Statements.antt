-- A block's statements, the last first, with a point before each; the points around a block; and a statement by its kind.
use Prim.Native.Nat.{ℕ, zero, suc, ◌+◌, ◌-◌, ◌≤◌}
use native.Mathlib.Omega.{arith}
use mathlib.Core.Path.{◌≡◌, refl, ap, ◌∙◌}
use mathlib.Core.Bool.{Bool, true, false}
use mathlib.Core.List.{List}
use Rattle.module.specs.Module.{BlockRange, Function}
use Rattle.module.specs.Tables.{function_of}
use Rattle.access.specs.declared.kinded.Kinded.{Kinded}
use Rattle.access.specs.Access.{operand_at, statement_row, range_at}
use Rattle.part.specs.PartReq.{PartReq}
use Rattle.clearance.specs.Scope.{Scope}
use Rattle.clearance.specs.Tree.{Tree}
use Rattle.clearance.specs.Needs.{Exit, upon, Setting}
use Rattle.pass.specs.Pass.{Carried, full, ◌>>=◌, point, pass_inside}
use Rattle.judge.specs.Given.{scope_at}
use Rattle.hold.specs.Hold.{in_slot}
use Rattle.quiet.specs.Places.{tree_of, statement_tree}
use Rattle.strays.specs.Places.{BlockOf, StatementIn}
use Rattle.standing.specs.Standing.{setting_of, Noted, inside, around}
use Rattle.standing.specs.Passing.{Passing}
use Rattle.standing.specs.Exits.{Exits}
use Rattle.standing.proofs.Walks.{walked_full, walked_nop, walked_seq, walked_pointed, pointed_full}
use Rattle.backward.specs.Course.{Course, Passes, RowIn}
use Rattle.backward.proofs.Course.{course_on}
use Rattle.backward.proofs.Trees.{later, none_later, one_more, all_later, inner_is}

-- where a block's later statements pass the bound, all do
sooner_full : (W : Setting) (r : ℕ → PartReq) (F : Function) (marks : List ℕ) (b first count : ℕ) (aside : List PartReq) (k : Exit → PartReq) (c : Carried) (d i : ℕ) → i + d ≤ count →
    pass_inside W r (later F marks b first count (i + d)) aside k c ≡ full → pass_inside W r (later F marks b first count i) aside k c ≡ full
unfolding pass_inside
sooner_full W r F marks b first count aside k c zero i l e = let z : i + zero ≡ i = omega arith in rw z at e
sooner_full W r F marks b first count aside k c (suc d) i l e =
    let z : i + suc d ≡ (i + 1) + d = omega arith in
    rw (one_more F marks b first count (i + 1) i (omega arith) refl)
    (ap (λ o. o >>= λ d' m. pass_inside W r (statement_tree F marks b (first + i)) aside (upon m k) (point m d')) (sooner_full W r F marks b first count aside k c d (i + 1) (omega arith) (rw z at e)))

-- of a block's statements those from the k-th on were walked, and the bound was not passed
pub record Later (bytes t : List ℕ) (f b : ℕ) (marks s rs path : List ℕ) (n : ℕ) (x : Exits) (p : Passing) (first count k : ℕ) (u us after : List ℕ) (q : Passing) : Type 0 where
  pub passes : Passes (scope_at bytes t f) (inside (later (function_of bytes t f) marks b first count k)) s rs n x p u us path after q
  pub going : q.full ≡ false
  pub within : k ≤ count

module _ {bytes t : List ℕ} {f : ℕ} {types alike : List ℕ} {paths : List Bool} {firsts s rs path : List ℕ} {n : ℕ} {x : Exits} {p : Passing} (g : Course bytes t f types alike paths firsts s rs path n x p) where
  abbrev S : Scope
  S = scope_at bytes t f

  abbrev F : Function
  F = function_of bytes t f

  -- The points around a block
  module _ {p' : Passing} (d : Noted (in_slot s rs (n - 1)) p p') where
    pub at-point : Course bytes t f types alike paths firsts s rs path n x p'
    at-point = course_on g g.ready g.targets (d.full ∙ g.going) refl

    module _ {a : Tree} {t₁ us₁ path₁ : List ℕ} {q₁ : Passing} (one : Passes S (inside a) s rs n x p' t₁ us₁ path path₁ q₁) where
      pub around-full : q₁.full ≡ true → Passes S (around a) s rs n x p t₁ us₁ path path₁ q₁
      around-full h = record { walked = pointed_full g.ready.high g.targets d one.walked h; long = one.long }

      pub around-on : q₁.full ≡ false → {q₂ : Passing} → Noted (in_slot t₁ us₁ (n - 1)) q₁ q₂ → Passes S (around a) s rs n x p t₁ us₁ path path₁ q₂
      around-on h e = record { walked = walked_pointed g.ready.high g.targets d one.walked h e; long = one.long }

  -- A block's statements
  pub no_statement : (b : ℕ) (marks : List ℕ) (first count k : ℕ) → k ≡ count → Later bytes t f b marks s rs path n x p first count k s rs path p
  no_statement b marks first count k h = record {
    passes = record { walked = rw (none_later F marks b first count k h) (walked_nop g.ready g.going); long = refl };
    going = g.going;
    within = omega arith;
  }

  module _ {b : ℕ} {marks : List ℕ} {first count k : ℕ} {t₁ us₁ path₁ : List ℕ} {q₁ : Passing} (a : Later bytes t f b marks s rs path n x p first count k t₁ us₁ path₁ q₁) where
    module _ {q₂ : Passing} (d : Noted (in_slot t₁ us₁ (n - 1)) q₁ q₂) where
      module _ (j : ℕ) (e : k ≡ j + 1) {t₃ us₃ path₃ : List ℕ} {q₃ : Passing} (one : Passes S (inside (statement_tree F marks b (first + j))) t₁ us₁ n x q₂ t₃ us₃ path₁ path₃ q₃) where
        joined : Passes S (inside (later F marks b first count j)) s rs n x p t₃ us₃ path path₃ q₃
        joined = record {
          walked = rw (one_more F marks b first count k j a.within e) (walked_seq g.ready.high g.targets a.passes.walked a.going d one.walked);
          long = one.long ∙ a.passes.long;
        }

        pub later_more : q₃.full ≡ false → Later bytes t f b marks s rs path n x p first count j t₃ us₃ path₃ q₃
        later_more h = record { passes = joined; going = h; within = omega (arith, a.within) }

        -- where one passes the bound, all do
        pub later_full : q₃.full ≡ true → BlockOf bytes t f b → {r : BlockRange} → r ≡ range_at t f b → first ≡ r.first → count ≡ r.count → Passes S (inside (tree_of F marks b)) s rs n x p t₃ us₃ path path₃ q₃
        later_full z h {r} q v c =
            let y : 0 + j ≡ j = omega arith in
            record {
              walked =
                  rw (all_later h marks r 0 q refl, ← v, ← c)
                  (walked_full joined.walked.cells joined.walked.slots z
                  (λ v' r' aside k' c' h'. sooner_full (setting_of S v') r' F marks b first count aside k' c' j 0 (omega (arith, a.within)) (rw y ((joined.walked.is v' r' aside k' c' h').full z))));
              long = joined.long;
            }

    pub all_walked : (h : BlockOf bytes t f b) {r : BlockRange} → r ≡ range_at t f b → first ≡ r.first → count ≡ r.count → k ≡ 0 → Passes S (inside (tree_of F marks b)) s rs n x p t₁ us₁ path path₁ q₁
    all_walked h {r} q e c z = rw (all_later h marks r k q z) (rw (e, c) at a.passes)

-- A statement by its kind
pub row_in : {bytes t : List ℕ} {f b s : ℕ} {row : Kinded} → StatementIn bytes t f b s → row ≡ statement_row bytes t f s → RowIn bytes t f b s row
row_in p e = record { statement = p; is = e }

pub inner_passes : {bytes t : List ℕ} {f b s : ℕ} {row : Kinded} (r : RowIn bytes t f b s row) (marks : List ℕ) → row.kind ≡ 1 → {c : ℕ} → c ≡ operand_at bytes row 0 →
    {u rs path : List ℕ} {n : ℕ} {x : Exits} {p : Passing} {v us after : List ℕ} {q : Passing} → Passes (scope_at bytes t f) (inside (tree_of (function_of bytes t f) marks c)) u rs n x p v us path after q →
    Passes (scope_at bytes t f) (inside (statement_tree (function_of bytes t f) marks b s)) u rs n x p v us path after q
inner_passes r marks h e w = rw (inner_is r marks h e) w
