-- Comparing the need at the start with a context: an accepted context's lists are those that the code reads, and the rest goes by cases.
use Prim.Native.Nat.{ℕ, zero, suc, ◌≤◌, ◌<◌}
use native.Mathlib.Omega.{arith}
use mathlib.Core.Path.{◌≡◌, refl, ap, sym, ◌∙◌}
use mathlib.Core.Bool.{Bool, true, false, cond, ◌&&◌}
use mathlib.Core.List.{List}
use mathlib.Core.Option.{Option, some, none as nothing}
use lib.Dec.{eqb}
use lib.ListN.{drop}
use borrow.Author.Tests.{lt-ltb, le-ltb}
use Rattle.part.specs.PartReq.{PartReq, get_subpart, contains}
use Rattle.part.specs.declared.store.Cell.{Cell}
use Rattle.part.specs.Store.{top, part, Seen}
use Rattle.part.specs.Subparts.{or_none, Piece}
use Rattle.part.proofs.Pieces.{part-0, part-1, part-2}
use Rattle.context.specs.RequiredContext.{RequiredContext}
use Rattle.clearance.specs.Shape.{below}
use Rattle.clearance.specs.Scope.{variable}
use Rattle.clearance.specs.Verdict.{needs_expression, starts}
use Rattle.request.specs.Part.{read_return, read_variables}
use Rattle.request.specs.Context.{is_context}
use Rattle.request.specs.Fields.{fields}
use Rattle.std.specs.Prelude.{Option as Maybe, Some, None, is_some as has_some}
use Rattle.std.specs.Borrow.{Bor}
use Rattle.context_bytes.specs.Checked.{Skips}
use Rattle.context_bytes.specs.Covered.{covers, Covers, after, is_some, lists_cover, CoversContext}
use Rattle.context_bytes.proofs.Accepted.{Accepted, accepted}
use Rattle.context_bytes.proofs.Checked.{skip_refused, skip_passed}

-- whether an expression is needed: what is left of the need says it
pub record Expressed (s : List ℕ) (n m : ℕ) : Type 0 where
  pub piece : m < top s
  pub rest : needs_expression (part s m) ≡ needs_expression (part s n)

plain_expressed : (s : List ℕ) (m : ℕ) → m ≤ 2 → eqb m 0 ≡ needs_expression (part s m)
unfolding needs_expression
plain_expressed s zero h = rw (part-0 s)
plain_expressed s (suc zero) h = rw (part-1 s)
plain_expressed s (suc (suc zero)) h = rw (part-2 s)
plain_expressed s (suc (suc (suc m))) h = absurd (omega arith)

module _ {s : List ℕ} {n : ℕ} where
  pub expressed_yes : {x : Cell} → (m : ℕ) × Seen s m x.index x.child x.rest × Expressed s n m × (variable 3 < x.index) → true ≡ needs_expression (part s n)
  unfolding needs_expression
  expressed_yes {x} (m, seen, so, h) = sym (rw (seen.is, lt-ltb (variable 3) x.index h)) ∙ so.rest

  pub expressed_on : (m : ℕ) (x : Cell) → Seen s m x.index x.child x.rest → x.index ≤ variable 3 → Expressed s n m → Expressed s n x.rest
  unfolding needs_expression
  expressed_on m x seen h so =
      record {
        piece = omega (arith, seen.rest_low, so.piece);
        rest = sym (rw (seen.is, le-ltb (variable 3) x.index h)) ∙ so.rest;
      }

  pub expressed_end : (m : ℕ) → m ≤ 2 → Expressed s n m → eqb m 0 ≡ needs_expression (part s n)
  expressed_end m h so = plain_expressed s m h ∙ so.rest

-- the two lists
module _ (g a : PartReq) (b : List ℕ) where
  pub lists_first : Covers b (covers g (read_variables (fields b))) None → false ≡ lists_cover g a (fields b)
  unfolding lists_cover
  lists_first first = rw (← first.is)

  module _ {c : Bor (List ℕ)} (first : Covers b (covers g (read_variables (fields b))) (Some c)) where
    pub lists_both : (y : Maybe (Bor (List ℕ))) → Covers c.now (covers a (read_variables (fields c.now))) y → has_some y ≡ lists_cover g a (fields b)
    unfolding lists_cover
    lists_both None second = rw (← first.is, ← second.is)
    lists_both (Some end) second = rw (← first.is, ← second.is)

both_some : (x : Bool) (gs : List ℕ) (f : List ℕ → Option (List ℕ)) → is_some (after (cond x (some gs) nothing) f) ≡ x && is_some (f gs)
both_some true gs f = refl
both_some false gs f = refl

some_is : (x : Bool) (gs : List ℕ) → is_some (cond x (some gs) nothing) ≡ x
some_is true gs = refl
some_is false gs = refl

lists_are : {b : List ℕ} {c : RequiredContext} (so : Accepted b c) (g a : PartReq) → lists_cover g a so.lists ≡ contains c.globals g && contains c.args a
unfolding lists_cover covers
lists_are {c = c} so g a =
    rw so.globals_is (both_some (contains c.globals g) so.args (λ gs. covers a (read_variables gs)) ∙ rw so.args_is (ap (λ y. contains c.globals g && y) (some_is (contains c.args a) so.locals)))

-- the whole
module _ (s : List ℕ) (n : ℕ) (b : List ℕ) where
  pub start_expression : {e : Bool} → e ≡ needs_expression (part s n) → e ≡ true → CoversContext s n b false
  unfolding starts
  start_expression is h = record { is = λ c marks k. rw (sym is ∙ h) }

  pub start_unframed : {r : Bool} → r ≡ is_context b → r ≡ false → CoversContext s n b false
  start_unframed is h =
      record { is = λ c marks k. let f = (accepted k).framed in let z : ◌≡◌ {A = ℕ} 0 1 = cc in absurd (omega arith) }

  pub start_no_return : Skips (drop 6 b) (read_return (fields (drop 6 b))) None → CoversContext s n b false
  start_no_return was =
      let e = skip_refused was in
      record { is = λ c marks k. let f = (accepted k).return_is in let z : ◌≡◌ {A = ℕ} 0 1 = cc in absurd (omega arith) }

  pub start_lists : {e r : Bool} {lists : Bor (List ℕ)} {g x : ℕ} → Skips (drop 6 b) (read_return (fields (drop 6 b))) (Some lists) → e ≡ needs_expression (part s n) → e ≡ false
      → Piece s (or_none (get_subpart (part s n) (variable 0))) g → Piece s (or_none (get_subpart (part s n) (variable 2))) x
      → r ≡ lists_cover (part s g) (part s x) (fields lists.now) → CoversContext s n b r
  unfolding starts below
  start_lists {e} {r} {lists} {g} {x} was is h globals args covered =
      let p = (skip_passed was).is in
      record {
        is =
            λ c marks k.
            let so = accepted k in
            let f = so.return_is in
            let same : fields lists.now ≡ so.lists = cc in
            covered ∙ rw same (lists_are so (part s g) (part s x) ∙ rw (← is, h, globals.is, args.is));
      }
