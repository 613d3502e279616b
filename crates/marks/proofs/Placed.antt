-- The tables of the marks' places, filled function by function and statement by statement, and what they say then.
use mathlib.Core.Path.{◌≡◌, refl, ap, ◌∙◌, subst}
use mathlib.Core.Logic.{⊎_elim}
use mathlib.Core.List.{List, [], ◌∷◌}
use Prim.Native.Nat.{ℕ, zero, suc, ◌+◌, ◌<◌, ◌≤◌}
use native.Mathlib.Nat.{eq-or-lt_of_le, le_of_suc-le-suc}
use native.Mathlib.Numerals.{add-one}
use native.Mathlib.Omega.{arith}
use lib.ListN.{length, get_or, set, length-set}
use lib.Seq.{get_or-set_same, get_or-set_other}
use Rattle.field.specs.Limits.{max_functions, min_report}
use Rattle.module.specs.Module.{Statement, Module}
use Rattle.module.specs.Marks.{mark_count, marks_before}
use Rattle.module.specs.Tables.{row_at, items_to, max_items, function_of, module_of}
use Rattle.access.specs.Access.{statement_number, statement_at}
use Rattle.access.proofs.Access.{function_is, statement_is, functions_are, statements-are}
use Rattle.access.proofs.Laid.{earlier}
use Rattle.valid.proofs.Accepted.{valid}
use Rattle.walk.specs.Resolve.{function_at}
use Rattle.walk.specs.Marks.{stretch}
use Rattle.access.specs.Laid.{WasRead}
use Rattle.marks.specs.Places.{start_of, mark_place, places_of, Places, placed_in}
use Rattle.marks.proofs.Fit.{marks_fit, start_suc}

-- the marks before a statement, with its own, and up to the last
pub marks_suc : (ss : List Statement) (s : ℕ) (d : Statement) → s < length ss → marks_before ss (suc s) ≡ marks_before ss s + mark_count (get_or ss s d)
unfolding marks_before
marks_suc [] s d h = absurd (omega arith)
marks_suc (x ∷ ss) zero d h = unfold marks_before in omega (arith, marks_zero ss)
  where
    marks_zero : (ss : List Statement) → marks_before ss 0 ≡ 0
    marks_zero ss = refl
marks_suc (x ∷ ss) (suc s) d h = let ih = marks_suc ss s d (omega arith) in omega arith

pub marks_within : (ss : List Statement) (s : ℕ) → s ≤ length ss → marks_before ss s ≤ marks_before ss (length ss)
unfolding marks_before
marks_within ss zero h = omega arith
marks_within [] (suc s) h = absurd (omega arith)
marks_within (x ∷ ss) (suc s) h = let ih = marks_within ss s (omega arith) in omega arith

-- where functions begin
pub start_within : (m : Module) (f g : ℕ) → f ≤ g → start_of m f ≤ start_of m g
start_within m f zero h = let z : f ≡ 0 = omega arith in rw z (omega arith)
start_within m f (suc g) h =
    ⊎_elim
    (λ e. rw e (omega arith))
    (λ l.
    let ih = start_within m f g (omega arith) in
    let z : g + 1 ≡ suc g = omega arith in
    let s : start_of m (suc g) ≡ start_of m g + stretch m g = rw z at (start_suc m g) in
    omega arith)
    (eq-or-lt_of_le h)

-- the tables with the functions below n
unfoldable pub starts_to : (bytes t starts : List ℕ) → ℕ → List ℕ
starts_to bytes t starts zero = starts
starts_to bytes t starts (suc f) = set (starts_to bytes t starts f) f (start_of (module_of bytes t) f)

unfoldable pub firsts_to : (bytes t firsts : List ℕ) → ℕ → List ℕ
firsts_to bytes t firsts zero = firsts
firsts_to bytes t firsts (suc f) = placed_in bytes t f (firsts_to bytes t firsts f) (row_at t f).statements

module _ (bytes t : List ℕ) (was : WasRead bytes t) where
  abbrev m : Module
  m = module_of bytes t

  abbrev count : ℕ
  count = length (module_of bytes t).functions

  pub few : count ≤ max_functions
  few = (valid bytes m was.module_is).few_functions

  pub fit : start_of m count ≤ min_report
  fit = marks_fit bytes m was.module_is

  pub at_function : (f : ℕ) → f < count → function_at m f ≡ function_of bytes t f
  unfolding function_at
  at_function f h = function_is bytes t f _ h

  pub statement_count : (f : ℕ) → (row_at t f).statements ≡ length (function_of bytes t f).statements
  statement_count f = statements-are t f (row_at t f) refl bytes

  -- one statement further, within the least report
  place_suc : (f s n : ℕ) → f < count → s < (row_at t f).statements → n ≡ mark_count (statement_at bytes t f s) → mark_place m f (s + 1) ≡ mark_place m f s + n
  place_suc f s n hf hs e =
      let l : s < length (function_of bytes t f).statements = omega (arith, statement_count f) in
      let own = marks_suc (function_of bytes t f).statements s (statement_at bytes t f s) l in
      let is = ap mark_count (statement_is bytes t f s (statement_at bytes t f s) l) in
      rw (add-one s, at_function f hf) (omega arith)

  place_end : (f : ℕ) → f < count → mark_place m f (row_at t f).statements ≡ start_of m (f + 1)
  unfolding stretch
  place_end f hf = rw (start_suc m f, at_function f hf, statement_count f)

  place_small : (f s : ℕ) → f < count → s ≤ (row_at t f).statements → mark_place m f s ≤ min_report
  unfolding stretch
  place_small f s hf hs =
      let a = marks_within (function_of bytes t f).statements s (omega (arith, statement_count f)) in
      let b = start_within m (f + 1) count (omega arith) in
      let c = start_suc m f in
      let d = at_function f hf in
      let e = fit in
      rw d (omega (arith, rw d at c))

  pub at_first : (f at : ℕ) → at ≡ start_of m f → at ≡ mark_place m f 0
  unfolding marks_before
  at_first f at e = omega arith

  pub at_more : (f s n at : ℕ) → f < count → s < (row_at t f).statements → at ≡ mark_place m f s → n ≡ mark_count (statement_at bytes t f s) → (at + n ≡ mark_place m f (s + 1)) × (at + n ≤ min_report)
  at_more f s n at hf hs e h =
      let a = place_suc f s n hf hs h in
      let b = place_small f (s + 1) hf (omega arith) in
      (omega arith, omega arith)

  -- the statements of a function
  pub placed_long : (f : ℕ) (firsts : List ℕ) (n : ℕ) → length (placed_in bytes t f firsts n) ≡ length firsts
  unfolding placed_in
  placed_long f firsts zero = refl
  placed_long f firsts (suc s) = length-set (placed_in bytes t f firsts s) (statement_number t f s) (mark_place m f s) ∙ placed_long f firsts s

  placed_outside : (f : ℕ) (firsts : List ℕ) (n k : ℕ) → ((s : ℕ) → s < n → k ≡ statement_number t f s → ⊥) → get_or (placed_in bytes t f firsts n) k 0 ≡ get_or firsts k 0
  unfolding placed_in
  placed_outside f firsts zero k h = refl
  placed_outside f firsts (suc s) k h =
      get_or-set_other (placed_in bytes t f firsts s) (statement_number t f s) k (mark_place m f s) 0 (h s (omega arith))
      ∙ placed_outside f firsts s k (λ i l. h i (omega arith))

  placed_at : (f : ℕ) (firsts : List ℕ) (n s : ℕ) → statement_number t f n ≤ length firsts → s < n → get_or (placed_in bytes t f firsts n) (statement_number t f s) 0 ≡ mark_place m f s
  unfolding placed_in
  placed_at f firsts zero s l h = absurd (omega arith)
  placed_at f firsts (suc n) s l h =
      ⊎_elim
      (λ e.
      let i : statement_number t f n < length (placed_in bytes t f firsts n) = omega (arith, placed_long f firsts n) in
      rw e (get_or-set_same (placed_in bytes t f firsts n) (statement_number t f n) (mark_place m f n) 0 i))
      (λ k.
      let ne : statement_number t f s ≡ statement_number t f n → ⊥ = omega arith in
      get_or-set_other (placed_in bytes t f firsts n) (statement_number t f n) (statement_number t f s) (mark_place m f n) 0 ne
      ∙ placed_at f firsts n s (omega arith) k)
      (eq-or-lt_of_le (le_of_suc-le-suc h))

  -- one statement more
  pub placed_none : (f : ℕ) (firsts : List ℕ) → firsts ≡ placed_in bytes t f firsts 0
  unfolding placed_in
  placed_none f firsts = refl

  pub placed_more : (f : ℕ) (firsts left final : List ℕ) (s at k : ℕ) → left ≡ placed_in bytes t f firsts s → at ≡ mark_place m f s → k ≡ statement_number t f s → final ≡ set left k at → final ≡ placed_in bytes t f firsts (s + 1)
  unfolding placed_in
  placed_more f firsts left final s at k p q r e = e ∙ rw (add-one s, p, q, r)

  -- one function more
  pub starts_more : (starts left final : List ℕ) (f at : ℕ) → left ≡ starts_to bytes t starts f → at ≡ start_of m f → final ≡ set left f at → final ≡ starts_to bytes t starts (f + 1)
  unfolding starts_to
  starts_more starts left final f at p q e = e ∙ rw (add-one f, p, q)

  pub firsts_more : (firsts left final : List ℕ) (f : ℕ) → left ≡ firsts_to bytes t firsts f → final ≡ placed_in bytes t f left (row_at t f).statements → final ≡ firsts_to bytes t firsts (f + 1)
  unfolding firsts_to
  firsts_more firsts left final f p e = e ∙ rw (add-one f, p)

  pub starts_long : (starts : List ℕ) (n : ℕ) → length (starts_to bytes t starts n) ≡ length starts
  unfolding starts_to
  starts_long starts zero = refl
  starts_long starts (suc f) = length-set (starts_to bytes t starts f) f (start_of m f) ∙ starts_long starts f

  pub firsts_long : (firsts : List ℕ) (n : ℕ) → length (firsts_to bytes t firsts n) ≡ length firsts
  unfolding firsts_to
  firsts_long firsts zero = refl
  firsts_long firsts (suc f) = placed_long f (firsts_to bytes t firsts f) (row_at t f).statements ∙ firsts_long firsts f

  pub placed_all : (f : ℕ) (firsts left : List ℕ) (s at : ℕ) → f < count → s ≡ (row_at t f).statements → left ≡ placed_in bytes t f firsts s → at ≡ mark_place m f s → (left ≡ placed_in bytes t f firsts (row_at t f).statements) × (at ≡ start_of m (f + 1))
  placed_all f firsts left s at hf e p q = (rw e at p, (rw e at q) ∙ place_end f hf)

  -- the items of a function are among the file's
  pub within : (f : ℕ) → f < count → items_to (row_at t f) ≤ max_items
  within f h = was.laid.within f (rw (functions_are t bytes) h)

  at_start : (starts : List ℕ) (n f : ℕ) → max_functions < length starts → f < n → n ≤ count → get_or (starts_to bytes t starts n) f 0 ≡ start_of m f
  unfolding starts_to
  at_start starts zero f long h l = absurd (omega arith)
  at_start starts (suc n) f long h l =
      ⊎_elim
      (λ e.
      let i : n < length (starts_to bytes t starts n) = omega (arith, starts_long starts n, few) in
      rw e (get_or-set_same (starts_to bytes t starts n) n (start_of m n) 0 i))
      (λ k.
      let ne : f ≡ n → ⊥ = omega arith in
      get_or-set_other (starts_to bytes t starts n) n f (start_of m n) 0 ne ∙ at_start starts n f long k (omega arith))
      (eq-or-lt_of_le (le_of_suc-le-suc h))

  at_statement : (firsts : List ℕ) (n f s : ℕ) → max_items ≤ length firsts → f < n → n ≤ count → s < (row_at t f).statements → get_or (firsts_to bytes t firsts n) (statement_number t f s) 0 ≡ mark_place m f s
  unfolding firsts_to
  at_statement firsts zero f s long h l hs = absurd (omega arith)
  at_statement firsts (suc n) f s long h l hs =
      ⊎_elim
      (λ e.
      let w = within n (omega arith) in
      let i : s < (row_at t n).statements = subst (λ (k : ℕ). s < (row_at t k).statements) e hs in
      rw e (placed_at n (firsts_to bytes t firsts n) (row_at t n).statements s (omega (arith, firsts_long firsts n)) i))
      (λ k.
      let before = earlier t was.laid f n k (rw (functions_are t bytes) (omega arith)) in
      placed_outside n (firsts_to bytes t firsts n) (row_at t n).statements (statement_number t f s) (λ j i z. omega arith)
      ∙ at_statement firsts n f s long k (omega arith) hs)
      (eq-or-lt_of_le (le_of_suc-le-suc h))

  -- when all is placed
  at_end : (starts : List ℕ) (f : ℕ) → max_functions < length starts → f ≤ count → get_or (set (starts_to bytes t starts count) count (start_of m count)) f 0 ≡ start_of m f
  at_end starts f long h =
      ⊎_elim
      (λ e.
      let i : count < length (starts_to bytes t starts count) = omega (arith, starts_long starts count, few) in
      rw e (get_or-set_same (starts_to bytes t starts count) count (start_of m count) 0 i))
      (λ i.
      let ne : f ≡ count → ⊥ = omega arith in
      get_or-set_other (starts_to bytes t starts count) count f (start_of m count) 0 ne ∙ at_start starts count f long i (omega arith))
      (eq-or-lt_of_le h)

  pub places-made : (starts firsts left us vs : List ℕ) (n at : ℕ) → n ≡ count → max_functions < length starts → max_items ≤ length firsts → left ≡ starts_to bytes t starts n → at ≡ start_of m n → us ≡ set left n at → vs ≡ firsts_to bytes t firsts n → Places bytes t (places_of us vs)
  places-made starts firsts left us vs n at c k l p q r e = record {
    long = rw (r, p) (omega (arith, length-set (starts_to bytes t starts n) n at, starts_long starts n));
    starts = λ f h. rw (r, p, q, c) (at_end starts f k h);
    statements = λ f s hf hs.
        let i : s < (row_at t f).statements = omega (arith, statement_count f) in
        rw (e, c) (at_statement firsts count f s l hf (omega arith) i);
  }
