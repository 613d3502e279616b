-- The line of a statement, in six pieces, and the lines of a function's statements, one by one.
use Prim.Native.Nat.{ℕ, zero, suc, ◌+◌, ◌-◌, ◌<◌, ◌≤◌}
use mathlib.Core.Path.{◌≡◌, refl, sym, ap, ◌∙◌}
use mathlib.Core.List.{List, [], ◌∷◌, ◌++◌}
use native.Mathlib.Numerals.{add-one}
use native.Mathlib.Omega.{arith}
use lib.ListN.{length, get_or, take, drop, drop_of_length-le}
use lib.Seq.{drop-cons, take-nil, drop-nil, take-take, drop-drop}
use Rattle.module.specs.Module.{Statement}
use Rattle.module.specs.Marks.{mark_count, marks_before}
use Rattle.module.specs.Tables.{function_of, module_of}
use Rattle.access.specs.declared.kinded.Kinded.{Kinded}
use Rattle.access.specs.Access.{statement_number, statement_at, statement_row, operand_at}
use Rattle.access.proofs.Access.{statement_is, statement-of}
use Rattle.walk.specs.Resolve.{function_at}
use Rattle.walk.specs.Marks.{stretch}
use Rattle.marks.specs.declared.places.MarkPlaces.{MarkPlaces}
use Rattle.marks.specs.Places.{slice, start_of}
use Rattle.marks.proofs.Placed.{marks_suc, marks_within, at_function, statement_count, at_more}
use Rattle.lines.specs.Text.{number, stmt_word, name_of, kind_name, marks_text, statement_text, statements_text}
use Rattle.lines.specs.Reported.{Marked, MarkedIn, statements_in}
use Rattle.lines.specs.declared.text.Text.{Text}
use Rattle.lines.specs.Wrote.{Fits, Writes}
use Rattle.lines.proofs.Writing.{texts, Rooms, rooms, writes_then, writes_as}
use Rattle.lines.proofs.Along.{Splits}
use Rattle.lines.proofs.Named.{name_is}

-- by the statement's row r, and its number c of marks
module _ (bytes t : List ℕ) (f s : ℕ) (ms : List ℕ) {r : Kinded} {c : ℕ} (row : r ≡ statement_row bytes t f s) (own : c ≡ mark_count (statement_at bytes t f s)) where
  line_is : statement_text s (statement_at bytes t f s) ms ≡ stmt_word ++ (number s ++ ((32 ∷ []) ++ (kind_name r.kind ++ (marks_text (take c ms) ++ (10 ∷ [])))))
  line_is =
      let name : name_of (statement_at bytes t f s) ≡ kind_name r.kind = ap name_of (statement-of bytes t f s r.kind r row refl) ∙ name_is r.kind (operand_at bytes r) in
      rw (name, own)

  pub statement_rooms : {at : ℕ} → Fits at (statement_text s (statement_at bytes t f s) ms) → Rooms at (stmt_word ∷ (number s ∷ ((32 ∷ []) ∷ (kind_name r.kind ∷ (marks_text (take c ms) ∷ ((10 ∷ []) ∷ []))))))
  unfolding texts
  statement_rooms {at} fits = rooms (stmt_word ∷ (number s ∷ ((32 ∷ []) ∷ (kind_name r.kind ∷ (marks_text (take c ms) ∷ ((10 ∷ []) ∷ [])))))) fits line_is

  pub statement_writes : {t₁ t₂ t₃ t₄ t₅ t₆ t₇ : Text} → Writes t₁ t₂ stmt_word → Writes t₂ t₃ (number s) → Writes t₃ t₄ (32 ∷ []) → Writes t₄ t₅ (kind_name r.kind)
      → Writes t₅ t₆ (marks_text (take c ms)) → Writes t₆ t₇ (10 ∷ []) → Writes t₁ t₇ (statement_text s (statement_at bytes t f s) ms)
  statement_writes u v w x y z = writes_as (sym line_is) (writes_then u (writes_then v (writes_then w (writes_then x (writes_then y z)))))

-- the front of a stretch, and what is behind it
drop_take : (c n : ℕ) (xs : List ℕ) → drop c (take (c + n) xs) ≡ take n (drop c xs)
drop_take zero n xs = let z : 0 + n ≡ n = omega arith in rw z
drop_take (suc c) n [] =
    ap (λ (l : List ℕ). drop (suc c) l) (take-nil (suc c + n))
    ∙ drop-nil (suc c)
    ∙ sym (ap (λ (l : List ℕ). take n l) (drop-nil (suc c)) ∙ take-nil n)
drop_take (suc c) n (x ∷ xs) = let z : suc c + n ≡ suc (c + n) = omega arith in rw z (drop_take c n xs)

left_behind : (ms : List ℕ) (from a b n c : ℕ) → b ≡ a + c → b ≤ n → drop c (slice ms (from + a) (n - a)) ≡ slice ms (from + b) (n - b)
left_behind ms from a b n c e h =
    let cut : n - a ≡ c + (n - b) = omega arith in
    let place : from + a + c ≡ from + b = omega arith in
    rw (cut, drop_take c (n - b) (drop (from + a) ms), drop-drop c (from + a) ms, place)

first_line : (k : ℕ) (s : Statement) (ss : List Statement) (xs ys zs : List ℕ) → take (mark_count s) xs ≡ take (mark_count s) ys → drop (mark_count s) xs ≡ zs → statements_text k (s ∷ ss) xs ≡ statement_text k s ys ++ statements_text (suc k) ss zs
unfolding statements_text
first_line k s ss xs ys zs e d = rw (e, d)

-- the lines of ss from the k-th on, where the marks of all begin at `from`
abbrev pub statements_left : (ss : List Statement) (ms : List ℕ) (from k : ℕ) → List ℕ
statements_left ss ms from k =
    statements_text k (drop k ss) (slice ms (from + marks_before ss k) (marks_before ss (length ss) - marks_before ss k))

left_next : (ss : List Statement) (ms : List ℕ) (from k : ℕ) (d : Statement) → k < length ss → Splits (statements_left ss ms from k) (statement_text k (get_or ss k d) (drop (from + marks_before ss k) ms)) (statements_left ss ms from (k + 1))
left_next ss ms from k d h =
    let own = marks_suc ss k d h in
    let within = marks_within ss (suc k) (omega arith) in
    let behind = left_behind ms from (marks_before ss k) (marks_before ss (suc k)) (marks_before ss (length ss)) (mark_count (get_or ss k d)) own within in
    rw (add-one k)
    (record {
      is = ap (λ (l : List Statement). statements_text k l (slice ms (from + marks_before ss k) (marks_before ss (length ss) - marks_before ss k))) (drop-cons ss k d h)
          ∙ first_line k (get_or ss k d) (drop (suc k) ss) _ _ _ (take-take (mark_count (get_or ss k d)) (marks_before ss (length ss) - marks_before ss k) (drop (from + marks_before ss k) ms) (omega arith)) behind;
    })

left_none : (ss : List Statement) (ms : List ℕ) (from k : ℕ) → length ss ≤ k → statements_left ss ms from k ≡ []
unfolding statements_text
left_none ss ms from k h = rw (drop_of_length-le ss h)

left_all : (ss : List Statement) (ms : List ℕ) (from : ℕ) → statements_text 0 ss (slice ms from (marks_before ss (length ss))) ≡ statements_left ss ms from 0
unfolding marks_before
left_all ss ms from =
    let b : from + 0 ≡ from = omega arith in
    let e : marks_before ss (length ss) - 0 ≡ marks_before ss (length ss) = omega arith in
    rw (b, e)

-- those of a function of the module that was read
abbrev pub lines_left : (bytes t ms : List ℕ) (f k : ℕ) → List ℕ
lines_left bytes t ms f k = statements_left (function_at (module_of bytes t) f).statements ms (start_of (module_of bytes t) f) k

pub lines_all : (bytes t ms : List ℕ) (f : ℕ) → statements_in bytes t ms f ≡ lines_left bytes t ms f 0
unfolding statements_in stretch
lines_all bytes t ms f = left_all (function_at (module_of bytes t) f).statements ms (start_of (module_of bytes t) f)

-- where all marks are placed, those of the function are
pub marked_in : {bytes t : List ℕ} {places : MarkPlaces} {ms : List ℕ} {f : ℕ} → Marked bytes t places ms f → MarkedIn bytes t places.firsts ms f
marked_in {f = f} M = record { was_read = M.was_read; function = M.function; placed = λ s h. M.placed.statements f s M.function h; long = M.long }

module _ {bytes t firsts ms : List ℕ} {f : ℕ} (marked : MarkedIn bytes t firsts ms f) where
  abbrev ss : List Statement
  ss = (function_at (module_of bytes t) f).statements

  long : length ss ≡ length (function_of bytes t f).statements
  long = ap (λ g. length g.statements) (at_function bytes t marked.was_read f marked.function)

  pub lines_none : (s : ℕ) → length (function_of bytes t f).statements ≤ s → lines_left bytes t ms f s ≡ []
  lines_none s h = left_none ss ms (start_of (module_of bytes t) f) s (omega (arith, long))

  module _ {from : ℕ} (s : ℕ) (h : s < length (function_of bytes t f).statements) (p : from ≡ get_or firsts (statement_number t f s) 0) where
    at : from ≡ start_of (module_of bytes t) f + marks_before ss s
    at = p ∙ marked.placed s h

    pub marks_there : from + mark_count (statement_at bytes t f s) ≤ length ms
    marks_there =
        omega (arith, marked.long, (at_more bytes t marked.was_read f s (mark_count (statement_at bytes t f s)) from marked.function (omega (arith, statement_count bytes t marked.was_read f)) at refl).1)

    pub lines_next : Splits (lines_left bytes t ms f s) (statement_text s (statement_at bytes t f s) (drop from ms)) (lines_left bytes t ms f (s + 1))
    lines_next =
        let is : get_or ss s (statement_at bytes t f s) ≡ statement_at bytes t f s = ap (λ g. get_or g.statements s (statement_at bytes t f s)) (at_function bytes t marked.was_read f marked.function) ∙ statement_is bytes t f s (statement_at bytes t f s) h in
        let next = left_next ss ms (start_of (module_of bytes t) f) s (statement_at bytes t f s) (omega (arith, long)) in
        rw (at, ← is) next
