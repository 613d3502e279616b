-- What is judged is exactly what 01 says: where the marks are of the function's shape, the answer is not "not judged" if and only if every clause
-- holds, and otherwise it names the lowest expression, else the lowest statement, that breaks one. By how far the clearance comes.
use Prim.Native.Nat.{ℕ, ◌<◌}
use mathlib.Core.Path.{◌≡◌, refl, sym, ap, ◌∙◌}
use mathlib.Core.Bool.{Bool, true, false, cond}
use mathlib.Core.List.{List}
use mathlib.Core.Logic.{◌↔◌}
use mathlib.Core.Option.{Option, some, none as nothing}
use lib.Dec.{ltb, eqb}
use lib.ListN.{length}
use borrow.Author.Tests.{ltb-true, lt-ltb, eqb-true, eq-eqb}
use Rattle.field.specs.Limits.{max_pieces}
use Rattle.part.specs.PartReq.{over}
use Rattle.part.proofs.Equations.{never}
use Rattle.module.specs.Module.{ExpressionHandle, Function}
use Rattle.module.specs.Marks.{marks_before}
use Rattle.clearance.specs.Scope.{Scope}
use Rattle.clearance.specs.Needs.{Table, smallest}
use Rattle.clearance.specs.Judged.{blamed_expression, blamed_statement}
use Rattle.clearance.specs.Verdict.{Request, Report, Answer, clear, at_statement, at_start, unjudged_expression, unjudged_statement, refused, ending, setting, body}
use Rattle.clearance.specs.Verdict.{verdict, pieces, at_point, limited, answer_by, judge, has_shape, clearance}
use Rattle.clearance.specs.IsJudged.{FitExpression, IsJudged, ExpressionBlamed, StatementBlamed}
use Rattle.clearance.specs.Answered.{Shaped}
use Rattle.clearance.proofs.Small.{cases, both_true, both_are}
use Rattle.clearance.proofs.Relations.{impossible, every-at, every-from}
use Rattle.clearance.proofs.Blamed.{expressions-exactly, expression_blamed, statements-exactly, statement_blamed}

pub shape_exactly : (f : Function) (marks : List ℕ) → (has_shape f marks ≡ true) ↔ Shaped f marks
unfolding has_shape
shape_exactly f marks = (
  (λ h.
      let z = both_true (eqb (length marks) (marks_before f.statements (length f.statements))) _ h in
      record { count = eqb-true _ _ z.0; bits = λ b m. ltb-true b 2 (every-at (λ b. ltb b 2) marks z.1 b m) }),
  (λ s. both_are _ _ (eq-eqb _ _ s.count) (every-from (λ b. ltb b 2) marks (λ b m. lt-ltb b 2 (s.bits b m)))),
)

-- what is answered of a judged function: no refusal but 15 and 16
abbrev is_judged : Answer → Bool
is_judged clear = true
is_judged (at_statement n) = true
is_judged at_start = true
is_judged (unjudged_expression n) = false
is_judged (unjudged_statement n) = false
is_judged (refused n) = ltb n 21

verdict-judged : (o : Option ℕ) (s : Bool) → is_judged (verdict o s) ≡ true
unfolding verdict
verdict-judged (some n) s = refl
verdict-judged nothing true = refl
verdict-judged nothing false = refl

cond-judged : (b : Bool) (m : ℕ) (a : Answer) → ltb m 21 ≡ true → is_judged a ≡ true → is_judged (cond b (refused m) a) ≡ true
cond-judged true m a l h = l
cond-judged false m a l h = h

module _ (S : Scope) (R : Request) (P : Report) where
  answer_judged : (o : Option Table) → is_judged (answer_by S R P o) ≡ true
  unfolding answer_by limited
  answer_judged nothing = refl
  answer_judged (some t) = cond-judged (at_point S R P t over) 15 _ refl (cond-judged (at_point S R P t (λ n. ltb max_pieces (pieces n))) 16 _ refl (verdict-judged _ _))

  abbrev shape : Bool
  shape = has_shape S.function P.marks

  abbrev found : Option Table
  found = smallest (setting S R) (body S P) (ending S R)

  -- how far the clearance comes: to the marks, to an expression, to a statement, or to the walk
  pub data Stage : Type 0 where
    at_marks : shape ≡ false → clearance S R P ≡ refused 21 → Stage
    at_expression : shape ≡ true → (e : ExpressionHandle) → blamed_expression S ≡ some e → clearance S R P ≡ unjudged_expression e → Stage
    at_unfit : shape ≡ true → blamed_expression S ≡ nothing → (n : ℕ) → blamed_statement S (body S P) ≡ some n → clearance S R P ≡ unjudged_statement n → Stage
    at_walk : shape ≡ true → blamed_expression S ≡ nothing → blamed_statement S (body S P) ≡ nothing → clearance S R P ≡ answer_by S R P found → Stage

  marks_answer : shape ≡ false → clearance S R P ≡ refused 21
  unfolding clearance
  marks_answer h = rw (h, clearance)

  pub judged_answer : shape ≡ true → (x y : Option ℕ) → blamed_expression S ≡ x → blamed_statement S (body S P) ≡ y → clearance S R P ≡ judge S R P x y
  unfolding clearance
  judged_answer h x y p q = rw (h, clearance, p, q)

  pub stage : Stage
  unfolding judge
  stage = cases shape (λ h. go h (blamed_expression S) (blamed_statement S (body S P)) refl refl) (λ h. at_marks h (marks_answer h))
    where
      go : shape ≡ true → (x y : Option ℕ) → blamed_expression S ≡ x → blamed_statement S (body S P) ≡ y → Stage
      go h (some e) y p q = at_expression h e p (judged_answer h (some e) y p q)
      go h nothing (some n) p q = at_unfit h p n q (judged_answer h nothing (some n) p q)
      go h nothing nothing p q = at_walk h p q (judged_answer h nothing nothing p q)

  walk_judged : clearance S R P ≡ answer_by S R P found → is_judged (clearance S R P) ≡ true
  walk_judged e = ap is_judged e ∙ answer_judged found

  -- 21: exactly where the marks are not of the function's shape.
  pub marks-exactly : (clearance S R P ≡ refused 21) ↔ (Shaped S.function P.marks → ⊥)
  marks-exactly = (
    (λ e s. go e ((shape_exactly S.function P.marks).1 s) stage),
    (λ f. cases shape (λ h. absurd (f ((shape_exactly S.function P.marks).0 h))) marks_answer),
  )
    where
      go : clearance S R P ≡ refused 21 → shape ≡ true → Stage → ⊥
      go e s (at_marks h q) = impossible (sym h ∙ s)
      go e s (at_expression h x p q) = never cc
      go e s (at_unfit h p n r q) = never cc
      go e s (at_walk h p r q) = impossible (ap is_judged (sym e) ∙ walk_judged q)

  -- Not judged, with an expression: exactly the lowest that breaks a clause.
  pub unjudged_expression_exactly : (e : ExpressionHandle) → (clearance S R P ≡ unjudged_expression e) ↔ (Shaped S.function P.marks × ExpressionBlamed S e)
  unfolding judge
  unjudged_expression_exactly e = (
    (λ q. go q stage),
    (λ z. judged_answer ((shape_exactly S.function P.marks).1 z.0) _ _ ((expression_blamed S e).1 z.1) refl),
  )
    where
      go : clearance S R P ≡ unjudged_expression e → Stage → Shaped S.function P.marks × ExpressionBlamed S e
      go q (at_marks h r) = never cc
      go q (at_expression h x p r) = ((shape_exactly S.function P.marks).0 h, (expression_blamed S e).0 (let z : x ≡ e = cc in p ∙ ap some z))
      go q (at_unfit h p n y r) = never cc
      go q (at_walk h p y r) = never (ap is_judged (sym q) ∙ walk_judged r)

  -- Not judged, with a statement: exactly where every clause holds of each expression, the lowest statement that breaks one.
  pub unjudged_statement_exactly : (n : ℕ) → (clearance S R P ≡ unjudged_statement n) ↔
      (Shaped S.function P.marks × ((e : ExpressionHandle) → e < length S.function.expressions → FitExpression S e) × StatementBlamed S n)
  unfolding judge
  unjudged_statement_exactly n = (
    (λ q. go q stage),
    (λ z. judged_answer ((shape_exactly S.function P.marks).1 z.0) _ _ ((expressions-exactly S).1 z.1) ((statement_blamed S P n).1 z.2)),
  )
    where
      go : clearance S R P ≡ unjudged_statement n → Stage →
          Shaped S.function P.marks × ((e : ExpressionHandle) → e < length S.function.expressions → FitExpression S e) × StatementBlamed S n
      go q (at_marks h r) = never cc
      go q (at_expression h x p r) = never cc
      go q (at_unfit h p m y r) =
          ((shape_exactly S.function P.marks).0 h, (expressions-exactly S).0 p, (statement_blamed S P n).0 (let z : m ≡ n = cc in y ∙ ap some z))
      go q (at_walk h p y r) = never (ap is_judged (sym q) ∙ walk_judged r)

  -- Judged: where the answer is not 21, it is not "not judged" exactly where every clause of 01's holds.
  pub judged_exactly : (clearance S R P ≡ refused 21 → ⊥) →
      (((e : ExpressionHandle) → clearance S R P ≡ unjudged_expression e → ⊥) × ((n : ℕ) → clearance S R P ≡ unjudged_statement n → ⊥)) ↔ IsJudged S
  judged_exactly f = (
    (λ z. go z stage),
    (λ j. (
      (λ e q. let y = ((unjudged_expression_exactly e).0 q).1 in y.fails (j.expressions e y.one)),
      (λ n q. let y = ((unjudged_statement_exactly n).0 q).2 in y.fails (j.statements n y.one)),
    )),
  )
    where
      go : ((e : ExpressionHandle) → clearance S R P ≡ unjudged_expression e → ⊥) × ((n : ℕ) → clearance S R P ≡ unjudged_statement n → ⊥) → Stage → IsJudged S
      go z (at_marks h q) = absurd (f q)
      go z (at_expression h e p q) = absurd (z.0 e q)
      go z (at_unfit h p n y q) = absurd (z.1 n q)
      go z (at_walk h p y q) = record { expressions = (expressions-exactly S).0 p; statements = (statements-exactly S P).0 y }
