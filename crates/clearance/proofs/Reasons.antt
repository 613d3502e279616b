-- There is a reason for every answer, and a reason gives its answer: by what each test of the walk says. The request's indexes ascend, so that
-- the rounds end (`rounds_end`) and come to the smallest needs, which are one (`same_needs`).
use Prim.Native.Nat.{ℕ, ◌<◌, ◌≤◌}
use mathlib.Core.Path.{◌≡◌, refl, sym, subst, fun_ext, ◌∙◌}
use mathlib.Core.Bool.{true, false, not}
use mathlib.Core.List.{[], ◌∷◌}
use mathlib.Core.Logic.{◌↔◌}
use mathlib.Core.Option.{Option, some, none as nothing}
use lib.Dec.{ltb}
use borrow.Author.Tests.{ltb-true, ltb-false, lt-ltb, le-ltb, not-true}
use Rattle.field.specs.Limits.{max_pieces}
use Rattle.part.specs.PartReq.{PartReq, contains, over}
use Rattle.part.proofs.Order.{antisymmetric}
use Rattle.clearance.specs.Shape.{below}
use Rattle.clearance.specs.Scope.{Scope, variable}
use Rattle.clearance.specs.Needs.{by_statement, Table, reentry, smallest}
use Rattle.clearance.specs.Judged.{lowest}
use Rattle.clearance.specs.Verdict.{Request, Report, Answer, clear, at_statement, at_start, refused, ending, setting, body, start_needs, faults}
use Rattle.clearance.specs.Verdict.{needs_expression, starts, verdict, pieces, at_point, limited, answer_by, judge, clearance}
use Rattle.clearance.specs.IsNeed.{AscendingRequest}
use Rattle.clearance.specs.Answered.{Smallest, AtPoint, at_the_start, Cleared, Walked, WithinLimits, LowestBreak, StartMet, NoBreak, Reason, unshaped, expression, statement, deep, many, fault, unmet, cleared}
use Rattle.clearance.proofs.Small.{cases, both_true}
use Rattle.clearance.proofs.Cleared.{lowest-none, settle-stable}
use Rattle.clearance.proofs.Rounds.{rounds_end, settled_needs, start_need, rounds_smallest}
use Rattle.clearance.proofs.Exactly.{broken_exactly, evaluations_none, no_evaluation}
use Rattle.clearance.proofs.Lowest.{lowest-is, listed}
use Rattle.clearance.proofs.Faults.{faults_exactly}
use Rattle.clearance.proofs.Relations.{impossible}
use Rattle.clearance.proofs.Blamed.{expressions-exactly, statements-exactly}
use Rattle.clearance.proofs.Points.{points_exactly, nowhere_exactly}
use Rattle.clearance.proofs.JudgedExactly.{shape_exactly, Stage, at_marks, at_expression, at_unfit, at_walk, judged_answer, stage, marks-exactly, unjudged_expression_exactly, unjudged_statement_exactly}

module _ (S : Scope) (R : Request) (P : Report) where
  verdict_of : Table → Answer
  verdict_of t = verdict (lowest (faults S R P t)) (starts P (start_needs S R P t))

  abbrev found : Option Table
  found = smallest (setting S R) (body S P) (ending S R)

  walked_answer : (t : Table) → found ≡ some t → (r : ℕ → PartReq) → Walked S R P r → clearance S R P ≡ limited S R P t (verdict_of t)
  unfolding judge answer_by verdict_of
  walked_answer t e r w =
      judged_answer S R P ((shape_exactly S.function P.marks).1 w.shaped) _ _ ((expressions-exactly S).1 w.judged.expressions) ((statements-exactly S P).1 w.judged.statements)
      ∙ (rw e)

  deep_answer : (t : Table) (a : Answer) → at_point S R P t over ≡ true → limited S R P t a ≡ refused 15
  unfolding limited
  deep_answer t a h = rw h

  many_answer : (t : Table) (a : Answer) → at_point S R P t over ≡ false → at_point S R P t (λ n. ltb max_pieces (pieces n)) ≡ true → limited S R P t a ≡ refused 16
  unfolding limited
  many_answer t a h g = rw (h, g)

  within_answer : (t : Table) (a : Answer) → at_point S R P t over ≡ false → at_point S R P t (λ n. ltb max_pieces (pieces n)) ≡ false → limited S R P t a ≡ a
  unfolding limited
  within_answer t a h g = rw (h, g)

  fault_verdict : (t : Table) (n : ℕ) → lowest (faults S R P t) ≡ some n → verdict_of t ≡ at_statement n
  unfolding verdict_of verdict
  fault_verdict t n h = rw (h, verdict)

  unmet_verdict : (t : Table) → lowest (faults S R P t) ≡ nothing → starts P (start_needs S R P t) ≡ false → verdict_of t ≡ at_start
  unfolding verdict_of verdict
  unmet_verdict t h g = rw (h, g, verdict)

  clear-verdict : (t : Table) → lowest (faults S R P t) ≡ nothing → starts P (start_needs S R P t) ≡ true → verdict_of t ≡ clear
  unfolding verdict_of verdict
  clear-verdict t h g = rw (h, g, verdict)

  -- what the tests of the walk say

  deep_exactly : (t : Table) → (at_point S R P t over ≡ true) ↔ ((m : PartReq) × AtPoint S R P (reentry t) m × (over m ≡ true))
  unfolding at_point
  deep_exactly t = points_exactly (setting S R) (reentry t) over (body S P) (ending S R)

  shallow_exactly : (t : Table) → (at_point S R P t over ≡ false) ↔ ((m : PartReq) → AtPoint S R P (reentry t) m → over m ≡ false)
  unfolding at_point
  shallow_exactly t = nowhere_exactly (setting S R) (reentry t) over (body S P) (ending S R)

  many_exactly : (t : Table) → (at_point S R P t (λ n. ltb max_pieces (pieces n)) ≡ true) ↔ ((m : PartReq) × AtPoint S R P (reentry t) m × (max_pieces < pieces m))
  unfolding at_point
  many_exactly t =
      let p = points_exactly (setting S R) (reentry t) (λ n. ltb max_pieces (pieces n)) (body S P) (ending S R) in (
        (λ h. let z = p.0 h in (z.0, z.1, ltb-true max_pieces (pieces z.0) z.2)),
        (λ z. p.1 (z.0, z.1, lt-ltb max_pieces (pieces z.0) z.2)),
      )

  few_exactly : (t : Table) → (at_point S R P t (λ n. ltb max_pieces (pieces n)) ≡ false) ↔ ((m : PartReq) → AtPoint S R P (reentry t) m → pieces m ≤ max_pieces)
  unfolding at_point
  few_exactly t =
      let p = nowhere_exactly (setting S R) (reentry t) (λ n. ltb max_pieces (pieces n)) (body S P) (ending S R) in (
        (λ h m a. ltb-false max_pieces (pieces m) (p.0 h m a)),
        (λ f. p.1 (λ m a. le-ltb max_pieces (pieces m) (f m a))),
      )

  fault_exactly : (t : Table) (n : ℕ) → (lowest (faults S R P t) ≡ some n) ↔ LowestBreak S R P (reentry t) n
  unfolding faults
  fault_exactly t n = (
    (λ h.
        let l = lowest-is _ n h in
        record {
          breaks = (faults_exactly (setting S R) (reentry t) n (body S P) (ending S R)).0 l.member;
          least = λ m b. l.least m ((faults_exactly (setting S R) (reentry t) m (body S P) (ending S R)).1 b);
        }),
    (λ b.
        listed _ n
        record {
          member = (faults_exactly (setting S R) (reentry t) n (body S P) (ending S R)).1 b.breaks;
          least = λ m h. b.least m ((faults_exactly (setting S R) (reentry t) m (body S P) (ending S R)).0 h);
        }),
  )

  unbroken_exactly : (t : Table) → (lowest (faults S R P t) ≡ nothing) ↔ NoBreak S R P (reentry t)
  unfolding faults lowest
  unbroken_exactly t =
      let f = broken_exactly (setting S R) (reentry t) by_statement (body S P) (ending S R) in (
        (λ h. f.0 (lowest-none _ h)),
        (λ u. rw (f.1 u)),
      )

  -- the smallest needs are one, and the rounds come to them

  same_needs : (r q : ℕ → PartReq) → Smallest S R P r → Smallest S R P q → r ≡ q
  same_needs r q m n = fun_ext (λ j. antisymmetric (r j) (q j) (n.least r m.needs m.hold j) (m.least q n.needs n.hold j))

  module _ (o : AscendingRequest R) where
    found-smallest : (t : Table) → found ≡ some t → Smallest S R P (reentry t)
    unfolding smallest
    found-smallest t e = record {
      needs = settled_needs S R P o t e;
      hold = settle-stable (setting S R) (body S P) (ending S R) _ [] t e;
      least = λ q f h. (rounds_smallest S R P o t e q f h).loops;
    }

    table : (r : ℕ → PartReq) → Smallest S R P r → (t : Table) × (found ≡ some t) × (r ≡ reentry t)
    table r m = let z = rounds_end S R P o in (z.0, z.1, same_needs r (reentry z.0) m (found-smallest z.0 z.1))

    start_exactly : (t : Table) → found ≡ some t → (starts P (start_needs S R P t) ≡ true) ↔ StartMet S R P (reentry t)
    unfolding starts start_needs
    start_exactly t e =
        let n = at_the_start S R P (reentry t) in (
          (λ h.
              let y = both_true (not (needs_expression n)) _ h in
              let z = both_true (contains P.globals (below n (variable 0 ∷ []))) _ y.1 in
              record { evaluations = evaluations_none n (not-true _ y.0); globals = z.0; args = z.1 }),
          (λ m. rw (no_evaluation S n (start_need S R P o t e) m.evaluations, m.globals, m.args)),
        )

    -- there is a reason for the answer

    given : (a : Answer) → clearance S R P ≡ a → Reason S R P a → Reason S R P (clearance S R P)
    given a e r = subst (λ b. Reason S R P b) (sym e) r

    at_verdict : (t : Table) → found ≡ some t → Walked S R P (reentry t) → WithinLimits S R P (reentry t) → clearance S R P ≡ verdict_of t → Reason S R P (clearance S R P)
    at_verdict t f w l e = go (lowest (faults S R P t)) refl
      where
        go : (x : Option ℕ) → lowest (faults S R P t) ≡ x → Reason S R P (clearance S R P)
        go (some n) h = given (at_statement n) (e ∙ fault_verdict t n h) (fault (reentry t) w l ((fault_exactly t n).0 h))
        go nothing h =
            cases (starts P (start_needs S R P t))
            (λ g. given clear (e ∙ clear-verdict t h g) (cleared (reentry t) record { walked = w; within = l; rules = (unbroken_exactly t).0 h; start = (start_exactly t f).0 g }))
            (λ g.
            given at_start (e ∙ unmet_verdict t h g)
            (unmet (reentry t) w l ((unbroken_exactly t).0 h) (λ m. impossible (sym g ∙ (start_exactly t f).1 m))))

    at-walk : (t : Table) → found ≡ some t → Walked S R P (reentry t) → Reason S R P (clearance S R P)
    at-walk t f w =
        let e = walked_answer t f (reentry t) w in
        cases (at_point S R P t over)
        (λ h. let z = (deep_exactly t).0 h in given (refused 15) (e ∙ deep_answer t _ h) (deep (reentry t) w z.0 z.1 z.2))
        (λ h.
        cases (at_point S R P t (λ n. ltb max_pieces (pieces n)))
        (λ g. let z = (many_exactly t).0 g in given (refused 16) (e ∙ many_answer t _ h g) (many (reentry t) w ((shallow_exactly t).0 h) z.0 z.1 z.2))
        (λ g. at_verdict t f w record { shallow = (shallow_exactly t).0 h; few = (few_exactly t).0 g } (e ∙ within_answer t _ h g)))

    reason : Reason S R P (clearance S R P)
    reason = go (stage S R P)
      where
        go : Stage S R P → Reason S R P (clearance S R P)
        go (at_marks h q) = given (refused 21) q (unshaped ((marks-exactly S R P).0 q))
        go (at_expression h e p q) = let z = (unjudged_expression_exactly S R P e).0 q in given _ q (expression z.0 z.1)
        go (at_unfit h p n y q) = let z = (unjudged_statement_exactly S R P n).0 q in given _ q (statement z.0 z.1 z.2)
        go (at_walk h p y q) =
            let z = rounds_end S R P o in
            at-walk z.0 z.1
            record {
              shaped = (shape_exactly S.function P.marks).0 h;
              judged = record { expressions = (expressions-exactly S).0 p; statements = (statements-exactly S P).0 y };
              smallest = found-smallest z.0 z.1;
            }

    -- and a reason gives its answer

    limits_answer : (t : Table) → found ≡ some t → Walked S R P (reentry t) → WithinLimits S R P (reentry t) → clearance S R P ≡ verdict_of t
    limits_answer t f w l = walked_answer t f (reentry t) w ∙ within_answer t _ ((shallow_exactly t).1 l.shallow) ((few_exactly t).1 l.few)

    answer : (a : Answer) → Reason S R P a → clearance S R P ≡ a
    answer a (unshaped f) = (marks-exactly S R P).1 f
    answer a (expression {e = e} s b) = (unjudged_expression_exactly S R P e).1 (s, b)
    answer a (statement {n = n} s f b) = (unjudged_statement_exactly S R P n).1 (s, f, b)
    answer a (deep r w m p h) =
        let z = table r w.smallest in
        let t = z.0 in
        walked_answer t z.1 r w ∙ deep_answer t _ ((deep_exactly t).1 (m, subst (λ x. AtPoint S R P x m) z.2 p, h))
    answer a (many r w f m p h) =
        let z = table r w.smallest in
        let t = z.0 in
        walked_answer t z.1 r w
        ∙ many_answer t _ ((shallow_exactly t).1 (subst (λ x. (m : PartReq) → AtPoint S R P x m → over m ≡ false) z.2 f))
        ((many_exactly t).1 (m, subst (λ x. AtPoint S R P x m) z.2 p, h))
    answer a (fault {n = n} r w l b) =
        let z = table r w.smallest in
        let t = z.0 in
        limits_answer t z.1 (subst (λ x. Walked S R P x) z.2 w) (subst (λ x. WithinLimits S R P x) z.2 l)
        ∙ fault_verdict t n ((fault_exactly t n).1 (subst (λ x. LowestBreak S R P x n) z.2 b))
    answer a (unmet r w l u f) =
        let z = table r w.smallest in
        let t = z.0 in
        let g : StartMet S R P (reentry t) → ⊥ = subst (λ x. StartMet S R P x → ⊥) z.2 f in
        limits_answer t z.1 (subst (λ x. Walked S R P x) z.2 w) (subst (λ x. WithinLimits S R P x) z.2 l)
        ∙ unmet_verdict t ((unbroken_exactly t).1 (subst (λ x. NoBreak S R P x) z.2 u))
        (cases (starts P (start_needs S R P t)) (λ h. absurd (g ((start_exactly t z.1).0 h))) (λ h. h))
    answer a (cleared r d) =
        let z = table r d.walked.smallest in
        let t = z.0 in
        let c : Cleared S R P (reentry t) = subst (λ x. Cleared S R P x) z.2 d in
        limits_answer t z.1 c.walked c.within ∙ clear-verdict t ((unbroken_exactly t).1 c.rules) ((start_exactly t z.1).1 c.start)

    -- The answer is a if and only if there is the reason for a.
    pub reasons : (a : Answer) → (clearance S R P ≡ a) ↔ Reason S R P a
    reasons a = ((λ e. subst (λ b. Reason S R P b) e reason), answer a)
