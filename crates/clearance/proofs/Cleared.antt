-- What the answer `clear` says: no rule is broken, the re-entry needs hold, and the start has what it must.
use Prim.Native.Nat.{ℕ, zero, suc}
use mathlib.Core.Path.{◌≡◌, refl}
use mathlib.Core.Bool.{Bool, true, false, cond}
use mathlib.Core.List.{List, [], ◌∷◌}
use mathlib.Core.Option.{Option, some, none as nothing}
use lib.Dec.{ltb}
use Rattle.field.specs.Limits.{max_pieces}
use Rattle.part.specs.PartReq.{PartReq, over}
use Rattle.part.proofs.Equations.{never}
use Rattle.clearance.specs.Tree.{Tree}
use Rattle.clearance.specs.Scope.{Scope}
use Rattle.clearance.specs.Needs.{Exit, Setting, stable, Table, reentry, round, settle, smallest}
use Rattle.clearance.specs.Judged.{lower, lowest, blamed_expression, blamed_statement}
use Rattle.clearance.specs.Verdict.{Request, Report, Answer, clear, refused, ending, setting, body, start_needs, faults, starts, verdict, pieces, at_point, limited, answer_by, judge, has_shape, clearance}
use Rattle.clearance.proofs.Small.{cases}

lower-some : {A : Type 0} (n : ℕ) (o : Option ℕ) → lower n o ≡ nothing → A
unfolding lower
lower-some n nothing h = never cc
lower-some n (some m) h = never cc

pub lowest-none : (l : List ℕ) → lowest l ≡ nothing → l ≡ []
unfolding lowest
lowest-none [] h = refl
lowest-none (n ∷ ns) h = lower-some n (lowest ns) h

verdict-clear : (o : Option ℕ) (s : Bool) → verdict o s ≡ clear → (o ≡ nothing) × (s ≡ true)
unfolding verdict
verdict-clear (some n) s h = never cc
verdict-clear nothing true h = (refl, refl)
verdict-clear nothing false h = never cc

cond-clear : (b : Bool) (n : ℕ) (a : Answer) → cond b (refused n) a ≡ clear → a ≡ clear
cond-clear true n a h = never cc
cond-clear false n a h = h

-- rounds that end have come to needs that hold
pub settle-stable : (W : Setting) (a : Tree) (k : Exit → PartReq) (n : ℕ) (t u : Table) → settle W a k n t ≡ some u → stable W (reentry u) a k ≡ true
unfolding settle
settle-stable W a k zero t u h = cc
settle-stable W a k (suc n) t u h =
    cases (stable W (reentry t) a k)
    (λ e. let z : t ≡ u = cc (rw (e, settle) at h) in rw z at e)
    (λ e. settle-stable W a k n (round W a k t) u (rw (e, settle) at h))

-- what the answer `clear` rests on, with t the loops' re-entry needs
pub record Passed (S : Scope) (R : Request) (P : Report) (t : Table) : Type 0 where
  pub settled : smallest (setting S R) (body S P) (ending S R) ≡ some t
  pub rules : faults S R P t ≡ []
  pub start : starts P (start_needs S R P t) ≡ true

module _ (S : Scope) (R : Request) (P : Report) where
  limited-clear : (t : Table) (a : Answer) → limited S R P t a ≡ clear → a ≡ clear
  unfolding limited
  limited-clear t a h = cond-clear (at_point S R P t (λ n. ltb max_pieces (pieces n))) 16 a (cond-clear (at_point S R P t over) 15 _ h)

  answer_clear : (o : Option Table) → answer_by S R P o ≡ clear → smallest (setting S R) (body S P) (ending S R) ≡ o → (t : Table) × Passed S R P t
  unfolding answer_by
  answer_clear nothing h e = never cc
  answer_clear (some t) h e =
      let z = verdict-clear _ _ (limited-clear t _ h) in
      (t, record { settled = e; rules = lowest-none _ z.0; start = z.1 })

  judge-clear : (x y : Option ℕ) → judge S R P x y ≡ clear → (t : Table) × Passed S R P t
  unfolding judge
  judge-clear (some e) y h = never cc
  judge-clear nothing (some n) h = never cc
  judge-clear nothing nothing h = answer_clear _ h refl

  pub clear-passed : clearance S R P ≡ clear → (t : Table) × Passed S R P t
  unfolding clearance
  clear-passed h =
      cases (has_shape S.function P.marks)
      (λ e. judge-clear (blamed_expression S) (blamed_statement S (body S P)) (rw (e, clearance) at h))
      (λ e. let z : refused 21 ≡ clear = rw (e, clearance) at h in never cc)

  pub passed_stable : (t : Table) → Passed S R P t → stable (setting S R) (reentry t) (body S P) (ending S R) ≡ true
  unfolding smallest
  passed_stable t C = settle-stable (setting S R) (body S P) (ending S R) _ [] t C.settled
