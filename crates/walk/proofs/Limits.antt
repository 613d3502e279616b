-- Where a visit ends, 16 is not passed; and what is asked of an expression has no more entries than what it was taken from.
use Prim.Native.Nat.{ℕ, ◌+◌, ◌≤◌}
use native.Mathlib.Omega.{arith}
use Rattle.field.specs.Limits.{max_pieces}
use Rattle.part.specs.PartReq.{PartReq, all, exist, none, more, Subpart, gone, there, get_subpart, entries}
use Rattle.part.proofs.Equations.{before, after, at, way, get_subpart-all, get_subpart-exist, get_subpart-none, get_subpart_before, get_subpart-at, get_subpart-after}
use Rattle.module.specs.Module.{Module}
use Rattle.context.specs.RequiredContext.{RequiredContext, pieces, VarRef, Global, Local, variable}
use Rattle.walk.specs.State.{State, Out, went, halt, count}
use Rattle.walk.specs.Resolve.{needed, needed_at, check_part, store_required}
use Rattle.walk.specs.Statement.{FunctionWalk, BlockWalk, Frame, here, visit_statement}
use Rattle.walk.proofs.Ends.{Ends, ends, stops, Any, ends_visit}

whatever : {A : Type 0} (x : Out A) → Ends Any (λ left a. Unit {0}) x
whatever (went left a) = ends tt
whatever (halt n place) = stops tt

pub statement_counted : (m : Module) (call : FunctionWalk) (block : BlockWalk) (fr : Frame) (st : State) → Ends Any (λ left r. count fr.held left ≤ max_pieces) (visit_statement m call block fr st)
unfolding visit_statement
statement_counted m call block fr st = ends_visit (λ n t. tt) fr.held (here fr) _ st (λ few. whatever _) (λ left r t few. few)

-- what is needed has at most n entries
abbrev pub Few : ℕ → Subpart → Type 0
Few n gone = Unit {0}
Few n (there p) = entries p ≤ n

few_more : (k n : ℕ) (s : Subpart) → k ≤ n → Few k s → Few n s
few_more k n gone l h = tt
few_more k n (there p) l h = omega arith

pub subpart_few : (q : PartReq) (j : ℕ) → Few (entries q) (get_subpart q j)
unfolding entries
subpart_few all j = rw get_subpart-all (omega arith)
subpart_few exist j = rw get_subpart-exist tt
subpart_few none j = rw get_subpart-none tt
subpart_few (more i p r) j =
    let ih = subpart_few r j in
    elim (way i j) [
      | before l ↦ rw (get_subpart-after i j p r l) (few_more (entries r) (1 + (entries p + entries r)) (get_subpart r j) (omega arith) ih)
      | after l ↦ rw (get_subpart_before i j p r l) tt
      | at e ↦ rw (get_subpart-at i j p r e) (omega arith)
    ]

needed-few : (n : ℕ) (s : Subpart) → Few n s → Few n (needed s)
unfolding needed
needed-few n gone h = tt
needed-few n (there all) h = h
needed-few n (there exist) h = tt
needed-few n (there none) h = h
needed-few n (there (more i p r)) h = h

at_few : (n j : ℕ) (sub : Subpart → Subpart) → ((s : Subpart) → Few n s → Few n (sub s)) → (s : Subpart) → Few n s → Few n (needed_at j sub s)
unfolding needed_at
at_few n j sub hs gone h = tt
at_few n j sub hs (there all) h = h
at_few n j sub hs (there exist) h = tt
at_few n j sub hs (there none) h = hs gone tt
at_few n j sub hs (there (more i p r)) h = hs (get_subpart (more i p r) j) (few_more (entries (more i p r)) n (get_subpart (more i p r) j) h (subpart_few (more i p r) j))

check_few : (t : PartReq) (n : ℕ) (s : Subpart) → Few n s → Few n (check_part t s)
unfolding check_part
check_few all n s h = needed-few n s h
check_few exist n s h = tt
check_few none n s h = tt
check_few (more j q r) n s h = at_few n j (check_part q) (check_few q n) s h

-- what a store is needed for, and what a record says
pub store_few : (c : RequiredContext) (var : VarRef) (part : PartReq) → Few (pieces c) (store_required c var part)
unfolding store_required pieces
store_few c (Global g) part =
    few_more (entries c.globals) _ (check_part part (get_subpart c.globals (variable g))) (omega arith)
    (check_few part (entries c.globals) (get_subpart c.globals (variable g)) (subpart_few c.globals (variable g)))
store_few c (Local l) part =
    few_more (entries c.locals) _ (check_part part (get_subpart c.locals (variable l))) (omega arith)
    (check_few part (entries c.locals) (get_subpart c.locals (variable l)) (subpart_few c.locals (variable l)))
