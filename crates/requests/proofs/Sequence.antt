-- Any list of requests through the lent buffers answers as the definition does over one pruner, at every step: the reply, and what is left of totals, marks and answer; each request reads the totals that
-- the one before has written. Refused ones change nothing. From a fresh buffer that is the definition's whole sequence.
use Prim.Native.Nat.{ℕ, ◌+◌, ◌≤◌}
use native.Mathlib.Omega.{arith}
use mathlib.Core.Path.{◌≡◌, refl, ap, subst, ◌∙◌}
use mathlib.Core.Bool.{Bool}
use mathlib.Core.List.{List, [], ◌∷◌, ◌++◌, map}
use lib.ListN.{length, drop}
use lib.Seq.{length-sets, sets-eq}
use borrow.Author.Tests.{le-ltb}
use Rattle.module.specs.Module.{Module}
use Rattle.module.specs.File as file
use Rattle.request.specs.Fields as reading
use Rattle.request.specs.Request.{Request, read_request}
use Rattle.walk.specs.State.{Out, went, halt}
use Rattle.walk.specs.Requests.{Pruner, Answer, reported, fresh, walk_request, report_of, answered, request, requests}
use Rattle.sound.specs.Asked.{WasRead}
use Rattle.pruner.specs.Form.{min_pruner, write_pruner, read_pruner}
use Rattle.pruner.proofs.Back.{read_pruner-zero}
use Rattle.pruner.proofs.Walks.{request_fits, request_back}
use Rattle.requests.specs.Answer.{min_answer, write_answer}
use Rattle.requests.specs.Serve.{Reply, Lent, finish, lent_pruner, on_pruner, on_request, serve_read, on_module, serve}
use Rattle.requests.specs.Sequence.{serve_all, answer_to, ask_all, finish_all}

-- buffers that are long enough, and that have these totals
pub record Holds (m : Module) (pruner : Pruner) (report : ℕ) (lent : Lent) : Type 0 where
  pub totals : read_pruner m lent.pruner ≡ reading.accepted pruner
  pub pruner_long : min_pruner ≤ length lent.pruner
  pub report_is : length lent.report ≡ report
  pub answer_long : min_answer ≤ length lent.answer

-- a list of requests leaves the totals of each step in the buffers of that step
abbrev pub EachHolds : Module → (report : ℕ) → List (Answer × Pruner) → List (Reply × Lent) → Type 0
EachHolds m report [] [] = Unit {0}
EachHolds m report [] (left ∷ lefts) = ⊥
EachHolds m report (answer ∷ answers) [] = ⊥
EachHolds m report (answer ∷ answers) (left ∷ lefts) = Holds m answer.1 report left.1 × EachHolds m report answers lefts

module _ (s : List ℕ) (m : Module) (read : file.read_module s ≡ file.accepted m) (report : ℕ) where
  -- one request
  pub record Served (lent : Lent) (answer : Answer × Pruner) (served : Reply × Lent) : Type 0 where
    pub is : served ≡ finish lent answer
    pub holds : Holds m answer.1 report served.1

  -- the walk has answered
  module _ (lent : Lent) (pruner : Pruner) (h : Holds m pruner report lent) where
    finished : (q : Request) → WasRead m q → Holds m (request m pruner q).1 report (finish lent (request m pruner q)).1
    unfolding request finish
    finished q asks = go (walk_request m pruner q) refl
      where
        go : (x : Out Bool) → walk_request m pruner q ≡ x → Holds m (answered m pruner q.function x).1 report (finish lent (answered m pruner q.function x)).1
        go (halt n at) e = h
        go (went st b) e =
            let r = report_of m q.function st b in
            let left = (answered m pruner q.function (went st b)).1 in
            let is : request m pruner q ≡ (reported r, left) = ap (answered m pruner q.function) e in
            let answer : (request m pruner q).0 ≡ reported r = ap (λ (p : Answer × Pruner). p.0) is in
            let same : (request m pruner q).1 ≡ left = ap (λ (p : Answer × Pruner). p.1) is in
            let fits : length (write_pruner left) ≤ min_pruner =
            subst (λ (p : Pruner). length (write_pruner p) ≤ min_pruner) same (request_fits s m read lent.pruner pruner q r h.totals asks answer) in
            let rest = drop (0 + length (write_pruner left)) lent.pruner in
            let back : read_pruner m (write_pruner left ++ rest) ≡ reading.accepted left =
            subst (λ (p : Pruner). read_pruner m (write_pruner p ++ rest) ≡ reading.accepted p) same (request_back s m read lent.pruner pruner q r h.totals asks answer rest) in
            record {
              totals = rw (sets-eq (write_pruner left) lent.pruner 0 (omega (arith, h.pruner_long))) back;
              pruner_long = omega (arith, h.pruner_long, length-sets lent.pruner 0 (write_pruner left));
              report_is = length-sets lent.report 0 r.bytes ∙ h.report_is;
              answer_long = omega (arith, h.answer_long, length-sets lent.answer 0 (write_answer r.required r.visits r.context r.exprs));
            }

    -- reading has answered
    replied : (bytes : List ℕ) (a : reading.Answer Request) → read_request m report bytes ≡ a → Served lent (answer_to m pruner a) (on_request m lent a)
    unfolding on_request on_pruner lent_pruner finish
    replied bytes (reading.refused n) e = record { is = refl; holds = h }
    replied bytes (reading.accepted q) e =
        rw (le-ltb (length lent.pruner) min_pruner h.pruner_long, h.totals)
        (rw (le-ltb (length lent.answer) min_answer h.answer_long) (record { is = refl; holds = finished q (record { report = report; bytes = bytes; is = e }) }))

    pub served : (bytes : List ℕ) → Served lent (answer_to m pruner (read_request m report bytes)) (serve s bytes lent)
    unfolding serve serve_read on_module
    served bytes = rw (read, h.report_is) (replied bytes (read_request m report bytes) refl)

  -- Each step's reply and buffers are those of the definition over one pruner, and the next step reads the totals from them.
  pub sequence : (list : List (List ℕ)) (lent : Lent) (pruner : Pruner) → Holds m pruner report lent
      → (serve_all s list lent ≡ finish_all lent (ask_all m report pruner list)) × EachHolds m report (ask_all m report pruner list) (serve_all s list lent)
  unfolding serve_all
  sequence [] lent pruner h = (refl, tt)
  sequence (bytes ∷ rest) lent pruner h =
      let answer = answer_to m pruner (read_request m report bytes) in
      let first = served lent pruner h bytes in
      let others = sequence rest (serve s bytes lent).1 answer.1 first.holds in
      let later : finish_all (serve s bytes lent).1 (ask_all m report answer.1 rest) ≡ finish_all (finish lent answer).1 (ask_all m report answer.1 rest) =
      ap (λ (x : Reply × Lent). finish_all x.1 (ask_all m report answer.1 rest)) first.is in
      (ap (λ (x : Reply × Lent). x ∷ serve_all s rest (serve s bytes lent).1) first.is ∙ ap (λ (xs : List (Reply × Lent)). finish lent answer ∷ xs) (others.0 ∙ later), (first.holds, others.1))

  -- from a buffer in which nothing was asked yet
  pub from_fresh : (list : List (List ℕ)) (lent : Lent) (rest : List ℕ) → lent.pruner ≡ 0 ∷ (0 ∷ rest) → min_pruner ≤ length lent.pruner → length lent.report ≡ report
      → min_answer ≤ length lent.answer → serve_all s list lent ≡ finish_all lent (ask_all m report (fresh m) list)
  from_fresh list lent rest e long is answer =
      (sequence list lent (fresh m)
      (record { totals = rw e (read_pruner-zero m rest); pruner_long = long; report_is = is; answer_long = answer })
      ).0

-- Where all are accepted, that is the definition's `requests`: its answers, each a whole report or a refusal, and the totals that the last one leaves.
abbrev Each : Module → (report : ℕ) → List (List ℕ) → List Request → Type 0
Each m report [] [] = Unit {0}
Each m report [] (q ∷ qs) = ⊥
Each m report (bytes ∷ rest) [] = ⊥
Each m report (bytes ∷ rest) (q ∷ qs) = (read_request m report bytes ≡ reading.accepted q) × Each m report rest qs

-- the totals after the last answer
abbrev last_of : Pruner → List (Answer × Pruner) → Pruner
last_of pruner [] = pruner
last_of pruner (answer ∷ rest) = last_of answer.1 rest

abbrev answer_in : Answer × Pruner → Answer
answer_in x = x.0

pub asked_requests : (m : Module) (report : ℕ) (pruner : Pruner) (list : List (List ℕ)) (qs : List Request) → Each m report list qs
    → (map answer_in (ask_all m report pruner list) ≡ (requests m pruner qs).0) × (last_of pruner (ask_all m report pruner list) ≡ (requests m pruner qs).1)
unfolding requests
asked_requests m report pruner [] [] e = (refl, refl)
asked_requests m report pruner [] (q ∷ qs) e = absurd e
asked_requests m report pruner (bytes ∷ rest) [] e = absurd e
asked_requests m report pruner (bytes ∷ rest) (q ∷ qs) e =
    let others = asked_requests m report (request m pruner q).1 rest qs e.1 in
    rw e.0 (ap (λ (xs : List Answer). (request m pruner q).0 ∷ xs) others.0, others.1)
