-- A request that was read is fine, and the function that it names is there. From what is read as a part, list by list.
use mathlib.Core.Path.{◌≡◌, refl, subst}
use mathlib.Core.Bool.{Bool, true, false, cond}
use mathlib.Core.List.{List, [], ◌∷◌}
use mathlib.Core.Option.{Option, some, none as nothing}
use Prim.Native.Nat.{ℕ}
use lib.Dec.{ltb}
use lib.ListN.{length, drop}
use borrow.Author.Tests.{ltb-true, ltb-false}
use Rattle.field.specs.Limits.{absent, min_report}
use Rattle.part.specs.PartReq.{spine}
use Rattle.module.specs.Module.{Module}
use Rattle.context.specs.RequiredContext.{variable}
use Rattle.request.specs.Fields.{fields, Read, malformed, got, whole, Answer, accepted, refused}
use Rattle.request.specs.Part.{read_return, read_variables}
use Rattle.request.specs.Request.{Request, read_body, is_request, request_of, all_below, known, judge, read_request}
use Rattle.walk.specs.Proper.{FineRecord}
use Rattle.valid.proofs.Fits.{and_left, and_right}
use Rattle.sound.specs.Asked.{Asked}
use Rattle.sound.proofs.Parts.{OnGot, on_then, on_cond, return_fine, SomeVariables, variables_read, variables_there}

abbrev pub OnSome : {A : Type 0} → (A → Type 0) → Option A → Type 0
OnSome P nothing = Unit {0}
OnSome P (some a) = P a

abbrev pub OnAccepted : {A : Type 0} → (A → Type 0) → Answer A → Type 0
OnAccepted P (refused n) = Unit {0}
OnAccepted P (accepted a) = P a

pub whole-on : {A : Type 0} (P : A → Type 0) (x : Read A) → OnGot P x → OnSome P (whole x)
unfolding whole
whole-on P malformed h = tt
whole-on P (got a []) h = h
whole-on P (got a (f ∷ fs)) h = tt

pub some_when : {A : Type 0} (P : A → Type 0) (b : Bool) (x : Option A) → OnSome P x → OnSome P (cond b x nothing)
some_when P true x h = h
some_when P false x h = tt

-- a request of which it is not yet known that what it names is there
record SomeRequest (q : Request) : Type 0 where
  pub retval : FineRecord q.retval
  pub globals : SomeVariables q.globals

body_read : (fs : List ℕ) → OnGot SomeRequest (read_body fs)
unfolding read_body
body_read [] = tt
body_read (f ∷ fs) =
    on_cond SomeRequest (ltb f absent) _ malformed
    (λ t.
    on_then FineRecord SomeRequest (read_return fs) _ (return_fine fs)
    (λ p gs hp. on_then SomeVariables SomeRequest (read_variables gs) _ (variables_read gs) (λ q hs hq. record { retval = hp; globals = hq })))
    tt

request_read : (s : List ℕ) → OnSome SomeRequest (request_of s)
unfolding request_of
request_read s =
    some_when SomeRequest (is_request s) (whole (read_body (fields (drop 4 s))))
    (whole-on SomeRequest (read_body (fields (drop 4 s))) (body_read (fields (drop 4 s))))

module _ (m : Module) (report : ℕ) where
  known-asked : (q : Request) → SomeRequest q → known (length m.functions) (length m.globals) q ≡ true → ltb report min_report ≡ false → Asked m report q
  unfolding known
  known-asked q h k l =
      let f = ltb q.function (length m.functions) in
      let g = all_below (variable (length m.globals)) q.globals in
      record {
        function = ltb-true q.function (length m.functions) (and_left f g k);
        fine =
            record {
              retval = h.retval;
              globals = variables_there (length m.globals) spine (variable absent) q.globals (and_right f g k) h.globals;
            };
        room = ltb-false report min_report l;
      }

  judged : (q : Request) (a b : Bool) → (a ≡ true → b ≡ false → Asked m report q) → OnAccepted (Asked m report) (cond a (cond b (refused 18) (accepted q)) (refused 11))
  judged q true true h = tt
  judged q true false h = h refl refl
  judged q false b h = tt

  judge-asked : (o : Option Request) → OnSome SomeRequest o → OnAccepted (Asked m report) (judge (length m.functions) (length m.globals) report o)
  unfolding judge
  judge-asked nothing h = tt
  judge-asked (some q) h = judged q (known (length m.functions) (length m.globals) q) (ltb report min_report) (known-asked q h)

  -- A request that was read.
  pub asked : (s : List ℕ) (q : Request) → read_request m report s ≡ accepted q → Asked m report q
  asked s q e = subst (OnAccepted (Asked m report)) e (judge-asked (request_of s) (request_read s))
