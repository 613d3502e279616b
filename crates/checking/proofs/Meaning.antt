-- What stands behind bytes that mean something: the module, the request and the context that were read; and that what such a request asks has ascending indexes and is of no variable
-- whole. By cases of how they are read; what reading gives is law of crate `sound`.
use Prim.Native.Nat.{ℕ, suc}
use mathlib.Core.Path.{◌≡◌, refl}
use mathlib.Core.Bool.{Bool, true, false, cond}
use mathlib.Core.List.{List}
use mathlib.Core.Option.{Option, some, none as nothing}
use lib.ListN.{length}
use Rattle.field.specs.Limits.{min_report}
use Rattle.part.specs.PartReq.{PartReq, all, exist, none, more, spine, is_all}
use Rattle.part.specs.Ascending.{Ascending, From}
use Rattle.part.proofs.Equations.{never}
use Rattle.part.proofs.Ascending.{from_ascending}
use Rattle.module.specs.Module.{Module}
use Rattle.module.specs.File as file
use Rattle.context.specs.RequiredContext.{RequiredContext}
use Rattle.request.specs.Request.{request_of, known, judge}
use Rattle.request.specs.Request as asks
use Rattle.request.specs.Context.{context_of, known_context}
use Rattle.walk.specs.Proper.{VariablesFrom, FineRecord}
use Rattle.walk.specs.Resolve.{function_at}
use Rattle.sound.specs.Asked.{Asked}
use Rattle.sound.proofs.Asked.{asked}
use Rattle.clearance.specs.Scope.{Scope}
use Rattle.clearance.specs.Verdict.{Request, Report}
use Rattle.clearance.specs.IsNeed.{AscendingRequest}
use Rattle.checking.specs.Check.{unread, means, scope_of, value_of, asked_by, report_by, cut_short, on_buffer, meaning_of, meaning_by, on_module, meaning}

-- the request q and the context c are of the module m
pub record Known (m : Module) (q : asks.Request) (c : RequiredContext) : Type 0 where
  pub request : known (length m.functions) (length m.globals) q ≡ true
  pub context : known_context (length m.globals) (length (function_at m q.function).arguments) (length (function_at m q.function).locals) c ≡ true

-- what was read
pub record Read (s request report context : List ℕ) (S : Scope) (R : Request) (P : Report) : Type 0 where
  pub program : Module
  pub asking : asks.Request
  pub given : RequiredContext
  pub program_is : file.read_module s ≡ file.accepted program
  pub asking_is : request_of request ≡ some asking
  pub given_is : context_of context ≡ some given
  pub known : Known program asking given
  pub whole : cut_short program asking.function report ≡ false
  pub scope_is : S ≡ scope_of program asking.function
  pub asked_is : R ≡ asked_by asking
  pub report_is : P ≡ report_by program asking.function report given

module _ (s request report context : List ℕ) (S : Scope) (R : Request) (P : Report) where
  -- what the two tests of 11 say, and that of the buffer
  chosen : (m : Module) (q : asks.Request) (c : RequiredContext) (a b d : Bool) → file.read_module s ≡ file.accepted m → request_of request ≡ some q → context_of context ≡ some c →
      known (length m.functions) (length m.globals) q ≡ a →
      known_context (length m.globals) (length (function_at m q.function).arguments) (length (function_at m q.function).locals) c ≡ b →
      cut_short m q.function report ≡ d →
      cond a (cond b (cond d (unread 21) (means (scope_of m q.function) (asked_by q) (report_by m q.function report c))) (unread 11)) (unread 11) ≡ means S R P → Read s request report context S R P
  chosen m q c true true false hm hq hc ha hb hd e =
      record {
        program = m;
        asking = q;
        given = c;
        program_is = hm;
        asking_is = hq;
        given_is = hc;
        known = record { request = ha; context = hb };
        whole = hd;
        scope_is = cc;
        asked_is = cc;
        report_is = cc;
      }
  chosen m q c true true true hm hq hc ha hb hd e = never cc
  chosen m q c true false d hm hq hc ha hb hd e = never cc
  chosen m q c false b d hm hq hc ha hb hd e = never cc

  of_records : (m : Module) (x : Option asks.Request) (y : Option RequiredContext) → file.read_module s ≡ file.accepted m → request_of request ≡ x → context_of context ≡ y →
      meaning_by m report x y ≡ means S R P → Read s request report context S R P
  unfolding meaning_by meaning_of on_buffer
  of_records m nothing y hm hq hc e = never cc
  of_records m (some q) nothing hm hq hc e = never cc
  of_records m (some q) (some c) hm hq hc e = chosen m q c _ _ _ hm hq hc refl refl refl e

  of-module : (x : file.Answer) → file.read_module s ≡ x → on_module x request report context ≡ means S R P → Read s request report context S R P
  unfolding on_module
  of-module (file.refused n) h e = never cc
  of-module (file.accepted m) h e = of_records m _ _ h refl refl e

  pub was_read : meaning s request report context ≡ means S R P → Read s request report context S R P
  unfolding meaning
  was_read e = of-module (file.read_module s) refl e

-- What a request asks

variables_from : (n k : ℕ) (q : PartReq) → VariablesFrom n k q → From k q
variables_from n k all h = h
variables_from n k exist h = h
variables_from n k none h = tt
variables_from n k (more i p r) h = (h.0, (h.2.ascends, variables_from n (suc i) r h.3))

variables_not_all : (n k : ℕ) (q : PartReq) → VariablesFrom n k q → is_all q ≡ false
variables_not_all n k all h = absurd h
variables_not_all n k exist h = refl
variables_not_all n k none h = refl
variables_not_all n k (more i p r) h = refl

value_ascends : (o : Option PartReq) → FineRecord o → Ascending (value_of o)
unfolding value_of
value_ascends nothing h = tt
value_ascends (some p) h = h.ascends

module _ {s request report context : List ℕ} {S : Scope} {R : Request} {P : Report} (was : Read s request report context S R P) where
  -- as it is asked with a report that has room
  pub fine : Asked was.program min_report was.asking
  unfolding judge
  fine =
      asked was.program min_report request was.asking
      (rw (was.asking_is, judge, was.known.request))

  pub globals-not_all : is_all R.globals ≡ false
  globals-not_all = rw was.asked_is (variables_not_all (length was.program.globals) spine was.asking.globals fine.fine.globals)

  pub ascends : AscendingRequest R
  ascends =
      rw was.asked_is
      (record {
        globals = from_ascending spine was.asking.globals (variables_from (length was.program.globals) spine was.asking.globals fine.fine.globals);
        value = value_ascends was.asking.retval fine.fine.retval;
      })
