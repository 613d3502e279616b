-- What a request answers, of any module, pruner and request: a refusal has one of the walk's numbers, and a report no more visits than 17 allows. By what every walk keeps, with the
-- bound of visits as the only property.
use Prim.Native.Nat.{◌≤◌}
use native.Mathlib.Omega.{arith}
use mathlib.Core.Bool.{Bool}
use Rattle.field.specs.Limits.{max_visits}
use Rattle.part.specs.PartReq.{PartReq, all, exist, none, more, Subpart, gone, there, get_subpart}
use Rattle.module.specs.Module.{FunctionHandle, Module}
use Rattle.context.specs.RequiredContext.{variable}
use Rattle.request.specs.Request.{Request}
use Rattle.walk.specs.State.{Out, went, halt}
use Rattle.walk.specs.Resolve.{store_required}
use Rattle.walk.specs.Requests.{Pruner, Answer, reported, refused, walk_request, report_of, answered, request}
use Rattle.walk.proofs.Ends.{Told, ends, stops}
use Rattle.walk.proofs.Keeps.{EachEntry, Needs, Kept, Goes}
use Rattle.walk.proofs.Functions.{walk_keeps}

-- the property that every part has
abbrev Part : PartReq → Type 0
Part p = Unit {0}

each_part : (p : PartReq) → EachEntry Part p
each_part all = tt
each_part exist = tt
each_part none = tt
each_part (more i p r) = (tt, each_part r)

part_needed : (s : Subpart) → Needs Part s
part_needed gone = tt
part_needed (there p) = tt

abbrev counting : (m : Module) → Kept m
counting m = record {
  Asked = Part;
  Context = λ f c. Unit {0};
  Exprs = λ f es. Unit {0};
  Marks = λ f ms. Unit {0};
  Globals = Part;
  Functions = λ fs. Unit {0};
  Visits = λ n. n ≤ max_visits;
  all_asked = tt;
  exist_asked = tt;
  index_asked = λ f e base i p is h o. tt;
  swizzle_asked = λ f e vector pattern p q is h picked o. tt;
  entries_asked = λ p h. each_part p;
  visits_more = λ n h few. few;
  exprs_set = λ f es e p h q. tt;
  exprs_need = λ f es e p h is. tt;
  argument_joined = λ f e c i p is h q o. tt;
  local_joined = λ f e c l p is h q o. tt;
  global_put = λ f e c g p is h q. tt;
  total_put = λ f e gs g p is h q. tt;
  total_joined = λ f e gs g p is h q o. tt;
  context_merged = λ f c d h k o. tt;
  retval_need = λ f c h. part_needed (get_subpart c.retval (variable 0));
  args_need = λ f c i h. part_needed (get_subpart c.args (variable i));
  store_need = λ f c var part h. part_needed (store_required c var part);
  context_taken = λ f e c d var part h path left o. tt;
  context_called = λ f g c need h q. tt;
  marks_written = λ f ms from r h. tt;
  exprs_fresh = λ f. tt;
  marks_fresh = λ f. tt;
  total_kept = λ fs f ms c es h hm hc he. tt;
  total_extended = λ fs f total ms c es h is hm hc he o. tt;
}

-- what may be answered
abbrev pub Heard : Answer → Type 0
Heard (reported r) = r.visits ≤ max_visits
Heard (refused n at) = Told n

heard : (m : Module) (pruner : Pruner) (f : FunctionHandle) (x : Out Bool) → Goes (counting m) f x → Heard (answered m pruner f x).0
unfolding report_of
heard m pruner f (went st r) (ends good) = good.visits
heard m pruner f (halt n at) (stops t) = t

pub request-heard : (m : Module) (pruner : Pruner) (q : Request) → Heard (request m pruner q).0
unfolding request
request-heard m pruner q =
    heard m pruner q.function (walk_request m pruner q) (walk_keeps (counting m) pruner q (omega arith) (record { globals = tt; functions = tt }) tt)
