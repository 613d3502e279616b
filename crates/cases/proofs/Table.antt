-- The cases of 01 hold: each by computation, once the type is known, or the buffers are long enough.
use Prim.Native.Nat.{ℕ, ◌≤◌}
use native.Mathlib.Omega.{arith}
use mathlib.Core.Path.{◌≡◌, refl}
use mathlib.Core.List.{List}
use mathlib.Core.Option.{some, none as nothing}
use lib.ListN.{replicate, length-replicate, get_or-replicate}
use Rattle.field.specs.Limits.{min_report}
use Rattle.part.specs.PartReq.{all, none, more}
use Rattle.module.specs.Module.{TypeHandle, TypeInner}
use Rattle.context.specs.Remove.{left, type_to_parts, split, subtypes_of, take_out, take_entry, take_entries, remove}
use Rattle.context.specs.RequiredContext.{variable}
use Rattle.request.specs.Request.{asking}
use Rattle.programs.specs.Files.{file_a, file_i, file_j, return_all, global_all}
use Rattle.programs.specs.Programs.{module_a, module_i, module_j}
use Rattle.worked.proofs.Walk as walk
use Rattle.pruner.specs.Form.{min_pruner}
use Rattle.requests.specs.Answer.{min_answer}
use Rattle.worked.proofs.Clearance as clearance
use Rattle.cases.specs.Cases.{Cases, Ready, Is, ScalarOrArray, scalar, array}
use Rattle.cases.proofs.Compute.{print}
use Rattle.cases.proofs.Served.{served}

not_split : (types : List TypeInner) (t : TypeHandle) (inner : TypeInner) → ScalarOrArray inner → Is types t inner
    → remove types all (more 1 all none) (some t) ≡ left all
unfolding remove take_out take_entry take_entries split subtypes_of type_to_parts
not_split types t inner scalar h = rw h
not_split types t inner (array base count) h = rw h

zeros_ready : (pruner report answer : ℕ) → min_pruner ≤ pruner → min_report ≤ report → min_answer ≤ answer
    → Ready (record { pruner = replicate pruner 0; report = replicate report 0; answer = replicate answer 0 })
zeros_ready pruner report answer p r a =
    record {
      pruner_long = rw length-replicate p;
      report_long = rw length-replicate r;
      answer_long = rw length-replicate a;
      first_zero = get_or-replicate pruner 0 0 0 (omega arith);
      second_zero = get_or-replicate pruner 1 0 0 (omega arith);
    }

pub table : Cases
unfolding print
table = record {
  A = refl;
  A_pointer = refl;
  A_buffers = λ lent ready. served file_a return_all module_a (asking 0 (some all) none) lent refl refl refl ready;
  A_read = refl;
  A_module = refl;
  A_walk = walk.case_a;
  A_check = clearance.case_a;
  B = refl;
  C = refl;
  D = λ types t h. rw h;
  E = not_split;
  F = λ types t. refl;
  G = refl;
  H = refl;
  I = refl;
  I_buffers = λ lent ready. served file_i return_all module_i (asking 0 (some all) none) lent refl refl refl ready;
  J = refl;
  J_buffers = λ lent ready. served file_j global_all module_j (asking 0 nothing (more (variable 0) all none)) lent refl refl refl ready;
  J_read = refl;
  J_module = refl;
  J_walk = walk.case_j;
  J_check = clearance.case_j;
  zeros = zeros_ready;
}
