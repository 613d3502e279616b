-- Where the Rust is not what one would expect: small cases of each, computed. The answers are the Rust's own.
use mathlib.Core.Path.{◌≡◌, refl}
use mathlib.Core.Bool.{true, false}
use mathlib.Core.List.{[], ◌∷◌}
use mathlib.Core.Option.{some, none as nothing}
use Rattle.part.specs.PartReq.{all, exist, none, more}
use Rattle.module.specs.Module.{Module, Scalar, Vector, Atomic, AccessIndex, Swizzle, FunctionArgument, GlobalVariable, LocalVariable, Load, AtomicResult, Emit, If, Switch, Loop, Break, Return, Kill, MemoryBarrier, Store, AtomicStatement, Call, RayQuery}
use Rattle.context.specs.RequiredContext.{variable}
use Rattle.walk.specs.State.{at_statement}
use Rattle.walk.specs.Requests.{refused, fresh, requests}
use Rattle.module.specs.Short.{typed, range, argument_of, switch_case}
use Rattle.walk.proofs.Compute.{answers, ask, context, report}

-- The first visit of a global replaces the context's entry, so that store 0 is lost; once the total has the global, the context is left alone.
abbrev module_first_visit : Module
module_first_visit =
    record {
      types = (Scalar ∷ (Vector 2) ∷ []);
      globals = (1 ∷ []);
      functions =
          record {
            entry = false;
            result = nothing;
            arguments = (argument_of 0 ∷ argument_of 0 ∷ []);
            locals = [];
            expressions = (typed 1 (GlobalVariable 0) ∷ typed 0 (AccessIndex 0 0) ∷ typed 0 (AccessIndex 0 1) ∷ typed 0 (FunctionArgument 0) ∷ typed 0 (FunctionArgument 1) ∷ []);
            statements = ((Store 1 3) ∷ (Store 2 4) ∷ []);
            blocks = (range 0 2 ∷ []);
          }
          ∷ [];
    }

pub first_visit : (requests module_first_visit (fresh module_first_visit) ((ask 0 nothing (more (variable 0) all none)) ∷ (ask 0 nothing (more (variable 0) all none)) ∷ [])).0 ≡ ((report true (context (more (variable 0) (more 1 exist none) none) none (more (variable 1) all none) none) ((some (more 1 exist none)) ∷ nothing ∷ (some exist) ∷ nothing ∷ (some all) ∷ []) (0 ∷ 1 ∷ []) 5 (0 ∷ 1 ∷ [])) ∷ (report true (context (more (variable 0) (more 0 exist (more 1 exist none)) none) none (more (variable 0) all (more (variable 1) all none)) none) ((some (more 0 exist none)) ∷ (some exist) ∷ (some exist) ∷ (some all) ∷ (some all) ∷ []) (1 ∷ 1 ∷ []) 8 (1 ∷ 1 ∷ [])) ∷ [])
unfolding answers
first_visit = refl

-- Later visits of a global join only the total: the second report has no global.
abbrev module_later_visits : Module
module_later_visits =
    record {
      types = (Scalar ∷ []);
      globals = (0 ∷ []);
      functions =
          record {
            entry = false;
            result = (some (record { type = 0; binding = nothing }));
            arguments = [];
            locals = [];
            expressions = (typed 0 (GlobalVariable 0) ∷ typed 0 (Load 0) ∷ []);
            statements = ((Emit 1 1) ∷ (Return (some 1)) ∷ []);
            blocks = (range 0 2 ∷ []);
          }
          ∷ [];
    }

pub later_visits : (requests module_later_visits (fresh module_later_visits) ((ask 0 (some all) none) ∷ (ask 0 (some all) none) ∷ (ask 0 (some all) (more (variable 0) exist none)) ∷ [])).0 ≡ ((report true (context (more (variable 0) all none) none none (more (variable 0) all none)) ((some all) ∷ (some all) ∷ []) (1 ∷ 1 ∷ []) 4 (1 ∷ 1 ∷ [])) ∷ (report true (context none none none (more (variable 0) all none)) ((some all) ∷ (some all) ∷ []) (1 ∷ 1 ∷ []) 4 (1 ∷ 1 ∷ [])) ∷ (report true (context (more (variable 0) exist none) none none (more (variable 0) all none)) ((some all) ∷ (some all) ∷ []) (1 ∷ 1 ∷ []) 4 (1 ∷ 1 ∷ [])) ∷ [])
unfolding answers
later_visits = refl

-- What a switch's selector needs is overwritten: argument 1 is not in the context, though expression 1 is recorded.
abbrev module_selector : Module
module_selector =
    record {
      types = (Scalar ∷ []);
      globals = (0 ∷ []);
      functions =
          record {
            entry = false;
            result = (some (record { type = 0; binding = nothing }));
            arguments = (argument_of 0 ∷ argument_of 0 ∷ []);
            locals = [];
            expressions = (typed 0 (FunctionArgument 0) ∷ typed 0 (FunctionArgument 1) ∷ typed 0 (GlobalVariable 0) ∷ []);
            statements = ((Store 2 0) ∷ Break ∷ (Switch 1 ((switch_case 1 0) ∷ (switch_case 65535 1) ∷ [])) ∷ []);
            blocks = (range 0 1 ∷ range 1 1 ∷ range 2 1 ∷ []);
          }
          ∷ [];
    }

pub selector : (requests module_selector (fresh module_selector) ((ask 0 nothing (more (variable 0) all none)) ∷ [])).0 ≡ ((report true (context (more (variable 0) all none) none (more (variable 0) all none) none) ((some all) ∷ (some all) ∷ (some exist) ∷ []) (1 ∷ 0 ∷ 1 ∷ []) 6 (1 ∷ 0 ∷ 1 ∷ [])) ∷ [])
unfolding answers
selector = refl

-- What break_if needs is overwritten likewise.
abbrev module_break_if : Module
module_break_if =
    record {
      types = (Scalar ∷ []);
      globals = [];
      functions =
          record {
            entry = false;
            result = (some (record { type = 0; binding = nothing }));
            arguments = (argument_of 0 ∷ argument_of 0 ∷ []);
            locals = (0 ∷ []);
            expressions = (typed 0 (FunctionArgument 0) ∷ typed 0 (FunctionArgument 1) ∷ typed 0 (LocalVariable 0) ∷ typed 0 (Load 2) ∷ []);
            statements = ((Store 2 0) ∷ (Loop 0 1 (some 1)) ∷ (Emit 3 3) ∷ (Return (some 3)) ∷ []);
            blocks = (range 0 1 ∷ range 1 0 ∷ range 1 3 ∷ []);
          }
          ∷ [];
    }

pub break_if : (requests module_break_if (fresh module_break_if) ((ask 0 (some all) none) ∷ [])).0 ≡ ((report true (context none (more (variable 0) all none) (more (variable 0) all none) (more (variable 0) all none)) ((some all) ∷ (some all) ∷ (some exist) ∷ (some all) ∷ []) (1 ∷ 1 ∷ 1 ∷ 1 ∷ []) 12 (1 ∷ 1 ∷ 1 ∷ 1 ∷ [])) ∷ [])
unfolding answers
break_if = refl

-- The working context of a loop stays what it was before the first turn: the body a=b; b=c, with a returned, needs c from the second turn on, and so
-- never settles.
abbrev module_fixed_working : Module
module_fixed_working =
    record {
      types = (Scalar ∷ []);
      globals = [];
      functions =
          record {
            entry = false;
            result = (some (record { type = 0; binding = nothing }));
            arguments = [];
            locals = (0 ∷ 0 ∷ 0 ∷ []);
            expressions = (typed 0 (LocalVariable 0) ∷ typed 0 (LocalVariable 1) ∷ typed 0 (LocalVariable 2) ∷ typed 0 (Load 1) ∷ typed 0 (Load 2) ∷ typed 0 (Load 0) ∷ []);
            statements = ((Store 0 3) ∷ (Store 1 4) ∷ (Loop 0 1 nothing) ∷ (Return (some 5)) ∷ []);
            blocks = (range 0 2 ∷ range 2 0 ∷ range 2 2 ∷ []);
          }
          ∷ [];
    }

pub fixed_working : (requests module_fixed_working (fresh module_fixed_working) ((ask 0 (some all) none) ∷ [])).0 ≡ ((refused 14 (at_statement 0 2)) ∷ [])
unfolding answers
fixed_working = refl

-- The last case of a switch is walked first: its visit of the global is the first, so that the context has {1:all}.
abbrev module_last_case_first : Module
module_last_case_first =
    record {
      types = (Scalar ∷ (Vector 2) ∷ []);
      globals = (1 ∷ []);
      functions =
          record {
            entry = false;
            result = (some (record { type = 0; binding = nothing }));
            arguments = (argument_of 0 ∷ []);
            locals = (0 ∷ []);
            expressions = (typed 1 (GlobalVariable 0) ∷ typed 0 (AccessIndex 0 0) ∷ typed 0 (Load 1) ∷ typed 0 (AccessIndex 0 1) ∷ typed 0 (Load 3) ∷ typed 0 (LocalVariable 0) ∷ typed 0 (Load 5) ∷ typed 0 (FunctionArgument 0) ∷ []);
            statements = ((Emit 2 2) ∷ (Store 5 2) ∷ (Emit 4 4) ∷ (Store 5 4) ∷ (Switch 7 ((switch_case 1 0) ∷ (switch_case 65535 1) ∷ [])) ∷ (Emit 6 6) ∷ (Return (some 6)) ∷ []);
            blocks = (range 0 2 ∷ range 2 2 ∷ range 4 3 ∷ []);
          }
          ∷ [];
    }

pub last_case_first : (requests module_last_case_first (fresh module_last_case_first) ((ask 0 (some all) none) ∷ [])).0 ≡ ((report true (context (more (variable 0) (more 1 all none) none) (more (variable 0) all none) none (more (variable 0) all none)) ((some (more 0 all none)) ∷ (some all) ∷ (some all) ∷ (some all) ∷ (some all) ∷ (some exist) ∷ (some all) ∷ (some all) ∷ []) (1 ∷ 1 ∷ 1 ∷ 1 ∷ 1 ∷ 1 ∷ 1 ∷ []) 18 (1 ∷ 1 ∷ 1 ∷ 1 ∷ 1 ∷ 1 ∷ 1 ∷ [])) ∷ [])
unfolding answers
last_case_first = refl

-- {} and {0:exist} make a store required, exist does not.
abbrev module_empty_part : Module
module_empty_part =
    record {
      types = (Scalar ∷ (Vector 2) ∷ []);
      globals = (1 ∷ []);
      functions =
          record {
            entry = false;
            result = nothing;
            arguments = (argument_of 1 ∷ []);
            locals = [];
            expressions = (typed 1 (GlobalVariable 0) ∷ typed 1 (FunctionArgument 0) ∷ []);
            statements = ((Store 0 1) ∷ []);
            blocks = (range 0 1 ∷ []);
          }
          ∷ [];
    }

pub empty_part : (requests module_empty_part (fresh module_empty_part) ((ask 0 nothing (more (variable 0) none none)) ∷ (ask 0 nothing (more (variable 0) (more 0 exist none) none)) ∷ (ask 0 nothing (more (variable 0) exist none)) ∷ [])).0 ≡ ((report true (context (more (variable 0) exist none) none (more (variable 0) none none) none) ((some exist) ∷ (some none) ∷ []) (1 ∷ []) 3 (1 ∷ [])) ∷ (report true (context (more (variable 0) exist none) none (more (variable 0) (more 0 exist none) none) none) ((some exist) ∷ (some (more 0 exist none)) ∷ []) (1 ∷ []) 3 (1 ∷ [])) ∷ (report false (context (more (variable 0) exist none) none none none) (nothing ∷ nothing ∷ []) (0 ∷ []) 1 (0 ∷ [])) ∷ [])
unfolding answers
empty_part = refl

-- A return of which nothing is asked takes the base context, and is required as what follows it is.
abbrev module_return_nothing : Module
module_return_nothing =
    record {
      types = (Scalar ∷ []);
      globals = (0 ∷ []);
      functions =
          record {
            entry = false;
            result = (some (record { type = 0; binding = nothing }));
            arguments = (argument_of 0 ∷ []);
            locals = [];
            expressions = (typed 0 (FunctionArgument 0) ∷ typed 0 (GlobalVariable 0) ∷ []);
            statements = ((Store 1 0) ∷ (Return (some 0)) ∷ (Store 1 0) ∷ []);
            blocks = (range 0 3 ∷ []);
          }
          ∷ [];
    }

pub return_nothing : (requests module_return_nothing (fresh module_return_nothing) ((ask 0 nothing (more (variable 0) all none)) ∷ [])).0 ≡ ((report true (context (more (variable 0) exist none) none (more (variable 0) all none) none) ((some all) ∷ (some exist) ∷ []) (1 ∷ 1 ∷ 1 ∷ []) 7 (1 ∷ 1 ∷ 1 ∷ [])) ∷ [])
unfolding answers
return_nothing = refl

-- An atomic takes nothing out and never visits its pointer.
abbrev module_atomics : Module
module_atomics =
    record {
      types = (Atomic ∷ Scalar ∷ []);
      globals = (0 ∷ []);
      functions =
          record {
            entry = false;
            result = (some (record { type = 1; binding = nothing }));
            arguments = (argument_of 1 ∷ []);
            locals = [];
            expressions = (typed 1 (FunctionArgument 0) ∷ typed 0 (GlobalVariable 0) ∷ typed 1 AtomicResult ∷ []);
            statements = ((AtomicStatement 1 0 nothing) ∷ (AtomicStatement 1 0 (some 2)) ∷ (Return (some 2)) ∷ []);
            blocks = (range 0 3 ∷ []);
          }
          ∷ [];
    }

pub atomics : (requests module_atomics (fresh module_atomics) ((ask 0 (some all) (more (variable 0) all none)) ∷ (ask 0 (some all) none) ∷ (ask 0 nothing none) ∷ [])).0 ≡ ((report true (context (more (variable 0) all none) none (more (variable 0) all none) (more (variable 0) all none)) ((some all) ∷ nothing ∷ (some all) ∷ []) (1 ∷ 1 ∷ 1 ∷ []) 7 (1 ∷ 1 ∷ 1 ∷ [])) ∷ (report true (context none none none (more (variable 0) all none)) (nothing ∷ nothing ∷ (some all) ∷ []) (0 ∷ 1 ∷ 1 ∷ []) 5 (0 ∷ 1 ∷ 1 ∷ [])) ∷ (report false (context none none none none) (nothing ∷ nothing ∷ nothing ∷ []) (0 ∷ 0 ∷ 0 ∷ []) 3 (0 ∷ 0 ∷ 0 ∷ [])) ∷ [])
unfolding answers
atomics = refl

-- Kill always makes its block required, a barrier never.
abbrev module_killing : Module
module_killing =
    record {
      types = (Scalar ∷ []);
      globals = [];
      functions =
          record {
            entry = false;
            result = nothing;
            arguments = (argument_of 0 ∷ []);
            locals = [];
            expressions = (typed 0 (FunctionArgument 0) ∷ []);
            statements = (Kill ∷ MemoryBarrier ∷ (If 0 0 1) ∷ (If 0 2 3) ∷ []);
            blocks = (range 0 1 ∷ range 1 0 ∷ range 1 1 ∷ range 2 0 ∷ range 2 2 ∷ []);
          }
          ∷ [];
    }

pub killing : (requests module_killing (fresh module_killing) ((ask 0 nothing none) ∷ [])).0 ≡ ((report true (context none none (more (variable 0) all none) none) ((some all) ∷ []) (1 ∷ 0 ∷ []) 5 (1 ∷ 0 ∷ [])) ∷ [])
unfolding answers
killing = refl

-- A letter that stands twice: the later entry wins.
abbrev module_swizzle_twice : Module
module_swizzle_twice =
    record {
      types = ((Vector 2) ∷ []);
      globals = [];
      functions =
          record {
            entry = false;
            result = (some (record { type = 0; binding = nothing }));
            arguments = (argument_of 0 ∷ []);
            locals = [];
            expressions = (typed 0 (FunctionArgument 0) ∷ typed 0 (Swizzle 0 (0 ∷ 0 ∷ [])) ∷ []);
            statements = ((Emit 1 1) ∷ (Return (some 1)) ∷ []);
            blocks = (range 0 2 ∷ []);
          }
          ∷ [];
    }

pub swizzle_twice : (requests module_swizzle_twice (fresh module_swizzle_twice) ((ask 0 (some (more 0 all (more 1 exist none))) none) ∷ [])).0 ≡ ((report true (context none none (more (variable 0) (more 0 exist none) none) (more (variable 0) (more 0 all (more 1 exist none)) none)) ((some (more 0 exist none)) ∷ (some (more 0 all (more 1 exist none))) ∷ []) (1 ∷ 1 ∷ []) 4 (1 ∷ 1 ∷ [])) ∷ [])
unfolding answers
swizzle_twice = refl

-- A call's globals are dropped: the caller still needs what the called function stores.
abbrev module_calling : Module
module_calling =
    record {
      types = (Scalar ∷ []);
      globals = (0 ∷ 0 ∷ []);
      functions =
          record {
            entry = false;
            result = nothing;
            arguments = (argument_of 0 ∷ []);
            locals = [];
            expressions = (typed 0 (FunctionArgument 0) ∷ typed 0 (GlobalVariable 0) ∷ []);
            statements = ((Store 1 0) ∷ []);
            blocks = (range 0 1 ∷ []);
          }
          ∷ record {
            entry = false;
            result = nothing;
            arguments = (argument_of 0 ∷ []);
            locals = [];
            expressions = (typed 0 (FunctionArgument 0) ∷ []);
            statements = ((Call 0 (0 ∷ []) nothing) ∷ []);
            blocks = (range 0 1 ∷ []);
          }
          ∷ [];
    }

pub calling : (requests module_calling (fresh module_calling) ((ask 1 nothing (more (variable 0) all none)) ∷ [])).0 ≡ ((report true (context (more (variable 0) all none) none (more (variable 0) all none) none) ((some all) ∷ []) (1 ∷ 0 ∷ []) 5 (1 ∷ 1 ∷ 0 ∷ [])) ∷ [])
unfolding answers
calling = refl

-- Two RayQuery marks are not joined: the second request panics, at the statement in the last case.
abbrev module_two_ray_queries : Module
module_two_ray_queries =
    record {
      types = (Scalar ∷ []);
      globals = (0 ∷ []);
      functions =
          record {
            entry = false;
            result = nothing;
            arguments = (argument_of 0 ∷ []);
            locals = [];
            expressions = (typed 0 (FunctionArgument 0) ∷ typed 0 (GlobalVariable 0) ∷ []);
            statements = ((RayQuery 1) ∷ (RayQuery 1) ∷ (Switch 0 ((switch_case 1 0) ∷ (switch_case 65535 1) ∷ [])) ∷ []);
            blocks = (range 0 1 ∷ range 1 1 ∷ range 2 1 ∷ []);
          }
          ∷ [];
    }

pub two_ray_queries : (requests module_two_ray_queries (fresh module_two_ray_queries) ((ask 0 nothing (more (variable 0) all none)) ∷ (ask 0 nothing (more (variable 0) all none)) ∷ [])).0 ≡ ((report true (context (more (variable 0) all none) none none none) ((some all) ∷ nothing ∷ []) (1 ∷ 1 ∷ 1 ∷ []) 4 (1 ∷ 1 ∷ 1 ∷ [])) ∷ (refused 13 (at_statement 0 1)) ∷ [])
unfolding answers
two_ray_queries = refl
