-- A request of a module that was read: what its walk asks, and that the text is the definition's. Two bytes that are zero stand for a fresh pruner.
use Prim.Native.Nat.{ℕ}
use native.Mathlib.Omega.{arith}
use mathlib.Core.Path.{◌≡◌, ap}
use mathlib.Core.List.{List, [], ◌∷◌}
use Rattle.std.specs.Prelude.{Result, Ok, Err}
use Rattle.field.specs.Limits.{min_report}
use Rattle.field.specs.declared.refusal.Refusal.{Refusal}
use Rattle.module.specs.Module.{Module}
use Rattle.module.specs.Tables.{module_of}
use Rattle.module.specs.declared.handles.FunctionHandle.{FunctionHandle as Handle}
use Rattle.context.specs.Types.{types_of}
use Rattle.request.specs.Fields as reading
use Rattle.request.specs.Request.{Request, read_request}
use Rattle.walk.specs.Requests.{Pruner, fresh}
use Rattle.marks.specs.declared.places.MarkPlaces.{MarkPlaces}
use Rattle.marks.specs.Places.{places_of, Places}
use Rattle.marks.specs.declared.totals.MarkTotals.{MarkTotals}
use Rattle.pruner.specs.Form.{read_pruner}
use Rattle.pruner.proofs.Back.{read_pruner-zero}
use Rattle.requests.specs.Loaded.{Loaded}
use Rattle.requests.specs.Begin.{with_totals, after_request, Begins, Ready}
use Rattle.requests.specs.declared.begin.Begun.{Begun}
use Rattle.requests.proofs.Serving.{both_read}
use Rattle.lines.specs.Text.{refused_text}
use Rattle.report_text.specs.Input.{request_text}
use Rattle.report.specs.Outcome.{TextIs, Asked, Walked}
use Rattle.report.specs.declared.outcome.Reported.{Reported}

-- a pruner of which nothing was asked yet
abbrev none_yet : List ℕ
none_yet = 0 ∷ (0 ∷ [])

-- the request alone can be refused
with_refused : {n : ℕ} (q : Request) (x : reading.Answer Pruner) (y : Pruner) → x ≡ reading.accepted y → with_totals q x ≡ reading.refused n → ⊥
unfolding with_totals
with_refused q (reading.refused k) y e r = let z : ◌≡◌ {A = ℕ} 0 1 = cc in omega arith
with_refused q (reading.accepted p) y e r = let z : ◌≡◌ {A = ℕ} 0 1 = cc in omega arith

asked_refused : (m : Module) {n : ℕ} (x : reading.Answer Request) → after_request m none_yet x ≡ reading.refused n → request_text m x ≡ refused_text n
unfolding after_request request_text
asked_refused m (reading.refused k) e = ap refused_text (cc)
asked_refused m (reading.accepted q) e = absurd (with_refused q (read_pruner m none_yet) (fresh m) (read_pruner-zero m []) e)

module _ {bytes t starts s rs open_marks : List ℕ} {totals : MarkTotals} {asked-bytes : List ℕ} {b : Result Begun Refusal} (B : Begins bytes t starts min_report asked-bytes none_yet s rs open_marks totals b) where
  pub request_refused : {places : MarkPlaces} {e : Refusal} → b ≡ Err e → TextIs (request_text (module_of bytes t) (read_request (module_of bytes t) min_report asked-bytes)) bytes t asked-bytes places s rs open_marks (Err e)
  request_refused z = record { by = asked_refused (module_of bytes t) (read_request (module_of bytes t) min_report asked-bytes) (rw z at B.by) }

  module _ {f : Handle} {sum : ℕ} (e : b ≡ Ok (record { function = f; sum = sum })) where
    ready : Ready bytes t starts min_report asked-bytes none_yet s rs open_marks totals f.0 sum
    ready = rw e at B.by

    read_both : (read_request (module_of bytes t) min_report asked-bytes ≡ reading.accepted ready.q) × (read_pruner (module_of bytes t) none_yet ≡ reading.accepted ready.old)
    read_both = both_read (module_of bytes t) (record { pruner = none_yet; report = []; answer = [] }) (read_request (module_of bytes t) min_report asked-bytes) ready.is

    old-fresh : ready.old ≡ fresh (module_of bytes t)
    old-fresh = let a = read_both.1 in let b = read_pruner-zero (module_of bytes t) [] in cc

    module _ {types firsts : List ℕ} (typed : types_of types ≡ (module_of bytes t).types) (placed : Places bytes t (places_of starts firsts)) where
      loaded : Loaded bytes t types (places_of starts firsts) s rs open_marks totals ready.q (fresh (module_of bytes t))
      loaded = rw (← old-fresh) (ready.loaded types firsts typed placed)

      pub request_asked : Asked bytes t types (places_of starts firsts) s rs open_marks totals f.0 sum
      request_asked = record { q = ready.q; function_is = ready.function_is; sum_is = rw (← old-fresh) ready.sum_is; loaded = loaded }

      pub request_walked : {u us open_after : List ℕ} {r : Result Reported Refusal} → Walked bytes t types (places_of starts firsts) s rs open_marks totals f.0 u us open_after r
          → TextIs (request_text (module_of bytes t) (read_request (module_of bytes t) min_report asked-bytes)) bytes t asked-bytes (places_of starts firsts) u us open_after r
      unfolding request_text
      request_walked W = rw read_both.0 (W.by asked-bytes ready.q read_both.0 ready.function_is loaded)
