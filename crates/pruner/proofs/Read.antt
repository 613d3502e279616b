-- What is read is fine, and 16 allows it: so that any buffer that is accepted is a pruner that a request can begin with. From what is read as a part, list by list.
use Prim.Native.Nat.{ℕ, zero, suc, ◌+◌, ◌≤◌}
use native.Mathlib.Omega.{arith}
use native.Mathlib.Nat.{zero-add, add-zero}
use mathlib.Core.Path.{◌≡◌, refl, sym, subst}
use mathlib.Core.Bool.{Bool, true, false, cond}
use mathlib.Core.List.{List, [], ◌∷◌}
use mathlib.Core.Option.{Option, some, none as nothing, some-injective, none-ne-some}
use lib.Dec.{leb, eqb}
use borrow.Author.Tests.{leb-true}
use lib.ListN.{length, get_or, drop, replicate}
use Rattle.field.specs.Limits.{absent, max_pieces}
use Rattle.part.specs.PartReq.{PartReq, entries, spine}
use Rattle.module.specs.Module.{FunctionHandle, Module}
use Rattle.context.specs.RequiredContext.{RequiredContext, variable}
use Rattle.request.specs.Fields.{fields, Read, malformed, got, whole, Answer, refused, accepted}
use Rattle.request.specs.Part.{read_return, read_variables}
use Rattle.request.specs.Request.{all_below}
use Rattle.request.specs.Context.{read_context_body}
use Rattle.walk.specs.State.{Records, FunctionReq, function_pieces, total_pieces}
use Rattle.walk.specs.Resolve.{function_at}
use Rattle.walk.specs.Marks.{stretch}
use Rattle.walk.specs.Requests.{Pruner, fresh}
use Rattle.walk.specs.Proper.{FineRecord, EachRecord, EachMark, FineFunction, FinePruner}
use Rattle.walk.proofs.Proper.{fresh-fine}
use Rattle.sound.proofs.Parts.{OnGot, on_then, on_cond, return_fine, SomeVariables, variables_read, variables_there}
use Rattle.sound.proofs.Asked.{OnSome, OnAccepted, whole-on, some_when}
use Rattle.sound.proofs.Contexts.{SomeContext, body_read, known-fine}
use Rattle.pruner.specs.Form.{pruner_pieces, only, read_marks, read_records, known_in, read_kept, read_total, read_totals, read_body, stated, is_pruner, is_fresh, answered, read_pruner}
use Rattle.pruner.proofs.Fine.{FineTotal}

on_only : {A : Type 0} (P : A → Type 0) (holds : A → Bool) (x : Read A) → OnGot P x → OnGot (λ a. P a × (holds a ≡ true)) (only holds x)
unfolding only
on_only P holds malformed h = tt
on_only P holds (got a fs) h = on_cond (λ b. P b × (holds b ≡ true)) (holds a) (got a fs) malformed (λ t. (h, t)) tt

-- as many as were asked for, each of which it holds
record MarksRead (n : ℕ) (bs : List ℕ) : Type 0 where
  pub long : length bs ≡ n
  pub each : EachMark bs

marks_read : (n : ℕ) (fs : List ℕ) → OnGot (MarksRead n) (read_marks n fs)
unfolding read_marks
marks_read zero fs = record { long = refl; each = tt }
marks_read (suc n) [] = tt
marks_read (suc n) (b ∷ fs) =
    on_cond (MarksRead (suc n)) (leb b 1) _ malformed
    (λ t.
    on_then (MarksRead n) (MarksRead (suc n)) (read_marks n fs) _ (marks_read n fs)
    (λ bs gs h. record { long = omega (arith, h.long); each = (leb-true b 1 t, h.each) }))
    tt

record RecordsRead (n : ℕ) (es : Records) : Type 0 where
  pub long : length es ≡ n
  pub each : EachRecord es

records_read : (n : ℕ) (fs : List ℕ) → OnGot (RecordsRead n) (read_records n fs)
unfolding read_records
records_read zero fs = record { long = refl; each = tt }
records_read (suc n) fs =
    on_then FineRecord (RecordsRead (suc n)) (read_return fs) _ (return_fine fs)
    (λ o gs ho.
    on_then (RecordsRead n) (RecordsRead (suc n)) (read_records n gs) _ (records_read n gs)
    (λ es hs h. record { long = omega (arith, h.long); each = (ho, h.each) }))

module _ (m : Module) where
  abbrev ContextRead : FunctionHandle → RequiredContext → Type 0
  ContextRead f c = SomeContext c × (known_in m f c ≡ true)

  context_read : (f : FunctionHandle) (fs : List ℕ) → OnGot (ContextRead f) (only (known_in m f) (read_context_body fs))
  context_read f fs = on_only SomeContext (known_in m f) (read_context_body fs) (body_read fs)

  kept_read : (f : FunctionHandle) (fs : List ℕ) → OnGot (FineFunction m f) (read_kept m f fs)
  unfolding read_kept
  kept_read f fs =
      let n = length (function_at m f).expressions in
      on_then (MarksRead (stretch m f)) (FineFunction m f) (read_marks (stretch m f) fs) _ (marks_read (stretch m f) fs)
      (λ marks gs hm.
      on_then (ContextRead f) (FineFunction m f) (only (known_in m f) (read_context_body gs)) _ (context_read f gs)
      (λ c hs hc.
      on_then (RecordsRead n) (FineFunction m f) (read_records n hs) _ (records_read n hs)
      (λ exprs ks he. record {
        marks = record { long = hm.long; each = hm.each };
        context = known-fine m f c hc.0 hc.1;
        exprs = record { long = he.long; each = he.each };
      })))

  total_read : (f : FunctionHandle) (fs : List ℕ) → OnGot (FineTotal m f) (read_total m f fs)
  unfolding read_total
  total_read f [] = tt
  total_read f (c ∷ fs) =
      on_cond (FineTotal m f) (eqb c 0) _ _ (λ t u e. absurd (none-ne-some u e))
      (on_cond (FineTotal m f) (eqb c 1) _ malformed
      (λ t.
      on_then (FineFunction m f) (FineTotal m f) (read_kept m f fs) _ (kept_read f fs)
      (λ k gs h u e. subst (FineFunction m f) (some-injective k u e) h))
      tt)

  record TotalsRead (f : FunctionHandle) (n : ℕ) (ts : List (Option FunctionReq)) : Type 0 where
    pub long : length ts ≡ n
    pub each : (i : ℕ) → FineTotal m (i + f) (get_or ts i nothing)

  each_next : (f : FunctionHandle) (t : Option FunctionReq) (ts : List (Option FunctionReq)) → FineTotal m f t → ((i : ℕ) → FineTotal m (i + suc f) (get_or ts i nothing)) → (i : ℕ) → FineTotal m (i + f) (get_or (t ∷ ts) i nothing)
  each_next f t ts h k zero = subst (λ (g : ℕ). FineTotal m g t) (sym (zero-add f)) h
  each_next f t ts h k (suc i) =
      let next : i + suc f ≡ suc i + f = omega arith in
      subst (λ (g : ℕ). FineTotal m g (get_or ts i nothing)) next (k i)

  totals_read : (f : FunctionHandle) (n : ℕ) (fs : List ℕ) → OnGot (TotalsRead f n) (read_totals m f n fs)
  unfolding read_totals
  totals_read f zero fs = record { long = refl; each = λ i u e. absurd (none-ne-some u e) }
  totals_read f (suc n) fs =
      on_then (FineTotal m f) (TotalsRead f (suc n)) (read_total m f fs) _ (total_read f fs)
      (λ t gs ht.
      on_then (TotalsRead (suc f) n) (TotalsRead f (suc n)) (read_totals m (suc f) n gs) _ (totals_read (suc f) n gs)
      (λ ts hs h. record { long = omega (arith, h.long); each = each_next f t ts ht h.each }))

  abbrev GlobalsRead : PartReq → Type 0
  GlobalsRead q = SomeVariables q × (all_below (variable (length m.globals)) q ≡ true)

  globals-read : (fs : List ℕ) → OnGot GlobalsRead (only (all_below (variable (length m.globals))) (read_variables fs))
  globals-read fs = on_only SomeVariables (all_below (variable (length m.globals))) (read_variables fs) (variables_read fs)

  pruner_body : (fs : List ℕ) → OnGot (FinePruner m) (read_body m fs)
  unfolding read_body
  pruner_body fs =
      let n = length m.functions in
      on_then GlobalsRead (FinePruner m) (only (all_below (variable (length m.globals))) (read_variables fs)) _ (globals-read fs)
      (λ q gs hq.
      on_then (TotalsRead 0 n) (FinePruner m) (read_totals m 0 n gs) _ (totals_read 0 n gs)
      (λ ts hs h. record {
        globals = variables_there (length m.globals) spine (variable absent) q hq.1 hq.0;
        functions = record { long = h.long; each = λ f. subst (λ (g : ℕ). FineTotal m g (get_or ts f nothing)) (add-zero f) (h.each f) };
      }))

  pub nothing-counts : (n : ℕ) → total_pieces (replicate n nothing) ≡ 0
  unfolding total_pieces function_pieces
  nothing-counts zero = refl
  nothing-counts (suc n) = omega (arith, nothing-counts n)

  -- it is fine, and 16 allows it
  abbrev Allowed : Pruner → Type 0
  Allowed pruner = FinePruner m pruner × (pruner_pieces pruner ≤ max_pieces)

  fresh-allowed : Allowed (fresh m)
  unfolding fresh entries
  fresh-allowed = (fresh-fine m, omega (arith, nothing-counts (length m.functions)))

  either : (b : Bool) (x y : Answer Pruner) → (b ≡ true → OnAccepted Allowed x) → OnAccepted Allowed y → OnAccepted Allowed (cond b x y)
  either true x y h k = h refl
  either false x y h k = k

  answered-on : (o : Option Pruner) → OnSome (FinePruner m) o → OnAccepted Allowed (answered o)
  answered-on nothing h = tt
  answered-on (some pruner) h =
      either (leb (pruner_pieces pruner) max_pieces) (accepted pruner) (refused 19) (λ e. (h, leb-true (pruner_pieces pruner) max_pieces e)) tt

  pruner_read : (s : List ℕ) → OnAccepted Allowed (read_pruner m s)
  unfolding read_pruner
  pruner_read s =
      let body = read_body m (fields (drop 6 (stated s))) in
      either (is_fresh s) (accepted (fresh m)) _ (λ e. fresh-allowed)
      (answered-on (cond (is_pruner s) (whole body) nothing) (some_when (FinePruner m) (is_pruner s) (whole body) (whole-on (FinePruner m) body (pruner_body (fields (drop 6 (stated s)))))))

  module _ (s : List ℕ) (pruner : Pruner) (e : read_pruner m s ≡ accepted pruner) where
    pub read_fine : FinePruner m pruner
    read_fine = (subst (OnAccepted Allowed) e (pruner_read s)).0

    pub read_few : pruner_pieces pruner ≤ max_pieces
    read_few = (subst (OnAccepted Allowed) e (pruner_read s)).1
