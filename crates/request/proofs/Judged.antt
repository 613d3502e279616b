-- What the lists of a request or a context come to: a law for each way that the code can end. A list that the code has read as known is the
-- definition's; of one that it has read as unknown, an entry is not below the limit.
use Prim.Native.Nat.{ℕ, ◌+◌, ◌*◌, ◌≤◌, ◌<◌}
use native.Mathlib.Omega.{arith}
use mathlib.Core.Path.{◌≡◌, refl, ap, sym, subst, ◌∙◌}
use mathlib.Core.Bool.{Bool, true, false, cond, ◌&&◌}
use mathlib.Core.List.{List}
use mathlib.Core.Option.{Option, some, none as nothing}
use lib.Dec.{ltb}
use lib.ListN.{length, drop}
use borrow.Author.Tests.{lt-ltb, le-ltb}
use Rattle.field.specs.Limits.{absent, min_report}
use Rattle.part.specs.PartReq.{PartReq}
use Rattle.part.specs.Store.{top, part, Kept}
use Rattle.context.specs.RequiredContext.{variable}
use Rattle.module.specs.declared.handles.FunctionHandle.{FunctionHandle as Handle}
use Rattle.std.specs.Prelude.{Option as Maybe, Some, None, Result, Ok, Err}
use Rattle.std.specs.Borrow.{Bor}
use Rattle.field.specs.Refusal.{number}
use Rattle.field.specs.declared.refusal.Refusal.{Refusal}
use Rattle.field.specs.declared.refusal.Refusal.TheVariants.{Malformed, NoSuch, ReportTooShort}
use Rattle.request.specs.declared.requests.Request.{Request as Asked}
use Rattle.request.specs.Fields.{fields, Read, malformed, got, ◌>>=◌, whole, Answer, refused}
use Rattle.request.specs.Part.{read_return, read_variables}
use Rattle.request.specs.Request.{Request as Asking, asking, read_body, is_request, request_of, all_below, known, judge, finish}
use Rattle.request.specs.Answers.{Field, Spent, optional, Held, sorted, OptionWasRead, RequestHeld, RequestWasRead}
use Rattle.request.proofs.Bytes.{no_field, some_field}
use Rattle.request.proofs.Entries.{kept_on}
use Rattle.request.proofs.Frame.{frame_inside}

-- the list v was read: q, of which o was made
pub record Listed (limit : ℕ) (v : Read PartReq) (o : Option PartReq) (gs : List ℕ) : Type 0 where
  pub list : PartReq
  pub is : v ≡ got list gs
  pub chosen : cond (all_below (variable limit) list) (some list) nothing ≡ o

pub listed : (limit : ℕ) (v : Read PartReq) {o : Option PartReq} {gs : List ℕ} → sorted limit v ≡ got o gs → Listed limit v o gs
unfolding sorted
listed limit malformed e = let z : ◌≡◌ {A = ℕ} 0 1 = cc in absurd (omega arith)
listed limit (got q hs) e = record { list = q; is = cc; chosen = cc }

pub unlisted : (limit : ℕ) (v : Read PartReq) → sorted limit v ≡ malformed → v ≡ malformed
unfolding sorted
unlisted limit malformed e = refl
unlisted limit (got q hs) e = let z : ◌≡◌ {A = ℕ} 0 1 = cc in absurd (omega arith)

-- which of the two the test chose
pub not_some : (b : Bool) (q : PartReq) → cond b (some q) nothing ≡ nothing → b ≡ false
not_some true q e = let z : ◌≡◌ {A = ℕ} 0 1 = cc in absurd (omega arith)
not_some false q e = refl

pub is_some : (b : Bool) (q g : PartReq) → cond b (some q) nothing ≡ some g → (b ≡ true) × (q ≡ g)
is_some true q g e = (refl, cc)
is_some false q g e = let z : ◌≡◌ {A = ℕ} 0 1 = cc in absurd (omega arith)

and-false : (a : Bool) → a && false ≡ false
and-false true = refl
and-false false = refl

-- a piece that may be nothing means the same later
pub optional-kept : {s t : List ℕ} → Kept s t → (o : Maybe ℕ) → Held s o → optional t o ≡ optional s o
optional-kept k None h = refl
optional-kept k (Some n) h = ap some (k.same n h)

pub held_kept : {s t : List ℕ} → Kept s t → (o : Maybe ℕ) → Held s o → Held t o
held_kept k None h = tt
held_kept k (Some n) h = omega (arith, k.tops, h)

-- the globals of a request
module _ (functions globals report f : ℕ) (s b : List ℕ) (o : Maybe ℕ) where
  abbrev wanted : Answer Asking
  wanted = finish functions globals report f (optional s o) (fields b)

  pub globals_malformed : {t : List ℕ} → OptionWasRead s t b (sorted globals (read_variables (fields b))) None → RequestWasRead s t (length b) wanted (Err Malformed)
  unfolding finish judge whole
  globals_malformed was = record { kept = was.kept; is = rw (unlisted globals (read_variables (fields b)) (sym was.is)); held = tt }

  module _ {t : List ℕ} {z : Maybe ℕ × Bor (List ℕ)} (was : OptionWasRead s t b (sorted globals (read_variables (fields b))) (Some z)) where
    pub read_list : Listed globals (read_variables (fields b)) (optional t z.0) (fields z.1.now)
    read_list = listed globals (read_variables (fields b)) (sym was.is)

    refuse_request : (e : Refusal) → refused (number e) ≡ wanted → RequestWasRead s t (length b) wanted (Err e)
    refuse_request e h = record { kept = was.kept; is = h; held = tt }

    pub globals_left : 2 ≤ length z.1.now → RequestWasRead s t (length b) wanted (Err Malformed)
    unfolding finish judge whole
    globals_left h = refuse_request Malformed (rw (read_list.is, some_field z.1.now h))

    module _ (done : length z.1.now < 2) where
      ends_with : wanted ≡ judge functions globals report (some (asking f (optional s o) read_list.list))
      unfolding finish whole
      ends_with = rw (read_list.is, no_field z.1.now done)

      pub globals_unknown : z.0 ≡ None → RequestWasRead s t (length b) wanted (Err NoSuch)
      unfolding judge known
      globals_unknown e =
          let below : all_below (variable globals) read_list.list ≡ false = not_some _ _ (read_list.chosen ∙ ap (optional t) e) in
          refuse_request NoSuch (sym (ends_with ∙ rw (below, and-false (ltb f functions))))

      module _ {n : ℕ} (e : z.0 ≡ Some n) where
        all_known : (all_below (variable globals) read_list.list ≡ true) × (read_list.list ≡ part t n)
        all_known = is_some _ _ _ (read_list.chosen ∙ ap (optional t) e)

        pub globals_function : functions ≤ f → RequestWasRead s t (length b) wanted (Err NoSuch)
        unfolding judge known
        globals_function h = refuse_request NoSuch (sym (ends_with ∙ rw (le-ltb f functions h)))

        pub globals_report : f < functions → report < min_report → RequestWasRead s t (length b) wanted (Err ReportTooShort)
        unfolding judge known
        globals_report h k =
            refuse_request ReportTooShort
            (sym (ends_with ∙ rw (lt-ltb f functions h, all_known.0, lt-ltb report min_report k)))

        pub globals-accepted : f < functions → min_report ≤ report → Held s o → {g : Handle} → f ≡ g.0
            → RequestWasRead s t (length b) wanted (Ok (record { function = g; retval = o; globals = n }))
        unfolding judge known
        globals-accepted h k held {g} is =
            let same : optional t o ≡ optional s o = optional-kept was.kept o held in
            record {
              kept = was.kept;
              is = sym (ends_with ∙ rw (lt-ltb f functions h, all_known.0, le-ltb report min_report k, all_known.1, same, ← is));
              held = (held_kept was.kept o held, subst (Held t) e was.placed.0, omega (arith, was.placed.1));
            }

-- a refusal, and an answer that a call gave
held_on : (s t u : List ℕ) (m n : ℕ) (r : Result Asked Refusal) → 4 * top t + m ≤ 4 * top s + n → RequestHeld t u m r → RequestHeld s u n r
held_on s t u m n (Err e) c h = tt
held_on s t u m n (Ok q) c h = (h.0, h.1, omega (arith, h.2))

module _ {s t : List ℕ} {w : Answer Asking} (k : Kept s t) where
  pub request_malformed : {n : ℕ} → w ≡ refused 12 → RequestWasRead s t n w (Err Malformed)
  request_malformed e = record { kept = k; is = sym e; held = tt }

  pub request_on : {u b c : List ℕ} {n : ℕ} {v : Answer Asking} {r : Result Asked Refusal} → w ≡ v → length b ≤ n → Spent s t b 0 c → RequestWasRead t u (length c) v r
      → RequestWasRead s u n w r
  request_on {u} {c = c} {n = n} {r = r} e long spent was =
      record {
        kept = kept_on k was.kept;
        is = was.is ∙ sym e;
        held = held_on s t u (length c) n r (omega (arith, long, spent)) was.held;
      }

-- the record of a request
module _ (functions globals report : ℕ) (b : List ℕ) {r : Bool} (e : r ≡ is_request b) where
  pub not_request : r ≡ false → judge functions globals report (request_of b) ≡ refused 12
  unfolding request_of judge
  not_request h = rw (sym e ∙ h)

  module _ (h : r ≡ true) where
    pub request_inside : 4 ≤ length b
    request_inside = frame_inside 82 81 4 _ b (sym e ∙ h)

    abbrev behind : List ℕ
    behind = drop 4 b

    body : request_of b ≡ whole (read_body (fields behind))
    unfolding request_of
    body = rw (sym e ∙ h)

    no_body : read_body (fields behind) ≡ malformed → judge functions globals report (request_of b) ≡ refused 12
    unfolding judge whole
    no_body z = rw (body, z)

    pub request_empty : length behind < 2 → judge functions globals report (request_of b) ≡ refused 12
    unfolding read_body
    request_empty l = no_body (rw (no_field behind l))

    module _ {c : List ℕ} {i : ℕ} (f : Field behind i c) where
      pub request_absent : absent ≤ i → judge functions globals report (request_of b) ≡ refused 12
      unfolding read_body
      request_absent l = no_body (rw (f.is, le-ltb i absent l))

      module _ (l : i < absent) where
        after_function : read_body (fields behind) ≡ (read_return (fields c) >>= λ p gs. read_variables gs >>= λ g hs. got (asking i p g) hs)
        unfolding read_body
        after_function = rw (f.is, lt-ltb i absent l)

        pub request_no_return : read_return (fields c) ≡ malformed → judge functions globals report (request_of b) ≡ refused 12
        request_no_return z = no_body (rw (after_function, z))

        pub request_finish : {p : Option PartReq} {gs : List ℕ} → read_return (fields c) ≡ got p gs
            → judge functions globals report (request_of b) ≡ finish functions globals report i p gs
        unfolding finish
        request_finish z = rw (body, after_function, z)
