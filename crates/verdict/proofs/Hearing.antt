-- What a request and a context ask together: the request is read into a fresh store, then the context's number is asked. By cases of what is read, each as the definition refuses it.
use Prim.Native.Nat.{ℕ, ◌+◌, ◌*◌, ◌<◌, ◌≤◌}
use native.Mathlib.Omega.{arith}
use mathlib.Core.Path.{◌≡◌, refl, sym, ap, ◌∙◌}
use mathlib.Core.Bool.{Bool, true, false, cond}
use mathlib.Core.List.{List}
use mathlib.Core.Option.{Option, some, none as nothing}
use lib.ListN.{length, replicate, length-replicate}
use borrow.Author.Tests.{le-ltb}
use Rattle.field.specs.Limits.{absent, min_report}
use Rattle.field.specs.Field.{field_at}
use Rattle.part.specs.PartReq.{PartReq, entries}
use Rattle.part.specs.StoreLimits.{cell_words, table_words}
use Rattle.part.specs.Store.{part, Good}
use Rattle.part.proofs.Pieces.{part-2}
use Rattle.part.proofs.Equations.{never}
use Rattle.module.specs.Module.{Module}
use Rattle.module.specs.File as file
use Rattle.module.specs.Tables.{function_of, module_of}
use Rattle.access.proofs.Access.{function_is}
use Rattle.context.specs.RequiredContext.{RequiredContext, pieces, return_entry}
use Rattle.request.specs.Fields.{refused, accepted}
use Rattle.request.specs.Request.{Request, asking, request_of, known, judge}
use Rattle.request.specs.Context.{context_of, known_context, judge_context, read_context}
use Rattle.request.specs.Answers.{optional}
use Rattle.std.specs.Prelude.{Option as Maybe, Some, None, Result, Ok, Err, unwrap_or}
use Rattle.field.specs.Refusal.{number}
use Rattle.field.specs.declared.refusal.Refusal.{Refusal}
use Rattle.field.specs.declared.refusal.Refusal.TheVariants.{ModuleTooLong, RecordCut, MarkMisplaced, ModuleLimit, ValueNotAllowed, NoSuch, Malformed, Panic, Unsettled, PartLimit, PiecesLimit, VisitsLimit, ReportTooShort, PrunerUnfit, AnswerTooShort, MarksUnfit, CheckBound}
use Rattle.request.specs.declared.requests.Request as declared
use Rattle.walk.specs.Resolve.{function_at}
use Rattle.walk.specs.Marks.{stretch}
use Rattle.marks.specs.Places.{start_of}
use Rattle.sound.proofs.Asked as sound
use Rattle.requests.proofs.Basing.{long_refused}
use Rattle.requests.proofs.Few.{base_few}
use Rattle.context_bytes.specs.Checked.{status_of, without_function}
use Rattle.context_bytes.proofs.Status.{refused_above}
use Rattle.checking.specs.Check.{unread, scope_of, value_of, report_by, cut_short, on_buffer, meaning_of, meaning_by}
use Rattle.checking.specs.Check as check
use Rattle.valid.specs.There.{There}
use Rattle.checking.proofs.Meaning as meaning
use Rattle.rounds.specs.Settling.{asked_by}
use Rattle.verdict.specs.Heard.{Store, Loaded, ValuePiece, refused_first, Accepted, Hears}

-- the piece of the value
pub value_piece : (o : Maybe ℕ) → ValuePiece o (unwrap_or o 2)
unfolding value_of
value_piece None = record { there = λ s b h. omega arith; is = λ s. part-2 s }
value_piece (Some p) = record { there = λ s b h. h; is = λ s. refl }

-- what refuses the request otherwise refuses both
pub first_other : (e : Refusal) (c : Option RequiredContext) → (e ≡ NoSuch → ⊥) → number e ≡ refused_first (number e) c
unfolding refused_first
first_other ModuleTooLong c h = refl
first_other RecordCut c h = refl
first_other MarkMisplaced c h = refl
first_other ModuleLimit c h = refl
first_other ValueNotAllowed c h = refl
first_other NoSuch c h = absurd (h refl)
first_other Malformed c h = refl
first_other Panic c h = refl
first_other Unsettled c h = refl
first_other PartLimit c h = refl
first_other PiecesLimit c h = refl
first_other VisitsLimit c h = refl
first_other ReportTooShort c h = refl
first_other PrunerUnfit c h = refl
first_other AnswerTooShort c h = refl
first_other MarksUnfit c h = refl
first_other CheckBound c h = refl

-- the context of a function that is there
pub status_is : {bytes t : List ℕ} {f : ℕ} (context : List ℕ) {g a l r : ℕ} → There bytes t f → g ≡ length (module_of bytes t).globals → a ≡ length (function_of bytes t f).arguments → l ≡ length (function_of bytes t f).locals →
    r ≡ status_of (judge_context g a l (context_of context)) → r ≡ status_of (read_context (module_of bytes t) (function_at (module_of bytes t) f) context)
unfolding function_at
status_is {bytes} {t} {f} context T hg ha hl e = rw (function_is bytes t f _ T.there, ← hg, ← ha, ← hl) e

-- The request

pub loaded_long : {s : List ℕ} {e : Refusal} (functions globals : ℕ) (request : List ℕ) → Good s → (number e ≡ 12) × (4 + field_at request 2 < length request) → Loaded functions globals request s (Err e)
loaded_long functions globals request G h = record { good = G; is = rw h.0 (sym (long_refused functions globals min_report request h.1)); pieces = tt }

pub reading_room : {s : List ℕ} (request : List ℕ) {k : ℕ} → k ≡ length s → Store s → length request ≤ 4 + absent → {n : ℕ} → n ≡ 3 → cell_words * n + table_words + 2 * length request ≤ k
reading_room request e S h z = omega (arith, S.long)

-- What the request's answer says of it

module _ (functions globals : ℕ) where
  -- the request q is there, and b says whether what it names is
  record Is (o : Option Request) (q : Request) (b : Bool) : Type 0 where
    pub is : o ≡ some q
    pub names : known functions globals q ≡ b

  judged_is : (q : Request) → judge functions globals min_report (some q) ≡ cond (known functions globals q) (accepted q) (refused 11)
  unfolding judge
  judged_is q = refl

  numbers : (n : ℕ) (b : Bool) (q : Request) → refused n ≡ cond b (accepted q) (refused 11) → (n ≡ 11) × (b ≡ false)
  unfolding status_of
  numbers n true q e = never cc
  numbers n false q e = (ap (status_of {A = Request}) e, refl)

  chosen : (b : Bool) (p q : Request) → accepted p ≡ cond b (accepted q) (refused 11) → (q ≡ p) × (b ≡ true)
  chosen true p q e = (cc, refl)
  chosen false p q e = never cc

  of_accepted : (o : Option Request) (p : Request) → accepted p ≡ judge functions globals min_report o → Is o p true
  unfolding judge
  of_accepted nothing p e = never cc
  of_accepted (some q) p e =
      let h = chosen (known functions globals q) p q (e ∙ judged_is q) in
      record { is = ap some h.0; names = rw (← h.0) h.1 }

-- What is meant, by what was read

module _ (m : Module) where
  abbrev F : ℕ
  F = length m.functions

  abbrev G : ℕ
  G = length m.globals

  meant_first : (o : Option Request) (c : Option RequiredContext) {n : ℕ} → refused n ≡ judge F G min_report o → (report : List ℕ) → meaning_by m report o c ≡ unread (refused_first n c)
  unfolding judge meaning_by meaning_of status_of without_function refused_first
  meant_first nothing c e report = let z = ap (status_of {A = Request}) e in rw z
  meant_first (some q) nothing e report = let z = numbers F G _ (known F G q) q (e ∙ judged_is F G q) in rw z.0
  meant_first (some q) (some c) e report = let z = numbers F G _ (known F G q) q (e ∙ judged_is F G q) in rw (z.0, z.1)

  module _ {o : Option Request} {q : Request} (I : Is F G o q true) where
    -- the context's number
    abbrev status : Option RequiredContext → ℕ
    status c = status_of (judge_context G (length (function_at m q.function).arguments) (length (function_at m q.function).locals) c)

    abbrev fits : RequiredContext → Bool
    fits c = known_context G (length (function_at m q.function).arguments) (length (function_at m q.function).locals) c

    refused-by : (b : Bool) (c : RequiredContext) {n : ℕ} → n ≡ status_of (cond b (accepted c) (refused 11)) → 0 < n → (b ≡ false) × (n ≡ 11)
    unfolding status_of
    refused-by true c e h = absurd (omega arith)
    refused-by false c e h = (refl, e)

    meant_refused : (c : Option RequiredContext) {n : ℕ} → n ≡ status c → 0 < n
        → (report : List ℕ) → meaning_by m report o c ≡ unread n
    unfolding meaning_by meaning_of judge_context status_of
    meant_refused nothing e h report = rw (I.is, e)
    meant_refused (some c) e h report =
        let z = refused-by (fits c) c e h in
        rw (I.is, I.names, z.0, z.1)

    accepted-by : (b : Bool) (c : RequiredContext) → 0 ≡ status_of (cond b (accepted c) (refused 11)) → b ≡ true
    unfolding status_of
    accepted-by true c e = refl
    accepted-by false c e = absurd (omega (arith, e))

    meant_accepted : (c : Option RequiredContext) → 0 ≡ status c
        → (given : RequiredContext) × (c ≡ some given) × (fits given ≡ true) × ((report : List ℕ) → meaning_by m report o c ≡ on_buffer m report q given)
    unfolding meaning_by meaning_of judge_context status_of
    meant_accepted nothing e = absurd (omega (arith, e))
    meant_accepted (some c) e =
        let z = accepted-by (fits c) c e in
        (c, refl, z, (λ report. rw (I.is, I.names, z)))

-- The pieces of an accepted request

-- whatever is asked of the value, or nothing
same_buffer : (m : Module) (report : List ℕ) (f : ℕ) (o : Option PartReq) (g p : PartReq) (c : RequiredContext) → p ≡ value_of o → on_buffer m report (asking f o g) c ≡ on_buffer m report (asking f (some p) g) c
unfolding on_buffer value_of
same_buffer m report f o g p c e = rw e

-- what it has for entries
value_entries : (o : Option PartReq) → entries (value_of o) ≤ entries (return_entry o)
unfolding value_of return_entry entries
value_entries nothing = omega arith
value_entries (some p) = omega arith

few_entries : (m : Module) (request : List ℕ) (q : Request) → judge (length m.functions) (length m.globals) min_report (request_of request) ≡ accepted q → length request ≤ 4 + absent →
    entries q.globals + entries (value_of q.retval) ≤ 16384
unfolding pieces
few_entries m request q e l = omega (arith, base_few (length m.functions) (length m.globals) min_report request q e l, value_entries q.retval)

-- a buffer that is long enough
enough : (m : Module) (f : ℕ) → cut_short m f (replicate (start_of m f + stretch m f) 0) ≡ false
unfolding cut_short
enough m f = let n = start_of m f + stretch m f in le-ltb (length (replicate n 0)) n (omega (arith, length-replicate {A = ℕ} n 0))

module _ (m : Module) (request context : List ℕ) {n g : ℕ} (functions : n ≡ length m.functions) (globals : g ≡ length m.globals) {s : List ℕ} {a : Result declared.Request Refusal} (L : Loaded n g request s a) where
  pub hears_first : {e : Refusal} → a ≡ Err e → {r : Refusal} → number r ≡ refused_first (number e) (context_of context) → Hears m request context s (Err r)
  hears_first h z = record { by = rw z (meant_first m (request_of request) (context_of context) (rw (← functions, ← globals) (rw h at L.is))) }

module _ (bytes : List ℕ) (m : Module) (R : file.read_module bytes ≡ file.accepted m) (request context : List ℕ) {n g : ℕ} (functions : n ≡ length m.functions) (globals : g ≡ length m.globals)
    {s : List ℕ} {a : Result declared.Request Refusal} (loaded : Loaded n g request s a) {q : declared.Request} (told : a ≡ Ok q) where
  L : Loaded (length m.functions) (length m.globals) request s (Ok q)
  L = rw (← functions, ← globals, ← told) loaded

  abbrev asked_for : Request
  asked_for = asking q.function.0 (optional s q.retval) (part s q.globals)

  is_asked : judge (length m.functions) (length m.globals) min_report (request_of request) ≡ accepted asked_for
  is_asked = sym L.is

  named : Is (length m.functions) (length m.globals) (request_of request) asked_for true
  named = of_accepted (length m.functions) (length m.globals) (request_of request) asked_for L.is

  pub function-there : q.function.0 < length m.functions
  function-there = (sound.asked m min_report request asked_for is_asked).function

  pub hears_refused : {r : Refusal} → number r ≡ status_of (read_context m (function_at m q.function.0) context) → Hears m request context s (Err r)
  hears_refused {r} e = record { by = meant_refused m named (context_of context) e (refused_above r) }

  module _ (accepts : 0 ≡ status_of (read_context m (function_at m q.function.0) context)) {v : ℕ} (piece : ValuePiece q.retval v) where
    means : part s v ≡ value_of (optional s q.retval)
    means = piece.is s

    abbrev given : RequiredContext
    given = (meant_accepted m named (context_of context) accepts).0

    -- what the definition reads, of a buffer that is long enough
    was : meaning.Read bytes request (replicate (start_of m q.function.0 + stretch m q.function.0) 0) context (scope_of m q.function.0) (check.asked_by asked_for)
        (report_by m q.function.0 (replicate (start_of m q.function.0 + stretch m q.function.0) 0) given)
    was = record {
      program = m;
      asking = asked_for;
      given = given;
      program_is = R;
      asking_is = named.is;
      given_is = (meant_accepted m named (context_of context) accepts).1;
      known = record { request = named.names; context = (meant_accepted m named (context_of context) accepts).2 };
      whole = enough m q.function.0;
      scope_is = refl;
      asked_is = refl;
      report_is = refl;
    }

    same_asked : asked_by s q.globals v ≡ check.asked_by asked_for
    same_asked = rw means

    accepted_request : Accepted m request context s q.function.0 q.globals v
    accepted_request = record {
      stored = record {
        there = function-there;
        good = L.good;
        pieces = (L.pieces.1, piece.there s L.good.base L.pieces.0);
        slim = omega (arith, L.pieces.2, L.pieces.3, few_entries m request asked_for is_asked L.pieces.3, ap entries means);
        listed = meaning.globals-not_all was;
        ascends = rw same_asked (meaning.ascends was);
      };
      given = given;
      given_is = (meant_accepted m named (context_of context) accepts).1;
      is = λ report. (meant_accepted m named (context_of context) accepts).3 report ∙ same_buffer m report q.function.0 (optional s q.retval) (part s q.globals) (part s v) given means;
    }

    pub hears : Hears m request context s (Ok (record { function = q.function; asked = record { globals = q.globals; value = v } }))
    hears = record { by = accepted_request }
