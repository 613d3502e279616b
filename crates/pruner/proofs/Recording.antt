-- The records and the context of a total, read into slots: those before the k-th stand there and are counted, and what is left gives the whole.
use Prim.Native.Nat.{ℕ, zero, suc, ◌+◌, ◌-◌, ◌≤◌, ◌<◌, min}
use native.Mathlib.Omega.{arith}
use mathlib.Core.Path.{◌≡◌, refl, ap, sym, subst, ◌∙◌}
use mathlib.Core.List.{List, [], ◌∷◌, ◌++◌, append-nil}
use mathlib.Core.Option.{Option, some, none as nothing}
use lib.ListN.{length, get_or, set, length-set}
use lib.Seq.{get_or-set_same, get_or-set_other}
use Rattle.field.specs.Limits.{max_pieces}
use Rattle.part.specs.PartReq.{PartReq, none, entries}
use Rattle.part.specs.Store.{part, Kept}
use Rattle.part.specs.StoreLimits.{entries_cap}
use Rattle.context.specs.RequiredContext.{RequiredContext, pieces}
use Rattle.context.specs.Contexts.{context_of, HasContext}
use Rattle.context.specs.declared.required_context.RequiredContext.{RequiredContext as Pieces}
use Rattle.request.specs.Fields.{fields, Read, malformed, got, ◌>>=◌}
use Rattle.request.specs.Part.{read_return}
use Rattle.std.specs.Prelude.{Option as Maybe, Some, None}
use Rattle.std.specs.Borrow.{Bor}
use Rattle.request.proofs.Bytes.{tail_all, tail_then}
use Rattle.request.proofs.Entries.{kept_same, kept_on}
use Rattle.walk.specs.State.{Records, record_pieces}
use Rattle.memory.specs.Layout.{exprs_slot, functions_slot}
use Rattle.memory.specs.Memory.{read, Recorded, missing, present, record_of, records_of, context_at, with_context, Memory}
use Rattle.memory.specs.Stretches.{four_set}
use Rattle.memory.proofs.Slots.{kept_read, kept_memory, set-memory, set-read, read-long}
use Rattle.memory.proofs.Records.{records_outside}
use Rattle.memory.proofs.Runs.{four_outside, context_put, four_read, four_memory}
use Rattle.pruner.specs.Form.{read_records}
use Rattle.pruner.specs.Reading.{single, mapped, RoomBeside, SpentBeside, PieceWasRead, lists_read, ListsPlaced, ListsWereRead, TooMany, RecordsWereRead, ContextWasStored}
use Rattle.pruner.proofs.Pieces.{no_piece, piece_read, piece_placed, Mapped, mapped_from, unmapped}
use Rattle.pruner.proofs.Marking.{after, after_none, after_more}

-- what records count for
pieces_append : (xs ys : Records) → record_pieces (xs ++ ys) ≡ record_pieces xs + record_pieces ys
unfolding record_pieces
pieces_append [] ys = omega arith
pieces_append (nothing ∷ xs) ys = pieces_append xs ys
pieces_append (some p ∷ xs) ys = omega (arith, pieces_append xs ys)

-- a record as its slot has it
single-pieces : (o : Option PartReq) → record_pieces (o ∷ []) ≡ entries (single 0 o)
unfolding record_pieces single entries
single-pieces nothing = refl
single-pieces (some p) = omega arith

single-recorded : (o : Option PartReq) → Recorded (single 0 o)
unfolding single
single-recorded nothing = missing
single-recorded (some p) = present p

single-record : (o : Option PartReq) → record_of (single 0 o) ≡ o
unfolding single record_of
single-record nothing = refl
single-record (some p) = refl

records_last : (ps : List PartReq) (base k : ℕ) → records_of ps base (k + 1) ≡ records_of ps base k ++ (record_of (get_or ps (base + k) none) ∷ [])
unfolding records_of
records_last ps base zero = let z : base + 0 ≡ base = omega arith in rw z refl
records_last ps base (suc k) =
    let e : suc k + 1 ≡ suc (k + 1) = omega arith in
    let place : suc base + k ≡ base + suc k = omega arith in
    rw e
    (ap (λ (es : Records). record_of (get_or ps base none) ∷ es)
    (records_last ps (suc base) k ∙ ap (λ (j : ℕ). records_of ps (suc base) k ++ (record_of (get_or ps j none) ∷ [])) place))

-- one record more
records_step : (m : ℕ) (fs : List ℕ) {o : Option PartReq} {gs : List ℕ} → read_return fs ≡ got o gs → read_records (suc m) fs ≡ (read_records m gs >>= λ es hs. got (o ∷ es) hs)
unfolding read_records
records_step m fs e = rw e refl

records_stop : (m : ℕ) (fs : List ℕ) → read_return fs ≡ malformed → read_records (suc m) fs ≡ malformed
unfolding read_records
records_stop m fs e = rw e refl

too_many : (xs : Records) (o : Option PartReq) (x : Read Records) (sum : ℕ) → max_pieces < sum + (record_pieces xs + record_pieces (o ∷ []))
    → TooMany record_pieces sum (after xs (x >>= λ es hs. got (o ∷ es) hs))
too_many xs o malformed sum h = tt
too_many xs o (got es hs) sum h = omega (arith, pieces_append xs (o ∷ es), pieces_append (o ∷ []) es)

pub record Recording (s rs b : List ℕ) (base n sum : ℕ) (t us : List ℕ) (k : ℕ) (next : List ℕ) (count : ℕ) : Type 0 where
  pub few : k ≤ n
  pub kept : Kept s t
  pub long : length us ≡ length rs
  pub memory : Memory t us
  pub spent : SpentBeside s t b k next
  pub same : (j : ℕ) → (base ≤ j → j < base + k → ⊥) → get_or (read t us) j none ≡ get_or (read s rs) j none
  pub sums : count ≡ sum + record_pieces (records_of (read t us) base k)
  pub low : count ≤ max_pieces
  pub rest : read_records n (fields b) ≡ after (records_of (read t us) base k) (read_records (n - k) (fields next))

pub recording_first : {s rs b : List ℕ} {sum : ℕ} (base n : ℕ) → Memory s rs → sum ≤ max_pieces → Recording s rs b base n sum s rs 0 b sum
unfolding records_of record_pieces
recording_first {b = b} base n m l =
    let same : n - 0 ≡ n = omega arith in
    record {
      few = omega arith;
      kept = kept_same m.good;
      long = refl;
      memory = m;
      spent = record { further = omega arith; cost = omega arith; tail = tail_all b };
      same = λ j out. refl;
      sums = omega arith;
      low = l;
      rest = rw same (after_none (read_records n (fields b)));
    }

module _ {s rs b : List ℕ} {base n sum : ℕ} {t us : List ℕ} {k : ℕ} {next : List ℕ} {count : ℕ} (so : Recording s rs b base n sum t us k next count) where
  abbrev records : Records
  records = records_of (read t us) base k

  module _ (l : k < n) where
    left : n - k ≡ suc (n - (k + 1))
    left = omega arith

    pub recording_room : RoomBeside s b n → RoomBeside t next 1
    recording_room r = omega (arith, so.spent, so.kept.long)

    module _ {v : List ℕ} {a : Maybe (ℕ × Bor (List ℕ))} (was : PieceWasRead t v next 1 (mapped (single 0) (read_return (fields next))) a) where
      pub recording_refused : a ≡ None → RecordsWereRead s rs b base n sum v us None
      recording_refused e =
          let none-such : read_records n (fields b) ≡ malformed = so.rest ∙ rw (left, records_stop (n - (k + 1)) (fields next) (unmapped (single 0) (read_return (fields next)) (no_piece was e))) refl in
          record { kept = kept_on so.kept was.kept; long = so.long; by = rw none-such tt }

      module _ {p : ℕ} {end : Bor (List ℕ)} (e : a ≡ Some (p, end)) where
        of : Mapped (single 0) (read_return (fields next)) (part v p) (fields end.now)
        of = mapped_from (single 0) (read_return (fields next)) (part v p) (fields end.now) (piece_read was e)

        abbrev o : Option PartReq
        o = of.of

        next_record : read_records n (fields b) ≡ after records (read_records (n - (k + 1)) (fields end.now) >>= λ es hs. got (o ∷ es) hs)
        next_record = so.rest ∙ rw (left, records_step (n - (k + 1)) (fields next) of.is) refl

        own : record_pieces (o ∷ []) ≡ entries (part v p)
        own = single-pieces o ∙ ap entries of.made

        module _ {m : ℕ} (w : m ≡ min entries_cap (entries (part v p))) where
          pub recording_many : max_pieces < count + m → RecordsWereRead s rs b base n sum v us None
          recording_many h =
              let more-than : max_pieces < sum + (record_pieces records + record_pieces (o ∷ [])) = omega (arith, so.sums, own) in
              record {
                kept = kept_on so.kept was.kept;
                long = so.long;
                by = rw next_record (too_many records o (read_records (n - (k + 1)) (fields end.now)) sum more-than);
              }

          module _ (h : count + m ≤ max_pieces) (low : exprs_slot ≤ base) (high : base + n ≤ functions_slot) where
            there : base + k < length us
            there = omega (arith, so.memory.slots)

            reads : read v (set us (base + k) p) ≡ set (read t us) (base + k) (part v p)
            reads = set-read us (base + k) p was.kept so.memory.below refl

            here : get_or (read v (set us (base + k) p)) (base + k) none ≡ part v p
            here =
                let inside : base + k < length (read t us) = omega (arith, read-long t us, there) in
                ap (λ (ps : List PartReq). get_or ps (base + k) none) reads ∙ get_or-set_same (read t us) (base + k) (part v p) none inside

            records-now : records_of (read v (set us (base + k) p)) base (k + 1) ≡ records ++ (o ∷ [])
            records-now =
                let old : records_of (read v (set us (base + k) p)) base k ≡ records
                = ap (λ (ps : List PartReq). records_of ps base k) reads ∙ records_outside (read t us) base k (base + k) (part v p) (λ i x z. omega arith) in
                let new : record_of (get_or (read v (set us (base + k) p)) (base + k) none) ≡ o = ap record_of (here ∙ sym of.made) ∙ single-record o in
                records_last (read v (set us (base + k) p)) base k ∙ rw (old, new) refl

            pub recording_more : Recording s rs b base n sum v (set us (base + k) p) (k + 1) end.now (count + m)
            recording_more =
                let placed = piece_placed was e in
                record {
                  few = omega arith;
                  kept = kept_on so.kept was.kept;
                  long = length-set us (base + k) p ∙ so.long;
                  memory = set-memory so.memory was.kept placed.0 (omega arith) there (λ x y. subst Recorded of.made (single-recorded o));
                  spent = record {
                    further = omega (arith, so.spent.further, placed.1.further);
                    cost = omega (arith, so.spent.cost, placed.1.cost);
                    tail = tail_then so.spent.tail placed.1.tail;
                  };
                  same = λ j out.
                      let ne : j ≡ base + k → ⊥ = λ z. out (omega arith) (omega arith) in
                      ap (λ (ps : List PartReq). get_or ps j none) reads ∙ get_or-set_other (read t us) (base + k) j (part v p) none ne ∙ so.same j (λ x y. out x (omega arith));
                  sums = omega (arith, so.sums, own, ap record_pieces records-now, pieces_append records (o ∷ []));
                  low = h;
                  rest = next_record ∙ rw records-now (after_more records o (read_records (n - (k + 1)) (fields end.now)));
                }

  pub recording_done : {c : Bor (List ℕ)} → c.now ≡ next → n ≤ k → RecordsWereRead s rs b base n sum t us (Some (c, count))
  recording_done e h =
      let all : k ≡ n = omega (arith, so.few) in
      let zero_left : n - k ≡ 0 = omega arith in
      record {
        kept = so.kept;
        long = so.long;
        by = rw e (record {
          is = so.rest ∙ rw (zero_left, ← all) last;
          sums = rw (← all) so.sums;
          few = so.low;
          memory = so.memory;
          spent = rw (← all) so.spent;
          same = rw (← all) so.same;
        });
      }
    where
      last : after records (read_records 0 (fields next)) ≡ got records (fields next)
      last = last_of records
        where
          last_of : (es : Records) → after es (read_records 0 (fields next)) ≡ got es (fields next)
          last_of es = unfold read_records in rw (append-nil es) refl

-- the context
module _ (wanted : Read RequiredContext) {s t b : List ℕ} (rs : List ℕ) (slot sum : ℕ) {a : Maybe (Pieces × Bor (List ℕ))} (was : ListsWereRead s t b wanted a) where
  pub context_refused : a ≡ None → ContextWasStored s rs b slot sum wanted t rs None
  context_refused e =
      let none-such : wanted ≡ malformed = sym was.is ∙ ap (lists_read t) e in
      record { kept = was.kept; long = refl; by = rw none-such tt }

  module _ {c : Pieces} {next : Bor (List ℕ)} (e : a ≡ Some (c, next)) where
    pub context_has : HasContext t c
    context_has = (subst (ListsPlaced s t b) e was.placed).0

    found : wanted ≡ got (context_of t c) (fields next.now)
    found = sym was.is ∙ ap (lists_read t) e

    module _ {g l x p : ℕ} (gs : g ≡ min entries_cap (entries (part t c.globals))) (ls : l ≡ min entries_cap (entries (part t c.locals)))
        (xs : x ≡ min entries_cap (entries (part t c.args))) (ps : p ≡ min entries_cap (entries (part t c.retval))) where
      least : g + l + x + p ≤ pieces (context_of t c)
      unfolding pieces
      least = omega arith

      exact : g + l + x + p ≤ max_pieces → g + l + x + p ≡ pieces (context_of t c)
      unfolding pieces
      exact h = omega arith

      pub context_many : max_pieces < sum + (g + l + x + p) → ContextWasStored s rs b slot sum wanted t rs None
      context_many h =
          let more-than : max_pieces < sum + pieces (context_of t c) = omega (arith, least) in
          record { kept = was.kept; long = refl; by = rw found more-than }

      pub context_stored : {us : List ℕ} → sum + (g + l + x + p) ≤ max_pieces → Memory s rs → functions_slot ≤ slot → slot + 4 ≤ length rs
          → us ≡ four_set rs slot c.globals c.locals c.args c.retval → ContextWasStored s rs b slot sum wanted t us (Some (next, sum + (g + l + x + p)))
      context_stored {us} h m low high is =
          let has = context_has in
          let reads : read t us ≡ with_context (read s rs) slot (context_of t c)
          = ap (read t) is ∙ four_read t rs slot c.globals c.locals c.args c.retval ∙ rw (kept_read rs was.kept m.below) refl in
          let there : slot + 4 ≤ length (read s rs) = omega (arith, read-long s rs) in
          let here : context_at (read t us) slot ≡ context_of t c = ap (λ (qs : List PartReq). context_at qs slot) reads ∙ context_put (read s rs) slot (context_of t c) there in
          let long : length us ≡ length rs = sym (read-long t us) ∙ ap length reads ∙ lengths slot (context_of t c) (read s rs) ∙ read-long s rs in
          record {
            kept = was.kept;
            long = long;
            by = record {
              is = found ∙ rw here refl;
              sums = omega (arith, exact (omega arith), ap pieces here);
              few = h;
              memory = rw is (four_memory slot c.globals c.locals c.args c.retval (kept_memory m was.kept) low high (has.globals, (has.locals, (has.args, has.retval))));
              spent = (subst (ListsPlaced s t b) e was.placed).1;
              same = λ k out.
                  ap (λ (qs : List PartReq). get_or qs k none) reads
                  ∙ four_outside (read s rs) slot (part t c.globals) (part t c.locals) (part t c.args) (part t c.retval) none k (λ j i z. out (omega arith) (omega arith));
            };
          }
        where
          lengths : (k : ℕ) (d : RequiredContext) (qs : List PartReq) → length (with_context qs k d) ≡ length qs
          lengths k d qs =
              length-set (set (set (set qs k d.globals) (k + 1) d.locals) (k + 2) d.args) (k + 3) d.retval
              ∙ length-set (set (set qs k d.globals) (k + 1) d.locals) (k + 2) d.args
              ∙ length-set (set qs k d.globals) (k + 1) d.locals ∙ length-set qs k d.globals
