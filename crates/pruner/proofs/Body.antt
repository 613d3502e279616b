-- The body of a buffer's record read as the definition reads it: the total of globals, those of functions, and nothing left over.
use Prim.Native.Nat.{ℕ, ◌+◌, ◌≤◌, ◌<◌, min}
use native.Mathlib.Omega.{arith}
use mathlib.Core.Path.{◌≡◌, refl, ap, subst, ◌∙◌}
use mathlib.Core.Bool.{Bool, true, false}
use mathlib.Core.List.{List, [], ◌∷◌}
use mathlib.Core.Option.{Option}
use lib.Dec.{leb, ltb}
use borrow.Author.Tests.{le-leb, lt-leb}
use lib.ListN.{length, get_or, drop, set, length-set}
use lib.Seq.{get_or-set_same, get_or-set_other}
use Rattle.field.specs.Limits.{absent, max_pieces, max_functions}
use Rattle.part.specs.PartReq.{PartReq, none, entries}
use Rattle.part.specs.Store.{part, Kept}
use Rattle.part.specs.StoreLimits.{entries_cap}
use Rattle.module.specs.Module.{Module}
use Rattle.module.specs.Tables.{max_items, module_of}
use Rattle.context.specs.RequiredContext.{variable}
use Rattle.request.specs.Fields.{fields, Read, malformed, got, ◌>>=◌, whole, refused, accepted}
use Rattle.request.specs.Part.{read_variables}
use Rattle.request.specs.Request.{all_below}
use Rattle.std.specs.Prelude.{Option as Maybe, Some, None}
use Rattle.std.specs.Borrow.{Bor}
use Rattle.std.specs.Bool.{then_some}
use Rattle.request.proofs.Bytes.{no_field}
use Rattle.request.proofs.Entries.{kept_on, ended, goes_on}
use Rattle.walk.specs.State.{FunctionReq, total_pieces}
use Rattle.walk.specs.Requests.{Pruner}
use Rattle.sound.proofs.Walks.{module_valid}
use Rattle.memory.specs.Layout.{globals_slot}
use Rattle.memory.specs.Memory.{read, Memory}
use Rattle.memory.proofs.Slots.{read-long, slot_low, set-memory, set-read}
use Rattle.marks.specs.declared.totals.MarkTotals.{MarkTotals}
use Rattle.access.specs.Laid.{WasRead}
use Rattle.pruner.specs.Form.{pruner_pieces, only, read_totals, read_body, answered}
use Rattle.pruner.specs.Stored.{pruner_in, HasTotals}
use Rattle.pruner.specs.Reading.{Next, RoomBeside, PieceWasRead, TooMany, NoTotals, FunctionsAre, FunctionsBy, FunctionsWereRead, BodyWasRead}
use Rattle.pruner.proofs.Pieces.{no_piece, piece_read, piece_placed}

-- what is malformed or too much is refused
many_refused : (x : Read Pruner) → TooMany pruner_pieces 0 x → answered (whole x) ≡ refused 19
unfolding whole
many_refused malformed h = refl
many_refused (got p []) h = let more-than : max_pieces < pruner_pieces p = omega arith in rw (lt-leb (pruner_pieces p) max_pieces more-than) refl
many_refused (got p (f ∷ fs)) h = refl

left_refused : (p : Pruner) (c : List ℕ) → 2 ≤ length c → answered (whole (got p (fields c))) ≡ refused 19
unfolding fields whole
left_refused p [] h = absurd (omega arith)
left_refused p (x ∷ []) h = absurd (omega arith)
left_refused p (x ∷ (y ∷ c)) h = refl

module _ (g : PartReq) where
  abbrev made : List (Option FunctionReq) → Pruner
  made ts = record { globals = g; functions = ts }

  many_globals : (x : Read (List (Option FunctionReq))) → max_pieces < entries g → TooMany pruner_pieces 0 (x >>= λ ts hs. got (made ts) hs)
  many_globals malformed h = tt
  many_globals (got ts hs) h = omega arith

  many_functions : (count : ℕ) (x : Read (List (Option FunctionReq))) → count ≡ entries g → TooMany total_pieces count x → TooMany pruner_pieces 0 (x >>= λ ts hs. got (made ts) hs)
  many_functions count malformed e h = tt
  many_functions count (got ts hs) e h = omega arith

module _ (bytes t : List ℕ) (w : WasRead bytes t) {n : ℕ} (is-n : n ≡ length (module_of bytes t).globals) where
  pub few_globals : n ≤ absent
  few_globals = omega (arith, (module_valid bytes (module_of bytes t) w.module_is).few_globals)

  abbrev m : Module
  m = module_of bytes t

  abbrev list : List ℕ → Read PartReq
  list fs = only (all_below (variable n)) (read_variables fs)

  body_is : (fs : List ℕ) → read_body m fs ≡ (list fs >>= λ g gs. read_totals m 0 (length (module_of bytes t).functions) gs >>= λ ts hs. got (record { globals = g; functions = ts }) hs)
  unfolding read_body
  body_is fs = rw is-n refl

  module _ (rs b : List ℕ) {s v : List ℕ} {a : Maybe (ℕ × Bor (List ℕ))} (first : PieceWasRead s v (drop 6 b) 0 (list (fields (drop 6 b))) a) where
    pub body_no_globals : {after : MarkTotals} → a ≡ None → BodyWasRead bytes t s rs b v rs after None
    body_no_globals e = record {
      kept = first.kept;
      long = refl;
      by = many_refused (read_body m (fields (drop 6 b))) (rw (body_is (fields (drop 6 b)), no_piece first e) tt);
    }

    module _ {p : ℕ} {next : Bor (List ℕ)} (e : a ≡ Some (p, next)) where
      abbrev g : PartReq
      g = part v p

      after_globals : read_body m (fields (drop 6 b)) ≡ (read_totals m 0 (length (module_of bytes t).functions) (fields next.now) >>= λ ts hs. got (record { globals = g; functions = ts }) hs)
      after_globals = body_is (fields (drop 6 b)) ∙ rw (piece_read first e) refl

      module _ {count : ℕ} (weighed : count ≡ min entries_cap (entries g)) where
        pub body_many_globals : {after : MarkTotals} → max_pieces < count → BodyWasRead bytes t s rs b v rs after None
        body_many_globals h =
            let more-than : max_pieces < entries g = omega arith in
            record {
              kept = first.kept;
              long = refl;
              by = many_refused (read_body m (fields (drop 6 b))) (rw after_globals (many_globals g (read_totals m 0 (length (module_of bytes t).functions) (fields next.now)) more-than));
            }

        module _ (few : count ≤ max_pieces) (mem : Memory s rs) where
          exact : count ≡ entries g
          exact = omega arith

          there : globals_slot < length rs
          there = (slot_low mem globals_slot (omega arith)).0

          reads : read v (set rs globals_slot p) ≡ set (read s rs) globals_slot g
          reads = set-read rs globals_slot p first.kept mem.below refl

          other : (k : ℕ) → (k ≡ globals_slot → ⊥) → get_or (read v (set rs globals_slot p)) k none ≡ get_or (read s rs) k none
          other k ne = ap (λ (ps : List PartReq). get_or ps k none) reads ∙ get_or-set_other (read s rs) globals_slot k g none ne

          here : get_or (read v (set rs globals_slot p)) globals_slot none ≡ g
          here =
              let inside : globals_slot < length (read s rs) = omega (arith, read-long s rs, there) in
              ap (λ (ps : List PartReq). get_or ps globals_slot none) reads ∙ get_or-set_same (read s rs) globals_slot g none inside

          pub body_has : {starts : List ℕ} {totals : MarkTotals} → HasTotals bytes t starts s rs totals → HasTotals bytes t starts v (set rs globals_slot p) totals
          body_has h = record {
            was_read = w;
            firsts = h.firsts;
            placed = h.placed;
            flags_long = h.flags_long;
            marks_long = h.marks_long;
            memory = set-memory mem first.kept (piece_placed first e).0 (omega arith) there (λ x y. absurd (omega arith));
          }

          pub body_none : {totals : MarkTotals} → NoTotals bytes t s rs totals → NoTotals bytes t v (set rs globals_slot p) totals
          body_none h = record { flags = h.flags; slots = λ k x y. other k (omega arith) ∙ h.slots k x y }

          pub body_room : RoomBeside s (drop 6 b) (max_items + max_functions) → RoomBeside v next.now (max_items + max_functions)
          body_room room = let q = (piece_placed first e).1 in omega (arith, q, first.kept.long)

          module _ {u us : List ℕ} {after : MarkTotals} {c : Next} (second : FunctionsWereRead bytes t v (set rs globals_slot p) next.now count u us after c) where
            kept_now : Kept s u
            kept_now = kept_on first.kept second.kept

            long_now : length us ≡ length rs
            long_now = second.long ∙ length-set rs globals_slot p

            pub body_no_functions : c ≡ None → BodyWasRead bytes t s rs b u us after None
            body_no_functions z =
                let many : TooMany total_pieces count (read_totals m 0 (length (module_of bytes t).functions) (fields next.now))
                = subst (FunctionsBy bytes t v (set rs globals_slot p) next.now count u us after) z second.by in
                record {
                  kept = kept_now;
                  long = long_now;
                  by = many_refused (read_body m (fields (drop 6 b))) (rw after_globals (many_functions g count (read_totals m 0 (length (module_of bytes t).functions) (fields next.now)) exact many));
                }

            module _ {end : Bor (List ℕ)} {total : ℕ} (z : c ≡ Some (end, total)) where
              F : FunctionsAre bytes t v (set rs globals_slot p) next.now count u us after end.now total
              F = subst (FunctionsBy bytes t v (set rs globals_slot p) next.now count u us after) z second.by

              globals_now : get_or (read u us) globals_slot none ≡ g
              globals_now = F.same globals_slot (λ x y. omega arith) ∙ here

              found : read_body m (fields (drop 6 b)) ≡ got (pruner_in bytes t u us after) (fields end.now)
              found = after_globals ∙ rw (F.is, globals_now) refl

              allowed : leb (pruner_pieces (pruner_in bytes t u us after)) max_pieces ≡ true
              allowed = le-leb (pruner_pieces (pruner_in bytes t u us after)) max_pieces (omega (arith, F.sums, F.few, exact, ap entries globals_now))

              left_over : 2 ≤ length end.now → answered (whole (read_body m (fields (drop 6 b)))) ≡ refused 19
              left_over h = ap (λ (x : Read Pruner). answered (whole x)) found ∙ left_refused (pruner_in bytes t u us after) end.now h

              nothing_left : length end.now < 2 → answered (whole (read_body m (fields (drop 6 b)))) ≡ accepted (pruner_in bytes t u us after)
              unfolding whole
              nothing_left h = rw (found, no_field end.now h, allowed) refl

              ends_by : (r : Bool) → r ≡ ltb (length end.now) 2 → BodyWasRead bytes t s rs b u us after (then_some r tt)
              ends_by true x = record {
                kept = kept_now;
                long = long_now;
                by = record {
                  is = nothing_left (ended end.now x refl);
                  memory = F.memory;
                  same = λ k ne out. F.same k out ∙ other k ne;
                  totals-sum = F.totals-sum;
                  unwalked = F.unwalked;
                };
              }
              ends_by false x = record { kept = kept_now; long = long_now; by = left_over (goes_on end.now x refl) }

              pub body_ends : {r : Bool} → r ≡ ltb (length end.now) 2 → BodyWasRead bytes t s rs b u us after (then_some r tt)
              body_ends {r} x = ends_by r x
