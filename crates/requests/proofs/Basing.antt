-- What a request asks, in memory: its pieces are read into a fresh memory, and its base context stands at the bottom of the stack. Each law answers a need of crate's `begin`.
use Prim.Native.Nat.{ℕ, ◌+◌, ◌*◌, ◌%◌, ◌<◌, ◌≤◌}
use native.Mathlib.Omega.{arith}
use mathlib.Core.Path.{◌≡◌, refl, sym, ap, subst, ◌∙◌}
use mathlib.Core.Bool.{Bool, true, false, ◌&&◌}
use mathlib.Core.List.{List}
use lib.Dec.{leb, eqb}
use lib.ListN.{length, get_or, length-set, get_or-eq_default}
use native.Mathlib.Decide.{dec_lt}
use borrow.Author.Tests.{ne_eqb}
use Rattle.field.specs.Limits.{absent}
use Rattle.field.specs.Field.{field_at}
use Rattle.part.specs.PartReq.{none}
use Rattle.part.specs.StoreLimits.{cell_words, table_words}
use Rattle.part.specs.Store.{top, part, Made}
use Rattle.part.proofs.Pieces.{part-2}
use Rattle.context.specs.RequiredContext.{return_entry}
use Rattle.request.specs.Fields.{framed, accepted, refused}
use Rattle.request.specs.Request.{Request, asking, is_request, request_of, judge}
use Rattle.request.specs.Answers.{optional, Held, RequestHeld, RequestWasRead}
use Rattle.request.specs.declared.requests.Request as declared
use Rattle.std.specs.Prelude.{Result, Ok, Err, IsErrAnd}
use Rattle.field.specs.declared.refusal.Refusal.{Refusal}
use Rattle.memory.specs.Layout.{globals_slot, stack_slot}
use Rattle.memory.specs.Stretches.{four_set}
use Rattle.memory.specs.Memory.{read, Empty}
use Rattle.memory.proofs.Slots.{read_at, read-long, kept_read, kept_memory}
use Rattle.memory.proofs.Runs.{four_read, four_memory, four_outside, context_put}
use Rattle.module.specs.declared.handles.FunctionHandle.{FunctionHandle as Handle}
use Rattle.requests.specs.Begin.{base_in, Basing, Based, RequestLoaded}
use Rattle.requests.proofs.Few.{base_few}

-- what a `?` passes on
pub passed : {T : Type 0} {r : Result T Refusal} {e : Refusal} → IsErrAnd r (λ k. k ≡ e) → r ≡ Err e
passed {r = Ok x} z = absurd z
passed {r = Err k} z = ap (λ (i : Refusal). Err i) z

-- the base context in its four slots
module _ {s rs : List ℕ} {q : declared.Request} (B : Basing s rs q) {t us : List ℕ} {r : ℕ} (M : Made s t (return_entry (optional s q.retval)) 1 r) (saved : us ≡ four_set rs stack_slot q.globals 2 2 r) where
  pub based : Based s rs q t us
  based =
      let kept = M.kept in
      record {
        memory =
            rw saved
            (four_memory stack_slot q.globals 2 2 r (kept_memory B.memory kept) (omega arith) B.slots_long
            (omega (arith, B.globals, kept.tops), (omega (arith, kept.good.base), (omega (arith, kept.good.base), M.piece))));
        reads =
            rw saved
            (four_read t rs stack_slot q.globals 2 2 r
            ∙ rw (kept_read rs kept B.memory.below, kept.same q.globals B.globals, part-2 t, M.is));
        long = rw saved four_long;
        cost = M.cost;
      }
    where
      four_long : length (four_set rs stack_slot q.globals 2 2 r) ≡ length rs
      four_long = simp length-set

-- a request that is longer than it says is none
both_off : (x y : Bool) → (x && false && y) ≡ false
both_off true y = refl
both_off false y = refl

pub not_request : (s : List ℕ) → 4 + field_at s 2 < length s → is_request s ≡ false
unfolding framed
not_request s h =
    rw (ne_eqb (4 + field_at s 2) (length s) (λ e. absurd (omega (arith, h, e))))
    (both_off (leb 4 (length s) && eqb (get_or s 0 0) 82 && eqb (get_or s 1 0) 81) (eqb (field_at s 2 % 2) 0))

pub long_refused : (functions globals report : ℕ) (s : List ℕ) → 4 + field_at s 2 < length s → judge functions globals report (request_of s) ≡ refused 12
unfolding judge request_of
long_refused functions globals report s h = rw (not_request s h)

-- a slot of a fresh memory, from the total of globals on
fresh_slot : {s rs : List ℕ} → Empty s rs → (k : ℕ) → globals_slot ≤ k → get_or (read s rs) k none ≡ none
fresh_slot {s} {rs} E k l =
    elim (dec_lt k (length rs)) [
      | yes h ↦ read_at s rs k h ∙ E.none_counted k l h
      | no h ↦ get_or-eq_default (read s rs) none (omega (arith, read-long s rs))
    ]

module _ {s rs : List ℕ} (E : Empty s rs) (request : List ℕ) (functions globals report : ℕ) (short : length request ≤ 4 + absent) where
  pub reading_room : cell_words * top s + table_words + 2 * length request ≤ length s
  reading_room = omega (arith, E.few, E.memory.fits)

  module _ {t : List ℕ} {a : Result declared.Request Refusal} (W : RequestWasRead s t (length request) (judge functions globals report (request_of request)) a) where
    module _ {q : declared.Request} (e : a ≡ Ok q) where
      held : Held t q.retval × (q.globals < top t) × (4 * top t ≤ 4 * top s + length request)
      held = subst (RequestHeld s t (length request)) e W.held

      abbrev asked_for : Request
      asked_for = asking q.function.0 (optional t q.retval) (part t q.globals)

      is_asked : judge functions globals report (request_of request) ≡ accepted asked_for
      is_asked = sym W.is ∙ rw e

      pub loaded_request : {u us : List ℕ} {f : Handle} → stack_slot + 4 ≤ length rs → Based t rs q u us → q.function.0 ≡ f.0 → RequestLoaded functions globals report request u us (Ok f)
      loaded_request {u} {us} l B named =
          let same = kept_read rs W.kept E.memory.below in
          let outside : (k : ℕ) → ((j : ℕ) → j < 4 → stack_slot + j ≡ k → ⊥) → globals_slot ≤ k → get_or (read u us) k none ≡ none
          = λ k h g. rw B.reads (four_outside (read t rs) stack_slot _ _ _ _ none k h ∙ rw same (fresh_slot E k g)) in
          record {
            by = record {
              q = asked_for;
              function_is = named;
              is = is_asked;
              standing = record {
                memory = B.memory;
                base_is = rw B.reads (context_put (read t rs) stack_slot (base_in t q) (omega (arith, read-long t rs)));
                base_few = base_few functions globals report request asked_for is_asked short;
                below = λ k g h. outside k (λ j a b. absurd (omega arith)) g;
                above = λ k h. outside k (λ j a b. absurd (omega arith)) (omega arith);
                cost = omega (arith, B.cost, held.2, E.few);
              };
            };
          }
