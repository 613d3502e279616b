-- The totals of all functions: those before f were read and are counted, later ones have none yet, and what is left gives the whole.
use Prim.Native.Nat.{ℕ, zero, suc, ◌+◌, ◌-◌, ◌*◌, ◌≤◌, ◌<◌}
use native.Mathlib.Omega.{arith}
use native.Mathlib.Decide.{ℕ_discrete}
use native.Mathlib.Numerals.{add-one}
use mathlib.Core.Path.{◌≡◌, refl, ap, sym, subst, ◌∙◌}
use mathlib.Core.Bool.{Bool, true, false}
use mathlib.Core.List.{List, [], ◌∷◌, ◌++◌, append-nil}
use mathlib.Core.Option.{Option, none-ne-some}
use lib.ListN.{length, get_or}
use Rattle.field.specs.Limits.{max_pieces, max_functions}
use Rattle.part.specs.PartReq.{PartReq, none, entries}
use Rattle.part.specs.Store.{Kept}
use Rattle.module.specs.Module.{Module}
use Rattle.module.specs.Decode.{tab}
use Rattle.module.specs.Tables.{row_at, expressions_from, max_items, module_of}
use Rattle.module.proofs.Tab.{tab-same}
use Rattle.access.proofs.Access.{functions_are}
use Rattle.access.proofs.Laid.{number_once}
use Rattle.request.specs.Fields.{fields, Read, malformed, got, ◌>>=◌}
use Rattle.request.proofs.Bytes.{tail_all, tail_then}
use Rattle.request.proofs.Entries.{kept_same, kept_on}
use Rattle.walk.specs.State.{FunctionReq, record_pieces, function_pieces, total_pieces}
use Rattle.walk.proofs.Counts.{record_pieces-replicate}
use Rattle.memory.specs.Layout.{totals_slot, functions_slot, stack_slot}
use Rattle.memory.specs.Memory.{read, sum_from, context_at, Memory}
use Rattle.memory.proofs.Slots.{read-long}
use Rattle.memory.proofs.Records.{records_none}
use Rattle.memory.proofs.Runs.{context_pieces, records_same, context_same}
use Rattle.marks.specs.declared.totals.MarkTotals.{MarkTotals}
use Rattle.marks.specs.Report.{has_total}
use Rattle.marks.specs.Report as report
use Rattle.marks.proofs.Placed.{few}
use Rattle.marks.proofs.Sums.{total_there, total_missing}
use Rattle.state.specs.State.{records_in, totals_sum}
use Rattle.access.specs.Laid.{WasRead}
use Rattle.state.proofs.Own.{fits}
use Rattle.block.specs.Standing.{total_in, functions_in}
use Rattle.block.specs.Total.{NewTotal, total_count}
use Rattle.block.proofs.Totalled.{other_count, total_sums}
use Rattle.block.proofs.Keeping.{totals_recorded}
use Rattle.pruner.specs.Form.{read_total, read_totals}
use Rattle.pruner.specs.Stored.{HasTotals}
use Rattle.pruner.specs.Reading.{Next, RoomBeside, SpentBeside, TooMany, TotalIs, TotalBy, TotalWasRead, NoTotals, FunctionsWereRead}
use Rattle.std.specs.Prelude.{Some, None}
use Rattle.std.specs.Borrow.{Bor}
use Rattle.pruner.proofs.Marking.{after, after_none, after_more}
use Rattle.pruner.proofs.Flagged.{flagged_count, missing_count}

-- slots that mean nothing count for nothing
sum_zero : (ps : List PartReq) (a n : ℕ) → ((j : ℕ) → j < n → get_or ps (a + j) none ≡ none) → sum_from ps a n ≡ 0
unfolding sum_from entries
sum_zero ps a zero h = refl
sum_zero ps a (suc n) h = rw (sum_zero ps a n (λ j l. h j (omega arith)), h n (omega arith)) refl

-- lists of totals
pieces_append : (xs ys : List (Option FunctionReq)) → total_pieces (xs ++ ys) ≡ total_pieces xs + total_pieces ys
unfolding total_pieces
pieces_append [] ys = omega arith
pieces_append (o ∷ xs) ys = omega (arith, pieces_append xs ys)

one_piece : (o : Option FunctionReq) → total_pieces (o ∷ []) ≡ function_pieces o
unfolding total_pieces
one_piece o = omega arith

tab-more : (k : ℕ) (g : ℕ → Option FunctionReq) → tab (k + 1) g ≡ tab k g ++ (g k ∷ [])
unfolding tab
tab-more k g = rw (add-one k) refl

module _ (xs : List (Option FunctionReq)) (sum : ℕ) where
  many_tail : (o : Option FunctionReq) (y : Read (List (Option FunctionReq))) → max_pieces < sum + (total_pieces xs + function_pieces o)
      → TooMany total_pieces sum (after xs (y >>= λ ts hs. got (o ∷ ts) hs))
  many_tail o malformed h = tt
  many_tail o (got ts hs) h = omega (arith, pieces_append xs (o ∷ ts), pieces_append (o ∷ []) ts, one_piece o)

  many_total : (m : Module) (f k count : ℕ) (x : Read (Option FunctionReq)) → count ≡ sum + total_pieces xs → TooMany function_pieces count x
      → TooMany total_pieces sum (after xs (x >>= λ o gs. read_totals m (suc f) k gs >>= λ ts hs. got (o ∷ ts) hs))
  many_total m f k count malformed e h = tt
  many_total m f k count (got o gs) e h = many_tail o (read_totals m (suc f) k gs) (omega arith)

-- the expressions of the functions before f
unfoldable pub exprs_to : List ℕ → ℕ → ℕ
exprs_to t zero = 0
exprs_to t (suc f) = exprs_to t f + (row_at t f).expressions

pub record Through (bytes t s rs b : List ℕ) (sum : ℕ) (u us : List ℕ) (now : MarkTotals) (f : ℕ) (next : List ℕ) (count : ℕ) : Type 0 where
  pub few : f ≤ length (module_of bytes t).functions
  pub kept : Kept s u
  pub long : length us ≡ length rs
  pub memory : Memory u us
  pub spent : SpentBeside s u b (f + exprs_to t f) next
  pub same : (k : ℕ) → (totals_slot ≤ k → k < stack_slot → ⊥) → get_or (read u us) k none ≡ get_or (read s rs) k none
  pub low : count ≤ max_pieces
  pub sums : count ≡ sum + total_pieces (tab f (total_in (module_of bytes t) t (read u us) now))
  pub weighed : total_pieces (tab f (total_in (module_of bytes t) t (read u us) now)) ≡ totals_sum (read u us)
  pub later : (g : ℕ) → f ≤ g → g < length (module_of bytes t).functions → (has_total now g ≡ false) × (total_count t g (read u us) ≡ 0)
  pub walked : (g : ℕ) → g < f → has_total now g ≡ false → total_count t g (read u us) ≡ 0
  pub rest : read_totals (module_of bytes t) 0 (length (module_of bytes t).functions) (fields b) ≡ after (tab f (total_in (module_of bytes t) t (read u us) now)) (read_totals (module_of bytes t) f (length (module_of bytes t).functions - f) (fields next))

module _ {bytes t : List ℕ} (w : WasRead bytes t) where
  abbrev m : Module
  m = module_of bytes t

  abbrev n : ℕ
  n = length (module_of bytes t).functions

  exprs_before : (f : ℕ) → f < n → exprs_to t f ≤ (row_at t f).items
  unfolding exprs_to
  exprs_before zero l = omega arith
  exprs_before (suc f) l = omega (arith, exprs_before f (omega arith), w.laid.next f (rw (functions_are t bytes) l))

  exprs_fit : (f : ℕ) → f < n → exprs_to t f + (row_at t f).expressions ≤ max_items
  exprs_fit f l = omega (arith, exprs_before f l, w.laid.within f (rw (functions_are t bytes) l))

  -- a total that is the same has the same flag
  same_flag : (xs ys : MarkTotals) (g : ℕ) → report.total_in m xs g ≡ report.total_in m ys g → has_total xs g ≡ false → has_total ys g ≡ false
  same_flag xs ys g same e = by (has_total ys g) refl
    where
      by : (b : Bool) → has_total ys g ≡ b → has_total ys g ≡ false
      by false z = z
      by true z = absurd (none-ne-some _ (sym (total_missing m xs g e) ∙ same ∙ total_there m ys g z))

  all_totals : (ps : List PartReq) (now : MarkTotals) {f : ℕ} → f ≡ n → tab f (total_in m t ps now) ≡ functions_in m t ps now
  unfolding functions_in
  all_totals ps now e = rw e refl

  no_count : (ps : List PartReq) → ((k : ℕ) → totals_slot ≤ k → k < stack_slot → get_or ps k none ≡ none) → (g : ℕ) → g < n → total_count t g ps ≡ 0
  no_count ps h g l =
      let b = fits g w l in
      let c = few bytes t w in
      let es = records_none ps (totals_slot + expressions_from (row_at t g)) (row_at t g).expressions (λ e i. h (totals_slot + expressions_from (row_at t g) + e) (omega arith) (omega arith)) in
      omega (
        arith,
        ap record_pieces es,
        record_pieces-replicate (row_at t g).expressions,
        context_pieces ps (functions_slot + 4 * g),
        sum_zero ps (functions_slot + 4 * g) 4 (λ j i. h (functions_slot + 4 * g + j) (omega arith) (omega arith)),
      )

  pub through_first : {s rs : List ℕ} {totals : MarkTotals} {b : List ℕ} {sum : ℕ} → Memory s rs → NoTotals bytes t s rs totals → sum ≤ max_pieces
      → Through bytes t s rs b sum s rs totals 0 b sum
  unfolding tab total_pieces exprs_to
  through_first {s} {rs} {b = b} mem e l =
      let all : n - 0 ≡ n = omega arith in
      record {
        few = omega arith;
        kept = kept_same mem.good;
        long = refl;
        memory = mem;
        spent = record { further = omega arith; cost = omega arith; tail = tail_all b };
        same = λ k out. refl;
        low = l;
        sums = omega arith;
        weighed =
            omega (
              arith,
              sum_zero (read s rs) totals_slot max_items (λ j i. e.slots (totals_slot + j) (omega arith) (omega arith)),
              sum_zero (read s rs) functions_slot (4 * max_functions) (λ j i. e.slots (functions_slot + j) (omega arith) (omega arith)),
            );
        later = λ g x y. (e.flags g y, no_count (read s rs) e.slots g y);
        walked = λ g x. absurd (omega arith);
        rest = rw all (after_none (read_totals m 0 n (fields b)));
      }

  module _ {s rs b : List ℕ} {sum : ℕ} {u us : List ℕ} {now : MarkTotals} {f : ℕ} {next : List ℕ} {count : ℕ} (so : Through bytes t s rs b sum u us now f next count) where
    module _ (l : f < n) where
      left : n - f ≡ suc (n - (f + 1))
      left = omega arith

      pub through_has : {starts : List ℕ} {totals : MarkTotals} → HasTotals bytes t starts s rs totals → length now.flags ≡ length totals.flags → length now.marks ≡ length totals.marks → HasTotals bytes t starts u us now
      through_has h same_flags same_marks = record { was_read = w; firsts = h.firsts; placed = h.placed; memory = so.memory; flags_long = rw same_flags h.flags_long; marks_long = rw same_marks h.marks_long }

      pub through_flag : has_total now f ≡ false
      through_flag = (so.later f (omega arith) l).0

      pub through_room : RoomBeside s b (max_items + max_functions) → RoomBeside u next (1 + (row_at t f).expressions)
      through_room room = omega (arith, so.spent, so.kept.long, exprs_fit f l, few bytes t w)

      module _ {v vs : List ℕ} {then : MarkTotals} {a : Next} (was : TotalWasRead bytes t u us now next f count v vs then a) where
        abbrev others : Option FunctionReq → List ℕ → Read (List (Option FunctionReq))
        others o gs = read_totals m (suc f) (n - (f + 1)) gs >>= λ ts hs. got (o ∷ ts) hs

        next-total : read_totals m 0 n (fields b) ≡ after (tab f (total_in m t (read u us) now)) (read_total m f (fields next) >>= others)
        unfolding read_totals
        next-total = so.rest ∙ rw left refl

        pub through_refused : a ≡ None → FunctionsWereRead bytes t s rs b sum v vs then None
        through_refused e =
            let many : TooMany function_pieces count (read_total m f (fields next)) = subst (TotalBy bytes t u us now next f count v vs then) e was.by in
            record {
              kept = kept_on so.kept was.kept;
              long = was.long ∙ so.long;
              by = rw next-total (many_total (tab f (total_in m t (read u us) now)) sum m f (n - (f + 1)) count (read_total m f (fields next)) so.sums many);
            }

        module _ {end : Bor (List ℕ)} {total : ℕ} (e : a ≡ Some (end, total)) where
          R : TotalIs bytes t u us now next f count v vs then end.now total
          R = subst (TotalBy bytes t u us now next f count v vs then) e was.by

          N : NewTotal t f (read u us) (read v vs) (context_at (read v vs) (functions_slot + 4 * f)) (records_in t totals_slot f (read v vs))
          N = record { long = read-long v vs ∙ was.long ∙ sym (read-long u us); context = refl; exprs = refl; same = R.same }

          -- the totals of other functions
          other_total : (g : ℕ) → g < n → (g ≡ f → ⊥) → total_in m t (read v vs) then g ≡ total_in m t (read u us) now g
          unfolding total_in
          other_total g i ne =
              let b-f = fits f w l in
              let b-g = fits g w i in
              let known = functions_are t bytes in
              let context = context_same (read u us) (read v vs) (functions_slot + 4 * g)
              (λ j x. R.same (functions_slot + 4 * g + j) (λ k y z. omega arith) (λ k y z. ne (omega arith))) in
              let records = records_same (read u us) (read v vs) (totals_slot + expressions_from (row_at t g)) (row_at t g).expressions
              (λ j x. R.same (totals_slot + expressions_from (row_at t g) + j)
              (λ k y z. ne (sym (number_once t w.laid f g k j (omega arith) (omega arith) y x (omega arith)).0)) (λ k y z. omega arith)) in
              rw (R.others g i ne, context, records) refl

          totals_now : tab (f + 1) (total_in m t (read v vs) then) ≡ tab f (total_in m t (read u us) now) ++ (total_in m t (read v vs) then f ∷ [])
          totals_now =
              tab-more f (total_in m t (read v vs) then)
              ∙ ap (λ (ts : List (Option FunctionReq)). ts ++ (total_in m t (read v vs) then f ∷ []))
              (tab-same f (total_in m t (read v vs) then) (total_in m t (read u us) now) (λ g i. other_total g (omega arith) (λ z. omega arith)))

          -- what the new one counts for
          unwalked_count : has_total then f ≡ false → total_count t f (read v vs) ≡ 0
          unwalked_count z = ap (λ (ps : List PartReq). total_count t f ps) (R.unwalked z) ∙ (so.later f (omega arith) l).1

          own_count : function_pieces (total_in m t (read v vs) then f) ≡ total_count t f (read v vs)
          own_count = by (has_total then f) refl
            where
              by : (x : Bool) → has_total then f ≡ x → function_pieces (total_in m t (read v vs) then f) ≡ total_count t f (read v vs)
              by true z = flagged_count m t (read v vs) then f z
              by false z = missing_count m t (read v vs) then f z ∙ sym (unwalked_count z)

          pieces_now : total_pieces (tab (f + 1) (total_in m t (read v vs) then)) ≡ total_pieces (tab f (total_in m t (read u us) now)) + total_count t f (read v vs)
          pieces_now =
              omega (
                arith,
                ap total_pieces totals_now,
                pieces_append (tab f (total_in m t (read u us) now)) (total_in m t (read v vs) then f ∷ []),
                one_piece (total_in m t (read v vs) then f),
                own_count,
              )

          sum_now : totals_sum (read v vs) ≡ totals_sum (read u us) + total_count t f (read v vs)
          sum_now =
              let b-f = fits f w l in
              omega (
                arith,
                (so.later f (omega arith) l).1,
                total_sums w l N
                    (λ k i. totals_recorded so.memory (totals_slot + expressions_from (row_at t f) + k) (omega arith) (omega arith))
                    (λ k i. totals_recorded R.memory (totals_slot + expressions_from (row_at t f) + k) (omega arith) (omega arith)),
              )

          pub through_more : Through bytes t s rs b sum v vs then (f + 1) end.now total
          unfolding exprs_to
          through_more =
              let step : f + 1 ≡ suc f = add-one f in
              let b-f = fits f w l in
              let c = few bytes t w in
              let spent-f : exprs_to t (f + 1) ≡ exprs_to t f + (row_at t f).expressions = rw step refl in
              record {
                few = omega arith;
                kept = kept_on so.kept was.kept;
                long = was.long ∙ so.long;
                memory = R.memory;
                spent = record {
                  further = omega (arith, so.spent.further, R.spent.further);
                  cost = omega (arith, so.spent.cost, R.spent.cost);
                  tail = tail_then so.spent.tail R.spent.tail;
                };
                same = λ k out. R.same k (λ i x z. out (omega arith) (omega arith)) (λ i x z. out (omega arith) (omega arith)) ∙ so.same k out;
                low = R.few;
                sums = omega (arith, so.sums, R.sums, own_count, pieces_now);
                weighed = omega (arith, so.weighed, sum_now, pieces_now);
                later = λ g x y.
                    let ne : g ≡ f → ⊥ = omega arith in
                    let old = so.later g (omega arith) y in
                    (same_flag now then g (sym (R.others g y ne)) old.0, other_count w l N g y ne ∙ old.1);
                walked = λ g x z. elim (ℕ_discrete g f) [
                  | yes i ↦ rw i (unwalked_count (rw i at z))
                  | no ne ↦
                      let y : g < n = omega arith in
                      other_count w l N g y ne ∙ so.walked g (omega arith) (same_flag then now g (R.others g y ne) z)
                ];
                rest =
                    next-total
                    ∙ rw (R.is, totals_now, step)
                    (after_more (tab f (total_in m t (read u us) now)) (total_in m t (read v vs) then f) (read_totals m (suc f) (n - suc f) (fields end.now)));
              }

    pub through_done : {c : Bor (List ℕ)} → c.now ≡ next → n ≤ f → FunctionsWereRead bytes t s rs b sum u us now (Some (c, count))
    through_done e h =
        let all : f ≡ n = omega (arith, so.few) in
        let none_left : n - f ≡ 0 = omega arith in
        let these : tab f (total_in m t (read u us) now) ≡ functions_in m t (read u us) now = all_totals (read u us) now all in
        record {
          kept = so.kept;
          long = so.long;
          by = rw e (record {
            is = so.rest ∙ rw (none_left, these) (last (functions_in m t (read u us) now));
            sums = rw (← these) so.sums;
            few = so.low;
            memory = so.memory;
            further = so.spent.further;
            tail = so.spent.tail;
            same = so.same;
            totals-sum = rw (← these) so.weighed;
            unwalked = λ g x z. so.walked g (omega arith) z;
          });
        }
      where
        last : (ts : List (Option FunctionReq)) → after ts (read_totals m f 0 (fields next)) ≡ got ts (fields next)
        last ts = unfold read_totals in rw (append-nil ts) refl
