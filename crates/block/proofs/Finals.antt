-- The walk just done in the totals is the definition's `add_total`: the first total is the walk itself, since the total's slots had nothing; a later one is joined, 13 where two
-- RayQuery meet and 15 where a limit is passed.
use Prim.Native.Nat.{ℕ, ◌+◌, ◌*◌, ◌<◌, ◌≤◌}
use native.Mathlib.Omega.{arith}
use mathlib.Core.Path.{◌≡◌, refl, sym, ap, ◌∙◌}
use mathlib.Core.Bool.{true, false}
use mathlib.Core.List.{List, [], ◌∷◌}
use mathlib.Core.Option.{some, none as nothing}
use lib.ListN.{length, get_or}
use Rattle.module.specs.Module.{Module}
use Rattle.module.specs.Tables.{row_at, expressions_from, module_of}
use Rattle.module.proofs.Tab.{get_d_tab}
use Rattle.walk.specs.State.{Records, FunctionReq, State, Place, at_statement, went, halt, limited_context, record_pieces}
use Rattle.walk.specs.Marks.{stretch, add_marks, body_of, first_ray}
use Rattle.walk.specs.Function.{latest, extend, walked, keep, join_total, add_total}
use Rattle.memory.specs.Layout.{exprs_slot, totals_slot, functions_slot}
use Rattle.memory.specs.Memory.{read, context_at}
use Rattle.memory.proofs.Records.{records_long}
use Rattle.marks.specs.declared.places.MarkPlaces.{MarkPlaces}
use Rattle.marks.specs.declared.totals.MarkTotals.{MarkTotals}
use Rattle.marks.specs.Places.{slice, start_of}
use Rattle.marks.specs.Report.{has_total}
use Rattle.marks.specs.Report as report
use Rattle.walk.specs.Proper.{Sound}
use Rattle.walk.proofs.Proper.{proper, good, state}
use Rattle.part.specs.StoreLimits.{entries_cap}
use Rattle.context.specs.RequiredContext.{pieces}
use Rattle.marks.proofs.Sums.{total_there, total_missing, kept-own, kept-other, added-own, added-other}
use Rattle.state.specs.State.{records_in}
use Rattle.block.specs.Standing.{total_of, total_in, functions_in, state_in, Standing}
use Rattle.block.proofs.Adds.{FirstTotal, joint, LaterTotal}
use Rattle.block.proofs.Keeping.{total_state, total_standing}

-- records that count for nothing are extended to the later ones
extend-none : (es news : Records) → length es ≡ length news → record_pieces es ≡ 0 → extend es news ≡ news
unfolding extend latest record_pieces
extend-none [] [] l h = refl
extend-none [] (x ∷ news) l h = absurd (omega arith)
extend-none (o ∷ es) [] l h = absurd (omega arith)
extend-none (nothing ∷ es) (nothing ∷ news) l h = ap (λ (r : Records). nothing ∷ r) (extend-none es news (omega arith) h)
extend-none (nothing ∷ es) (some p ∷ news) l h = ap (λ (r : Records). some p ∷ r) (extend-none es news (omega arith) h)
extend-none (some q ∷ es) (o ∷ news) l h = absurd (omega arith)

module _ {bytes t types : List ℕ} {places : MarkPlaces} {s rs open_marks : List ℕ} {totals : MarkTotals} {f at held sum visits : ℕ} (S : Standing bytes t types places s rs open_marks totals f at held sum visits) where
  abbrev m : Module
  m = module_of bytes t

  total_is : get_or (functions_in m t (read s rs) totals) f nothing ≡ total_of (report.total_in m totals f) (context_at (read s rs) (functions_slot + 4 * f)) (records_in t totals_slot f (read s rs))
  unfolding functions_in total_in
  total_is = get_d_tab (length m.functions) (total_in m t (read s rs) totals) f nothing S.ready.function

  -- the first total
  module _ (none_yet : has_total totals f ≡ false) where
    nothing_yet : get_or (functions_in m t (read s rs) totals) f nothing ≡ nothing
    unfolding total_of
    nothing_yet = total_is ∙ rw (total_missing m totals f none_yet)

    records_are : extend (records_in t totals_slot f (read s rs)) (records_in t exprs_slot f (read s rs)) ≡ records_in t exprs_slot f (read s rs)
    records_are =
        let n = (row_at t f).expressions in
        extend-none (records_in t totals_slot f (read s rs)) (records_in t exprs_slot f (read s rs))
        (records_long (read s rs) (totals_slot + expressions_from (row_at t f)) n ∙ sym (records_long (read s rs) (exprs_slot + expressions_from (row_at t f)) n))
        (omega (arith, S.unwalked f S.ready.function none_yet))

    module _ {us : List ℕ} {after : MarkTotals} {k : ℕ} (T : FirstTotal t places.starts s rs open_marks totals f at sum k us after) where
      first_own : report.total_in m after f ≡ some (slice open_marks (start_of m f) (stretch m f))
      first_own = kept-own bytes t places S.ready.was_read S.placed totals after open_marks f S.ready.function S.open_long T.long T.marks T.flag

      first_others : (g : ℕ) → g < length m.functions → (g ≡ f → ⊥) → report.total_in m after g ≡ report.total_in m totals g
      first_others g l ne = kept-other bytes t places S.ready.was_read S.placed totals after open_marks f S.ready.function S.open_long T.long T.marks g ne

      first_state : (v : ℕ) → state_in bytes t s us open_marks after f at v ≡ keep f (walked (state_in bytes t s rs open_marks totals f at v)) (state_in bytes t s rs open_marks totals f at v)
      first_state v =
          total_state S T.added.made.memory T.added.made.total after (slice open_marks (start_of m f) (stretch m f)) first_own first_others v ∙ rw records_are

      pub first_added : (v : ℕ) (here : Place)
          → went (state_in bytes t s us open_marks after f at v) tt ≡ add_total m f here (get_or (functions_in m t (read s rs) totals) f nothing) (state_in bytes t s rs open_marks totals f at v)
      unfolding add_total
      first_added v here = rw nothing_yet (ap (λ (st : State). went st tt) (first_state v))

      pub first_standing : Sound m → held + (pieces (context_at (read s rs) at) + k) ≤ entries_cap → Standing bytes t types places s us open_marks after f at held k visits
      first_standing sound small =
          let N = T.added.made.total in
          let st = state_in bytes t s rs open_marks totals f at visits in
          let G = good m sound 0 f st S.proper in
          let K = proper m sound 0 in
          total_standing S T.added.made.memory N after (slice open_marks (start_of m f) (stretch m f)) first_own first_others
          (omega (arith, T.added.sums, ap record_pieces N.exprs, ap pieces N.context))
          small
          (rw (first_state visits)
          (state m sound 0 f (keep f (walked st) st)
          (record {
            context = G.context;
            exprs = G.exprs;
            marks = G.marks;
            globals = G.globals;
            functions = K.total_kept st.functions f st.marks st.context st.exprs G.functions G.marks G.context G.exprs;
            visits = G.visits;
          })))

  -- a later one
  module _ (there : has_total totals f ≡ true) where
    abbrev old : FunctionReq
    old = record {
      marks = slice totals.marks (start_of m f) (stretch m f);
      context = context_at (read s rs) (functions_slot + 4 * f);
      exprs = records_in t totals_slot f (read s rs);
    }

    old_is : get_or (functions_in m t (read s rs) totals) f nothing ≡ some old
    unfolding total_of
    old_is = total_is ∙ rw (total_there m totals f there)

    abbrev joined-marks : List ℕ
    joined-marks = add_marks (slice totals.marks (start_of m f) (stretch m f)) (slice open_marks (start_of m f) (stretch m f))

    abbrev later_total : FunctionReq
    later_total = record {
      marks = joined-marks;
      context = joint s rs f at;
      exprs = extend (records_in t totals_slot f (read s rs)) (records_in t exprs_slot f (read s rs));
    }

    module _ {u us : List ℕ} {after : MarkTotals} {k : ℕ} (T : LaterTotal t places.starts s rs open_marks totals f at sum k u us after) where
      later_own : report.total_in m after f ≡ some joined-marks
      later_own = added-own bytes t places S.ready.was_read S.placed totals after open_marks f S.ready.function S.open_long T.long T.marks there

      later_others : (g : ℕ) → g < length m.functions → (g ≡ f → ⊥) → report.total_in m after g ≡ report.total_in m totals g
      later_others g l ne = added-other bytes t places S.ready.was_read S.placed totals after open_marks f S.ready.function S.open_long T.long T.marks g ne

      later_state : (v : ℕ) → state_in bytes t u us open_marks after f at v ≡ keep f later_total (state_in bytes t s rs open_marks totals f at v)
      later_state v = total_state S T.added.made.memory T.added.made.total after joined-marks later_own later_others v

    pub ray_meets : {k : ℕ} (v : ℕ) (here : Place) → some k ≡ first_ray m f (body_of m f)
        → halt 13 (at_statement f k) ≡ add_total m f here (get_or (functions_in m t (read s rs) totals) f nothing) (state_in bytes t s rs open_marks totals f at v)
    unfolding add_total join_total
    ray_meets v here e = rw (old_is, ← e)

    module _ (v : ℕ) (here : Place) (no-ray : nothing ≡ first_ray m f (body_of m f)) where
      pub over_meets : ((st : State) → halt 15 here ≡ limited_context here (joint s rs f at) st)
          → halt 15 here ≡ add_total m f here (get_or (functions_in m t (read s rs) totals) f nothing) (state_in bytes t s rs open_marks totals f at v)
      unfolding add_total join_total
      over_meets e = rw (old_is, ← no-ray, ← e (state_in bytes t s rs open_marks totals f at v))

      pub later_added : {u us : List ℕ} {after : MarkTotals} {k : ℕ} → LaterTotal t places.starts s rs open_marks totals f at sum k u us after
          → went (state_in bytes t u us open_marks after f at v) tt ≡ add_total m f here (get_or (functions_in m t (read s rs) totals) f nothing) (state_in bytes t s rs open_marks totals f at v)
      unfolding add_total join_total limited_context
      later_added T = rw (old_is, ← no-ray, T.within) (ap (λ (st : State). went st tt) (later_state T v))

    module _ {u us : List ℕ} {after : MarkTotals} {k : ℕ} (T : LaterTotal t places.starts s rs open_marks totals f at sum k u us after) where
      pub later_standing : Sound m → held + (pieces (context_at (read s rs) at) + k) ≤ entries_cap → Standing bytes t types places u us open_marks after f at held k visits
      later_standing sound small =
          let N = T.added.made.total in
          let st = state_in bytes t s rs open_marks totals f at visits in
          let G = good m sound 0 f st S.proper in
          let K = proper m sound 0 in
          total_standing S T.added.made.memory N after joined-marks (later_own T) (later_others T)
          (omega (arith, T.added.sums, ap record_pieces N.exprs, ap pieces N.context))
          small
          (rw (later_state T visits)
          (state m sound 0 f (keep f later_total st)
          (record {
            context = G.context;
            exprs = G.exprs;
            marks = G.marks;
            globals = G.globals;
            functions = K.total_extended st.functions f old st.marks st.context st.exprs G.functions old_is G.marks G.context G.exprs T.within;
            visits = G.visits;
          })))
