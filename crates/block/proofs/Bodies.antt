-- The walk of a function: its body can be entered, what that leaves can be put into the totals, and both together are the definition's.
use Prim.Native.Nat.{ℕ, pred, ◌+◌, ◌*◌, ◌<◌, ◌≤◌}
use native.Mathlib.Nat.{le_refl}
use native.Mathlib.Omega.{arith}
use mathlib.Core.Path.{◌≡◌, refl, sym, ap, ◌∙◌, subst}
use mathlib.Core.Bool.{Bool, true, false, cond}
use mathlib.Core.List.{List}
use mathlib.Core.Option.{Option, some, none as nothing}
use lib.ListN.{length, get_or}
use Rattle.std.specs.Prelude.{Result, Ok, Err}
use Rattle.field.specs.Limits.{max_pieces}
use Rattle.part.specs.PartReq.{PartReq, none, entries}
use Rattle.module.specs.Module.{FunctionHandle, BlockHandle, Function, Module}
use Rattle.module.specs.Tables.{max_items, row_at, function_of, module_of}
use Rattle.context.specs.RequiredContext.{RequiredContext, empty_context, merge_context, pieces, over_context}
use Rattle.walk.specs.State.{FunctionReq, State, Place, Out, went, halt, ◌>>◌, limited_context}
use Rattle.walk.specs.State as walk
use Rattle.walk.specs.Marks.{body_of, first_ray}
use Rattle.walk.specs.Statement.{add_block}
use Rattle.walk.specs.Function.{keep, join_total, add_total, entered, step_function, add_function}
use Rattle.sound.proofs.Walks.{module_valid, module_sound, function_is}
use Rattle.sound.proofs.Numbers.{body_there}
use Rattle.memory.specs.Memory.{read, context_at}
use Rattle.marks.proofs.Placed.{at_function}
use Rattle.marks.specs.declared.places.MarkPlaces.{MarkPlaces}
use Rattle.marks.specs.declared.totals.MarkTotals.{MarkTotals}
use Rattle.state.specs.State.{place_of}
use Rattle.access.specs.Laid.{WasRead}
use Rattle.state.specs.declared.answer.Tally.{Tally}
use Rattle.state.specs.declared.answer.Place as declared
use Rattle.state.specs.declared.answer.Halt.{Halt}
use Rattle.state.specs.declared.answer.Answer.{Answer}
use Rattle.block.specs.Standing.{functions_in, state_in}
use Rattle.block.specs.Blocks.{context_in, Entered, Settled, untouched, checked, BlockEnded, BlockEnds}
use Rattle.block.specs.AddTotal.{TotalAsked, TotalEnded, TotalEnding, TotalEnds}
use Rattle.block.specs.Visiting.{block_in}
use Rattle.block.specs.Functions.{FunctionEntered, FunctionEnds}
use Rattle.block.proofs.Bounds.{settled_pieces, settled_sum}
use Rattle.block.proofs.Tops.{up, up_empty, up_state}
use Rattle.block.proofs.Steps.{beside_then, beside_context}
use Rattle.block.proofs.Asking.{total_asked}
use Rattle.block.proofs.Answered.{block_went, block_halt, block_anywhere, blocks-there, block_low}

-- the definition, step by step
module _ (m : Module) (f : FunctionHandle) (here : Place) (held : ℕ) (globals retval : PartReq) (st : State) where
  abbrev Base : RequiredContext
  Base = record { globals = globals; locals = none; args = none; retval = retval }

  abbrev Body : Out Bool
  Body = add_block m (add_function m) f (body_of m f) held Base false (entered m f Base st)

  abbrev Step : Out Bool
  Step = step_function m (add_function m) f here held globals retval st

  body_stops : {k : ℕ} {at : Place} → halt k at ≡ Body → Step ≡ halt k at
  unfolding step_function
  body_stops e = rw (← e)

  module _ {ended : State} {r : Bool} (e : went ended r ≡ Body) where
    total_stops : {k : ℕ} {at : Place} → halt k at ≡ add_total m f here (get_or ended.functions f nothing) ended → Step ≡ halt k at
    unfolding step_function
    total_stops g = rw (← e) (rw (← g))

    total_goes : {left : State} → went left tt ≡ add_total m f here (get_or ended.functions f nothing) ended → Step ≡ went left r
    unfolding step_function
    total_goes g = rw (← e) (rw (← g))

-- the context that a walk without an answer leaves, or d
abbrev left_context : RequiredContext → Out (Unit {0}) → RequiredContext
left_context d (went st a) = st.context
left_context d (halt n at) = d

-- the totals leave the current context as it is
module _ (f : FunctionHandle) (here : Place) (st : State) where
  kept_context : (b : Bool) (req : State → FunctionReq)
      → left_context st.context (cond b (halt 15 here) (went st tt) >> λ left. went (keep f (req left) left) tt) ≡ st.context
  kept_context true req = refl
  kept_context false req = refl

  join_context : (total : FunctionReq) (ray : Option ℕ) → left_context st.context (join_total f here total ray st) ≡ st.context
  unfolding join_total limited_context
  join_context total (some s) = refl
  join_context total nothing = kept_context (over_context (merge_context total.context st.context)) _

  total_context : (m : Module) (o : Option FunctionReq) {left : State} → went left tt ≡ add_total m f here o st → left.context ≡ st.context
  unfolding add_total
  total_context m nothing e = ap (left_context st.context) e
  total_context m (some total) e = ap (left_context st.context) e ∙ join_context total (first_ray m f (body_of m f))

-- what the body needs of the arguments was counted by 16, or is nothing
args-within : (c : RequiredContext) → entries c.args ≤ pieces c
unfolding pieces
args-within c = omega arith

none-entries : entries none ≡ 0
unfolding entries
none-entries = refl

args-settled : {held before sum : ℕ} {base context : RequiredContext} → Settled held base before context sum → base.args ≡ none → entries context.args ≤ max_pieces
args-settled (untouched e g) a = rw (e, a) (omega (arith, none-entries))
args-settled {context = context} (checked h) a = omega (arith, args-within context)

-- the body is the last block
module _ {bytes t : List ℕ} (w : WasRead bytes t) {f : FunctionHandle} (l : f < length (module_of bytes t).functions) where
  pub body_is : {b : BlockHandle} → b ≡ pred (length (function_of bytes t f).blocks) → b ≡ body_of (module_of bytes t) f
  unfolding body_of
  body_is i = i ∙ ap (λ (x : Function). pred (length x.blocks)) (sym (at_function bytes t w f l))

  body_row : body_of (module_of bytes t) f < (row_at t f).blocks
  body_row = omega (arith, body_there (module_of bytes t) (module_valid bytes (module_of bytes t) w.module_is) f l, blocks-there w f l)

  pub body_low : body_of (module_of bytes t) f < max_items
  body_low = block_low w f (body_of (module_of bytes t) f) l body_row

module _ {bytes t types : List ℕ} {places : MarkPlaces} {s rs open_marks : List ℕ} {totals : MarkTotals} {f : FunctionHandle} {base held sum visits : ℕ}
    (F : FunctionEntered bytes t types places s rs open_marks totals f base held sum visits) where
  abbrev m : Module
  m = module_of bytes t

  abbrev start : State
  start = state_in bytes t s rs open_marks totals f base visits

  abbrev context : RequiredContext
  context = context_at (read s rs) base

  abbrev asked : RequiredContext
  asked = record { globals = get_or (read s rs) base none; locals = none; args = none; retval = get_or (read s rs) (base + 3) none }

  context_is : context ≡ asked
  context_is = rw (F.no_locals, F.no_args)

  entered-is : walk.with_context asked start ≡ entered m f asked start
  unfolding entered
  entered-is = rw (F.no_records, F.no_marks)

  module _ {b : BlockHandle} (i : b ≡ pred (length (function_of bytes t f).blocks)) where
    number : b ≡ body_of m f
    number = body_is F.standing.ready.was_read F.standing.ready.function i

    pub body_below : b < max_items
    body_below = omega (arith, number, body_low F.standing.ready.was_read F.standing.ready.function)

    pub body_enters : Entered bytes t types places s rs open_marks totals f b base (base + 4) held (held + context_in s rs base) sum visits
    body_enters = rw number
        (record {
          standing = up F.standing (omega (arith, F.deep));
          empty = up_empty F.standing;
          block = body_row F.standing.ready.was_read F.standing.ready.function;
          base_low = F.standing.ready.low;
          base_below = le_refl (base + 4);
          base_fine = F.standing.proper.context;
          base_few = F.base_few;
          few = omega (arith, F.few, F.base_few, F.sum_few);
          deep = F.deep;
          roomy = F.roomy;
        })

    abbrev Walks : Out Bool
    Walks = block_in bytes t f b held context false (state_in bytes t s rs open_marks totals f (base + 4) visits)

    module _ (here : declared.Place) where
      abbrev whole : Out Bool
      whole = add_function m f (place_of here) held (get_or (read s rs) base none) (get_or (read s rs) (base + 3) none) start

      step_is : whole ≡ step_function m (add_function m) f (place_of here) held (get_or (read s rs) base none) (get_or (read s rs) (base + 3) none) start
      step_is = function_is bytes m F.standing.ready.was_read.module_is f (place_of here) held (get_or (read s rs) base none) (get_or (read s rs) (base + 3) none) start

      walks_is : Walks ≡ add_block m (add_function m) f (body_of m f) held asked false (entered m f asked start)
      walks_is =
          let w = F.standing.ready.was_read in
          let body = body_of m f in
          rw number
          (ap (block_in bytes t f body held context false) (up_state F.standing)
          ∙ block_anywhere w f body held context empty_context false start
          ∙ sym (block_anywhere w f body held context asked false start)
          ∙ ap (λ (c : RequiredContext). block_in bytes t f body held c false (walk.with_context asked start)) context_is
          ∙ ap (block_in bytes t f body held asked false) entered-is)

      module _ {r : Result Answer Halt} {u us open-1 : List ℕ} {totals-1 : MarkTotals}
          (E : BlockEnds bytes t types places s rs open_marks totals f base (base + 4) held (held + context_in s rs base) sum Walks r u us open-1 totals-1) where
        pub function_halt : {stop : Halt} → r ≡ Err stop
            → FunctionEnds bytes t types places s rs open_marks totals f base held whole (Err stop) u us open-1 totals-1
        function_halt e = record {
          by = sym (step_is ∙ body_stops m f (place_of here) held (get_or (read s rs) base none) (get_or (read s rs) (base + 3) none) start (block_halt E e ∙ walks_is));
        }

        module _ {tally : Tally} {required : Bool} (e : r ≡ Ok (record { tally = tally; required = required })) where
          ended : BlockEnded bytes t types places s rs open_marks totals f base (base + 4) held (held + context_in s rs base) sum Walks tally.visits tally.sum required u us open-1 totals-1
          ended = block_went E e

          left_few : context_in u us (base + 4) ≤ 2 * max_pieces
          left_few = settled_pieces (2 * max_pieces) ended.settled F.base_few (omega arith)

          left_sum : tally.sum ≤ max_pieces
          left_sum = omega (arith, settled_sum 0 max_pieces ended.settled (omega arith) (omega (arith, F.sum_few)) (le_refl max_pieces))

          pub body_asked : TotalAsked bytes t places.starts u us open-1 f (base + 4) tally.sum
          body_asked = total_asked ended.standing left_few (omega (arith, left_sum)) ended.roomy

          module _ {q : Result Tally Halt} {v vs : List ℕ} {after : MarkTotals} (T : TotalEnds bytes t places u us open-1 totals-1 f (base + 4) tally.sum tally.visits here q v vs after) where
            abbrev Totalled : Out (Unit {0})
            Totalled =
                add_total m f (place_of here) (get_or (functions_in m t (read u us) totals-1) f nothing) (state_in bytes t u us open-1 totals-1 f (base + 4) tally.visits)

            told : TotalEnding bytes t types places u us open-1 f (base + 4) (held + context_in s rs base) tally.sum Totalled q v vs after
            told = T.by types (held + context_in s rs base) ended.standing

            pub function_halt_2 : {stop : Halt} → q ≡ Err stop
                → FunctionEnds bytes t types places s rs open_marks totals f base held whole (Err stop) v vs open-1 after
            function_halt_2 g = record {
              by = sym (step_is
                  ∙ total_stops m f (place_of here) held (get_or (read s rs) base none) (get_or (read s rs) (base + 3) none) start (ended.is ∙ walks_is)
                  (subst (λ (x : Result Tally Halt). TotalEnding bytes t types places u us open-1 f (base + 4) (held + context_in s rs base) tally.sum Totalled x v vs after) g told));
            }

            module _ {left : Tally} (g : q ≡ Ok left) where
              totalled : TotalEnded bytes t types places u us open-1 f (base + 4) (held + context_in s rs base) tally.sum Totalled left.visits left.sum v vs after
              totalled = subst (λ (x : Result Tally Halt). TotalEnding bytes t types places u us open-1 f (base + 4) (held + context_in s rs base) tally.sum Totalled x v vs after) g told

              own_same : context_at (read v vs) (base + 4) ≡ context_at (read u us) (base + 4)
              own_same =
                  total_context f (place_of here) (state_in bytes t u us open-1 totals-1 f (base + 4) tally.visits) m (get_or (functions_in m t (read u us) totals-1) f nothing) totalled.is

              base_same : context_at (read v vs) base ≡ context
              base_same =
                  beside_context totalled.beside base F.standing.ready.low (le_refl (base + 4)) ∙ beside_context ended.beside base F.standing.ready.low (le_refl (base + 4))

              sum_few : left.sum ≤ 4 * max_pieces
              sum_few = omega (arith, totalled.few, left_sum, left_few, ended.standing.ready.sums)

              pub function_ends : FunctionEnds bytes t types places s rs open_marks totals f base held whole (Ok (record { tally = left; required = required })) v vs open-1 after
              function_ends = record {
                by = record {
                  is = sym (step_is
                      ∙ total_goes m f (place_of here) held (get_or (read s rs) base none) (get_or (read s rs) (base + 3) none) start (ended.is ∙ walks_is) totalled.is);
                  standing = rw base_same
                      (totalled.standing (module_sound bytes m F.standing.ready.was_read.module_is) (omega (arith, sum_few, left_few, F.few, F.base_few)));
                  args_few = rw (ap (λ (c : RequiredContext). c.args) own_same) (args-settled ended.settled F.no_args);
                  few = rw own_same left_few;
                  sum_few = sum_few;
                  beside = beside_then (base + 4) ended.beside totalled.beside (le_refl (base + 4));
                };
              }
