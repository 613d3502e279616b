-- The visit of a statement: 17 and 16 as it begins, what its arm finds then, and the end. A collection changes no state.
use mathlib.Core.Path.{◌≡◌, refl, sym, ap, ◌∙◌}
use mathlib.Core.Bool.{Bool, true, false}
use mathlib.Core.List.{List}
use Prim.Native.Nat.{ℕ, suc, ◌+◌, ◌<◌, ◌≤◌}
use native.Mathlib.Numerals.{add-one}
use native.Mathlib.Omega.{arith}
use lib.ListN.{length}
use Rattle.std.specs.Prelude.{Result, Ok, Err}
use Rattle.field.specs.Limits.{max_visits}
use Rattle.field.specs.declared.refusal.Refusal.TheVariants.{PiecesLimit, VisitsLimit}
use Rattle.module.specs.Module.{Module, Function, FunctionHandle, BlockHandle}
use Rattle.module.specs.Decode.{statement_of}
use Rattle.module.specs.Tables.{row_at, module_of}
use Rattle.access.specs.Access.{operand_at, statement_row}
use Rattle.access.specs.declared.kinded.Kinded.{Kinded}
use Rattle.access.proofs.Access.{statements-are, blocks-are}
use Rattle.walk.specs.State.{State, Out, at_statement, went, halt, visited, counted, ◌>>=◌, ◌>>◌}
use Rattle.walk.specs.Marks.{statement_at, block_at}
use Rattle.walk.specs.Statement.{add_statement, visit_statement}
use Rattle.walk.specs.Function.{add_function}
use Rattle.walk.proofs.Bind.{counted-over, counted-under, visit-begins}
use Rattle.walk.proofs.Bind as bind
use Rattle.sound.proofs.There.{function_valid}
use Rattle.sound.proofs.Walks.{module_valid}
use Rattle.memory.specs.Memory.{Tidied}
use Rattle.marks.specs.declared.places.MarkPlaces.{MarkPlaces}
use Rattle.marks.specs.declared.totals.MarkTotals.{MarkTotals}
use Rattle.marks.specs.Ray.{StatementIn}
use Rattle.marks.proofs.Placed.{at_function}
use Rattle.state.specs.Frame.{frame_of}
use Rattle.state.specs.declared.answer.Place.TheVariants as place
use Rattle.state.specs.declared.frame.Frame.{Frame}
use Rattle.state.specs.declared.answer.Halt.{Halt}
use Rattle.state.specs.declared.answer.Answer.{Answer}
use Rattle.expression.specs.Visits.{Counting, Allowed}
use Rattle.expression.proofs.Visits.{is_allowed, not_allowed}
use Rattle.expression.proofs.Walking.{visit_counting as ready-counting}
use Rattle.statement.proofs.Uses.{row-statement}
use Rattle.block.specs.Standing.{state_in, Standing}
use Rattle.block.specs.Blocks.{Beside, StatementEnds}
use Rattle.block.specs.Visiting.{block_in, marked, Visits, Arms, VisitEnds}
use Rattle.block.proofs.Steps.{beside_same, beside_then}
use Rattle.arms.specs.Visit.{LastAsked, last, LastEnds}
use Rattle.arms.proofs.Ending.{standing_count}
use Rattle.arms.proofs.Tidies.{tidied_standing}

-- a statement in a block is one of the function's
pub statement_there : {bytes t : List ℕ} {f : FunctionHandle} {b : BlockHandle} {n : ℕ} → StatementIn bytes t f b n → n < (row_at t f).statements
unfolding block_at
statement_there {bytes} {t} {f} {b} {n} p =
    let statements = ap (λ (x : Function). length x.statements) (at_function bytes t p.of_block.was f p.of_block.function) in
    let blocks = ap (λ (x : Function). length x.blocks) (at_function bytes t p.of_block.was f p.of_block.function) in
    let range =
    (function_valid (module_of bytes t) (module_valid bytes (module_of bytes t) p.of_block.was.module_is) f p.of_block.function).ranges b (record { first = 0; count = 0 })
    (omega (arith, p.of_block.block, blocks)) in
    omega (arith, p.high, range, statements, statements-are t f (row_at t f) refl bytes)

-- one visit more
later : {bytes t types : List ℕ} {places : MarkPlaces} {s rs open_marks : List ℕ} {totals : MarkTotals} {f at held sum visits : ℕ} → Standing bytes t types places s rs open_marks totals f at held sum visits → visits < max_visits
    → Standing bytes t types places s rs open_marks totals f at held sum (visits + 1)
later S l = record {
  ready = S.ready;
  typed = S.typed;
  placed = S.placed;
  open_long = S.open_long;
  totals-sum = S.totals-sum;
  unwalked = S.unwalked;
  proper = record {
    context = S.proper.context;
    exprs = S.proper.exprs;
    marks = S.proper.marks;
    globals = S.proper.globals;
    functions = S.proper.functions;
    visits = record { more = omega arith; few = omega arith };
  };
  closed = S.closed;
  above = S.above;
}

-- 16 can be asked of what an arm has left
pub last_asks : {bytes t types : List ℕ} {places : MarkPlaces} {s rs open_marks : List ℕ} {totals : MarkTotals} {fr : Frame} {total : Out Bool} (r : Result Answer Halt) {u us open_after : List ℕ} {totals-after : MarkTotals}
    → StatementEnds bytes t types places s rs open_marks totals fr total (λ b. b) r u us open_after totals-after → LastAsked u us fr r
last_asks (Ok a) E = record { by = ready-counting E.by.standing.ready }
last_asks (Err stop) E = record { by = tt }

-- the same visit, from a memory that means the same
moved : {bytes t types : List ℕ} {places : MarkPlaces} {s rs v vs open_marks : List ℕ} {totals : MarkTotals} {fr : Frame} {total other : Out Bool} (r : Result Answer Halt) {u us open_after : List ℕ} {totals-after : MarkTotals}
    → Beside bytes t fr.function.0 fr.at v vs open_marks s rs open_marks → total ≡ other → VisitEnds bytes t types places s rs open_marks totals fr total r u us open_after totals-after
    → VisitEnds bytes t types places v vs open_marks totals fr other r u us open_after totals-after
moved {fr = fr} (Ok a) B e E =
    record {
      by = record {
        is = E.by.is ∙ e;
        standing = E.by.standing;
        few = E.by.few;
        roomy = E.by.roomy;
        beside = beside_then fr.at B E.by.beside (omega arith);
      };
    }
moved (Err stop) B e E = record { by = E.by ∙ e }

module _ {bytes t types : List ℕ} {places : MarkPlaces} {s rs open_marks : List ℕ} {totals : MarkTotals} {fr : Frame} {b : BlockHandle} {sum visits : ℕ} (Q : Visits bytes t types places s rs open_marks totals fr b sum visits) where
  abbrev m : Module
  m = module_of bytes t

  abbrev f : ℕ
  f = fr.function.0

  abbrev st : State
  st = state_in bytes t s rs open_marks totals f fr.at visits

  abbrev arm : State → Out Bool
  arm begun = marked m (frame_of s rs fr) (add_statement m (add_function m) (block_in bytes t f) (frame_of s rs fr) (statement_at m f fr.statement) begun)

  abbrev total : Out Bool
  total = visit_statement m (add_function m) (block_in bytes t f) (frame_of s rs fr) st

  abbrev Ends : Result Answer Halt → (u us open_after : List ℕ) (totals-after : MarkTotals) → Type 0
  Ends r u us open_after totals-after = VisitEnds bytes t types places s rs open_marks totals fr total r u us open_after totals-after

  pub visit_counting : Counting s rs fr.at fr.held sum
  visit_counting = ready-counting Q.standing.ready

  pub visit_17 : max_visits ≤ visits → Ends (Err (record { refusal = VisitsLimit; place = place.Statement fr.function fr.statement })) s rs open_marks totals
  unfolding visit_statement
  visit_17 l = record { by = sym (bind.visit-late fr.held (at_statement f fr.statement) arm st l) }

  module _ (l : visits < max_visits) {h : Bool} {u us : List ℕ} (A : Allowed s rs fr.at fr.held sum h u us) where
    begins : total ≡ (counted fr.held (at_statement f fr.statement) (visited st) >> arm >>= λ ended a. counted fr.held (at_statement f fr.statement) ended >> λ left. went left a)
    unfolding visit_statement
    begins = visit-begins fr.held (at_statement f fr.statement) arm st l

    pub visit_16 : h ≡ false → Ends (Err (record { refusal = PiecesLimit; place = place.Statement fr.function fr.statement })) u us open_marks totals
    visit_16 e =
        let over = counted-over fr.held (at_statement f fr.statement) (visited st) (omega (arith, standing_count Q.standing (suc visits), not_allowed A e)) in
        let z : halt 16 (at_statement f fr.statement) ≡ (counted fr.held (at_statement f fr.statement) (visited st) >> arm >>= λ ended a. counted fr.held (at_statement f fr.statement) ended >> λ left. went left a) =
        rw over in
        record { by = z ∙ sym begins }

    module _ (e : h ≡ true) where
      tidied : Tidied s rs u us
      tidied = (is_allowed A e).1

      pub visit_arms : (row : Kinded) → row ≡ statement_row bytes t f fr.statement → Arms bytes t types places u us open_marks totals fr b row sum (visits + 1)
      visit_arms row is =
          let S = later (tidied_standing Q.standing tidied) l in
          let few = (is_allowed A e).0 in
          record {
            begins = record {
              standing = S;
              begun = record {
                ready = S.ready;
                statement = statement_there Q.within;
                few = rw tidied.same few;
                roomy = tidied.roomy;
                base_low = Q.base_low;
                base_below = Q.base_below;
                base_few = rw tidied.same (omega (arith, few, Q.base_held));
                fine = S.proper.context;
                base_fine = rw tidied.same Q.base_fine;
                exprs = S.proper.exprs;
              };
              block = omega (arith, Q.within.of_block.block, blocks-are t f (row_at t f) refl bytes);
              deep = omega (arith, Q.deep, tidied.long);
            };
            within = Q.within;
            is = is;
          }

      pub visit_ends : {row : Kinded} (r q : Result Answer Halt) {v vs w ws open_after : List ℕ} {totals-after : MarkTotals} → row ≡ statement_row bytes t f fr.statement
          → StatementEnds bytes t types places u us open_marks totals fr
          (marked m (frame_of u us fr) (add_statement m (add_function m) (block_in bytes t f) (frame_of u us fr) (statement_of row.kind (operand_at bytes row)) (state_in bytes t u us open_marks totals f fr.at (visits + 1))))
          (λ b. b) r v vs open_after totals-after
          → LastEnds v vs fr r q w ws → Ends q w ws open_after totals-after
      visit_ends {row} r q {v} {vs} {w} {ws} {open_after} {totals-after} is E L =
          let under = counted-under fr.held (at_statement f fr.statement) (visited st) (omega (arith, standing_count Q.standing (suc visits), (is_allowed A e).0)) in
          let whole : total ≡ last fr (arm (visited st)) =
          begins ∙ ap (λ (x : Out (Unit {0})). x >> arm >>= λ ended a. counted fr.held (at_statement f fr.statement) ended >> λ left. went left a) under in
          let same : last fr (marked m (frame_of u us fr) (add_statement m (add_function m) (block_in bytes t f) (frame_of u us fr) (statement_of row.kind (operand_at bytes row)) (state_in bytes t u us open_marks totals f fr.at (visits + 1)))) ≡ last fr (arm (visited st)) =
          rw (tidied.same, row-statement Q.standing.ready.was_read Q.standing.ready.function (statement_there Q.within) row is, add-one visits) in
          moved q (beside_same tidied.long tidied.same) (same ∙ sym whole) (L.by bytes t types places u us open_marks totals open_after totals-after _ E)
