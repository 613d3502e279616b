-- A statement's marks written into the buffer: the state has them and stands as before, and no mark of a function above has changed.
use mathlib.Core.Path.{◌≡◌, refl, sym, ap, subst, ◌∙◌}
use mathlib.Core.Bool.{Bool, true, false}
use mathlib.Core.List.{List, [], ◌∷◌}
use Prim.Native.Nat.{ℕ, suc, ◌+◌, ◌<◌, ◌≤◌}
use native.Mathlib.Omega.{arith}
use lib.ListN.{length, get_or}
use Rattle.std.specs.Prelude.{Result, Ok, Err}
use Rattle.module.specs.Module.{Module, Statement, Emit, Block, If, Switch, Loop, Break, Continue, Return, Kill, ControlBarrier, MemoryBarrier, ImageAtomic, Store, AtomicStatement, Call, ImageStore, RayQuery, WorkGroupUniformLoad, SubgroupBallot, SubgroupGather, SubgroupCollectiveOperation}
use Rattle.module.specs.Marks.{mark_count, marks_before}
use Rattle.module.specs.Decode.{statement_of}
use Rattle.module.specs.Tables.{row_at, function_of, module_of}
use Rattle.access.specs.Access.{operand_at, statement_number}
use Rattle.access.specs.declared.kinded.Kinded.{Kinded}
use Rattle.walk.specs.State.{Out, went, with_marks}
use Rattle.walk.specs.Resolve.{function_at}
use Rattle.walk.specs.Marks.{write_marks, statement_at}
use Rattle.walk.specs.StatementReq.{StatementReq, own_marks, required, mark}
use Rattle.walk.specs.Proper.{Sound, ProperState}
use Rattle.walk.proofs.Proper.{proper, good, state}
use Rattle.walk.proofs.Statements.{good_marked}
use Rattle.sound.proofs.Walks.{module_sound}
use Rattle.marks.specs.declared.places.MarkPlaces.{MarkPlaces}
use Rattle.marks.specs.declared.totals.MarkTotals.{MarkTotals}
use Rattle.marks.specs.Places.{places_of, start_of}
use Rattle.marks.proofs.Write.{write_long, write_none, write_after}
use Rattle.marks.proofs.Fit.{start_suc}
use Rattle.marks.proofs.Placed.{at_function}
use Rattle.marks.proofs.Buffers.{statement_inside, own_fits, own_written}
use Rattle.state.specs.Frame.{frame_of}
use Rattle.state.specs.declared.answer.Tally.{Tally}
use Rattle.state.specs.declared.frame.Frame.{Frame}
use Rattle.state.specs.declared.answer.Halt.{Halt}
use Rattle.state.specs.declared.answer.Answer.{Answer}
use Rattle.statement.specs.Leaf.{leaf_req}
use Rattle.statement.proofs.Uses.{in_function, row-statement}
use Rattle.block.specs.Standing.{state_in, Standing}
use Rattle.block.specs.Blocks.{Beside, StatementEnded, StatementEnding}
use Rattle.block.specs.Visiting.{marked}
use Rattle.block.proofs.Steps.{beside_then}
use Rattle.arms.specs.Visit.{mark_when, MarkingWhen, MarkAsked, MarkEnds}

module _ {bytes t types : List ℕ} {places : MarkPlaces} {s rs open_marks : List ℕ} {totals : MarkTotals} {f at held sum visits : ℕ} (S : Standing bytes t types places s rs open_marks totals f at held sum visits)
    {n : ℕ} (there : n < (row_at t f).statements) (req : StatementReq) (own : length (own_marks req) ≡ mark_count (statement_at (module_of bytes t) f n))
    (place : ℕ) (is : place ≡ get_or places.firsts (statement_number t f n) 0) where
  abbrev m : Module
  m = module_of bytes t

  abbrev from : ℕ
  from = marks_before (function_at m f).statements n

  inside : n < length (function_of bytes t f).statements
  inside = in_function S.ready.was_read S.ready.function there

  abbrev after : List ℕ
  after = write_marks open_marks place (own_marks req)

  pub written_state : state_in bytes t s rs after totals f at visits
      ≡ with_marks (write_marks (state_in bytes t s rs open_marks totals f at visits).marks from (own_marks req)) (state_in bytes t s rs open_marks totals f at visits)
  written_state = rw (own_written bytes t places S.ready.was_read S.placed open_marks (own_marks req) f n place S.ready.function inside is own)

  sound : Sound m
  sound = module_sound bytes m S.ready.was_read.module_is

  written_proper : ProperState m 0 f (state_in bytes t s rs after totals f at visits)
  written_proper =
      rw written_state
      (state m sound 0 f _ (good_marked (proper m sound 0) f from req (state_in bytes t s rs open_marks totals f at visits) (good m sound 0 f (state_in bytes t s rs open_marks totals f at visits) S.proper)))

  pub written_standing : Standing bytes t types places s rs after totals f at held sum visits
  written_standing = record {
    ready = S.ready;
    typed = S.typed;
    placed = S.placed;
    open_long = omega (arith, S.open_long, write_long open_marks place (own_marks req));
    totals-sum = S.totals-sum;
    unwalked = S.unwalked;
    proper = written_proper;
    closed = S.closed;
    above = S.above;
  }

  ends_within : place + length (own_marks req) ≤ start_of m (suc f)
  ends_within =
      let e = ap (λ x. length x.statements) (at_function bytes t S.ready.was_read f S.ready.function) in
      let z : suc f ≡ f + 1 = omega arith in
      rw z (omega (arith, is ∙ S.placed.statements f n S.ready.function inside, own, start_suc m f, statement_inside m f n (omega (arith, inside, e))))

  pub written_beside : Beside bytes t f at s rs open_marks s rs after
  written_beside = record {
    long = refl;
    stack = λ k a b. refl;
    records = λ k a b l. refl;
    marks_long = write_long open_marks place (own_marks req);
    marks = λ k l. write_after open_marks place (own_marks req) k (omega (arith, ends_within));
  }

-- an arm that went, with its marks
module _ {bytes t types : List ℕ} {places : MarkPlaces} {s rs before : List ℕ} {totals : MarkTotals} {fr : Frame} {total : Out StatementReq} {answer : Bool → StatementReq} {v sum : ℕ} {b : Bool} {u us open_marks : List ℕ} {totals-after : MarkTotals}
    (E : StatementEnded bytes t types places s rs before totals fr total answer v sum b u us open_marks totals-after) where
  abbrev Ended : (q : Bool) → (open_after : List ℕ) → Type 0
  Ended q open_after =
      StatementEnded bytes t types places s rs before totals fr (marked (module_of bytes t) (frame_of s rs fr) total) (λ b. b) v sum q u us open_after totals-after

  pub unmarked_ended : {q : Bool} → own_marks (answer b) ≡ [] → q ≡ required (answer b) → Ended q open_marks
  unmarked_ended {q} none e = record {
    is =
        let z : went (state_in bytes t u us open_marks totals-after fr.function.0 fr.at v) q ≡ marked (module_of bytes t) (frame_of s rs fr) (went (state_in bytes t u us open_marks totals-after fr.function.0 fr.at v) (answer b)) =
        rw (none, e, ← write_none (state_in bytes t u us open_marks totals-after fr.function.0 fr.at v).marks (marks_before (function_at (module_of bytes t) fr.function.0).statements fr.statement)) in
        z ∙ ap (marked (module_of bytes t) (frame_of s rs fr)) E.is;
    standing = E.standing;
    beside = E.beside;
  }

  pub marked_ended : {q : Bool} {open_after : List ℕ} {place : ℕ} → fr.statement < (row_at t fr.function.0).statements
      → length (own_marks (answer b)) ≡ mark_count (statement_at (module_of bytes t) fr.function.0 fr.statement) → place ≡ get_or places.firsts (statement_number t fr.function.0 fr.statement) 0
      → open_after ≡ write_marks open_marks place (own_marks (answer b)) → q ≡ required (answer b) → Ended q open_after
  marked_ended {q} {open_after} {place} there own is w e = record {
    is =
        let z : went (state_in bytes t u us open_after totals-after fr.function.0 fr.at v) q ≡ marked (module_of bytes t) (frame_of s rs fr) (went (state_in bytes t u us open_marks totals-after fr.function.0 fr.at v) (answer b)) =
        rw (w, e, written_state E.standing there (answer b) own place is) in
        z ∙ ap (marked (module_of bytes t) (frame_of s rs fr)) E.is;
    standing = rw w (written_standing E.standing there (answer b) own place is);
    beside = rw w (beside_then fr.at E.beside (written_beside E.standing there (answer b) own place is) (omega arith));
  }

-- a leaf or a holder that has an own mark has one
own_counts : (x : Statement) (b : Bool) → length (own_marks (leaf_req x b)) ≡ 1 → mark_count x ≡ 1
unfolding own_marks leaf_req mark_count
own_counts (Emit first last) b h = absurd (omega arith)
own_counts (Block a) b h = absurd (omega arith)
own_counts (If condition accept reject) b h = refl
own_counts (Switch selector cases) b h = refl
own_counts (Loop body continuing break_if) b h = refl
own_counts Break b h = refl
own_counts Continue b h = refl
own_counts (Return value) b h = refl
own_counts Kill b h = absurd (omega arith)
own_counts ControlBarrier b h = absurd (omega arith)
own_counts MemoryBarrier b h = absurd (omega arith)
own_counts ImageAtomic b h = refl
own_counts (Store pointer value) b h = refl
own_counts (AtomicStatement pointer value result) b h = refl
own_counts (Call function arguments result) b h = absurd (omega arith)
own_counts (ImageStore image coordinate array_index value) b h = refl
own_counts (RayQuery query) b h = refl
own_counts (WorkGroupUniformLoad pointer result) b h = refl
own_counts (SubgroupBallot result predicate) b h = refl
own_counts (SubgroupGather mode argument result) b h = refl
own_counts (SubgroupCollectiveOperation argument result) b h = refl

module _ (kind : ℕ) (b : Bool) {has : Bool} (own : (b : Bool) (o : ℕ → ℕ) → own_marks (leaf_req (statement_of kind o) b) ≡ mark_when has b) (h : has ≡ true) (o : ℕ → ℕ) where
  own_one : own_marks (leaf_req (statement_of kind o) b) ≡ mark b ∷ []
  own_one = rw h at (own b o)

  long_one : length (own_marks (leaf_req (statement_of kind o) b)) ≡ 1
  long_one = rw own_one

  counts_one : length (own_marks (leaf_req (statement_of kind o) b)) ≡ mark_count (statement_of kind o)
  counts_one = long_one ∙ sym (own_counts (statement_of kind o) b long_one)

-- `mark_statement`: what it answers
module _ {t firsts open_marks : List ℕ} {fr : Frame} {row : Kinded} (r : Result Answer Halt) where
  pub mark_halts : {stop : Halt} → r ≡ Err stop → MarkEnds t firsts open_marks fr row r (Err stop) open_marks
  mark_halts e = record {
    by = λ bytes types starts s rs before totals u us totals-after total there is E.
        record {
          by =
              ap (marked (module_of bytes t) (frame_of s rs fr))
              (subst (λ (x : Result Answer Halt). StatementEnding bytes t types (places_of starts firsts) s rs before totals fr total (leaf_req (statement_of row.kind (operand_at bytes row))) x u us open_marks totals-after) e E.by);
        };
  }

  module _ {tally : Tally} {b : Bool} (e : r ≡ Ok (record { tally = tally; required = b })) {has : Bool} (own : (b : Bool) (o : ℕ → ℕ) → own_marks (leaf_req (statement_of row.kind o) b) ≡ mark_when has b) where
    module _ (h : has ≡ true) where
      pub mark_fits : {place : ℕ} → MarkAsked t firsts open_marks fr row r → place ≡ get_or firsts (statement_number t fr.function.0 fr.statement) 0 → place < length open_marks
      mark_fits {place} A is =
          let M = subst (MarkingWhen t firsts open_marks fr row) e A.by in
          let fits =
          own_fits M.bytes t (places_of M.starts firsts) M.was_read M.placed open_marks (own_marks (leaf_req (statement_of row.kind (operand_at M.bytes row)) b)) fr.function.0 fr.statement place M.function
          (in_function M.was_read M.function M.statement) is (counts_one row.kind b own h (operand_at M.bytes row) ∙ ap mark_count (sym (row-statement M.was_read M.function M.statement row M.is))) in
          omega (arith, fits, long_one row.kind b own h (operand_at M.bytes row), M.long)

      pub mark_one : {place : ℕ} {open_after : List ℕ} {q : Bool} → place ≡ get_or firsts (statement_number t fr.function.0 fr.statement) 0 → open_after ≡ write_marks open_marks place (mark b ∷ [])
          → ((o : ℕ → ℕ) → q ≡ required (leaf_req (statement_of row.kind o) b)) → MarkEnds t firsts open_marks fr row r (Ok (record { tally = tally; required = q })) open_after
      mark_one {place} {open_after} {q} at w answer = record {
        by = λ bytes types starts s rs before totals u us totals-after total there is E.
            let W = subst (λ (x : Result Answer Halt). StatementEnding bytes t types (places_of starts firsts) s rs before totals fr total (leaf_req (statement_of row.kind (operand_at bytes row))) x u us open_marks totals-after) e E.by in
            record {
              by =
                  marked_ended W there (counts_one row.kind b own h (operand_at bytes row) ∙ ap mark_count (sym (row-statement W.standing.ready.was_read W.standing.ready.function there row is))) at
                  (rw (own_one row.kind b own h (operand_at bytes row)) w) (answer (operand_at bytes row));
            };
      }

    pub mark_none : {q : Bool} → has ≡ false → ((o : ℕ → ℕ) → q ≡ required (leaf_req (statement_of row.kind o) b)) → MarkEnds t firsts open_marks fr row r (Ok (record { tally = tally; required = q })) open_marks
    mark_none h answer = record {
      by = λ bytes types starts s rs before totals u us totals-after total there is E.
          let W = subst (λ (x : Result Answer Halt). StatementEnding bytes t types (places_of starts firsts) s rs before totals fr total (leaf_req (statement_of row.kind (operand_at bytes row))) x u us open_marks totals-after) e E.by in
          record { by = unmarked_ended W (rw h at (own b (operand_at bytes row))) (answer (operand_at bytes row)) };
    }
