-- What the code reads of parts and of lists is what the definition reads: one law for each way through it. A list with a variable that is not there is no list.
use Prim.Native.Nat.{ℕ, ◌<◌}
use native.Mathlib.Omega.{arith}
use mathlib.Core.Path.{◌≡◌, refl, ap, sym, subst, ◌∙◌}
use mathlib.Core.Bool.{Bool, true, false}
use mathlib.Core.List.{List}
use mathlib.Core.Option.{Option, some, none as nothing}
use Rattle.part.specs.PartReq.{PartReq, more, spine}
use Rattle.part.specs.Store.{top, part, Kept, Room, Made}
use Rattle.part.proofs.Pieces.{part-2}
use Rattle.context.specs.RequiredContext.{RequiredContext, variable, return_entry}
use Rattle.request.specs.Fields.{fields, Read, malformed, got, ◌>>=◌}
use Rattle.request.specs.Part.{read_return, read_variables}
use Rattle.request.specs.Request.{all_below}
use Rattle.request.specs.Context.{read_lists, read_context_body, known_context}
use Rattle.request.specs.Answers.{RoomFor, Spent, part_read, optional, sorted, OptionWasRead}
use Rattle.std.specs.Prelude.{Option as Maybe, Some, None}
use Rattle.std.specs.Borrow.{Bor}
use Rattle.request.proofs.Entries.{kept_on}
use Rattle.request.proofs.Bytes.{tail_then}
use Rattle.request.proofs.Judged.{listed, unlisted, not_some, is_some}
use Rattle.request.proofs.Variables.{held_piece}
use Rattle.pruner.specs.Form.{only}
use Rattle.pruner.specs.Reading.{single, mapped, RoomBeside, SpentBeside, PiecePlaced, PieceWasRead, ListsWereRead}

-- what a call answered
module _ {s t b : List ℕ} {n : ℕ} {r : Read PartReq} {a : Maybe (ℕ × Bor (List ℕ))} (was : PieceWasRead s t b n r a) where
  pub no_piece : a ≡ None → r ≡ malformed
  no_piece e = sym was.is ∙ ap (part_read t) e

  module _ {p : ℕ} {next : Bor (List ℕ)} (e : a ≡ Some (p, next)) where
    pub piece_read : r ≡ got (part t p) (fields next.now)
    piece_read = sym was.is ∙ ap (part_read t) e

    pub piece_placed : (p < top t) × SpentBeside s t b n next.now
    piece_placed = subst (PiecePlaced s t b n) e was.placed

refuse_piece : {s t b : List ℕ} {n : ℕ} {r : Read PartReq} → Kept s t → r ≡ malformed → PieceWasRead s t b n r None
refuse_piece k e = record { kept = k; is = sym e; placed = tt }

beside : {s t b c : List ℕ} (n : ℕ) → Spent s t b 0 c → SpentBeside s t b n c
beside n p = record { further = omega (arith, p.further); cost = omega (arith, p.cost); tail = p.tail }

-- {i: part}
module _ (i : ℕ) (b : List ℕ) where
  abbrev entry : Read PartReq
  entry = mapped (single i) (read_return (fields b))

  pub single_refused : {s t : List ℕ} → OptionWasRead s t b (read_return (fields b)) None → PieceWasRead s t b 1 entry None
  unfolding mapped
  single_refused was = refuse_piece was.kept (rw (← was.is))

  module _ {s t : List ℕ} {o : Maybe ℕ} {next : Bor (List ℕ)} (was : OptionWasRead s t b (read_return (fields b)) (Some (o, next))) where
    spent : SpentBeside s t b 1 next.now
    spent = beside 1 was.placed.1

    pub single_none : o ≡ None → PieceWasRead s t b 1 entry (Some (2, next))
    unfolding mapped single
    single_none z = record {
      kept = was.kept;
      is = rw (part-2 t) (sym (ap (mapped (single i)) (sym was.is ∙ ap (λ (x : Maybe ℕ). got (optional t x) (fields next.now)) z)));
      placed = (omega (arith, was.kept.good.base), spent);
    }

    module _ {p : ℕ} (z : o ≡ Some p) where
      pub single_held : p < top t
      single_held = held_piece t z was.placed.0

      pub single_room : RoomBeside s b 1 → Room t 1
      single_room r = omega (arith, was.placed.1, was.kept.long)

      pub single_made : {u : List ℕ} {n : ℕ} → Made t u (more i (part t p) (part t 2)) 1 n → PieceWasRead s u b 1 entry (Some (n, next))
      unfolding mapped single
      single_made {u} {n} made = record {
        kept = kept_on was.kept made.kept;
        is = rw (made.is, part-2 t) (sym (ap (mapped (single i)) (sym was.is ∙ ap (λ (x : Maybe ℕ). got (optional t x) (fields next.now)) z)));
        placed = (made.piece, record { further = spent.further; cost = omega (arith, was.placed.1.cost, made.cost); tail = spent.tail });
      }

-- a list of variables
only-malformed : {A : Type 0} (holds : A → Bool) (x : Read A) → x ≡ malformed → only holds x ≡ malformed
unfolding only
only-malformed holds x e = rw e

only-false : {A : Type 0} (holds : A → Bool) (a : A) (fs : List ℕ) (x : Read A) → x ≡ got a fs → holds a ≡ false → only holds x ≡ malformed
unfolding only
only-false holds a fs x e h = rw (e, h)

only-true : {A : Type 0} (holds : A → Bool) (a : A) (fs : List ℕ) (x : Read A) → x ≡ got a fs → holds a ≡ true → only holds x ≡ got a fs
unfolding only
only-true holds a fs x e h = rw (e, h)

module _ (limit : ℕ) (b : List ℕ) where
  abbrev known : PartReq → Bool
  known = all_below (variable limit)

  abbrev list : Read PartReq
  list = only known (read_variables (fields b))

  pub map_refused : {s t : List ℕ} → OptionWasRead s t b (sorted limit (read_variables (fields b))) None → PieceWasRead s t b 0 list None
  map_refused was = refuse_piece was.kept (only-malformed known (read_variables (fields b)) (unlisted limit (read_variables (fields b)) (sym was.is)))

  module _ {s t : List ℕ} {o : Maybe ℕ} {next : Bor (List ℕ)} (was : OptionWasRead s t b (sorted limit (read_variables (fields b))) (Some (o, next))) where
    pub map_unknown : o ≡ None → PieceWasRead s t b 0 list None
    map_unknown z =
        let l = listed limit (read_variables (fields b)) (sym was.is) in
        refuse_piece was.kept (only-false known l.list (fields next.now) (read_variables (fields b)) l.is (not_some _ _ (l.chosen ∙ ap (optional t) z)))

    pub map_read : {p : ℕ} → o ≡ Some p → PieceWasRead s t b 0 list (Some (p, next))
    map_read {p} z =
        let l = listed limit (read_variables (fields b)) (sym was.is) in
        let q = is_some (known l.list) l.list (part t p) (l.chosen ∙ ap (optional t) z) in
        record {
          kept = was.kept;
          is = rw (← q.1) (sym (only-true known l.list (fields next.now) (read_variables (fields b)) l.is q.0));
          placed = (held_piece t z was.placed.0, beside 0 was.placed.1);
        }

-- what was checked was read
record Checked {A : Type 0} (holds : A → Bool) (x : Read A) (a : A) (fs : List ℕ) : Type 0 where
  pub is : x ≡ got a fs
  pub holding : holds a ≡ true

checked : {A : Type 0} (holds : A → Bool) (x : Read A) (a : A) (fs : List ℕ) → only holds x ≡ got a fs → Checked holds x a fs
unfolding only
checked holds malformed a fs e = let z : ◌≡◌ {A = ℕ} 0 1 = cc in absurd (omega arith)
checked {A} holds (got c gs) a fs e = by (holds c) refl
  where
    by : (h : Bool) → holds c ≡ h → Checked holds (got c gs) a fs
    by true h =
        let same : got c gs ≡ got a fs = sym (only-true holds c gs (got c gs) refl h) ∙ e in
        let is-a : c ≡ a = cc in
        record { is = same; holding = rw (← is-a) h }
    by false h =
        let none-such : malformed ≡ got a fs = sym (only-false holds c gs (got c gs) refl h) ∙ e in
        let z : ◌≡◌ {A = ℕ} 0 1 = cc in
        absurd (omega arith)

pub record Mapped {A B : Type 0} (k : A → B) (x : Read A) (b : B) (fs : List ℕ) : Type 0 where
  pub of : A
  pub is : x ≡ got of fs
  pub made : k of ≡ b

pub mapped_from : {A B : Type 0} (k : A → B) (x : Read A) (b : B) (fs : List ℕ) → mapped k x ≡ got b fs → Mapped k x b fs
unfolding mapped
mapped_from k malformed b fs e = let z : ◌≡◌ {A = ℕ} 0 1 = cc in absurd (omega arith)
mapped_from k (got a gs) b fs e = record { of = a; is = cc; made = cc }

pub unmapped : {A B : Type 0} (k : A → B) (x : Read A) → mapped k x ≡ malformed → x ≡ malformed
unfolding mapped
unmapped k malformed e = refl
unmapped k (got a gs) e = let z : ◌≡◌ {A = ℕ} 0 1 = cc in absurd (omega arith)

-- what never holds
never_then : {A B : Type 0} (holds : B → Bool) (x : Read A) (k : A → List ℕ → Read B) → ((a : A) (fs : List ℕ) → only holds (k a fs) ≡ malformed) → only holds (x >>= k) ≡ malformed
unfolding only
never_then holds malformed k h = refl
never_then holds (got a fs) k h = h a fs

-- a list that is none such is malformed, or has a variable that is not there
by_list : {C : Type 0} (holds : C → Bool) (known : PartReq → Bool) (x : Read PartReq) (k : PartReq → List ℕ → Read C)
    → ((q : PartReq) (fs : List ℕ) → known q ≡ false → only holds (k q fs) ≡ malformed) → only known x ≡ malformed → only holds (x >>= k) ≡ malformed
unfolding only
by_list holds known malformed k h e = refl
by_list holds known (got q fs) k h e = by (known q) refl
  where
    by : (b : Bool) → known q ≡ b → only holds (k q fs) ≡ malformed
    by false f = h q fs f
    by true f =
        let there : got q fs ≡ malformed = sym (only-true known q fs (got q fs) refl f) ∙ e in
        let z : ◌≡◌ {A = ℕ} 0 1 = cc in
        absurd (omega arith)

asked_single : (o : Option PartReq) → single spine o ≡ return_entry o
unfolding single return_entry
asked_single nothing = refl
asked_single (some p) = refl

-- the lists of a context
module _ (globals args locals : ℕ) (fs : List ℕ) where
  abbrev holds : RequiredContext → Bool
  holds = known_context globals args locals

  abbrev context : Read RequiredContext
  context = only holds (read_context_body fs)

  abbrev below : ℕ → PartReq → Bool
  below n = all_below (variable n)

  no_retval : mapped (single spine) (read_return fs) ≡ malformed → context ≡ malformed
  unfolding read_context_body only
  no_retval e = rw (unmapped (single spine) (read_return fs) e)

  module _ {p : PartReq} {gs : List ℕ} (first : mapped (single spine) (read_return fs) ≡ got p gs) where
    the_retval : Mapped (single spine) (read_return fs) p gs
    the_retval = mapped_from (single spine) (read_return fs) p gs first

    after_retval : context ≡ only holds (read_lists the_retval.of gs)
    unfolding read_context_body
    after_retval = rw the_retval.is

    no_globals : only (below globals) (read_variables gs) ≡ malformed → context ≡ malformed
    unfolding read_lists known_context
    no_globals e =
        after_retval
        ∙ by_list holds (below globals) (read_variables gs) _
        (λ q hs h. never_then holds (read_variables hs) _ (λ x ks. never_then holds (read_variables ks) _ (λ l ls. only-false holds _ ls (got _ ls) refl (rw h refl))))
        e

    module _ {g : PartReq} {hs : List ℕ} (second : only (below globals) (read_variables gs) ≡ got g hs) where
      the_globals : Checked (below globals) (read_variables gs) g hs
      the_globals = checked (below globals) (read_variables gs) g hs second

      no_args : only (below args) (read_variables hs) ≡ malformed → context ≡ malformed
      unfolding read_lists known_context
      no_args e =
          after_retval
          ∙ rw the_globals.is
          (by_list holds (below args) (read_variables hs) _ (λ x ks h. never_then holds (read_variables ks) _ (λ l ls. only-false holds _ ls (got _ ls) refl (rw (the_globals.holding, h) refl))) e)

      module _ {x : PartReq} {ks : List ℕ} (third : only (below args) (read_variables hs) ≡ got x ks) where
        the_args : Checked (below args) (read_variables hs) x ks
        the_args = checked (below args) (read_variables hs) x ks third

        no_locals : only (below locals) (read_variables ks) ≡ malformed → context ≡ malformed
        unfolding read_lists known_context
        no_locals e =
            after_retval
            ∙ rw (the_globals.is, the_args.is)
            (by_list holds (below locals) (read_variables ks) _ (λ l ls h. only-false holds _ ls (got _ ls) refl (rw (the_globals.holding, the_args.holding, h) refl)) e)

        all_lists : {l : PartReq} {ls : List ℕ} → only (below locals) (read_variables ks) ≡ got l ls → context ≡ got (record { globals = g; locals = l; args = x; retval = p }) ls
        unfolding read_lists known_context
        all_lists {l} {ls} e =
            let last = checked (below locals) (read_variables ks) l ls e in
            after_retval
            ∙ rw (the_globals.is, the_args.is, last.is)
            (only-true holds _ ls (got _ ls) refl (rw (the_globals.holding, the_args.holding, last.holding) refl) ∙ rw (← asked_single the_retval.of, the_retval.made) refl)

-- the same by the answers of the code, list after list
module _ (globals args locals : ℕ) {s t b : List ℕ} {a : Maybe (ℕ × Bor (List ℕ))} (first : PieceWasRead s t b 1 (mapped (single spine) (read_return (fields b))) a) where
  abbrev wanted : Read RequiredContext
  wanted = only (known_context globals args locals) (read_context_body (fields b))

  pub lists-no_retval : a ≡ None → ListsWereRead s t b wanted None
  lists-no_retval e = record { kept = first.kept; is = sym (no_retval globals args locals (fields b) (no_piece first e)); placed = tt }

  module _ {p : ℕ} {x : Bor (List ℕ)} (e : a ≡ Some (p, x)) where
    pub globals_room : RoomBeside s b 1 → RoomFor t x.now
    globals_room r = let h = (piece_placed first e).1 in omega (arith, h, first.kept.long)

    module _ {u : List ℕ} {c : Maybe (ℕ × Bor (List ℕ))} (second : PieceWasRead t u x.now 0 (only (all_below (variable globals)) (read_variables (fields x.now))) c) where
      pub lists-no_globals : c ≡ None → ListsWereRead s u b wanted None
      lists-no_globals f = record {
        kept = kept_on first.kept second.kept;
        is = sym (no_globals globals args locals (fields b) (piece_read first e) (no_piece second f));
        placed = tt;
      }

      module _ {g : ℕ} {y : Bor (List ℕ)} (f : c ≡ Some (g, y)) where
        pub args_room : RoomBeside s b 1 → RoomFor u y.now
        args_room r =
            let h = (piece_placed first e).1 in
            let i = (piece_placed second f).1 in
            omega (arith, h, i, first.kept.long, second.kept.long)

        module _ {v : List ℕ} {d : Maybe (ℕ × Bor (List ℕ))} (third : PieceWasRead u v y.now 0 (only (all_below (variable args)) (read_variables (fields y.now))) d) where
          pub lists-no_args : d ≡ None → ListsWereRead s v b wanted None
          lists-no_args j = record {
            kept = kept_on first.kept (kept_on second.kept third.kept);
            is = sym (no_args globals args locals (fields b) (piece_read first e) (piece_read second f) (no_piece third j));
            placed = tt;
          }

          module _ {k : ℕ} {z : Bor (List ℕ)} (j : d ≡ Some (k, z)) where
            pub locals_room : RoomBeside s b 1 → RoomFor v z.now
            locals_room r =
                let h = (piece_placed first e).1 in
                let i = (piece_placed second f).1 in
                let o = (piece_placed third j).1 in
                omega (arith, h, i, o, first.kept.long, second.kept.long, third.kept.long)

            module _ {w : List ℕ} {q : Maybe (ℕ × Bor (List ℕ))} (fourth : PieceWasRead v w z.now 0 (only (all_below (variable locals)) (read_variables (fields z.now))) q) where
              pub lists-no_locals : q ≡ None → ListsWereRead s w b wanted None
              lists-no_locals i = record {
                kept = kept_on first.kept (kept_on second.kept (kept_on third.kept fourth.kept));
                is = sym (no_locals globals args locals (fields b) (piece_read first e) (piece_read second f) (piece_read third j) (no_piece fourth i));
                placed = tt;
              }

              pub lists-got : {l : ℕ} {next : Bor (List ℕ)} → q ≡ Some (l, next) → ListsWereRead s w b wanted (Some (record { globals = g; locals = l; args = k; retval = p }, next))
              lists-got {l} {next} i =
                  let one = piece_placed first e in
                  let two = piece_placed second f in
                  let three = piece_placed third j in
                  let four = piece_placed fourth i in
                  let later = kept_on third.kept fourth.kept in
                  let after = kept_on second.kept later in
                  let ret : part w p ≡ part t p = after.same p one.0 in
                  let glo : part w g ≡ part u g = later.same g two.0 in
                  let arg : part w k ≡ part v k = fourth.kept.same k three.0 in
                  record {
                    kept = kept_on first.kept after;
                    is = rw (ret, glo, arg) (sym (all_lists globals args locals (fields b) (piece_read first e) (piece_read second f) (piece_read third j) (piece_read fourth i)));
                    placed = (
                      record {
                        globals = omega (arith, two.0, later.tops);
                        locals = four.0;
                        args = omega (arith, three.0, fourth.kept.tops);
                        retval = omega (arith, one.0, after.tops);
                      },
                      record {
                        further = omega (arith, one.1.further, two.1.further, three.1.further, four.1.further);
                        cost = omega (arith, one.1.cost, two.1.cost, three.1.cost, four.1.cost);
                        tail = tail_then one.1.tail (tail_then two.1.tail (tail_then three.1.tail four.1.tail));
                      },
                    );
                  }
