-- Checking the return part, the lists of variables and the whole context: a law for each way that the code can end.
use Prim.Native.Nat.{ℕ, ◌≤◌, ◌<◌}
use native.Mathlib.Omega.{arith}
use mathlib.Core.Path.{◌≡◌, refl, ap, sym, ◌∙◌}
use mathlib.Core.Bool.{Bool, true, false, cond, ◌&&◌}
use mathlib.Core.List.{List}
use mathlib.Core.Option.{Option, some}
use lib.ListN.{length, drop}
use borrow.Author.Tests.{eq-eqb, ne_eqb}
use Rattle.field.specs.Limits.{max_depth}
use Rattle.part.specs.PartReq.{PartReq, spine}
use Rattle.context.specs.RequiredContext.{RequiredContext, variable, return_entry}
use Rattle.request.specs.Fields.{fields, Read, malformed, got, ◌>>=◌, whole, refused, accepted}
use Rattle.request.specs.Part.{read_part, read_entries, read_return, read_variables}
use Rattle.request.specs.Request.{all_below}
use Rattle.request.specs.Context.{read_lists, is_context, context_of, known_context, judge_context, finish_context}
use Rattle.request.specs.Answers.{Tail, Field}
use Rattle.request.proofs.Bytes.{no_field, some_field, tail_then}
use Rattle.request.proofs.Variables.{return_end}
use Rattle.request.proofs.ContextLists.{not_context, context_no_return, context_finish}
use Rattle.std.specs.Prelude.{Option as Maybe, Some, None, Result, Ok, Err}
use Rattle.std.specs.Borrow.{Bor}
use Rattle.field.specs.declared.refusal.Refusal.{Refusal}
use Rattle.field.specs.declared.refusal.Refusal.TheVariants.{Malformed, NoSuch}
use Rattle.context_bytes.specs.Checked.{status, status_of, past, checked, Skips, CheckPlaced, Checks, EntriesChecked, ListsChecked}
use Rattle.context_bytes.proofs.Checked.{skip_refused, skip_passed}

-- the return part
pub return_short : (b : List ℕ) → length b < 2 → Skips b (read_return (fields b)) None
unfolding past
return_short b h = record { is = sym (ap past (return_end b h)); placed = tt }

past-some : (r : Read PartReq) → past (r >>= λ p gs. got (some p) gs) ≡ past r
unfolding past
past-some malformed = refl
past-some (got p gs) = refl

pub return_none : {b : List ℕ} {i : ℕ} {c : Bor (List ℕ)} → Field b i c.now → i ≡ 3 → Skips b (read_return (fields b)) (Some c)
unfolding read_return past
return_none {i = i} f e = record { is = rw (f.is, eq-eqb i 3 e); placed = f.tail }

module _ {b c : List ℕ} {i : ℕ} (f : Field b i c) where
  pub return_is : (i ≡ 3 → ⊥) → read_return (fields b) ≡ (read_part max_depth (fields b) >>= λ p gs. got (some p) gs)
  unfolding read_return
  return_is h = rw (f.is, ne_eqb i 3 h)

  pub return_part : {a : Maybe (Bor (List ℕ))} → (i ≡ 3 → ⊥) → Skips b (read_part max_depth (fields b)) a → Skips b (read_return (fields b)) a
  return_part h was =
      record { is = was.is ∙ sym (past-some (read_part max_depth (fields b))) ∙ sym (ap past (return_is h)); placed = was.placed }

-- a list of variables
pub variables_short : (b : List ℕ) (limit : ℕ) → length b < 2 → Checks b (checked (variable limit) (read_variables (fields b))) None
unfolding read_variables checked
variables_short b limit h = record { is = rw (no_field b h); placed = tt }

sooner : (b c : List ℕ) (a : Maybe (Bool × Bor (List ℕ))) → Tail b c → CheckPlaced c a → CheckPlaced b a
sooner b c None l h = tt
sooner b c (Some p) l h = tail_then l h

pub variables_are : {b c : List ℕ} {n : ℕ} → Field b n c → read_variables (fields b) ≡ read_entries (read_part max_depth) spine 0 n (fields c)
unfolding read_variables
variables_are f = rw f.is

pub variables_read : {b c : List ℕ} {n limit : ℕ} {a : Maybe (Bool × Bor (List ℕ))} → Field b n c → EntriesChecked c max_depth limit n a
    → Checks b (checked (variable limit) (read_variables (fields b))) a
variables_read {b} {c} {n} {limit} {a} f was =
    let k = was.checks spine in
    record { is = k.is ∙ sym (ap (checked (variable limit)) (variables_are f)); placed = sooner b c a f.tail k.placed }

-- of a list that was read, whether every index is below the limit
pub record Listed (limit : ℕ) (v : Read PartReq) (known : Bool) (gs : List ℕ) : Type 0 where
  pub list : PartReq
  pub is : v ≡ got list gs
  pub below : all_below (variable limit) list ≡ known

pub listed : (limit : ℕ) (v : Read PartReq) {known : Bool} {gs : List ℕ} → checked (variable limit) v ≡ got known gs → Listed limit v known gs
unfolding checked
listed limit malformed e = let z : ◌≡◌ {A = ℕ} 0 1 = cc in absurd (omega arith)
listed limit (got q hs) e = record { list = q; is = cc; below = cc }

pub unlisted : (limit : ℕ) (v : Read PartReq) → checked (variable limit) v ≡ malformed → v ≡ malformed
unfolding checked
unlisted limit malformed e = refl
unlisted limit (got q hs) e = let z : ◌≡◌ {A = ℕ} 0 1 = cc in absurd (omega arith)

refused-lists : (globals args locals : ℕ) (fs : List ℕ) → ((p : Option PartReq) → finish_context globals args locals p fs ≡ refused 12)
    → ListsChecked globals args locals fs (Err Malformed)
unfolding status_of
refused-lists globals args locals fs h = record { is = λ p. sym (ap status_of (h p)) }

-- the lists of a context
module _ (globals args locals : ℕ) (b : List ℕ) where
  pub no_globals : Checks b (checked (variable globals) (read_variables (fields b))) None → ListsChecked globals args locals (fields b) (Err Malformed)
  unfolding finish_context read_lists judge_context whole
  no_globals first = refused-lists globals args locals (fields b) (λ p. rw (unlisted globals (read_variables (fields b)) (sym first.is)))

  module _ {g : Bool} {x : Bor (List ℕ)} (first : Checks b (checked (variable globals) (read_variables (fields b))) (Some (g, x))) where
    the_globals : Listed globals (read_variables (fields b)) g (fields x.now)
    the_globals = listed globals (read_variables (fields b)) (sym first.is)

    pub no_args : Checks x.now (checked (variable args) (read_variables (fields x.now))) None → ListsChecked globals args locals (fields b) (Err Malformed)
    unfolding finish_context read_lists judge_context whole
    no_args second =
        refused-lists globals args locals (fields b) (λ p. rw (the_globals.is, unlisted args (read_variables (fields x.now)) (sym second.is)))

    module _ {h : Bool} {y : Bor (List ℕ)} (second : Checks x.now (checked (variable args) (read_variables (fields x.now))) (Some (h, y))) where
      the_args : Listed args (read_variables (fields x.now)) h (fields y.now)
      the_args = listed args (read_variables (fields x.now)) (sym second.is)

      pub no_locals : Checks y.now (checked (variable locals) (read_variables (fields y.now))) None → ListsChecked globals args locals (fields b) (Err Malformed)
      unfolding finish_context read_lists judge_context whole
      no_locals third =
          refused-lists globals args locals (fields b)
          (λ p. rw (the_globals.is, the_args.is, unlisted locals (read_variables (fields y.now)) (sym third.is)))

      module _ {l : Bool} {z : Bor (List ℕ)} (third : Checks y.now (checked (variable locals) (read_variables (fields y.now))) (Some (l, z))) where
        the_locals : Listed locals (read_variables (fields y.now)) l (fields z.now)
        the_locals = listed locals (read_variables (fields y.now)) (sym third.is)

        pub lists_left : 2 ≤ length z.now → ListsChecked globals args locals (fields b) (Err Malformed)
        unfolding finish_context read_lists judge_context whole
        lists_left i =
            refused-lists globals args locals (fields b) (λ p. rw (the_globals.is, the_args.is, the_locals.is, some_field z.now i))

        module _ (done : length z.now < 2) where
          found : Option PartReq → RequiredContext
          found p = record { globals = the_globals.list; locals = the_locals.list; args = the_args.list; retval = return_entry p }

          finished : (p : Option PartReq) → finish_context globals args locals p (fields b)
              ≡ cond (known_context globals args locals (found p)) (accepted (found p)) (refused 11)
          unfolding finish_context read_lists judge_context whole found
          finished p = rw (the_globals.is, the_args.is, the_locals.is, no_field z.now done)

          known_is : (p : Option PartReq) → known_context globals args locals (found p) ≡ (g && h) && l
          unfolding known_context found
          known_is p = rw (the_globals.below, the_args.below, the_locals.below)

          status_is : {w : Bool} → (g && h) && l ≡ w → (p : Option PartReq) → status_of (finish_context globals args locals p (fields b)) ≡ status_of (cond w (accepted (found p)) (refused 11))
          status_is e p = ap status_of (finished p ∙ rw (known_is p ∙ e))

          pub lists_known : (g && h) && l ≡ true → ListsChecked globals args locals (fields b) (Ok tt)
          unfolding status_of
          lists_known e = record { is = λ p. sym (status_is e p) }

          pub lists_unknown : (g && h) && l ≡ false → ListsChecked globals args locals (fields b) (Err NoSuch)
          unfolding status_of
          lists_unknown e = record { is = λ p. sym (status_is e p) }

-- the whole
module _ (globals args locals : ℕ) (b : List ℕ) {r : Bool} (e : r ≡ is_context b) where
  pub no_record : r ≡ false → 12 ≡ status_of (judge_context globals args locals (context_of b))
  unfolding status_of
  no_record h = sym (ap status_of (not_context globals args locals b e h))

  module _ (h : r ≡ true) where
    pub no_return : Skips (drop 6 b) (read_return (fields (drop 6 b))) None → 12 ≡ status_of (judge_context globals args locals (context_of b))
    unfolding status_of
    no_return was = sym (ap status_of (context_no_return globals args locals b e h (skip_refused was)))

    pub status_read : {lists : Bor (List ℕ)} {n : Result (Unit {0}) Refusal} → Skips (drop 6 b) (read_return (fields (drop 6 b))) (Some lists) → ListsChecked globals args locals (fields lists.now) n
        → status n ≡ status_of (judge_context globals args locals (context_of b))
    status_read was checks =
        let p = skip_passed was in
        checks.is p.value ∙ sym (ap status_of (context_finish globals args locals b e h p.is))
