-- Every record that is allowed leaves what has been read valid, and so a module that is accepted is valid: by the marks for one
-- record, then by the rule of reading (proofs/Records).
use mathlib.Core.Path.{◌≡◌, refl, sym, ap, subst, fun_ext}
use mathlib.Core.Bool.{Bool, true, false, not, cond, false≢true, ◌&&◌, ◌||◌}
use mathlib.Core.List.{List, [], ◌∷◌, ◌++◌, map}
use mathlib.Core.Option.{Option, some, none as nothing}
use Prim.Native.Nat.{ℕ, suc, ◌+◌, ◌<◌, ◌≤◌}
use native.Mathlib.Nat.{le_refl}
use native.Mathlib.Omega.{arith}
use lib.Dec.{ltb, leb, eqb}
use lib.ListN.{length, get_or}
use lib.Seq.{take-append-le, take_at}
use borrow.Author.Tests.{ltb-true, ltb-false, leb-false, not-false, eqb-true, eq-eqb, le-leb}
use Rattle.field.specs.Limits.{absent, max_types, max_globals, max_functions, max_arguments, max_members, max_components, max_locals, max_expressions, max_statements}
use Rattle.module.specs.Module.{Typed, Statement, BlockRange, FunctionArg, FunctionResult, Function, Module}
use Rattle.module.specs.declared.record.Mark.{Mark}
use Rattle.module.specs.declared.record.Mark.TheVariants.{TY, GV, FN, AR, LV, EX, BK, ST}
use Rattle.module.specs.Shape.{type, binding, flag, result, type_shape, expression_shape, statement_shape}
use Rattle.module.specs.Decode.{option_of, type_of, result_of, arg_of, typed_of, st_of}
use Rattle.module.specs.Operands.{Scope, below_or_absent, bindings}
use Rattle.module.specs.Reading.{Open, Reading, in_arguments, in_blocks, scope_of, range_of, stage_of, opened, grown, types_with, globals_with, added, closed}
use Rattle.module.specs.Blocks.{block_rule}
use Rattle.module.specs.File.{over, fine, placed, accepted, start, read_module}
use Rattle.module.proofs.Tab.{length-tab, get_d_tab}
use Rattle.valid.specs.Valid.{All, TypeValid, ExpressionValid, StatementValid, PartsValid, FunctionValid, MaybeBelow, ResultBelow, entries_below, Valid}
use Rattle.valid.proofs.Lists.{length-one_more, all_more, more_length}
use Rattle.valid.proofs.Starts.{Starts, range_within, ranges_apart, in_one, more_starts, starts-further}
use Rattle.valid.proofs.Emits.{Flagged, no_emits, expression_more, statement_more}
use Rattle.valid.proofs.Cases.{or_left, or_right}
use Rattle.valid.proofs.Fits.{numbers, and_left, and_right, fits}
use Rattle.valid.proofs.Further.{further, names_further, uses_further}
use Rattle.valid.proofs.Records.{opens, module_in, Before, Keeps, kept}
use Rattle.valid.proofs.Decoded.{maybe, type_fine, expression_fine, names_fine, statement_fine, members_within, components_within, arguments_within}

-- a count that is not over its limit, where the kind has one
within : (k c n most : ℕ) → (eqb k c && ltb most n) ≡ false → k ≡ c → n ≤ most
within k c n most h e = ltb-false most n (rw (eq-eqb k c e) at h)

-- the fields behind the first, and behind the first two
behind_one : (x : ℕ) (xs : List ℕ) → ◌≡◌ {A = ℕ → ℕ} (λ j. get_or (x ∷ xs) (1 + j) 0) (numbers xs)
behind_one x xs =
    fun_ext
    (λ j.
    let e : 1 + j ≡ suc j = omega arith in
    ap (λ (k : ℕ). get_or (x ∷ xs) k 0) e)

behind_two : (x y : ℕ) (xs : List ℕ) → ◌≡◌ {A = ℕ → ℕ} (λ j. get_or (x ∷ y ∷ xs) (2 + j) 0) (numbers xs)
behind_two x y xs =
    fun_ext
    (λ j.
    let e : 2 + j ≡ suc (suc j) = omega arith in
    ap (λ (k : ℕ). get_or (x ∷ y ∷ xs) k 0) e)

-- Records of each kind, by the scope in which they stand.
type_valid : (s : Scope) (fs : List ℕ) → over TY s fs ≡ false → fine TY s fs ≡ true → TypeValid s.types (type_of fs)
unfolding over fine type_of
type_valid s [] o h = absurd (false≢true h)
type_valid s (kind ∷ fs) o h =
    let c = or_right (leb max_types s.types) _ o in
    rw (behind_one kind fs)
    (record {
      fine = type_fine s (numbers fs) kind (fits (type_shape kind) s fs h);
      few = members_within s (numbers fs) kind (within kind 6 (numbers fs 0) max_members c);
    })

expression_valid : (s : Scope) (fs : List ℕ) → over EX s fs ≡ false → fine EX s fs ≡ true → ExpressionValid s.types s.globals s.arguments s.locals s.expressions (typed_of fs)
unfolding over fine typed_of
expression_valid s [] o h = absurd (false≢true h)
expression_valid s (t ∷ []) o h = absurd (false≢true h)
expression_valid s (t ∷ kind ∷ fs) o h =
    let c = or_right (leb max_expressions s.expressions) _ o in
    let f = fits (expression_shape kind) s fs (and_right (ltb t s.types) _ h) in
    rw (behind_two t kind fs)
    (record {
      type = ltb-true t s.types (and_left (ltb t s.types) _ h);
      operands = expression_fine s (numbers fs) kind f;
      names = names_fine s (numbers fs) kind f;
      components = components_within s (numbers fs) kind (within kind 8 (numbers fs 0) max_components c);
    })

statement_valid : (s : Scope) (fs : List ℕ) → over ST s fs ≡ false → fine ST s fs ≡ true → StatementValid s.expressions s.entries (st_of fs)
unfolding over fine st_of
statement_valid s [] o h = absurd (false≢true h)
statement_valid s (kind ∷ fs) o h =
    let c = or_right (leb max_statements s.statements) _ o in
    rw (behind_one kind fs)
    (record {
      uses = statement_fine s (numbers fs) kind (fits (statement_shape kind) s fs h);
      arguments = arguments_within s (numbers fs) kind (within kind 14 (numbers fs 1) max_arguments c);
    })

-- one more of what there were less than the most of
room : (n most : ℕ) → leb most n ≡ false → suc n ≤ most
room n most h = leb-false most n h

-- What has been found stays true while types, globals, arguments and locals become more.
expression_further : {t t' g g' a a' l l' e : ℕ} {x : Typed} → t ≤ t' → g ≤ g' → a ≤ a' → l ≤ l' → ExpressionValid t g a l e x → ExpressionValid t' g' a' l' e x
expression_further {x = x} tt' p q r v =
    record {
      type = further v.type tt';
      operands = v.operands;
      names = names_further x.expression p q r v.names;
      components = v.components;
    }

statement_further : {n n' : ℕ} {entries : List Bool} {x : Statement} → n ≤ n' → StatementValid n entries x → StatementValid n' entries x
statement_further {entries = entries} {x = x} l v = record { uses = uses_further x entries l v.uses; arguments = v.arguments }

parts_further : {t t' g g' : ℕ} {entries : List Bool} {as₁ : List FunctionArg} {ls : List ℕ} {es : List Typed} {ss : List Statement} → t ≤ t' → g ≤ g' → PartsValid t g entries as₁ ls es ss → PartsValid t' g' entries as₁ ls es ss
parts_further {t = t} {t' = t'} {g = g} {g' = g'} {as₁ = as₁} {ls = ls} {es = es} p q v =
    record {
      each_argument = λ i d l. (further (v.each_argument i d l).0 p, (v.each_argument i d l).1);
      each_local = λ i d l. further (v.each_local i d l) p;
      each_expression = λ i d l. expression_further p q (le_refl _) (le_refl _) (v.each_expression i d l);
      each_statement = v.each_statement;
      few_arguments = v.few_arguments;
      few_locals = v.few_locals;
      few_expressions = v.few_expressions;
      few_statements = v.few_statements;
    }

result_further : {t t' : ℕ} (r : Option FunctionResult) → t ≤ t' → ResultBelow t r → ResultBelow t' r
result_further nothing p h = tt
result_further (some r) p h = (further h.0 p, h.1)

function_further : {t t' g g' : ℕ} {entries : List Bool} {f : Function} → t ≤ t' → g ≤ g' → FunctionValid t g entries f → FunctionValid t' g' entries f
function_further {f = f} p q v =
    record {
      parts = parts_further p q v.parts;
      result = result_further f.result p v.result;
      blocks = v.blocks;
      ranges = v.ranges;
      emits = v.emits;
      in_blocks = v.in_blocks;
      apart = v.apart;
    }

abbrev OpenValid : (types globals : ℕ) → List Bool → Open → Type 0
OpenValid types globals entries f = PartsValid types globals entries f.arguments f.locals f.expressions f.statements

-- of an open function: there is room for it, and its result is there
abbrev HeadValid : Reading → Type 0
HeadValid r = (suc (length r.functions) ≤ max_functions) × ResultBelow (length r.types) r.open_one.result

pub record ReadValid (r : Reading) : Type 0 where
  pub whole : Valid (module_in r)
  pub one : OpenValid (length r.types) (length r.globals) (map (λ f. f.entry) r.functions) r.open_one
  pub starts : Starts r.open_one.starts (length r.open_one.statements)
  pub emits : Flagged r.open_one.emitted (length r.open_one.expressions) r.open_one.statements
  pub block : eqb r.stage in_blocks ≡ true → 0 < length r.open_one.starts
  pub space : leb in_arguments r.stage ≡ true → HeadValid r

-- a function with its head alone
opened-valid : (t g : ℕ) (entries : List Bool) (fs : List ℕ) → OpenValid t g entries (opened fs)
unfolding opened
opened-valid t g entries fs =
    record {
      each_argument = λ i d l. absurd (omega arith);
      each_local = λ i d l. absurd (omega arith);
      each_expression = λ i d l. absurd (omega arith);
      each_statement = λ i d l. absurd (omega arith);
      few_arguments = omega arith;
      few_locals = omega arith;
      few_expressions = omega arith;
      few_statements = omega arith;
    }

opened-starts : (fs : List ℕ) → Starts (opened fs).starts (length (opened fs).statements)
unfolding opened
opened-starts fs =
    record {
      within = λ b l. absurd (omega arith);
      ascend = λ b l. absurd (omega arith);
      first = refl;
      some_block = λ l. absurd (omega arith);
    }

opened-emits : (fs : List ℕ) → Flagged (opened fs).emitted (length (opened fs).expressions) (opened fs).statements
unfolding opened
opened-emits fs = no_emits

-- where a function ends
module _ (r : Reading) (v : ReadValid r) where
  last_one : ResultBelow (length r.types) r.open_one.result → block_rule (closed r.open_one) ≡ true → FunctionValid (length r.types) (length r.globals) (map (λ x. x.entry) r.functions) (closed r.open_one)
  unfolding closed
  last_one q h =
      record {
        parts = v.one;
        result = q;
        blocks = h;
        ranges = λ b d l.
            let k : b < length r.open_one.starts = rw length-tab at l in
            subst
            (λ (x : BlockRange). x.first + x.count ≤ length r.open_one.statements)
            (sym (get_d_tab (length r.open_one.starts) (range_of r.open_one.starts (length r.open_one.statements)) b d k))
            (range_within r.open_one.starts (length r.open_one.statements) v.starts b k);
        emits = v.emits.once;
        in_blocks = λ s l. in_one r.open_one.starts (length r.open_one.statements) v.starts s l;
        apart = λ a b d l h.
            let n = length r.open_one.starts in
            let range = range_of r.open_one.starts (length r.open_one.statements) in
            let k : b < n = rw length-tab at h in
            rw (get_d_tab n range a d (omega arith), get_d_tab n range b d k)
            (ranges_apart r.open_one.starts (length r.open_one.statements) v.starts a b l k);
      }

  functions_more : ResultBelow (length r.types) r.open_one.result → block_rule (closed r.open_one) ≡ true → All (λ f. FunctionValid (length r.types) (length r.globals) (entries_below f (r.functions ++ (closed r.open_one ∷ [])))) (r.functions ++ (closed r.open_one ∷ []))
  functions_more q h =
      all_more
      (λ f. FunctionValid (length r.types) (length r.globals) (entries_below f (r.functions ++ (closed r.open_one ∷ []))))
      r.functions
      (closed r.open_one)
      (λ f d l.
      subst
      (λ (fs : List Function). FunctionValid (length r.types) (length r.globals) (map (λ x. x.entry) fs) (get_or r.functions f d))
      (sym (take-append-le f r.functions (closed r.open_one ∷ []) (omega arith)))
      (v.whole.functions f d l))
      (subst
      (λ (fs : List Function). FunctionValid (length r.types) (length r.globals) (map (λ x. x.entry) fs) (closed r.open_one))
      (sym (take_at r.functions (closed r.open_one ∷ []) (length r.functions) refl))
      (last_one q h))

  ended_functions : (b : Bool) → (b ≡ true → leb in_arguments r.stage ≡ true) → (b && not (block_rule (closed r.open_one))) ≡ false → Valid (record { types = r.types; globals = r.globals; functions = cond b (r.functions ++ (closed r.open_one ∷ [])) r.functions })
  ended_functions true e h =
      record {
        types = v.whole.types;
        globals = v.whole.globals;
        functions = functions_more (v.space (e refl)).1 (not-false (block_rule (closed r.open_one)) h);
        few_types = v.whole.few_types;
        few_globals = v.whole.few_globals;
        few_functions =
            subst (λ (n : ℕ). n ≤ max_functions) (sym (length-one_more r.functions (closed r.open_one))) (v.space (e refl)).0;
      }
  ended_functions false e h = v.whole

abbrev EndedValid : Reading → Type 0
EndedValid r = Valid (module_in r)

-- a function is open
pub record Inside (r : Reading) : Type 0 where
  pub read : ReadValid r
  pub inside : leb in_arguments r.stage ≡ true

-- what a record of this mark stands on
abbrev Ready : Mark → Reading → Type 0
Ready TY r = ReadValid r
Ready GV r = ReadValid r
Ready FN r = EndedValid r
Ready AR r = Inside r
Ready LV r = Inside r
Ready EX r = Inside r
Ready BK r = Inside r
Ready ST r = Inside r × (0 < length r.open_one.starts)

ready : (mark : Mark) (r : Reading) → Before ReadValid EndedValid mark r → placed mark r.stage ≡ true → Ready mark r
unfolding placed
ready TY r v p = v
ready GV r v p = v
ready FN r v p = v
ready AR r v p =
    record { read = v; inside = le-leb in_arguments r.stage (omega (arith, eqb-true r.stage in_arguments p)) }
ready LV r v p = record { read = v; inside = and_left (leb in_arguments r.stage) _ p }
ready EX r v p = record { read = v; inside = and_left (leb in_arguments r.stage) _ p }
ready BK r v p = record { read = v; inside = p }
ready ST r v p =
    (record { read = v; inside = le-leb in_arguments r.stage (omega (arith, eqb-true r.stage in_blocks p)) }, v.block p)

-- a result that a head gives
result_cond : (t x y : ℕ) (b : Bool) → (b || ltb x t) ≡ true → below_or_absent bindings y ≡ true → ResultBelow t (cond b nothing (some (record { type = x; binding = option_of y })))
result_cond t x y true h k = tt
result_cond t x y false h k = (ltb-true x t h, maybe bindings y k)

result_read : (t : ℕ) (fs : List ℕ) → (below_or_absent t (get_or fs 1 0) ≡ true) × (below_or_absent bindings (get_or fs 2 0) ≡ true) → ResultBelow t (result_of fs)
unfolding result_of
result_read t fs h = result_cond t (get_or fs 1 0) (get_or fs 2 0) (eqb (get_or fs 1 0) absent) h.0 h.1

-- one record more
module _ (fs : List ℕ) (r : Reading) where
  more_types : ReadValid r → over TY (scope_of r) fs ≡ false → fine TY (scope_of r) fs ≡ true → ReadValid (added TY fs r)
  unfolding added types_with globals_with grown stage_of scope_of over
  more_types v o h =
      let x = type_valid (scope_of r) fs o h in
      let l = more_length r.types (type_of fs) in
      record {
        whole =
            record {
              types = all_more TypeValid r.types (type_of fs) v.whole.types x;
              globals = λ i d k. further (v.whole.globals i d k) l;
              functions = λ i d k. function_further l (le_refl _) (v.whole.functions i d k);
              few_types =
                  subst (λ (n : ℕ). n ≤ max_types) (sym (length-one_more r.types (type_of fs)))
                  (room (length r.types) max_types (or_left (leb max_types (length r.types)) _ o));
              few_globals = v.whole.few_globals;
              few_functions = v.whole.few_functions;
            };
        one = parts_further l (le_refl _) v.one;
        starts = v.starts;
        emits = v.emits;
        block = λ e. absurd (false≢true e);
        space = λ e. absurd (false≢true e);
      }

  more_globals : ReadValid r → over GV (scope_of r) fs ≡ false → fine GV (scope_of r) fs ≡ true → ReadValid (added GV fs r)
  unfolding added types_with globals_with grown stage_of scope_of over fine
  more_globals v o h =
      let x = ltb-true (get_or fs 0 0) (length r.types) (fits (type ∷ []) (scope_of r) fs h).0 in
      let l = more_length r.globals (get_or fs 0 0) in
      record {
        whole =
            record {
              types = v.whole.types;
              globals = all_more (λ g y. y < length r.types) r.globals (get_or fs 0 0) v.whole.globals x;
              functions = λ i d k. function_further (le_refl _) l (v.whole.functions i d k);
              few_types = v.whole.few_types;
              few_globals =
                  subst (λ (n : ℕ). n ≤ max_globals) (sym (length-one_more r.globals (get_or fs 0 0)))
                  (room (length r.globals) max_globals o);
              few_functions = v.whole.few_functions;
            };
        one = parts_further (le_refl _) l v.one;
        starts = v.starts;
        emits = v.emits;
        block = λ e. absurd (false≢true e);
        space = λ e. absurd (false≢true e);
      }

  more_functions : EndedValid r → over FN (scope_of r) fs ≡ false → fine FN (scope_of r) fs ≡ true → ReadValid (added FN fs r)
  unfolding added types_with globals_with grown stage_of scope_of over fine opened
  more_functions v o h =
      record {
        whole = v;
        one = opened-valid (length r.types) (length r.globals) (map (λ f. f.entry) r.functions) fs;
        starts = opened-starts fs;
        emits = opened-emits fs;
        block = λ e. absurd (false≢true e);
        space = λ e.
            (room (length r.functions) max_functions o, result_read (length r.types) fs (fits (flag ∷ result ∷ []) (scope_of r) fs h).1.0);
      }

  more_arguments : Inside r → over AR (scope_of r) fs ≡ false → fine AR (scope_of r) fs ≡ true → ReadValid (added AR fs r)
  unfolding added types_with globals_with grown stage_of scope_of over fine arg_of
  more_arguments w o h =
      let v = w.read in
      let q = fits (type ∷ binding ∷ []) (scope_of r) fs h in
      let x : ((arg_of fs).type < length r.types) × MaybeBelow bindings (arg_of fs).binding =
      (ltb-true (get_or fs 0 0) (length r.types) q.0, maybe bindings (get_or fs 1 0) q.1.0) in
      let l = more_length r.open_one.arguments (arg_of fs) in
      record {
        whole = v.whole;
        one =
            record {
              each_argument = all_more (λ i y. (y.type < length r.types) × MaybeBelow bindings y.binding) r.open_one.arguments (arg_of fs) v.one.each_argument x;
              each_local = v.one.each_local;
              each_expression = λ i d k. expression_further (le_refl _) (le_refl _) l (le_refl _) (v.one.each_expression i d k);
              each_statement = v.one.each_statement;
              few_arguments =
                  subst (λ (n : ℕ). n ≤ max_arguments) (sym (length-one_more r.open_one.arguments (arg_of fs)))
                  (room (length r.open_one.arguments) max_arguments o);
              few_locals = v.one.few_locals;
              few_expressions = v.one.few_expressions;
              few_statements = v.one.few_statements;
            };
        starts = v.starts;
        emits = v.emits;
        block = λ e. absurd (false≢true e);
        space = λ e. v.space w.inside;
      }

  more_locals : Inside r → over LV (scope_of r) fs ≡ false → fine LV (scope_of r) fs ≡ true → ReadValid (added LV fs r)
  unfolding added types_with globals_with grown stage_of scope_of over fine
  more_locals w o h =
      let v = w.read in
      let x = ltb-true (get_or fs 0 0) (length r.types) (fits (type ∷ []) (scope_of r) fs h).0 in
      let l = more_length r.open_one.locals (get_or fs 0 0) in
      record {
        whole = v.whole;
        one =
            record {
              each_argument = v.one.each_argument;
              each_local = all_more (λ i y. y < length r.types) r.open_one.locals (get_or fs 0 0) v.one.each_local x;
              each_expression = λ i d k. expression_further (le_refl _) (le_refl _) (le_refl _) l (v.one.each_expression i d k);
              each_statement = v.one.each_statement;
              few_arguments = v.one.few_arguments;
              few_locals =
                  subst (λ (n : ℕ). n ≤ max_locals) (sym (length-one_more r.open_one.locals (get_or fs 0 0)))
                  (room (length r.open_one.locals) max_locals o);
              few_expressions = v.one.few_expressions;
              few_statements = v.one.few_statements;
            };
        starts = v.starts;
        emits = v.emits;
        block = λ e. absurd (false≢true e);
        space = λ e. v.space w.inside;
      }

  more_expressions : Inside r → over EX (scope_of r) fs ≡ false → fine EX (scope_of r) fs ≡ true → ReadValid (added EX fs r)
  unfolding added types_with globals_with grown stage_of scope_of over
  more_expressions w o h =
      let v = w.read in
      let x = expression_valid (scope_of r) fs o h in
      let l = more_length r.open_one.expressions (typed_of fs) in
      record {
        whole = v.whole;
        one =
            record {
              each_argument = v.one.each_argument;
              each_local = v.one.each_local;
              each_expression =
                  all_more
                  (ExpressionValid (length r.types) (length r.globals) (length r.open_one.arguments) (length r.open_one.locals))
                  r.open_one.expressions
                  (typed_of fs)
                  v.one.each_expression
                  x;
              each_statement = λ i d k. statement_further l (v.one.each_statement i d k);
              few_arguments = v.one.few_arguments;
              few_locals = v.one.few_locals;
              few_expressions =
                  subst (λ (n : ℕ). n ≤ max_expressions) (sym (length-one_more r.open_one.expressions (typed_of fs)))
                  (room (length r.open_one.expressions) max_expressions (or_left (leb max_expressions (length r.open_one.expressions)) _ o));
              few_statements = v.one.few_statements;
            };
        starts = v.starts;
        emits = expression_more (length-one_more r.open_one.expressions (typed_of fs)) v.emits;
        block = λ e. absurd (false≢true e);
        space = λ e. v.space w.inside;
      }

  more_blocks : Inside r → ReadValid (added BK fs r)
  unfolding added types_with globals_with grown stage_of
  more_blocks w =
      let v = w.read in
      record {
        whole = v.whole;
        one = v.one;
        starts = more_starts r.open_one.starts (length r.open_one.statements) v.starts;
        emits = v.emits;
        block = λ e. omega (arith, length-one_more r.open_one.starts (length r.open_one.statements));
        space = λ e. v.space w.inside;
      }

  more_statements : Inside r × (0 < length r.open_one.starts) → over ST (scope_of r) fs ≡ false → fine ST (scope_of r) fs ≡ true → ReadValid (added ST fs r)
  unfolding added types_with globals_with grown stage_of scope_of over
  more_statements w o h =
      let v = w.0.read in
      let x = statement_valid (scope_of r) fs o h in
      record {
        whole = v.whole;
        one =
            record {
              each_argument = v.one.each_argument;
              each_local = v.one.each_local;
              each_expression = v.one.each_expression;
              each_statement =
                  all_more
                  (λ s. StatementValid (length r.open_one.expressions) (map (λ f. f.entry) r.functions))
                  r.open_one.statements
                  (st_of fs)
                  v.one.each_statement
                  x;
              few_arguments = v.one.few_arguments;
              few_locals = v.one.few_locals;
              few_expressions = v.one.few_expressions;
              few_statements =
                  subst (λ (n : ℕ). n ≤ max_statements) (sym (length-one_more r.open_one.statements (st_of fs)))
                  (room (length r.open_one.statements) max_statements (or_left (leb max_statements (length r.open_one.statements)) _ o));
            };
        starts = starts-further (more_length r.open_one.statements (st_of fs)) w.1 v.starts;
        emits = statement_more (scope_of r) fs r.open_one.statements v.emits h;
        block = λ e. w.1;
        space = λ e. v.space w.0.inside;
      }

added-valid : (mark : Mark) (fs : List ℕ) (r : Reading) → Ready mark r → over mark (scope_of r) fs ≡ false → fine mark (scope_of r) fs ≡ true → ReadValid (added mark fs r)
added-valid TY fs r v o h = more_types fs r v o h
added-valid GV fs r v o h = more_globals fs r v o h
added-valid FN fs r v o h = more_functions fs r v o h
added-valid AR fs r v o h = more_arguments fs r v o h
added-valid LV fs r v o h = more_locals fs r v o h
added-valid EX fs r v o h = more_expressions fs r v o h
added-valid BK fs r v o h = more_blocks fs r v
added-valid ST fs r v o h = more_statements fs r v o h

start-valid : ReadValid start
unfolding start
start-valid =
    record {
      whole =
          record {
            types = λ i d l. absurd (omega arith);
            globals = λ i d l. absurd (omega arith);
            functions = λ i d l. absurd (omega arith);
            few_types = omega arith;
            few_globals = omega arith;
            few_functions = omega arith;
          };
      one = opened-valid 0 0 [] [];
      starts = opened-starts [];
      emits = opened-emits [];
      block = λ e. absurd (false≢true e);
      space = λ e. absurd (false≢true e);
    }

validity : Keeps
validity =
    record {
      While = λ at. ReadValid;
      Ended = λ at. EndedValid;
      begins = start-valid;
      ends = λ at r v e. ended_functions r v (opens r) (λ o. o) e;
      adds = λ at next mark fs r l v h. added-valid mark fs r (ready mark r v h.place) h.few h.good;
    }

-- A module that is accepted is valid.
pub valid : (bytes : List ℕ) (m : Module) → read_module bytes ≡ accepted m → Valid m
unfolding validity
valid bytes m h = kept bytes validity Valid (λ at r v l few. v) m h
