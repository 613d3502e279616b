-- A function's marks are at most two for each statement and one for each expression, since no expression stands in two emits. The flags of what has been emitted
-- are counted while the function is read, by the rule of reading (`valid`, proofs/Records).
use mathlib.Core.Path.{◌≡◌, refl, sym, ap, ◌∙◌}
use mathlib.Core.Bool.{Bool, true, false, not, false≢true, ◌&&◌}
use mathlib.Core.List.{List, [], ◌∷◌, ◌++◌}
use mathlib.Core.Option.{some}
use Prim.Native.Nat.{ℕ, zero, suc, ◌+◌, ◌*◌, ◌-◌, ◌<◌, ◌≤◌}
use native.Mathlib.Omega.{arith}
use lib.Dec.{ltb, leb}
use lib.ListN.{length, get_or, set, length-append, length-set}
use lib.Seq.{get_or-set_other}
use borrow.Author.Tests.{ltb-true, leb-true, ne_eqb, not-true}
use Rattle.module.specs.Module.{Statement, Function, Module}
use Rattle.module.specs.declared.record.Mark.{Mark}
use Rattle.module.specs.declared.record.Mark.TheVariants.{TY, GV, FN, AR, LV, EX, BK, ST}
use Rattle.module.specs.Marks.{mark_count, marks_before}
use Rattle.module.specs.Decode.{statement_of, typed_of, st_of}
use Rattle.module.specs.Reading.{Reading, scope_of, emit, emit_by, opened, grown, added, closed}
use Rattle.module.specs.Operands.{Scope, unemitted, range_in, taken, operands}
use Rattle.module.specs.Shape.{statement_shapes}
use Rattle.module.specs.File.{fine, accepted, start, read_module}
use Rattle.module.proofs.Each.{each}
use Rattle.valid.proofs.Fits.{and_left, and_right, given-true}
use Rattle.valid.proofs.Emits.{emit_by-length}
use Rattle.valid.proofs.Records.{opens, with_last, Before, Keeps, kept}

-- how many flags are set
unfoldable ticked : List Bool → ℕ
ticked [] = 0
ticked (true ∷ bs) = suc (ticked bs)
ticked (false ∷ bs) = ticked bs

ticked-most : (bs : List Bool) → ticked bs ≤ length bs
unfolding ticked
ticked-most [] = omega arith
ticked-most (true ∷ bs) = omega (arith, ticked-most bs)
ticked-most (false ∷ bs) = omega (arith, ticked-most bs)

ticked-more : (bs : List Bool) → ticked (bs ++ (false ∷ [])) ≡ ticked bs
unfolding ticked
ticked-more [] = refl
ticked-more (true ∷ bs) = ap suc (ticked-more bs)
ticked-more (false ∷ bs) = ticked-more bs

ticked-set : (bs : List Bool) (e : ℕ) → e < length bs → get_or bs e false ≡ false → ticked (set bs e true) ≡ suc (ticked bs)
unfolding ticked
ticked-set [] e l h = absurd (omega arith)
ticked-set (true ∷ bs) zero l h = absurd (false≢true (sym h))
ticked-set (false ∷ bs) zero l h = refl
ticked-set (true ∷ bs) (suc e) l h = ap suc (ticked-set bs e (omega arith) h)
ticked-set (false ∷ bs) (suc e) l h = ticked-set bs e (omega arith) h

-- a flag set does not change whether later ones are
unemitted-set : (bs : List Bool) (e k n : ℕ) → e < k → unemitted (set bs e true) k n ≡ unemitted bs k n
unfolding unemitted
unemitted-set bs e k zero l = refl
unemitted-set bs e k (suc n) l =
    let other : e ≡ k → ⊥ = λ q. absurd (omega arith) in
    rw (get_or-set_other bs e k true false (λ q. absurd (omega arith)), unemitted-set bs e (suc k) n (omega arith))

emit-ticked : (bs : List Bool) (e n : ℕ) → unemitted bs e n ≡ true → e + n ≤ length bs → ticked (emit bs e n) ≡ ticked bs + n
unfolding emit unemitted
emit-ticked bs e zero h l = omega arith
emit-ticked bs e (suc n) h l =
    let free : get_or bs e false ≡ false = not-true _ (and_left (not (get_or bs e false)) (unemitted bs (suc e) n) h) in
    let later : unemitted (set bs e true) (suc e) n ≡ true =
    unemitted-set bs e (suc e) n (omega arith) ∙ and_right (not (get_or bs e false)) (unemitted bs (suc e) n) h in
    let one = ticked-set bs e (omega arith) free in
    let long : length (set bs e true) ≡ length bs = length-set bs e true in
    let rest = emit-ticked (set bs e true) (suc e) n later (omega arith) in
    omega arith

-- marks of statements
marks_more : (ss : List Statement) (s : Statement) → marks_before (ss ++ (s ∷ [])) (length (ss ++ (s ∷ []))) ≡ marks_before ss (length ss) + mark_count s
unfolding marks_before
marks_more [] s = omega arith
marks_more (x ∷ ss) s = omega (arith, marks_more ss s)

-- every statement but an emit, of kind 0
few_marks : (o : ℕ → ℕ) (kind : ℕ) → (kind ≡ 0 → ⊥) → mark_count (statement_of kind o) ≤ 2
unfolding statement_of mark_count
few_marks o =
    each (λ k. (k ≡ 0 → ⊥) → mark_count (statement_of k o) ≤ 2) 21
    (λ h. absurd (h refl), (λ h. omega arith, (λ h. omega arith, (λ h. omega arith, (λ h. omega arith, (λ h. omega arith, (λ h. omega arith, (λ h. omega arith, (λ h. omega arith, (λ h. omega arith, (λ h. omega arith, (λ h. omega arith, (λ h. omega arith, (λ h. omega arith, (λ h. omega arith, (λ h. omega arith, (λ h. omega arith, (λ h. omega arith, (λ h. omega arith, (λ h. omega arith, (λ h. omega arith, tt)))))))))))))))))))))
    (λ k h. omega arith)

-- a statement that is allowed sets as many flags as an emit has marks
statement_marks : (s : Scope) (fs : List ℕ) → length s.emitted ≡ s.expressions → fine ST s fs ≡ true → ticked s.emitted + mark_count (st_of fs) ≤ ticked (emit_by fs s.emitted) + 2
unfolding fine operands taken range_in statement_shapes st_of statement_of emit_by mark_count
statement_marks s [] l h = absurd (false≢true h)
statement_marks s (zero ∷ []) l h = absurd (false≢true h)
statement_marks s (zero ∷ first ∷ []) l h = absurd (false≢true h)
statement_marks s (zero ∷ first ∷ last ∷ xs) l h =
    let free = unemitted s.emitted first (suc last - first) in
    let t = (given-true (leb first last && (ltb last s.expressions && free)) (some xs) (operands [] s) h).0 in
    let u = and_right (leb first last) (ltb last s.expressions && free) t in
    let low = ltb-true last s.expressions (and_left (ltb last s.expressions) free u) in
    let up = leb-true first last (and_left (leb first last) (ltb last s.expressions && free) t) in
    let set_all = emit-ticked s.emitted first (suc last - first) (and_right (ltb last s.expressions) free u) (omega arith) in
    omega arith
statement_marks s (suc k ∷ xs) l h =
    let some-kind : suc k ≡ 0 → ⊥ = λ e. absurd (omega arith) in
    let few : mark_count (st_of (suc k ∷ xs)) ≤ 2 = few_marks (λ j. get_or (suc k ∷ xs) (1 + j) 0) (suc k) some-kind in
    let same : emit_by (suc k ∷ xs) s.emitted ≡ s.emitted = rw (ne_eqb (suc k) 0 some-kind) in
    rw same (omega arith)

-- of a function that has ended
abbrev pub marks_of : Function → ℕ
marks_of f = marks_before f.statements (length f.statements)

abbrev pub FewMarks : Function → Type 0
FewMarks f = marks_of f ≤ 2 * length f.statements + length f.expressions

abbrev pub EachFew : List Function → Type 0
EachFew [] = Unit {0}
EachFew (f ∷ fs) = FewMarks f × EachFew fs

each_more : (fs : List Function) (f : Function) → EachFew fs → FewMarks f → EachFew (fs ++ (f ∷ []))
each_more [] f h x = (x, tt)
each_more (g ∷ fs) f h x = (h.0, each_more fs f h.1 x)

-- while a function is open
record Emitted (r : Reading) : Type 0 where
  pub flags : length r.open_one.emitted ≡ length r.open_one.expressions
  pub marks : marks_before r.open_one.statements (length r.open_one.statements) ≤ 2 * length r.open_one.statements + ticked r.open_one.emitted
  pub each : EachFew r.functions

last_few : (b : Bool) (r : Reading) → Emitted r → EachFew (with_last b r).functions
unfolding closed
last_few true r h =
    each_more r.functions (closed r.open_one) h.each (omega (arith, h.marks, h.flags, ticked-most r.open_one.emitted))
last_few false r h = h.each

opened_emitted : (fs : List ℕ) (r : Reading) → EachFew r.functions → Emitted (added FN fs r)
unfolding added grown opened marks_before ticked
opened_emitted fs r h = record { flags = refl; marks = omega arith; each = h }

start-emitted : Emitted start
unfolding start opened marks_before ticked
start-emitted = record { flags = refl; marks = omega arith; each = tt }

added-emitted : (mark : Mark) (fs : List ℕ) (r : Reading) → Before Emitted (λ q. EachFew q.functions) mark r → fine mark (scope_of r) fs ≡ true → Emitted (added mark fs r)
unfolding added grown scope_of
added-emitted TY fs r h t = record { flags = h.flags; marks = h.marks; each = h.each }
added-emitted GV fs r h t = record { flags = h.flags; marks = h.marks; each = h.each }
added-emitted FN fs r h t = opened_emitted fs r h
added-emitted AR fs r h t = record { flags = h.flags; marks = h.marks; each = h.each }
added-emitted LV fs r h t = record { flags = h.flags; marks = h.marks; each = h.each }
added-emitted EX fs r h t =
    let e = length-append r.open_one.emitted (false ∷ []) in
    let x = length-append r.open_one.expressions (typed_of fs ∷ []) in
    record { flags = omega (arith, h.flags); marks = rw (ticked-more r.open_one.emitted) h.marks; each = h.each }
added-emitted BK fs r h t = record { flags = h.flags; marks = h.marks; each = h.each }
added-emitted ST fs r h t =
    let more = marks_more r.open_one.statements (st_of fs) in
    let long = length-append r.open_one.statements (st_of fs ∷ []) in
    let new = statement_marks (scope_of r) fs h.flags t in
    record { flags = emit_by-length fs r.open_one.emitted ∙ h.flags; marks = omega (arith, h.marks); each = h.each }

emits : Keeps
emits =
    record {
      While = λ at. Emitted;
      Ended = λ at r. EachFew r.functions;
      begins = start-emitted;
      ends = λ at r h e. last_few (opens r) r h;
      adds = λ at next mark fs r l h t. added-emitted mark fs r h t.good;
    }

-- The marks of each function of a module that was read.
pub each_few : (bytes : List ℕ) (m : Module) → read_module bytes ≡ accepted m → EachFew m.functions
unfolding emits
each_few bytes m e = kept bytes emits (λ x. EachFew x.functions) (λ at r h l few. h) m e

pub function_marks : (bytes : List ℕ) (m : Module) → read_module bytes ≡ accepted m → (f : ℕ) (d : Function) → f < length m.functions → FewMarks (get_or m.functions f d)
function_marks bytes m e f d = at m.functions f (each_few bytes m e)
  where
    at : (fs : List Function) (i : ℕ) → EachFew fs → i < length fs → FewMarks (get_or fs i d)
    at [] i h l = absurd (omega arith)
    at (x ∷ fs) zero h l = h.0
    at (x ∷ fs) (suc i) h l = at fs i h.1 (omega arith)
