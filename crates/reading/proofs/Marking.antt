-- The marks of expressions, one by one as the code sets them: what is left to set gives the whole, the tables keep their length, and a
-- flag of the definition is set for each mark.
use mathlib.Core.Path.{◌≡◌, refl, sym, ap, ◌∙◌}
use mathlib.Core.Logic.{◌≢◌}
use mathlib.Core.Bool.{Bool, true, false, false≢true}
use mathlib.Core.List.{List, [], ◌∷◌}
use Prim.Native.Nat.{ℕ, zero, suc, ◌+◌, ◌-◌, ◌<◌, ◌≤◌}
use native.Mathlib.Omega.{arith}
use native.Mathlib.Decide.{ℕ_discrete}
use lib.Dec.{eqb, leb, ltb}
use lib.ListN.{length, get_or, set, length-set}
use lib.Seq.{ext_get_or, get_or-set_same, get_or-set_other}
use borrow.Author.Tests.{eq-eqb, ne_eqb, eqb-true, leb-true, ltb-true}
use Rattle.field.specs.Limits.{max_expressions}
use Rattle.module.specs.declared.record.Mark.TheVariants.{ST}
use Rattle.module.specs.Shape.{never, statement_shapes}
use Rattle.module.specs.Operands.{Scope, range_in, taken, operands}
use Rattle.module.specs.Decode.{tab}
use Rattle.module.specs.Reading.{emit, emit_by}
use Rattle.module.specs.File.{fine}
use Rattle.module.specs.Tables.{word, marks_at, words, emitted_of}
use Rattle.module.proofs.Tab.{length-tab, get_d_tab}
use Rattle.reading.specs.Progress.{mark_from, mark_by}

pub length-mark_from : (t : List ℕ) (e n : ℕ) → length (mark_from t e n) ≡ length t
unfolding mark_from
length-mark_from t e zero = refl
length-mark_from t e (suc n) = length-mark_from (set t (marks_at + e) 1) (suc e) n ∙ length-set t (marks_at + e) 1

-- the words below the marks stay
below_marks : (t : List ℕ) (e n i : ℕ) → i < marks_at → word (mark_from t e n) i ≡ word t i
unfolding mark_from
below_marks t e zero i l = refl
below_marks t e (suc n) i l = below_marks (set t (marks_at + e) 1) (suc e) n i l ∙ get_or-set_other t (marks_at + e) i 1 0 (λ h. omega arith)

by-kind : (fs t : List ℕ) (b : Bool) → eqb (get_or fs 0 0) 0 ≡ b → (length (mark_by fs t) ≡ length t) × ((i : ℕ) → i < marks_at → word (mark_by fs t) i ≡ word t i)
unfolding mark_by
by-kind fs t true e = rw e (length-mark_from t (get_or fs 1 0) (suc (get_or fs 2 0) - get_or fs 1 0), below_marks t (get_or fs 1 0) (suc (get_or fs 2 0) - get_or fs 1 0))
by-kind fs t false e = rw e (refl, λ i l. refl)

pub length-mark_by : (fs t : List ℕ) → length (mark_by fs t) ≡ length t
length-mark_by fs t = (by-kind fs t (eqb (get_or fs 0 0) 0) refl).0

pub below_mark_by : (fs t : List ℕ) (i : ℕ) → i < marks_at → word (mark_by fs t) i ≡ word t i
below_mark_by fs t = (by-kind fs t (eqb (get_or fs 0 0) 0) refl).1

one_marked : (t u : List ℕ) (e k n m : ℕ) → n ≡ suc m → k ≡ suc e → u ≡ set t (marks_at + e) 1 → mark_from u k m ≡ mark_from t e n
unfolding mark_from
one_marked t u e k n m a b c = rw (a, b, c)

pub mark_again : (t u whole : List ℕ) (e last : ℕ) → e ≤ last → u ≡ set t (marks_at + e) 1 → mark_from t e (suc last - e) ≡ whole → mark_from u (e + 1) (suc last - (e + 1)) ≡ whole
mark_again t u whole e last l s w = one_marked t u e (e + 1) (suc last - e) (suc last - (e + 1)) (omega arith) (omega arith) s ∙ w

none_left : (t : List ℕ) (e n : ℕ) → n ≡ 0 → mark_from t e n ≡ t
unfolding mark_from
none_left t e n z = rw z

pub mark_done : (t whole : List ℕ) (e last : ℕ) → last < e → mark_from t e (suc last - e) ≡ whole → t ≡ whole
mark_done t whole e last l w = sym (none_left t e (suc last - e) (omega arith)) ∙ w

-- a statement that is an emit, and another
module _ (fs t : List ℕ) (kind : ℕ) (is : kind ≡ get_or fs 0 0) where
  pub is_emit : (first last : ℕ) → kind ≡ 0 → first ≡ get_or fs 1 0 → last ≡ get_or fs 2 0 → mark_from t first (suc last - first) ≡ mark_by fs t
  unfolding mark_by
  is_emit first last z a b = rw (sym is, eq-eqb kind 0 z, sym a, sym b)

  pub no_emit : kind ≢ 0 → t ≡ mark_by fs t
  unfolding mark_by
  no_emit n = rw (sym is, ne_eqb kind 0 n)

-- one of the listed is another
set-listed : {A : Type 0} (d : A) (n e : ℕ) (f g : ℕ → A) (v : A) → f e ≡ v → ((i : ℕ) → i ≢ e → f i ≡ g i) → tab n f ≡ set (tab n g) e v
set-listed d n e f g v is others =
    ext_get_or d (tab n f) (set (tab n g) e v) (length-tab n f ∙ sym (length-set (tab n g) e v ∙ length-tab n g))
    (λ i l.
    let h : i < n = rw (length-tab n f) at l in
    elim (ℕ_discrete i e) [
      | yes q ↦
          let j : e < length (tab n g) = rw (length-tab n g, ← q) h in
          get_d_tab n f i d h ∙ rw q (is ∙ sym (get_or-set_same (tab n g) e v d j))
      | no q ↦ get_d_tab n f i d h ∙ others i q ∙ sym (get_or-set_other (tab n g) e i v d q ∙ get_d_tab n g i d h)
    ])

flag_set : (t : List ℕ) (e n : ℕ) → marks_at + e < length t → emitted_of (set t (marks_at + e) 1) n ≡ set (emitted_of t n) e true
unfolding emitted_of
flag_set t e n l =
    set-listed false n e (λ i. eqb (word (set t (marks_at + e) 1) (marks_at + i)) 1) (λ i. eqb (word t (marks_at + i)) 1) true
    (rw (get_or-set_same t (marks_at + e) 1 0 l))
    (λ i q. ap (λ (k : ℕ). eqb k 1) (get_or-set_other t (marks_at + e) (marks_at + i) 1 0 (λ h. q (omega arith))))

flags_set : (t : List ℕ) (e k n : ℕ) → e + k ≤ max_expressions → words ≤ length t → emitted_of (mark_from t e k) n ≡ emit (emitted_of t n) e k
unfolding mark_from emit
flags_set t e zero n h l = refl
flags_set t e (suc k) n h l = flags_set (set t (marks_at + e) 1) (suc e) k n (omega arith) (rw (length-set t (marks_at + e) 1) l) ∙ rw (flag_set t e n (omega arith))

-- an emit's last expression is there
abbrev pub Within : List ℕ → ℕ → Type 0
Within fs n = eqb (get_or fs 0 0) 0 ≡ true → (get_or fs 1 0 ≤ get_or fs 2 0) × (get_or fs 2 0 < n)

flags_by : (fs t : List ℕ) (n : ℕ) (b : Bool) → eqb (get_or fs 0 0) 0 ≡ b → Within fs max_expressions → words ≤ length t → emitted_of (mark_by fs t) n ≡ emit_by fs (emitted_of t n)
unfolding mark_by emit_by
flags_by fs t n true e w l =
    let h = w e in
    rw e (flags_set t (get_or fs 1 0) (suc (get_or fs 2 0) - get_or fs 1 0) n (omega arith) l)
flags_by fs t n false e w l = rw e

pub flags_are : (fs t : List ℕ) (n : ℕ) → Within fs max_expressions → words ≤ length t → emitted_of (mark_by fs t) n ≡ emit_by fs (emitted_of t n)
flags_are fs t n w l = flags_by fs t n (eqb (get_or fs 0 0) 0) refl w l

range_within : (s : Scope) (first last : ℕ) (xs : List ℕ) (a b : Bool) → leb first last ≡ a → ltb last s.expressions ≡ b → operands (get_or statement_shapes 0 (never ∷ [])) s (first ∷ last ∷ xs) ≡ true → (first ≤ last) × (last < s.expressions)
unfolding operands taken range_in statement_shapes
range_within s first last xs true true p q e = (leb-true first last p, ltb-true last s.expressions q)
range_within s first last xs false b p q e = absurd (false≢true (rw p at e))
range_within s first last xs true false p q e = absurd (false≢true (rw (p, q) at e))

pub emit_within : (s : Scope) (fs : List ℕ) → fine ST s fs ≡ true → Within fs s.expressions
unfolding fine operands taken range_in statement_shapes
emit_within s [] e z = absurd (false≢true e)
emit_within s (kind ∷ []) e z = absurd (false≢true (rw (eqb-true kind 0 z) at e))
emit_within s (kind ∷ first ∷ []) e z = absurd (false≢true (rw (eqb-true kind 0 z) at e))
emit_within s (kind ∷ first ∷ last ∷ xs) e z = range_within s first last xs (leb first last) (ltb last s.expressions) refl refl (rw (eqb-true kind 0 z) at e)
