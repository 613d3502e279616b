-- No expression stands in two emits: the flags of what has been emitted say which expressions the emits so far have, and a new emit has only such as
-- have none.
use mathlib.Core.Path.{◌≡◌, refl, sym, ap, ◌∙◌, subst}
use mathlib.Core.Bool.{Bool, true, false, not, cond, false≢true, ◌&&◌}
use mathlib.Core.Logic.{⊎_elim}
use mathlib.Core.List.{List, [], ◌∷◌, ◌++◌}
use mathlib.Core.Option.{some}
use Prim.Native.Nat.{ℕ, zero, suc, ◌+◌, ◌-◌, ◌<◌, ◌≤◌}
use native.Mathlib.Decide.{ℕ_discrete}
use native.Mathlib.Nat.{eq-or-lt_of_le, le_of_suc-le-suc}
use native.Mathlib.Omega.{arith}
use lib.Dec.{ltb, leb, eqb}
use lib.ListN.{length, get_or, set, length-set, get_or-append}
use lib.Seq.{get_or_at, get_or-set_same}
use borrow.Author.Tests.{ltb-true, not-true}
use Rattle.module.specs.Module.{Statement, Emit}
use Rattle.module.specs.declared.record.Mark.TheVariants.{ST}
use Rattle.module.specs.Kinds.{statement_kind}
use Rattle.module.specs.Decode.{statement_of, st_of}
use Rattle.module.specs.Operands.{Scope, unemitted, range_in, taken, operands}
use Rattle.module.specs.Shape.{statement_shapes}
use Rattle.module.specs.Reading.{emit, emit_by}
use Rattle.module.specs.File.{fine}
use Rattle.module.proofs.Each.{each}
use Rattle.valid.specs.Valid.{Emits, emits, EmittedOnce}
use Rattle.valid.proofs.Fits.{and_left, and_right, given-true}
use Rattle.valid.proofs.Lists.{length-one_more}

-- The flags.
pub emit-length : (bs : List Bool) (e n : ℕ) → length (emit bs e n) ≡ length bs
unfolding emit
emit-length bs e zero = refl
emit-length bs e (suc n) = emit-length (set bs e true) (suc e) n ∙ length-set bs e true

pub emit_by-length : (fs : List ℕ) (bs : List Bool) → length (emit_by fs bs) ≡ length bs
unfolding emit_by
emit_by-length fs bs = go (eqb (get_or fs 0 0) 0)
  where
    go : (b : Bool) → length (cond b (emit bs (get_or fs 1 0) (suc (get_or fs 2 0) - get_or fs 1 0)) bs) ≡ length bs
    go true = emit-length bs (get_or fs 1 0) (suc (get_or fs 2 0) - get_or fs 1 0)
    go false = refl

-- one that is set stays so
set-stays : (bs : List Bool) (e k : ℕ) → get_or bs k false ≡ true → get_or (set bs e true) k false ≡ true
set-stays [] e k h = absurd (false≢true h)
set-stays (b ∷ bs) zero zero h = refl
set-stays (b ∷ bs) zero (suc k) h = h
set-stays (b ∷ bs) (suc e) zero h = h
set-stays (b ∷ bs) (suc e) (suc k) h = set-stays bs e k h

emit-stays : (bs : List Bool) (e n k : ℕ) → get_or bs k false ≡ true → get_or (emit bs e n) k false ≡ true
unfolding emit
emit-stays bs e zero k h = h
emit-stays bs e (suc n) k h = emit-stays (set bs e true) (suc e) n k (set-stays bs e k h)

emit_by-stays : (fs : List ℕ) (bs : List Bool) (k : ℕ) → get_or bs k false ≡ true → get_or (emit_by fs bs) k false ≡ true
unfolding emit_by
emit_by-stays fs bs k h = go (eqb (get_or fs 0 0) 0)
  where
    go : (b : Bool) → get_or (cond b (emit bs (get_or fs 1 0) (suc (get_or fs 2 0) - get_or fs 1 0)) bs) k false ≡ true
    go true = emit-stays bs (get_or fs 1 0) (suc (get_or fs 2 0) - get_or fs 1 0) k h
    go false = h

-- those of an emit are set
emit-sets : (bs : List Bool) (e n k : ℕ) → e ≤ k → k < e + n → k < length bs → get_or (emit bs e n) k false ≡ true
unfolding emit
emit-sets bs e zero k l h m = absurd (omega arith)
emit-sets bs e (suc n) k l h m =
    elim (ℕ_discrete k e) [
      | yes q ↦ emit-stays (set bs e true) (suc e) n k (rw q (get_or-set_same bs e true false (omega arith)))
      | no ne ↦ emit-sets (set bs e true) (suc e) n k (omega arith) (omega arith) (omega (arith, length-set bs e true))
    ]

-- and were not
unemitted-free : (bs : List Bool) (e n k : ℕ) → unemitted bs e n ≡ true → e ≤ k → k < e + n → get_or bs k false ≡ false
unfolding unemitted
unemitted-free bs e zero k u l h = absurd (omega arith)
unemitted-free bs e (suc n) k u l h =
    elim (ℕ_discrete k e) [
      | yes q ↦ rw q (not-true (get_or bs e false) (and_left (not (get_or bs e false)) (unemitted bs (suc e) n) u))
      | no ne ↦ unemitted-free bs (suc e) n k (and_right (not (get_or bs e false)) (unemitted bs (suc e) n) u) (omega arith) (omega arith)
    ]

-- an expression more has none
flag_more : (bs : List Bool) (k : ℕ) → get_or (bs ++ (false ∷ [])) k false ≡ get_or bs k false
flag_more [] zero = refl
flag_more [] (suc k) = refl
flag_more (b ∷ bs) zero = refl
flag_more (b ∷ bs) (suc k) = flag_more bs k

-- A statement that emits is of kind 0.
emits_kind : {e : ℕ} (x : Statement) → Emits e x → statement_kind x ≡ 0
unfolding statement_kind
emits_kind x (emits a b) = refl

other_kind : (o : ℕ → ℕ) (k : ℕ) → eqb (statement_kind (statement_of (suc k) o)) 0 ≡ false
unfolding statement_of statement_kind
other_kind o =
    each (λ k. eqb (statement_kind (statement_of (suc k) o)) 0 ≡ false) 20
    (refl, (refl, (refl, (refl, (refl, (refl, (refl, (refl, (refl, (refl, (refl, (refl, (refl, (refl, (refl, (refl, (refl, (refl, (refl, (refl, tt))))))))))))))))))))
    (λ k. refl)

-- what a statement that is allowed emits had no flag, and has it then
pub record Flags (s : Scope) (fs : List ℕ) (e : ℕ) : Type 0 where
  pub free : get_or s.emitted e false ≡ false
  pub set_now : get_or (emit_by fs s.emitted) e false ≡ true

emitted-flags : (s : Scope) (first last : ℕ) (xs : List ℕ) (e : ℕ) → length s.emitted ≡ s.expressions → fine ST s (zero ∷ first ∷ last ∷ xs) ≡ true → Emits e (Emit first last) → Flags s (zero ∷ first ∷ last ∷ xs) e
unfolding fine operands taken range_in statement_shapes emit_by
emitted-flags s first last xs e l h (emits a b) =
    let free = unemitted s.emitted first (suc last - first) in
    let t = (given-true (leb first last && (ltb last s.expressions && free)) (some xs) (operands [] s) h).0 in
    let u = and_right (leb first last) (ltb last s.expressions && free) t in
    let low = ltb-true last s.expressions (and_left (ltb last s.expressions) free u) in
    record {
      free = unemitted-free s.emitted first (suc last - first) e (and_right (ltb last s.expressions) free u) a (omega arith);
      set_now = emit-sets s.emitted first (suc last - first) e a (omega arith) (omega arith);
    }

statement_flags : (s : Scope) (fs : List ℕ) (e : ℕ) → length s.emitted ≡ s.expressions → fine ST s fs ≡ true → Emits e (st_of fs) → Flags s fs e
unfolding fine operands taken range_in statement_shapes st_of
statement_flags s [] e l h x = absurd (false≢true h)
statement_flags s (zero ∷ []) e l h x = absurd (false≢true h)
statement_flags s (zero ∷ first ∷ []) e l h x = absurd (false≢true h)
statement_flags s (zero ∷ first ∷ last ∷ xs) e l h x = emitted-flags s first last xs e l h (unfold statement_of in x)
statement_flags s (suc k ∷ xs) e l h x =
    absurd
    (false≢true
    (sym (other_kind (λ j. get_or (suc k ∷ xs) (1 + j) 0) k)
    ∙ ap (λ (n : ℕ). eqb n 0) (emits_kind (statement_of (suc k) (λ j. get_or (suc k ∷ xs) (1 + j) 0)) x)))

-- While a function is open: each expression that an emit has is flagged.
pub record Flagged (emitted : List Bool) (expressions : ℕ) (statements : List Statement) : Type 0 where
  pub flags : length emitted ≡ expressions
  pub flagged : (e i : ℕ) (d : Statement) → i < length statements → Emits e (get_or statements i d) → get_or emitted e false ≡ true
  pub once : EmittedOnce statements

pub no_emits : Flagged [] 0 []
no_emits = record { flags = refl; flagged = λ e i d l. absurd (omega arith); once = λ e i j d k l. absurd (omega arith) }

pub expression_more : {emitted : List Bool} {n m : ℕ} {ss : List Statement} → m ≡ suc n → Flagged emitted n ss → Flagged (emitted ++ (false ∷ [])) m ss
expression_more {emitted} q v =
    record {
      flags = omega (arith, length-one_more emitted false, v.flags);
      flagged = λ e i d l x. flag_more emitted e ∙ v.flagged e i d l x;
      once = v.once;
    }

-- one statement more
module _ (s : Scope) (fs : List ℕ) (ss : List Statement) (v : Flagged s.emitted s.expressions ss) (good : fine ST s fs ≡ true) where
  now : (e : ℕ) → Emits e (st_of fs) → Flags s fs e
  now e x = statement_flags s fs e v.flags good x

  here_or : (i : ℕ) (d : Statement) → i < length (ss ++ (st_of fs ∷ [])) → (P : Statement → Type 0) → (i ≡ length ss → P (st_of fs)) → (i < length ss → P (get_or ss i d)) → P (get_or (ss ++ (st_of fs ∷ [])) i d)
  here_or i d l P here before =
      ⊎_elim
      (λ q. subst P (sym (rw q (get_or_at ss (st_of fs) [] d (length ss) refl))) (here q))
      (λ m. subst P (sym (get_or-append ss (st_of fs ∷ []) d i m)) (before m))
      (eq-or-lt_of_le (le_of_suc-le-suc (rw length-one_more at l)))

  pub statement_more : Flagged (emit_by fs s.emitted) s.expressions (ss ++ (st_of fs ∷ []))
  statement_more =
      record {
        flags = emit_by-length fs s.emitted ∙ v.flags;
        flagged = λ e i d l.
            here_or i d l (λ y. Emits e y → get_or (emit_by fs s.emitted) e false ≡ true) (λ q x. (now e x).set_now)
            (λ m x. emit_by-stays fs s.emitted e (v.flagged e i d m x));
        once = λ e i j d k l.
            here_or i d (omega arith) (λ y. Emits e y → Emits e (get_or (ss ++ (st_of fs ∷ [])) j d) → ⊥) (λ q. absurd (omega (arith, length-one_more ss (st_of fs))))
            (λ m x.
            here_or j d l (λ y. Emits e y → ⊥) (λ q y. false≢true (sym (now e y).free ∙ v.flagged e i d m x)) (λ n y. v.once e i j d k n x y));
      }
