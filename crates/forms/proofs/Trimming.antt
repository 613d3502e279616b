-- Trimming, entry by entry: an entry's child in the shape of that part, then the rest, then the entry where something is left. It makes no more cells than there are entries.
use Prim.Native.Nat.{ℕ, zero, suc, ◌+◌, ◌-◌, ◌<◌, ◌≤◌}
use native.Mathlib.Omega.{arith}
use mathlib.Core.Path.{◌≡◌, refl, sym, ap, ◌∙◌}
use mathlib.Core.Bool.{Bool, true, false}
use mathlib.Core.List.{List, [], ◌∷◌}
use mathlib.Core.Option.{Option}
use lib.ListN.{length}
use Rattle.part.specs.PartReq.{PartReq, none, more, entries, spine}
use Rattle.part.specs.Store.{top, part, Good, Room, Made, Seen}
use Rattle.part.proofs.Pieces.{part-0, part-1, part-2}
use Rattle.part.proofs.Write.{stay}
use Rattle.part.proofs.Making.{kept_trans, MakeAsked}
use Rattle.module.specs.Module.{FunctionResult}
use Rattle.module.specs.Tables.{module_of}
use Rattle.std.specs.Prelude.{Option as Optional, Some, None}
use Rattle.access.specs.Access.{global_at, result_from}
use Rattle.access.specs.declared.whole.Bound.{Bound}
use Rattle.access.proofs.Access.{global_is}
use Rattle.context.specs.Types.{types_of}
use Rattle.clearance.specs.Shape.{Shape, void, member, is_void, under, keep, trim}
use Rattle.clearance.specs.Scope.{Scope, inner, variable, slots, kind_shape, frame, result_shape, shape_of}
use Rattle.judge.specs.Given.{scope_at}
use Rattle.forms.specs.ShapeBy.{shape_in}
use Rattle.forms.specs.Frames.{globals_shape, trim_globals}
use Rattle.forms.proofs.Shapes.{shape_is, struct-in, struct_out, struct-before}
use Rattle.forms.proofs.Places.{slot_at, frame_count, frame_is}

-- a child c was made, then a part r, and then what is kept of the entry i before that
then_keep : {s t u w : List ℕ} {q o p : PartReq} {j k r c m n : ℕ} (i : ℕ) → Made s t q j c → Made t u o k r → Made u w (keep i (part u c) (part u r)) 1 n
    → p ≡ keep i q o → 1 + (j + k) ≤ m → Made s w p m n
then_keep i a b d e l = record {
  kept = kept_trans a.kept (kept_trans b.kept d.kept);
  piece = d.piece;
  is = d.is ∙ rw (b.kept.same _ a.piece, a.is, b.is) (sym e);
  cost = omega (arith, a.cost, b.cost, d.cost);
}

trim-low : (s : List ℕ) (p : ℕ) (v : Shape) → (p ≡ 0 → ⊥) → p < 3 → trim (part s p) v ≡ none
unfolding trim
trim-low s zero v a h = absurd (a refl)
trim-low s (suc zero) v a h = rw part-1
trim-low s (suc (suc zero)) v a h = rw part-2
trim-low s (suc (suc (suc p))) v a h = absurd (omega arith)

trim-entry : (i : ℕ) (c r : PartReq) (v : Shape) → trim (more i c r) v ≡ keep i (trim c (member v i)) (trim r v)
unfolding trim
trim-entry i c r v = refl

abbrev TrimAsked : List ℕ → ℕ → Type 0
TrimAsked s p = Good s × ((p < top s) × Room s (entries (part s p)))

abbrev Trimmed : List ℕ → List ℕ → ℕ → Shape → ℕ → Type 0
Trimmed s t p v n = Made s t (trim (part s p) v) (entries (part s p)) n

module _ {s : List ℕ} {p : ℕ} (P : TrimAsked s p) (v : Shape) where
  pub trimmed_void : {b : Bool} → p ≡ 0 → b ≡ is_void v → b ≡ true → Trimmed s s p v 2
  unfolding trim
  trimmed_void e w h = stay s _ _ 2 P.0 (omega (arith, P.0.base)) (rw (e, part-0, part-2, sym w ∙ h))

  pub trimmed_all : {b : Bool} → p ≡ 0 → b ≡ is_void v → b ≡ false → Trimmed s s p v 0
  unfolding trim
  trimmed_all e w h = stay s _ _ 0 P.0 (omega (arith, P.0.base)) (rw (e, part-0, sym w ∙ h))

  pub trimmed_low : (p ≡ 0 → ⊥) → p < 3 → Trimmed s s p v 2
  trimmed_low a h = stay s _ _ 2 P.0 (omega (arith, P.0.base)) (part-2 s ∙ sym (trim-low s p v a h))

  module _ {i c r : ℕ} (x : Seen s p i c r) where
    pub child_asks : TrimAsked s c
    child_asks = (P.0, (omega (arith, x.child_low, P.1.0), omega (arith, x.weight, P.1.1)))

    pub child_call : {z : ℕ} → p ≡ z → (c < z) × TrimAsked s c
    child_call e = (omega (arith, x.child_low), child_asks)

    module _ (m : Shape) (o : m ≡ member v i) {t : List ℕ} {d : ℕ} (a : Trimmed s t c m d) where
      rest_same : part t r ≡ part s r
      rest_same = a.kept.same r (omega (arith, x.rest_low, P.1.0))

      pub rest_call : {z : ℕ} → p ≡ z → (r < z) × TrimAsked t r
      rest_call e = (
        omega (arith, x.rest_low),
        (a.kept.good, (omega (arith, x.rest_low, P.1.0, a.kept.tops), omega (arith, x.weight, P.1.1, a.cost, a.kept.long, ap entries rest_same))),
      )

      module _ {u : List ℕ} {e : ℕ} (b : Trimmed t u r v e) where
        pub keep_asks : MakeAsked u d e
        keep_asks = (
          b.kept.good,
          (
            omega (arith, x.weight, P.1.1, a.cost, b.cost, a.kept.long, b.kept.long, ap entries rest_same),
            (omega (arith, a.piece, b.kept.tops), b.piece),
          ),
        )

        pub trimmed_entry : {w : List ℕ} {n : ℕ} → Made u w (keep i (part u d) (part u e)) 1 n → Trimmed s w p v n
        trimmed_entry k =
            then_keep i a b k (rw (x.is, o, rest_same) (trim-entry i (part s c) (part s r) v)) (omega (arith, x.weight, ap entries rest_same))

-- the globals' shape
module _ (bytes t types : List ℕ) where
  globals_void : is_void (globals_shape bytes t types) ≡ false
  unfolding globals_shape slots
  globals_void = refl

  pub globals_all : {s : List ℕ} {p : ℕ} → TrimAsked s p → p ≡ 0 → Trimmed s s p (globals_shape bytes t types) 0
  globals_all P e = trimmed_all P (globals_shape bytes t types) e (sym globals_void) refl

  pub global_low : {i : ℕ} → i < spine → void ≡ member (globals_shape bytes t types) i
  unfolding globals_shape slots
  global_low {i} h = sym (struct-before spine _ i _ h)

  module _ {i n : ℕ} (l : spine ≤ i) (c : n ≡ length (module_of bytes t).globals) where
    pub global_past : n ≤ i - spine → void ≡ member (globals_shape bytes t types) i
    unfolding globals_shape slots
    global_past h = sym (struct_out spine (length (module_of bytes t).globals) i _ (omega arith))

    pub global_there : {h : ℕ} → i - spine < n → h ≡ global_at bytes t (i - spine) → shape_in (types_of types) h ≡ member (globals_shape bytes t types) i
    unfolding globals_shape slots
    global_there {h} g w =
        let b : i - spine < length (module_of bytes t).globals = omega arith in
        sym (struct-in spine (length (module_of bytes t).globals) i _ l (omega arith) ∙ ap (shape_in (types_of types)) (global_is bytes t (i - spine) 0 b ∙ sym w))

  -- what is left of p, of the globals
  module _ {s u : List ℕ} (p : ℕ) {m : ℕ} (a : Trimmed s u p (globals_shape bytes t types) m) where
    pub globals_trimmed : {w : List ℕ} {n : ℕ} → Made u w (keep (variable 0) (part u m) (part u 2)) 1 n → Made s w (trim_globals bytes t types (part s p)) (1 + entries (part s p)) n
    unfolding trim_globals
    globals_trimmed k = record {
      kept = kept_trans a.kept k.kept;
      piece = k.piece;
      is = k.is ∙ rw (a.is, part-2);
      cost = omega (arith, a.cost, k.cost);
    }

-- of the globals it is what the clearance's `ending` has
globals_are : (bytes t types : List ℕ) (f : ℕ) → (module_of bytes t).types ≡ types_of types → kind_shape (scope_at bytes t f) 0 ≡ globals_shape bytes t types
unfolding kind_shape globals_shape shape_of shape_in inner
globals_are bytes t types f e = rw e

first_map : (S : Scope) → member (frame S) (variable 0) ≡ kind_shape S 0
unfolding frame_count
first_map S = rw (frame_is S) (slot_at (frame_count S) 0 (kind_shape S) (omega arith))

pub ending_is : (bytes t types : List ℕ) (f : ℕ) → (module_of bytes t).types ≡ types_of types → (p : PartReq) → trim (under (variable 0 ∷ []) p) (frame (scope_at bytes t f)) ≡ trim_globals bytes t types p
unfolding trim under trim_globals
ending_is bytes t types f e p = ap (λ v. keep (variable 0) (trim p v) none) (first_map (scope_at bytes t f) ∙ globals_are bytes t types f e)

-- a function's result
module _ (S : Scope) {o : Optional Bound} {r : Option FunctionResult} (w : result_from o ≡ r) where
  pub result_void : o ≡ None → void ≡ result_shape S r
  unfolding result_shape
  result_void h = rw (← w, h)

  pub result_type : (types : List ℕ) (b : Bound) → S.program.types ≡ types_of types → o ≡ Some b → shape_in (types_of types) b.ty.0 ≡ result_shape S r
  unfolding result_shape
  result_type types b e h = rw (← w, h) (sym (shape_is types S e b.ty.0))
