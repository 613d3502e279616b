-- What an act gives that is needed, as a piece: the part of a trimmed need at the act's place stands as it is. A piece is something by its number.
use Prim.Native.Nat.{ℕ, zero, suc, ◌+◌, ◌<◌, ◌≤◌}
use native.Mathlib.Omega.{arith}
use mathlib.Core.Path.{◌≡◌, refl, sym, ap, subst, ◌∙◌}
use mathlib.Core.Bool.{Bool, true, false, cond, not}
use mathlib.Core.List.{List}
use lib.Dec.{ltb}
use lib.ListN.{length}
use borrow.Author.Tests.{lt-ltb}
use Rattle.std.specs.Prelude.{Option, None, Some, is_some, IfSome}
use Rattle.std.specs.Bool.{then_some}
use Rattle.part.specs.PartReq.{PartReq, all, exist, none, more}
use Rattle.part.specs.Store.{part, means}
use Rattle.part.specs.Subparts.{Piece}
use Rattle.part.proofs.Pieces.{part-0}
use Rattle.part.proofs.Equations.{never}
use Rattle.module.specs.Tables.{function_of}
use Rattle.clearance.specs.Shape.{Shape, some, below, is_void, member, keep, trim, hit}
use Rattle.clearance.specs.Scope.{Scope, Place, slot, evaluated, path_of, target, is_path, frame, arm}
use Rattle.clearance.specs.Tree.{Act, emit, store}
use Rattle.clearance.specs.Needs.{gives, overlap, idle}
use Rattle.clearance.specs.IsNeed.{Tidy}
use Rattle.judge.specs.Given.{scope_at}
use Rattle.needs.proofs.Lean.{hit-below}
use Rattle.asked.proofs.Acts.{emit-overlap}
use Rattle.framed.proofs.Paths.{landed}
use Rattle.standing.specs.World.{World}
use Rattle.place.specs.declared.pointer.PointerExpression.{PointerExpression}
use Rattle.place.specs.declared.target.Target.{Target}
use Rattle.place.specs.Target.{TargetFound, part as counts}
use Rattle.place.specs.Steps.{scope_in, function_from}
use Rattle.quiet.specs.Acts.{Needing, Something, Overlap, Idle}

-- Something or not
pub some-all : {p : ℕ} → p ≡ 0 → (s : List ℕ) → true ≡ some (part s p)
some-all e s = rw (e, part-0)

pub some-by : (p : ℕ) → (p ≡ 0 → ⊥) → (s : List ℕ) → ltb 2 p ≡ some (part s p)
unfolding part means
some-by zero h s = absurd (h refl)
some-by (suc zero) h s = refl
some-by (suc (suc zero)) h s = refl
some-by (suc (suc (suc p))) h s = rw (lt-ltb 2 (suc (suc (suc p))) (omega arith))

-- The code's answer, from the piece
unless : (p : ℕ) (b : Bool) → ((s : List ℕ) → b ≡ some (part s p)) → Something p (then_some b p)
unless p true h = record { is = h; piece = refl }
unless p false h = record { is = h; piece = tt }

pub something_is : {p : ℕ} {b : Bool} {r : Option ℕ} → r ≡ then_some b p → ((s : List ℕ) → b ≡ some (part s p)) → Something p r
something_is {p} {b} e h = rw e (unless p b h)

if_same : (P : ℕ → Type 0) {p : ℕ} → P p → (o : Option ℕ) → IfSome o (λ q. q ≡ p) → IfSome o P
if_same P x None e = tt
if_same P x (Some q) e = rw e x

-- What is trimmed is never exist: where it is not something, it is none
kept-none : (i : ℕ) (c r : PartReq) → (some r ≡ false → r ≡ none) → some (keep i c r) ≡ false → keep i c r ≡ none
unfolding keep
kept-none i all r h w = never (sym w)
kept-none i exist r h w = h w
kept-none i none r h w = h w
kept-none i (more j p s) r h w = never (sym w)

all-none : (b : Bool) → some (cond b none all) ≡ false → cond b none all ≡ none
all-none true w = refl
all-none false w = never (sym w)

trim-none : (p : PartReq) (t : Shape) → some (trim p t) ≡ false → trim p t ≡ none
unfolding trim
trim-none all t w = all-none (is_void t) w
trim-none exist t w = refl
trim-none none t w = refl
trim-none (more i p r) t w = kept-none i (trim p (member t i)) (trim r t) (trim-none r t) w

given-none : (b : Bool) (p : PartReq) (t : Shape) → some (cond b (trim p t) none) ≡ false → cond b (trim p t) none ≡ none
given-none true p t w = trim-none p t w
given-none false p t w = refl

overlap-none : (S : Scope) (x : Act) (n : PartReq) → some (overlap S x n) ≡ false → overlap S x n ≡ none
unfolding overlap hit
overlap-none S (emit e) n w = given-none (gives (arm S e)) _ _ w
overlap-none S (store p v) n w = trim-none _ _ w

overlap_by : {S : Scope} {x : Act} {s : List ℕ} {n : PartReq} {p : ℕ} → Piece s (overlap S x n) p → {o : Option ℕ} → Something p o → {before after : List ℕ} → length after ≡ length before → Overlap S x s n before after o
overlap_by {S} {x} {s} {n} w {o} d l =
    let e : is_some o ≡ some (overlap S x n) = d.is s ∙ ap some w.is in
    record { is = e; piece = if_same (Piece s (overlap S x n)) w o d.piece; nothing = λ h. overlap-none S x n (sym e ∙ ap is_some h); long = l }

-- A store, whatever its value
pub store_below : {bytes t : List ℕ} {f : ℕ} {types alike : List ℕ} {paths : List Bool} → World bytes t f types alike paths → {p : ℕ} → p < length (function_of bytes t f).expressions → is_path (scope_at bytes t f) p ≡ true → (v : ℕ) (n : PartReq) →
    Tidy n (frame (scope_at bytes t f)) → overlap (scope_at bytes t f) (store p v) n ≡ below n (target (path_of (scope_at bytes t f) p))
unfolding overlap
store_below {bytes} {t} {f} w {p} l h v n d =
    hit-below (frame (scope_at bytes t f)) n _ d (landed (scope_at bytes t f) w.read w.judged p l h).place.within

module _ {bytes t : List ℕ} {f : ℕ} {types alike : List ℕ} {paths : List Bool} {cells : List ℕ} {m : ℕ} (g : Needing bytes t f types alike paths cells m) where
  abbrev S : Scope
  S = scope_at bytes t f

  module _ {e : ℕ} (l : e < length (function_of bytes t f).expressions) {r : Bool} (q : r ≡ gives (arm S e)) where
    takes : overlap S (emit e) (part cells m) ≡ cond (gives (arm S e)) (below (part cells m) (slot (evaluated e))) none
    takes = emit-overlap S g.world.read g.world.judged e l (part cells m) g.kept.need.tidy

    pub emit_none : {before : List ℕ} → r ≡ false → Overlap S (emit e) cells (part cells m) before before None
    emit_none h =
        let z : overlap S (emit e) (part cells m) ≡ none = takes ∙ rw (sym q ∙ h) in
        record { is = sym (ap some z); piece = tt; nothing = λ e. z; long = refl }

    pub emit-some : {before after : List ℕ} → r ≡ true → length after ≡ length before → {place : Place} → place ≡ slot (evaluated e) → {x : ℕ} → Piece cells (below (part cells m) place) x →
        {o : Option ℕ} → Something x o → Overlap S (emit e) cells (part cells m) before after o
    emit-some h k y z d = overlap_by (record { piece = z.piece; is = z.is ∙ rw y (sym (takes ∙ rw (sym q ∙ h))) }) d k

  -- a pointer of the function
  module _ (p : PointerExpression) (same : scope_in p ≡ S) where
    there : p.e.0 < length (function_of bytes t f).expressions
    there = subst (λ (U : Scope). p.e.0 < length U.function.expressions) same p.pointer.there

    leads : is_path S p.e.0 ≡ true
    leads = subst (λ (U : Scope). is_path U p.e.0 ≡ true) same p.pointer.path

    pub store_room : (path : List ℕ) → length (function_of bytes t f).expressions + 2 ≤ length path → length (function_from p).expressions + 2 ≤ length path
    store_room path l = let z : length (function_from p).expressions ≡ length (function_of bytes t f).expressions = ap (λ (U : Scope). length U.function.expressions) same in omega arith

    pub store-some : {before after : List ℕ} {r : Target} → TargetFound (scope_in p) p.e.0 before after r → {x : ℕ} → Piece cells (below (part cells m) (counts after r.from r.to)) x →
        {o : Option ℕ} → Something x o → (v : ℕ) → Overlap S (store p.e.0 v) cells (part cells m) before after o
    store-some h z d v =
        let y = h.is ∙ ap (λ (U : Scope). target (path_of U p.e.0)) same in
        overlap_by (record { piece = z.piece; is = z.is ∙ rw y (sym (store_below g.world there leads v (part cells m) g.kept.need.tidy)) }) d h.long

twice : (b : Bool) → not (not b) ≡ b
twice true = refl
twice false = refl

-- Idle is what gives nothing
pub idle_by : {S : Scope} {x : Act} {s : List ℕ} {n : PartReq} {before after : List ℕ} {o : Option ℕ} {r : Bool} → Overlap S x s n before after o → is_some o ≡ not r → Idle S x n before after r
unfolding idle
idle_by {r = r} d h = record { is = sym (ap not (sym d.is ∙ h) ∙ twice r); long = d.long }
