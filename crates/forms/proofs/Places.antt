-- The frame's two levels: a map of each kind, a variable in it. Nothing is split there (`Framed`), so taking out goes to the variable's entry and makes the entries
-- before it anew on both levels.
use Prim.Native.Nat.{ℕ, zero, suc, ◌+◌, ◌-◌, ◌*◌, ◌/◌, ◌<◌, ◌≤◌}
use native.Mathlib.Omega.{arith}
use mathlib.Core.Path.{◌≡◌, refl, sym, ap, subst, ◌∙◌}
use mathlib.Core.Bool.{true, false}
use mathlib.Core.List.{List, ◌∷◌}
use lib.ListN.{length, get_or, drop, length-drop}
use lib.Seq.{drop-cons}
use Rattle.std.specs.Prelude.{Option, Some, None}
use Rattle.part.specs.PartReq.{PartReq, all, exist, none, more, there, get_subpart, is_all, width, spine}
use Rattle.part.specs.Store.{top, part, Good, Room, Made}
use Rattle.part.specs.Found.{Got}
use Rattle.part.proofs.Equations.{before, after, at, way, get_subpart-exist, get_subpart-none, get_subpart_before, get_subpart-at, get_subpart-after}
use Rattle.part.proofs.Write.{stay}
use Rattle.part.proofs.Making.{kept_trans}
use Rattle.module.specs.File.{accepted, read_module}
use Rattle.module.specs.Tables.{function_of, module_of}
use Rattle.access.specs.Access.{global_at, local_at}
use Rattle.access.proofs.Access.{global_is, local_is}
use Rattle.valid.specs.There.{There}
use Rattle.valid.proofs.Accepted.{valid}
use Rattle.context.specs.Types.{types_of, AllSized}
use Rattle.type_table.proofs.AllSized.{all_sized}
use Rattle.clearance.specs.Shape.{Shape, member, extent, is_whole, some}
use Rattle.clearance.specs.Scope.{Scope, variable, type_of, slots, kind_shape, frame, shape_of, expressions_of}
use Rattle.clearance.specs.IsNeed.{Tidy, IsNeed}
use Rattle.judge.specs.Given.{scope_at}
use Rattle.judge.proofs.PathSteps.{function_valid}
use Rattle.needs.specs.Lean.{change, leaves}
use Rattle.needs.specs.Framed.{Framed}
use Rattle.forms.specs.ShapeBy.{shape_in}
use Rattle.forms.specs.Narrow.{level_cells, Narrow}
use Rattle.forms.specs.Frames.{Rooted, place_cells}
use Rattle.forms.proofs.Shapes.{shape_is, struct-in}
use Rattle.forms.proofs.Leaves.{leaves-gone, leaves-there, change-same, need_entry, gone_there, inside, struct-width, narrow_type}
use Rattle.forms.proofs.Taking.{Left, EntryAsked, Changed, OutAsked, got_gone, got_there}

-- a function of a module that was read, and the table of its types
pub record Framing (bytes t : List ℕ) (f : ℕ) (types : List ℕ) : Type 0 where
  pub read : read_module bytes ≡ accepted (module_of bytes t)
  pub there : f < length (module_of bytes t).functions
  pub same : (module_of bytes t).types ≡ types_of types
  pub sized : AllSized (types_of types)

-- the sizes too: the module was read
pub framed_by : {bytes t : List ℕ} {f : ℕ} {types : List ℕ} → There bytes t f → (module_of bytes t).types ≡ types_of types → Framing bytes t f types
framed_by {bytes} {t} of same = record {
  read = of.read;
  there = of.there;
  same = same;
  sized = subst AllSized same (all_sized (module_of bytes t) (valid bytes (module_of bytes t) of.read));
}

-- a kind of variables: so many, each with its shape
pub record Slots (v : Shape) : Type 0 where
  pub count : ℕ
  pub shape : ℕ → Shape
  pub is : v ≡ slots count shape
  pub few : count ≤ 64
  pub narrow : (j : ℕ) → Narrow (shape j)

pub slot_at : (n v : ℕ) (shape : ℕ → Shape) → v < n → member (slots n shape) (variable v) ≡ shape v
unfolding slots
slot_at n v shape h =
    let z : variable v - spine ≡ v = omega arith in
    struct-in spine n (variable v) (λ j. shape (j - spine)) (omega arith) (omega arith) ∙ ap shape z

slots-extent : (n : ℕ) (shape : ℕ → Shape) → extent (slots n shape) ≡ n
unfolding slots extent
slots-extent n shape = refl

slots-whole : (n : ℕ) (shape : ℕ → Shape) → is_whole (slots n shape) ≡ false
unfolding slots
slots-whole n shape = refl

-- an entry of a need of slots is one of them, and it has no more than there are
slots-inside : (n : ℕ) (shape : ℕ → Shape) (i : ℕ) (p : PartReq) → some p ≡ true → Tidy p (member (slots n shape) i) → (spine ≤ i) × (i < spine + n)
unfolding slots
slots-inside n shape i p s h = inside spine n (λ j. shape (j - spine)) i p s h

slots-width : (n : ℕ) (shape : ℕ → Shape) (p : PartReq) → IsNeed (slots n shape) p → width p ≤ n
unfolding slots
slots-width n shape p N = struct-width spine n (λ j. shape (j - spine)) p N

-- the maps of a frame
framed_all : (p : PartReq) → Framed p → is_all p ≡ false
framed_all all F = absurd F
framed_all exist F = refl
framed_all none F = refl
framed_all (more i p r) F = refl

framed_entry : (p : PartReq) (i : ℕ) (d : PartReq) → Framed p → get_subpart p i ≡ there d → is_all d ≡ false
framed_entry all i d F e = absurd F
framed_entry exist i d F e = gone_there (sym (get_subpart-exist i) ∙ e)
framed_entry none i d F e = gone_there (sym (get_subpart-none i) ∙ e)
framed_entry (more j c r) i d F e =
    elim (way i j) [
      | before h ↦ gone_there (sym (get_subpart_before j i c r h) ∙ e)
      | after h ↦ framed_entry r i d F.1 (sym (get_subpart-after j i c r h) ∙ e)
      | at h ↦
          let z : there c ≡ there d = sym (get_subpart-at j i c r (sym h)) ∙ e in
          let y : c ≡ d = cc in
          rw (← y) F.0
    ]

module _ {bytes t types : List ℕ} {f : ℕ} (F : Framing bytes t f types) where
  abbrev S : Scope
  S = scope_at bytes t f

  shapes_narrow : (h : ℕ) → Narrow (shape_of S h)
  shapes_narrow h = rw (shape_is types S F.same h) (narrow_type types F.sized h)

  kind_slots : (k : ℕ) → (k ≡ 2 → ⊥) → (k ≡ 3 → ⊥) → Slots (kind_shape S k)
  unfolding kind_shape
  kind_slots zero a b = record { count = _; shape = _; is = refl; few = (valid bytes (module_of bytes t) F.read).few_globals; narrow = λ j. shapes_narrow _ }
  kind_slots (suc zero) a b = record { count = _; shape = _; is = refl; few = (function_valid bytes t f F.read F.there).parts.few_locals; narrow = λ j. shapes_narrow _ }
  kind_slots (suc (suc zero)) a b = absurd (a refl)
  kind_slots (suc (suc (suc zero))) a b = absurd (b refl)
  kind_slots (suc (suc (suc (suc k)))) a b = record { count = 32; shape = _; is = refl; few = omega arith; narrow = λ j. shapes_narrow _ }

  pub place_few : {k v : ℕ} → (k ≡ 2 → ⊥) × (k ≡ 3 → ⊥) → v < extent (kind_shape S k) → v < 64
  place_few {k} {v} a l =
      let z = kind_slots k a.0 a.1 in
      let e : extent (kind_shape S k) ≡ z.count = ap extent z.is ∙ slots-extent z.count z.shape in
      omega (arith, z.few)

  -- the shape of a variable
  global_shape : (v : ℕ) → v < extent (kind_shape S 0) → shape_of S (global_at bytes t v) ≡ member (kind_shape S 0) (variable v)
  unfolding kind_shape
  global_shape v l =
      let h : v < length (module_of bytes t).globals = rw slots-extent at l in
      rw (← global_is bytes t v 0 h) (sym (slot_at (length (module_of bytes t).globals) v (λ g. shape_of S (get_or (module_of bytes t).globals g 0)) h))

  local_shape : (v : ℕ) → v < extent (kind_shape S 1) → shape_of S (local_at bytes t f v) ≡ member (kind_shape S 1) (variable v)
  unfolding kind_shape
  local_shape v l =
      let h : v < length (function_of bytes t f).locals = rw slots-extent at l in
      rw (← local_is bytes t f v 0 h) (sym (slot_at (length (function_of bytes t f).locals) v (λ g. shape_of S (get_or (function_of bytes t f).locals g 0)) h))

  evaluated_shape : (k v : ℕ) → (k ≡ 0 → ⊥) → (k ≡ 1 → ⊥) → (k ≡ 2 → ⊥) × (k ≡ 3 → ⊥) → v < extent (kind_shape S k) → shape_of S (type_of S (32 * (k - 4) + v)) ≡ member (kind_shape S k) (variable v)
  unfolding kind_shape
  evaluated_shape zero v a b c l = absurd (a refl)
  evaluated_shape (suc zero) v a b c l = absurd (b refl)
  evaluated_shape (suc (suc zero)) v a b c l = absurd (c.0 refl)
  evaluated_shape (suc (suc (suc zero))) v a b c l = absurd (c.1 refl)
  evaluated_shape (suc (suc (suc (suc k)))) v a b c l =
      let h : v < 32 = rw slots-extent at l in
      let z : suc (suc (suc (suc k))) - 4 ≡ k = omega arith in
      rw z (sym (slot_at 32 v (λ e. shape_of S (type_of S (32 * k + e))) h))

  module _ {k v : ℕ} (l : v < extent (kind_shape S k)) {h : ℕ} where
    pub place_global : k ≡ 0 → h ≡ global_at bytes t v → shape_in (types_of types) h ≡ member (kind_shape S k) (variable v)
    place_global e w = rw (← shape_is types S F.same h, w, e) (global_shape v (rw e at l))

    pub place_local : k ≡ 1 → h ≡ local_at bytes t f v → shape_in (types_of types) h ≡ member (kind_shape S k) (variable v)
    place_local e w = rw (← shape_is types S F.same h, w, e) (local_shape v (rw e at l))

    pub place_evaluated : (k ≡ 0 → ⊥) → (k ≡ 1 → ⊥) → (k ≡ 2 → ⊥) × (k ≡ 3 → ⊥) → h ≡ type_of S (32 * (k - 4) + v) → shape_in (types_of types) h ≡ member (kind_shape S k) (variable v)
    place_evaluated a b c w = rw (← shape_is types S F.same h, w) (evaluated_shape k v a b c l)

-- a path by its first two indexes
two_first : (path : List ℕ) → 2 ≤ length path → path ≡ get_or path 0 0 ∷ (get_or path 1 0 ∷ drop 2 path)
two_first path h = drop-cons path 0 0 (omega arith) ∙ ap (λ q. get_or path 0 0 ∷ q) (drop-cons path 1 0 (omega arith))

unfoldable pub frame_count : Scope → ℕ
frame_count S = 5 + length (expressions_of S) / 32

pub frame_is : (S : Scope) → frame S ≡ slots (frame_count S) (kind_shape S)
unfolding frame frame_count
frame_is S = refl

-- what `take_place` asks
abbrev PlaceAsked : List ℕ → List ℕ → ℕ → List ℕ → List ℕ → ℕ → List ℕ → Type 0
PlaceAsked bytes t f types s n path =
    Good s
    × ((Framing bytes t f types × Rooted path)
    × (((n < top s) × Framed (part s n)) × (IsNeed (frame (scope_at bytes t f)) (part s n) × Room s (place_cells path))))

-- the map m is the entry x of the needs n
pub record Map (S : Scope) (s : List ℕ) (n x m : ℕ) : Type 0 where
  pub low : m < top s
  pub entry : get_subpart (part s n) x ≡ there (part s m)
  pub is : member (frame S) x ≡ kind_shape S (x - spine)
  pub few : x < spine + 64
  pub need : IsNeed (member (frame S) x) (part s m)
  pub some : some (part s m) ≡ true
  pub framed : is_all (part s m) ≡ false
  pub slots : Slots (member (frame S) x)

-- the value c is the entry y of the map m
pub record Value (S : Scope) (s : List ℕ) (x m y c : ℕ) : Type 0 where
  pub low : c < top s
  pub entry : get_subpart (part s m) y ≡ there (part s c)
  pub there : y - spine < extent (kind_shape S (x - spine))
  pub same : variable (y - spine) ≡ y
  pub need : IsNeed (member (member (frame S) x) y) (part s c)
  pub narrow : Narrow (member (member (frame S) x) y)

module _ {bytes t types s path : List ℕ} {f n : ℕ} (P : PlaceAsked bytes t f types s n path) where
  abbrev whole : Shape
  whole = frame (scope_at bytes t f)

  frame_whole : is_whole whole ≡ false
  frame_whole = rw (frame_is (scope_at bytes t f)) (slots-whole _ _)

  frame_few : frame_count (scope_at bytes t f) ≤ 37
  unfolding frame_count
  frame_few =
      let few = (function_valid bytes t f P.1.0.0.read P.1.0.0.there).parts.few_expressions in
      omega arith

  frame_width : width (part s n) ≤ 37
  frame_width =
      let N = P.1.1.1.0 in
      let h = slots-width (frame_count (scope_at bytes t f)) (kind_shape (scope_at bytes t f)) (part s n) (rw (frame_is (scope_at bytes t f)) at N) in
      omega (arith, frame_few)

  plain : is_all (part s n) ≡ false
  plain = framed_all (part s n) P.1.1.0.1

  module _ {x : ℕ} (e : x ≡ get_or path 0 0) (g : Option ℕ) (a : Got s (get_subpart (part s n) x) g) where
    pub map_gone : g ≡ None → Made s s (leaves whole (part s n) path) (place_cells path) n
    map_gone b =
        stay s _ _ n P.0 P.1.1.0.0
        (sym (ap (leaves whole (part s n)) (rw (← e) at (two_first path P.1.0.1.long)) ∙ leaves-gone whole x _ (part s n) frame_whole plain (got_gone s (part s n) x g b a)))

    pub map_there : {m : ℕ} → g ≡ Some m → Map (scope_at bytes t f) s n x m
    map_there {m} b =
        let o = got_there s (part s n) x g b a in
        let w = need_entry whole (part s n) x (part s m) P.1.1.1.0 plain o.1 in
        let T = w.1.tidy in
        let r = slots-inside (frame_count (scope_at bytes t f)) (kind_shape (scope_at bytes t f)) x (part s m) w.0 (rw (frame_is (scope_at bytes t f)) at T) in
        let z : variable (x - spine) ≡ x = omega arith in
        let l : x - spine < frame_count (scope_at bytes t f) = omega arith in
        let i : member whole x ≡ kind_shape (scope_at bytes t f) (x - spine) =
        rw (frame_is (scope_at bytes t f)) (rw z at (slot_at (frame_count (scope_at bytes t f)) (x - spine) (kind_shape (scope_at bytes t f)) l)) in
        record {
          low = o.0;
          entry = o.1;
          is = i;
          few = omega (arith, frame_few);
          need = w.1;
          some = w.0;
          framed = framed_entry (part s n) x (part s m) P.1.1.0.1 o.1;
          slots = rw i (kind_slots P.1.0.0 (x - spine) (λ q. P.1.0.1.argument (omega arith)) (λ q. P.1.0.1.result (omega arith)));
        }

  module _ {x m y : ℕ} (M : Map (scope_at bytes t f) s n x m) (e : x ≡ get_or path 0 0) (d : y ≡ get_or path 1 0) where
    path_is : path ≡ x ∷ (y ∷ drop 2 path)
    path_is = rw (e, d) (two_first path P.1.0.1.long)

    outer : leaves whole (part s n) path ≡ change x (λ c. leaves (member whole x) (part s m) (y ∷ drop 2 path)) (part s n)
    outer = ap (leaves whole (part s n)) path_is ∙ leaves-there whole x (y ∷ drop 2 path) (part s n) frame_whole plain (part s m) M.entry

    map_whole : is_whole (member whole x) ≡ false
    map_whole = rw M.slots.is (slots-whole M.slots.count M.slots.shape)

    module _ (g : Option ℕ) (a : Got s (get_subpart (part s m) y) g) where
      pub value_gone : g ≡ None → Made s s (leaves whole (part s n) path) (place_cells path) n
      value_gone b =
          let z = leaves-gone (member whole x) y (drop 2 path) (part s m) map_whole M.framed (got_gone s (part s m) y g b a) in
          stay s _ _ n P.0 P.1.1.0.0 (sym (outer ∙ (ap (λ o. change x (λ c. o) (part s n)) z ∙ change-same x (part s n) (part s m) M.entry M.some)))

      pub value_there : {c : ℕ} → g ≡ Some c → Value (scope_at bytes t f) s x m y c
      value_there {c} b =
          let o = got_there s (part s m) y g b a in
          let w = need_entry (member whole x) (part s m) y (part s c) M.need M.framed o.1 in
          let T = w.1.tidy in
          let r = slots-inside M.slots.count M.slots.shape y (part s c) w.0 (rw M.slots.is at T) in
          let z : variable (y - spine) ≡ y = omega arith in
          let l : y - spine < M.slots.count = omega arith in
          let k : extent (kind_shape (scope_at bytes t f) (x - spine)) ≡ M.slots.count =
          ap extent (sym M.is ∙ M.slots.is) ∙ slots-extent M.slots.count M.slots.shape in
          record {
            low = o.0;
            entry = o.1;
            there = omega arith;
            same = z;
            need = w.1;
            narrow = rw (M.slots.is, rw z at (slot_at M.slots.count (y - spine) M.slots.shape l)) (M.slots.narrow (y - spine));
          }

    module _ {c : ℕ} (C : Value (scope_at bytes t f) s x m y c) where
      pub form_asks : ((x - spine ≡ 2 → ⊥) × (x - spine ≡ 3 → ⊥)) × ((x - spine ≤ 64) × (y - spine < extent (kind_shape (scope_at bytes t f) (x - spine))))
      form_asks =
          (((λ q. P.1.0.1.argument (omega arith)), (λ q. P.1.0.1.result (omega arith))), (omega (arith, M.few), C.there))

      module _ (w : Shape) (q : w ≡ member (kind_shape (scope_at bytes t f) (x - spine)) (variable (y - spine))) where
        value_is : w ≡ member (member whole x) y
        value_is = q ∙ rw (C.same, M.is)

        room : place_cells path ≡ 160 + level_cells * length (drop 2 path)
        room = omega (arith, length-drop 2 path, P.1.0.1.long)

        pub out_asks : OutAsked s w c (drop 2 path)
        out_asks = (
          P.0,
          (
            rw value_is C.narrow,
            ((C.low, rw value_is C.need), omega (arith, room, P.1.1.1.1)),
          ),
        )

        module _ {t₁ : List ℕ} {d₁ : ℕ} (L : Left s t₁ w (part s c) (drop 2 path) d₁) where
          map_width : width (part t₁ m) ≤ 64
          map_width =
              let N = M.need in
              let h = slots-width M.slots.count M.slots.shape (part s m) (rw M.slots.is at N) in
              rw (L.kept.same m M.low) (omega (arith, M.slots.few))

          pub value_asks : EntryAsked t₁ m d₁
          value_asks =
              (L.kept.good, ((omega (arith, M.low, L.kept.tops), L.piece), omega (arith, map_width, room, P.1.1.1.1, L.cost, L.kept.long)))

          module _ {t₂ : List ℕ} {o : ℕ} (E : Changed t₁ t₂ m y d₁ o) where
            same_needs : part t₂ n ≡ part s n
            same_needs = E.kept.same n (omega (arith, P.1.1.0.0, L.kept.tops)) ∙ L.kept.same n P.1.1.0.0

            wide : width (part t₂ n) ≤ 37
            wide = rw same_needs frame_width

            pub map_asks : EntryAsked t₂ n o
            map_asks = (
              E.kept.good,
              (
                (omega (arith, P.1.1.0.0, L.kept.tops, E.kept.tops), E.piece),
                omega (arith, map_width, wide, room, P.1.1.1.1, L.cost, E.cost, L.kept.long, E.kept.long),
              ),
            )

            pub place_left : {u : List ℕ} {r : ℕ} → Changed t₂ u n x o r → Made s u (leaves whole (part s n) path) (place_cells path) r
            place_left D = record {
              kept = kept_trans L.kept (kept_trans E.kept D.kept);
              piece = D.piece;
              is =
                  D.is ∙ rw (same_needs, E.is, L.kept.same m M.low, L.is, value_is)
                  (sym
                  (outer
                  ∙ ap (λ z. change x (λ c. z) (part s n))
                  (leaves-there (member whole x) y (drop 2 path) (part s m) map_whole M.framed (part s c) C.entry)));
              cost = omega (arith, map_width, wide, room, L.cost, E.cost, D.cost);
            }
