-- A context as one piece: its entries are its maps, so that what is taken back is what was put aside. Its cells are made one behind the other.
use Prim.Native.Nat.{ℕ, ◌+◌, ◌<◌, ◌≤◌}
use native.Mathlib.Omega.{arith}
use mathlib.Core.Path.{◌≡◌, refl, ap, ◌∙◌}
use mathlib.Core.Bool.{Bool, true, false, ◌||◌}
use mathlib.Core.List.{List}
use lib.ListN.{length, get_or, set, length-set}
use Rattle.field.specs.Limits.{max_pieces}
use Rattle.part.specs.PartReq.{PartReq, none, more, get_subpart, entries, over}
use Rattle.part.specs.Store.{top, part, Good, Room, Made}
use Rattle.part.specs.Subparts.{or_none, Piece}
use Rattle.part.proofs.Pieces.{part-2}
use Rattle.part.proofs.Making.{kept_trans}
use Rattle.part.proofs.Write.{stay}
use Rattle.part.proofs.Sizes.{over-variable}
use Rattle.context.specs.RequiredContext.{RequiredContext, variable, over_context, pieces}
use Rattle.context.specs.Contexts.{HasContext}
use Rattle.context.specs.declared.required_context.RequiredContext.{RequiredContext as Pieces}
use Rattle.memory.specs.Layout.{result, stack_slot}
use Rattle.memory.specs.Memory.{read, context_at, Memory}
use Rattle.memory.specs.Stretches.{four_set}
use Rattle.memory.proofs.Slots.{slot_low, kept_memory, set-read, hold_memory}
use Rattle.memory.proofs.Runs.{four_read, four_memory, four_long}
use Rattle.block.specs.Saved.{Saved, Loaded}
use Rattle.block.specs.Aside.{aside, from_aside, Asiding, Aside}
use Rattle.block.proofs.Saving.{loaded_is, loaded_has}

pub aside-back : (c : RequiredContext) → from_aside (aside c) ≡ c
unfolding aside from_aside get_subpart
aside-back c = refl

aside-entries : (c : RequiredContext) → entries (aside c) ≡ 4 + pieces c
unfolding aside entries pieces
aside-entries c = omega arith

or_parts : (a b c d : Bool) → (a || b || c || d) ≡ false → (a || (b || (c || (d || false)))) ≡ false
or_parts false false false false h = refl
or_parts false false false true h = h
or_parts false false true d h = h
or_parts false true c d h = h
or_parts true b c d h = h

aside-within : (c : RequiredContext) → over_context c ≡ false → over (aside c) ≡ false
unfolding aside over_context
aside-within c h =
    rw (
      over-variable 0 c.globals (more (variable 1) c.locals (more (variable 2) c.args (more (variable 3) c.retval none))),
      over-variable 1 c.locals (more (variable 2) c.args (more (variable 3) c.retval none)),
      over-variable 2 c.args (more (variable 3) c.retval none),
      over-variable 3 c.retval none,
    ) (unfold over in or_parts (over c.globals) (over c.locals) (over c.args) (over c.retval) h)

-- a cell before what was made
module _ {s t : List ℕ} {rest : PartReq} {k r : ℕ} (M : Made s t rest k r) (child : ℕ) (l : child < top s) where
  link_asks : Room s (k + 1) → Good t × (Room t 1 × ((child < top t) × (r < top t)))
  link_asks R = (M.kept.good, (omega (arith, M.cost, M.kept.long), (omega (arith, M.kept.tops), M.piece)))

  linked : {u : List ℕ} {i x : ℕ} → Made t u (more i (part t child) (part t r)) 1 x → Made s u (more i (part s child) rest) (k + 1) x
  linked N = record {
    kept = kept_trans M.kept N.kept;
    piece = N.piece;
    is = N.is ∙ rw (M.kept.same child l, M.is);
    cost = omega (arith, M.cost, N.cost);
  }

module _ {s rs : List ℕ} {k : ℕ} {c : Pieces} (A : Asiding s rs k) (h : Loaded rs k c) where
  abbrev Link : (t u : List ℕ) → (i child r x : ℕ) → Type 0
  Link t u i child r x = Made t u (more i (part t child) (part t r)) 1 x

  here : HasContext s c
  here = loaded_has A.memory A.high h

  none_made : Made s s none 0 2
  none_made = stay s none 0 2 A.memory.good (omega (arith, A.memory.good.base)) (part-2 s)

  pub retval-asks : Good s × (Room s 1 × ((c.retval < top s) × (2 < top s)))
  retval-asks = link_asks none_made c.retval here.retval (omega (arith, A.roomy))

  module _ {t₁ : List ℕ} {x₁ : ℕ} (M₁ : Link s t₁ (variable 3) c.retval 2 x₁) where
    abbrev one : Made s t₁ (more (variable 3) (part s c.retval) none) (0 + 1) x₁
    one = linked none_made c.retval here.retval M₁

    pub args-asks : Good t₁ × (Room t₁ 1 × ((c.args < top t₁) × (x₁ < top t₁)))
    args-asks = link_asks one c.args here.args (omega (arith, A.roomy))

    module _ {t₂ : List ℕ} {x₂ : ℕ} (M₂ : Link t₁ t₂ (variable 2) c.args x₁ x₂) where
      abbrev two : Made s t₂ (more (variable 2) (part s c.args) (more (variable 3) (part s c.retval) none)) (0 + 1 + 1) x₂
      two = linked one c.args here.args M₂

      pub locals-asks : Good t₂ × (Room t₂ 1 × ((c.locals < top t₂) × (x₂ < top t₂)))
      locals-asks = link_asks two c.locals here.locals (omega (arith, A.roomy))

      module _ {t₃ : List ℕ} {x₃ : ℕ} (M₃ : Link t₂ t₃ (variable 1) c.locals x₂ x₃) where
        abbrev three : Made s t₃ (more (variable 1) (part s c.locals) (more (variable 2) (part s c.args) (more (variable 3) (part s c.retval) none))) (0 + 1 + 1 + 1) x₃
        three = linked two c.locals here.locals M₃

        pub globals_asks : Good t₃ × (Room t₃ 1 × ((c.globals < top t₃) × (x₃ < top t₃)))
        globals_asks = link_asks three c.globals here.globals (omega (arith, A.roomy))

        pub aside_done : {u us : List ℕ} {x : ℕ} → Link t₃ u (variable 0) c.globals x₃ x → us ≡ set rs result x → Aside s rs k u us
        aside_done {u} {us} {x} M₄ e =
            let four = linked three c.globals here.globals M₄ in
            let is : part u x ≡ aside (context_at (read s rs) k) = four.is ∙ unfold aside in ap aside (loaded_is A.memory A.high h) in
            let few : entries (part u x) ≤ max_pieces + 4 = rw is (omega (arith, aside-entries (context_at (read s rs) k), A.few)) in
            let within : over (part u x) ≡ false = rw is (aside-within (context_at (read s rs) k) A.within) in
            record {
              stored = record {
                memory = rw e (hold_memory (kept_memory A.memory four.kept) (omega arith) (omega arith) four.piece few within);
                reads = rw e (set-read rs result x four.kept A.memory.below is);
                long = rw e (length-set rs result x);
              };
              spent = omega (arith, four.cost);
            }

-- what was put aside is there
pub result_asks : {s rs : List ℕ} → Memory s rs → Good s × (get_or rs result 0 < top s)
result_asks m = (m.good, (slot_low m result (omega arith)).1)

-- the context back in its slots
pub taken_back : {s rs us : List ℕ} {k g l a r : ℕ} → Memory s rs → (stack_slot ≤ k) × (k + 4 ≤ length rs) → (p : PartReq)
    → Piece s (or_none (get_subpart p (variable 0))) g → Piece s (or_none (get_subpart p (variable 1))) l → Piece s (or_none (get_subpart p (variable 2))) a
    → Piece s (or_none (get_subpart p (variable 3))) r → us ≡ four_set rs k g l a r → Saved s rs k (from_aside p) s us
unfolding from_aside
taken_back {s} {rs} {us} {k} {g} {l} {a} {r} m b p hg hl ha hr e = record {
  memory = rw e (four_memory k g l a r m (omega arith) b.1 (hg.piece, (hl.piece, (ha.piece, hr.piece))));
  reads = rw e (four_read s rs k g l a r ∙ rw (hg.is, hl.is, ha.is, hr.is));
  long = rw e (four_long rs k g l a r);
}
