-- The piece of each type as it is made: of one member by its binding or its type, of the members from the last to the first, of the types lowest first.
use Prim.Native.Nat.{ℕ, zero, suc, ◌+◌, ◌-◌, ◌*◌, ◌<◌, ◌≤◌}
use native.Mathlib.Omega.{arith}
use native.Mathlib.Decide.{dec_lt, ℕ_discrete}
use mathlib.Core.Path.{◌≡◌, refl, sym, ap, ◌∙◌, fun_ext}
use mathlib.Core.Bool.{Bool, true, false, cond}
use mathlib.Core.List.{List}
use mathlib.Core.Option.{Option, some, none as nothing}
use lib.ListN.{length, get_or, drop, set, length-set, drop_of_length-le}
use lib.Seq.{drop-cons, get_or-set_same, get_or-set_other}
use borrow.Author.Tests.{lt-ltb, le-ltb}
use Rattle.field.specs.Limits.{max_members}
use Rattle.part.specs.PartReq.{PartReq, all, more}
use Rattle.part.specs.Store.{top, part, means, Good, Room, Kept, Made}
use Rattle.part.proofs.Pieces.{part-0, part-2}
use Rattle.part.proofs.Making.{kept_trans}
use Rattle.part.proofs.Write.{kept_self}
use Rattle.module.specs.Module.{TypeInner}
use Rattle.std.specs.Prelude.{Option as Optional, Some, None}
use Rattle.access.specs.Access.{number_in}
use Rattle.module.specs.Knot.{below}
use Rattle.module.proofs.Knot.{knot-is, below-lt}
use Rattle.context.specs.Types.{types_of}
use Rattle.bindings.specs.Bindings.{Bindings, contains}
use Rattle.bindings.specs.TypeBindings.{unless_empty, from_binding, with_entry, members_from, step_from, from_type_bindings}
use Rattle.bindings.specs.Rows.{row_member, member_count, members_of, MemberIs}
use Rattle.bindings.specs.Parts.{part_of, lower_part, optional, Held, Chosen, From}
use Rattle.bindings.proofs.Rows.{members_long, members_at, from_step}

-- a piece that is not the empty part means something
pub some-piece : (s : List ℕ) (n : ℕ) → (n ≡ 2 → ⊥) → unless_empty (part s n) ≡ some (part s n)
unfolding part means unless_empty
some-piece s zero h = refl
some-piece s (suc zero) h = refl
some-piece s (suc (suc zero)) h = absurd (h refl)
some-piece s (suc (suc (suc n))) h = rw (lt-ltb 2 (suc (suc (suc n))) (omega arith))

-- one member
pub past_part : (parts : List ℕ) (t u : ℕ) → t ≤ u → (s : List ℕ) → lower_part s parts t u ≡ nothing
unfolding below
past_part parts t u h s = rw (le-ltb u t h)

module _ (parts : List ℕ) (required : Bindings) (t u : ℕ) {o : Optional ℕ} where
  module _ {b : ℕ} (w : o ≡ Some b) where
    bound_is : (c : Bool) → contains required b ≡ c → (s : List ℕ) → cond c (some all) nothing ≡ from_binding (lower_part s parts t) required (number_in o) u
    unfolding from_binding
    bound_is c e s = rw (w, e)

    pub chosen_all : contains required b ≡ true → Chosen parts required t (number_in o) u (Some 0)
    chosen_all e = record { is = λ s. rw (part-0 s) (bound_is true e s); piece = λ s h H. omega arith }

    pub chosen_none : contains required b ≡ false → Chosen parts required t (number_in o) u None
    chosen_none e = record { is = λ s. bound_is false e s; piece = λ s h H. tt }

  module _ (w : o ≡ None) where
    free_is : (s : List ℕ) → lower_part s parts t u ≡ from_binding (lower_part s parts t) required (number_in o) u
    unfolding from_binding
    free_is s = rw w

    pub chosen_past : t ≤ u → Chosen parts required t (number_in o) u None
    chosen_past h = record { is = λ s. sym (past_part parts t u h s) ∙ free_is s; piece = λ s l H. tt }

    module _ {r : ℕ} (h : u < t) (f : r ≡ get_or parts u 0) where
      type_is : (s : List ℕ) → unless_empty (part s r) ≡ from_binding (lower_part s parts t) required (number_in o) u
      type_is s = rw f (sym (below-lt (part_of s parts) nothing t u h) ∙ free_is s)

      pub chosen_empty : r ≡ 2 → Chosen parts required t (number_in o) u None
      unfolding unless_empty
      chosen_empty e = record { is = λ s. sym (ap unless_empty (ap (part s) e ∙ part-2 s)) ∙ type_is s; piece = λ s l H. tt }

      pub chosen_type : (r ≡ 2 → ⊥) → Chosen parts required t (number_in o) u (Some r)
      chosen_type n = record { is = λ s. sym (some-piece s r n) ∙ type_is s; piece = λ s l H. rw f (H.each u h) }

-- the entries of the members from i on
pub record Making (s cells tbl parts : List ℕ) (required : Bindings) (t i r : ℕ) : Type 0 where
  pub low : i ≤ member_count tbl t
  pub made : Made s cells (members_from (lower_part s parts t) required i (drop i (members_of tbl t))) (member_count tbl t - i) r

module _ (s tbl parts : List ℕ) (required : Bindings) (t : ℕ) where
  pub making_none : {n : ℕ} → Good s → n ≡ member_count tbl t → Making s s tbl parts required t n 2
  making_none {n} g e =
      record {
        low = omega arith;
        made = record {
          kept = kept_self g;
          piece = omega (arith, g.base);
          is = part-2 s ∙ rw (drop_of_length-le (members_of tbl t) {i = n} (rw (members_long tbl t) (omega arith))) (unfold members_from in refl);
          cost = omega arith;
        };
      }

  entries_cons : (i : ℕ) → i < member_count tbl t → members_from (lower_part s parts t) required i (drop i (members_of tbl t)) ≡ with_entry i (from_binding (lower_part s parts t) required (row_member tbl t i).binding (row_member tbl t i).type) (members_from (lower_part s parts t) required (suc i) (drop (suc i) (members_of tbl t)))
  entries_cons i h =
      rw (drop-cons (members_of tbl t) i (row_member tbl t i) (rw (members_long tbl t) h), members_at tbl t (row_member tbl t i) i h)
      (unfold members_from in refl)

  -- what the member i comes to
  chosen_member : {i ty : ℕ} {q : Optional ℕ} {b : Option ℕ} → MemberIs tbl t i ty b → Chosen parts required t b ty q → optional s q ≡ from_binding (lower_part s parts t) required (row_member tbl t i).binding (row_member tbl t i).type
  chosen_member M C = C.is s ∙ rw (M.binding_is, M.type_is)

  module _ {cells : List ℕ} {i r ty : ℕ} {b : Option ℕ} (o : 0 < i) (L : Making s cells tbl parts required t i r) (M : MemberIs tbl t (i - 1) ty b) where
    entries_here : {q : Optional ℕ} → Chosen parts required t b ty q
        → members_from (lower_part s parts t) required (i - 1) (drop (i - 1) (members_of tbl t)) ≡ with_entry (i - 1) (optional s q) (part cells r)
    entries_here C =
        let low : i ≤ member_count tbl t = L.low in
        let same : suc (i - 1) ≡ i = omega arith in
        entries_cons (i - 1) (omega arith) ∙ rw (chosen_member M C, L.made.is, same)

    pub making_asks : {q : ℕ} → Chosen parts required t b ty (Some q) → member_count tbl t ≤ max_members → Room s max_members → 3 ≤ top s → Held s parts t
        → Good cells × (Room cells 1 × ((q < top cells) × (r < top cells)))
    making_asks {q} C c room g H =
        let few : top cells ≤ top s + (member_count tbl t - i) = L.made.cost in
        let low : i ≤ member_count tbl t = L.low in
        let long : length cells ≡ length s = L.made.kept.long in
        let tops : top s ≤ top cells = L.made.kept.tops in
        let there : q < top s = C.piece s g H in
        (L.made.kept.good, (omega arith, (omega arith, L.made.piece)))

    pub making_skip : Chosen parts required t b ty None → Making s cells tbl parts required t (i - 1) r
    making_skip C =
        record {
          low = omega (arith, L.low);
          made = record {
            kept = L.made.kept;
            piece = L.made.piece;
            is = sym (entries_here C ∙ (unfold with_entry in refl));
            cost = omega (arith, L.made.cost, L.low);
          };
        }

    pub making_more : {q : ℕ} → Chosen parts required t b ty (Some q) → {u : List ℕ} {m : ℕ} → 3 ≤ top s → Held s parts t
        → Made cells u (more (i - 1) (part cells q) (part cells r)) 1 m → Making s u tbl parts required t (i - 1) m
    making_more {q} C {u} {m} g H a =
        record {
          low = omega (arith, L.low);
          made = record {
            kept = kept_trans L.made.kept a.kept;
            piece = a.piece;
            is = a.is ∙ rw (L.made.kept.same q (C.piece s g H)) (sym (entries_here C ∙ (unfold with_entry in refl)));
            cost = omega (arith, L.made.cost, L.low, a.cost);
          };
        }

  pub making_all : {cells : List ℕ} {i r k : ℕ} → i ≤ 0 → member_count tbl t ≤ k → Making s cells tbl parts required t i r → From s cells (step_from (types_of tbl) required (lower_part s parts t) t) k r
  making_all {i = zero} h f L =
      record {
        kept = L.made.kept;
        piece = L.made.piece;
        is = ap unless_empty L.made.is ∙ from_step tbl t (lower_part s parts t) required;
        cost = omega (arith, L.made.cost);
      }
  making_all {i = suc i} h f L = absurd (omega arith)

-- the types below t
pub record Filling (s cells : List ℕ) (types : List TypeInner) (required : Bindings) (old parts : List ℕ) (t : ℕ) : Type 0 where
  pub long : length parts ≡ length old
  pub kept : Kept s cells
  pub held : Held cells parts t
  pub is : (u : ℕ) → u < t → part_of cells parts u ≡ from_type_bindings types required u
  pub cost : top cells ≤ top s + max_members * t

module _ (types : List TypeInner) (required : Bindings) where
  module _ {s cells old parts : List ℕ} {t : ℕ} (F : Filling s cells types required old parts t) where
    lower_same : (u : ℕ) → lower_part cells parts t u ≡ below (from_type_bindings types required) nothing t u
    lower_same u =
        elim (dec_lt u t) [
          | yes h ↦
              below-lt (part_of cells parts) nothing t u h ∙ F.is u h
              ∙ sym (below-lt (from_type_bindings types required) nothing t u h)
          | no h ↦
              let past : t ≤ u = omega arith in
              past_part parts t u past cells ∙ (unfold below in (rw (le-ltb u t past)))
        ]

    next_is : step_from types required (lower_part cells parts t) t ≡ from_type_bindings types required t
    unfolding from_type_bindings
    next_is =
        ap (λ (w : ℕ → Option PartReq). step_from types required w t) (fun_ext lower_same)
        ∙ sym (knot-is (step_from types required) nothing t)

    pub filling_more : {u : List ℕ} {r : ℕ} → t < length parts → From cells u (step_from types required (lower_part cells parts t) t) max_members r → Filling s u types required old (set parts t r) (t + 1)
    filling_more {u} {r} h N =
        record {
          long = length-set parts t r ∙ F.long;
          kept = kept_trans F.kept N.kept;
          held = record {
            low = rw (length-set parts t r) (omega arith);
            each = λ v l. elim (ℕ_discrete v t) [
              | yes e ↦ rw (e, get_or-set_same parts t r 0 h) N.piece
              | no e ↦ rw (get_or-set_other parts t v r 0 e) (omega (arith, F.held.each v (omega arith), N.kept.tops))
            ];
          };
          is = λ v l. elim (ℕ_discrete v t) [
            | yes e ↦ rw (e, get_or-set_same parts t r 0 h) (N.is ∙ next_is)
            | no e ↦
                let low : v < t = omega arith in
                rw (get_or-set_other parts t v r 0 e) (rw (N.kept.same (get_or parts v 0) (F.held.each v low)) (F.is v low))
          ];
          cost = omega (arith, F.cost, N.cost);
        }
