-- What the rows of the table of types say: how a type's kind decides a step over types, and what its members are.
use Prim.Native.Nat.{ℕ, zero, suc, ◌+◌, ◌*◌, ◌^◌, ◌%◌, ◌<◌, ◌≤◌}
use native.Mathlib.Omega.{arith}
use native.Mathlib.Nat.{one-mul, mod-eq_of_lt, pow-le-pow_right, two-pow-succ, one-le-pow}
use native.Mathlib.Decide.{ℕ_discrete}
use mathlib.Core.Path.{◌≡◌, refl, sym, subst, ◌∙◌}
use mathlib.Core.Bool.{true, false, cond, false≢true}
use mathlib.Core.List.{List, [], ◌∷◌}
use mathlib.Core.Option.{Option, some}
use lib.Dec.{eqb}
use lib.ListN.{length, get_or}
use borrow.Author.Tests.{eq-eqb, ne_eqb}
use Rattle.field.specs.Limits.{max_members}
use Rattle.part.specs.PartReq.{PartReq}
use Rattle.module.specs.Module.{TypeHandle, Member, Opaque}
use Rattle.module.specs.Operands.{bindings}
use Rattle.std.specs.Prelude.{Option as Optional}
use Rattle.access.specs.Access.{number_in}
use Rattle.module.specs.Decode.{tab, option_of, member_of, type_inner_of}
use Rattle.context.specs.Types.{type_words, type_word, type_kind, types_of, AllSized}
use Rattle.context.proofs.Types.{length-tab, tab-at, type_is, struct_size}
use Rattle.bindings.specs.Bindings.{Bindings, own_binding}
use Rattle.bindings.specs.TypeBindings.{members_bindings, inner_bindings, step_bindings, members_from, unless_empty, inner_from, step_from}
use Rattle.bindings.specs.Rows.{row_member, member_count, members_of, is_base, BindingFits, BoundMembers, BoundType, AllBound, MemberIs}

-- the set of one binding
pub single_fits : (b : ℕ) → b < bindings → (1 * 2 ^ b) % 2 ^ 64 ≡ own_binding (some b)
unfolding own_binding
single_fits b low =
    let fits : suc b ≤ 64 = omega arith in
    rw (one-mul (2 ^ b))
    (mod-eq_of_lt (omega (arith, pow-le-pow_right {n = 2} (omega arith) {i = suc b} {j = 64} fits, two-pow-succ b, one-le-pow b 2 (omega arith))))

-- the kinds
not-true : {A : Type 0} → false ≡ true → A
not-true e = absurd (false≢true e)

module _ (o : ℕ → ℕ) where
  members : ℕ → List Member
  members k = tab (cond (eqb k 6) (o 0) 0) (member_of o)

  past_kind : (k : ℕ) → type_inner_of (suc (suc (suc (suc (suc (suc (suc (suc k)))))))) o ≡ Opaque
  unfolding type_inner_of
  past_kind zero = refl
  past_kind (suc k) = refl

  past_base : (k : ℕ) → 8 ≤ k → is_base k ≡ false
  unfolding is_base
  past_base k h = rw (ne_eqb k 4 (omega arith), ne_eqb k 5 (omega arith), ne_eqb k 7 (omega arith))

  past_members : (k : ℕ) → 8 ≤ k → members k ≡ []
  unfolding members tab
  past_members k h = rw (ne_eqb k 6 (omega arith))

  module _ (get : TypeHandle → PartReq → Bindings) (p : PartReq) where
    inner_base : (k : ℕ) → is_base k ≡ true → get (o 0) p ≡ inner_bindings get (type_inner_of k o) p
    unfolding is_base type_inner_of inner_bindings
    inner_base zero h = not-true h
    inner_base (suc zero) h = not-true h
    inner_base (suc (suc zero)) h = not-true h
    inner_base (suc (suc (suc zero))) h = not-true h
    inner_base (suc (suc (suc (suc zero)))) h = refl
    inner_base (suc (suc (suc (suc (suc zero))))) h = refl
    inner_base (suc (suc (suc (suc (suc (suc zero)))))) h = not-true h
    inner_base (suc (suc (suc (suc (suc (suc (suc zero))))))) h = refl
    inner_base (suc (suc (suc (suc (suc (suc (suc (suc k)))))))) h = not-true (sym (past_base (suc (suc (suc (suc (suc (suc (suc (suc k)))))))) (omega arith)) ∙ h)

    inner_members : (k : ℕ) → is_base k ≡ false → members_bindings get p 0 (members k) ≡ inner_bindings get (type_inner_of k o) p
    unfolding is_base type_inner_of inner_bindings members tab members_bindings
    inner_members zero h = refl
    inner_members (suc zero) h = refl
    inner_members (suc (suc zero)) h = refl
    inner_members (suc (suc (suc zero))) h = refl
    inner_members (suc (suc (suc (suc zero)))) h = not-true (sym h)
    inner_members (suc (suc (suc (suc (suc zero))))) h = not-true (sym h)
    inner_members (suc (suc (suc (suc (suc (suc zero)))))) h = refl
    inner_members (suc (suc (suc (suc (suc (suc (suc zero))))))) h = not-true (sym h)
    inner_members (suc (suc (suc (suc (suc (suc (suc (suc k)))))))) h = rw (past_members (suc (suc (suc (suc (suc (suc (suc (suc k)))))))) (omega arith), past_kind k)

  module _ (from : TypeHandle → Option PartReq) (required : Bindings) where
    inner-from : (k : ℕ) → unless_empty (members_from from required 0 (members k)) ≡ inner_from from required (type_inner_of k o)
    unfolding type_inner_of inner_from members tab members_from unless_empty
    inner-from zero = refl
    inner-from (suc zero) = refl
    inner-from (suc (suc zero)) = refl
    inner-from (suc (suc (suc zero))) = refl
    inner-from (suc (suc (suc (suc zero)))) = refl
    inner-from (suc (suc (suc (suc (suc zero))))) = refl
    inner-from (suc (suc (suc (suc (suc (suc zero)))))) = refl
    inner-from (suc (suc (suc (suc (suc (suc (suc zero))))))) = refl
    inner-from (suc (suc (suc (suc (suc (suc (suc (suc k)))))))) = rw (past_members (suc (suc (suc (suc (suc (suc (suc (suc k)))))))) (omega arith), past_kind k)

-- a step over the type of the row t
module _ (table : List ℕ) (t : ℕ) where
  fields : ℕ → ℕ
  fields j = type_word table t (1 + j)

  module _ (get : TypeHandle → PartReq → Bindings) (p : PartReq) where
    pub base_step : {k : ℕ} → k ≡ type_kind table t → is_base k ≡ true → get (type_word table t 1) p ≡ step_bindings (types_of table) get t p
    unfolding step_bindings fields
    base_step {k} e h = inner_base fields get p k h ∙ rw (type_is table t, e)

    pub members_step : {k : ℕ} → k ≡ type_kind table t → is_base k ≡ false → members_bindings get p 0 (members_of table t) ≡ step_bindings (types_of table) get t p
    unfolding step_bindings members_of member_count members fields
    members_step {k} e h = rw (type_is table t, ← e) (inner_members fields get p k h)

  pub from_step : (from : TypeHandle → Option PartReq) (required : Bindings) → unless_empty (members_from from required 0 (members_of table t)) ≡ step_from (types_of table) required from t
  unfolding step_from members_of member_count members fields
  from_step from required = rw (type_is table t) (inner-from fields from required (type_kind table t))

  -- its members, and how many
  pub count_struct : {k : ℕ} → k ≡ type_kind table t → k ≡ 6 → type_word table t 1 ≡ member_count table t
  unfolding member_count
  count_struct {k} e h = rw (← e, eq-eqb k 6 h)

  pub count_none : {k : ℕ} → k ≡ type_kind table t → (k ≡ 6 → ⊥) → 0 ≡ member_count table t
  unfolding member_count
  count_none {k} e h = rw (← e, ne_eqb k 6 h)

  pub count_small : AllSized (types_of table) → member_count table t ≤ max_members
  unfolding member_count
  count_small S =
      elim (ℕ_discrete (type_kind table t) 6) [
        | yes e ↦ rw (eq-eqb (type_kind table t) 6 e) (struct_size table t S refl e)
        | no e ↦ rw (ne_eqb (type_kind table t) 6 e) (omega arith)
      ]

  pub members_long : length (members_of table t) ≡ member_count table t
  unfolding members_of
  members_long = length-tab (row_member table t) (member_count table t)

  pub members_at : (d : Member) (i : ℕ) → i < member_count table t → get_or (members_of table t) i d ≡ row_member table t i
  unfolding members_of
  members_at d i h = tab-at (row_member table t) d (member_count table t) i h

  -- and what they are bound to, where the module's bindings are a file's
  pub members_bound : AllBound (types_of table) → BoundMembers (members_of table t)
  unfolding members_of member_count
  members_bound B =
      elim (ℕ_discrete (type_kind table t) 6) [
        | yes e ↦ rw (eq-eqb (type_kind table t) 6 e) (struct_bound (rw e at (subst BoundType (type_is table t) (B.each t))))
        | no e ↦ rw (ne_eqb (type_kind table t) 6 e) (unfold tab in tt)
      ]
    where
      struct_bound : BoundType (type_inner_of 6 (λ j. type_word table t (1 + j))) → BoundMembers (tab (type_word table t 1) (row_member table t))
      struct_bound = unfold type_inner_of in (λ h. h)

  bound_at : (ms : List Member) (d : Member) (i : ℕ) → BoundMembers ms → i < length ms → BindingFits (get_or ms i d).binding
  bound_at [] d i b h = absurd (omega arith)
  bound_at (m ∷ ms) d zero b h = b.0
  bound_at (m ∷ ms) d (suc i) b h = bound_at ms d i b.1 (omega arith)

  pub member_is : {i ty b : ℕ} (o : Optional ℕ) → AllBound (types_of table) → i < member_count table t → ty ≡ get_or table (type_words * t + (2 + 2 * i)) 0 → b ≡ get_or table (type_words * t + (2 + 2 * i) + 1) 0 → number_in o ≡ option_of b → MemberIs table t i ty (number_in o)
  member_is {i} {ty} {b} o B h e f n =
      let bound : BindingFits (row_member table t i).binding =
      subst (λ (m : Member). BindingFits m.binding) (members_at (row_member table t i) i h)
      (bound_at (members_of table t) (row_member table t i) i (members_bound B) (rw members_long h)) in
      let same : number_in o ≡ (row_member table t i).binding = n ∙ rw f (unfold member_of in (rw place_2)) in
      record { type_is = e ∙ (unfold member_of in (rw place_1)); binding_is = same; bound = rw same bound }
    where
      place_1 : type_words * t + (2 + 2 * i) ≡ type_words * t + (1 + (1 + 2 * i))
      place_1 = omega arith

      place_2 : type_words * t + (2 + 2 * i) + 1 ≡ type_words * t + (1 + (2 + 2 * i))
      place_2 = omega arith
