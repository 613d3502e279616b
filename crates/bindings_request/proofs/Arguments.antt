-- What is needed of the arguments, as the code finds it: of one, by what is asked of it and whether it is bound; of all, from the last to the first.
use Prim.Native.Nat.{ℕ, suc, ◌+◌, ◌/◌, ◌<◌, ◌≤◌}
use native.Mathlib.Omega.{arith}
use native.Mathlib.Numerals.{add-one}
use mathlib.Core.Path.{◌≡◌, refl, sym, ap, ◌∙◌}
use mathlib.Core.Bool.{true, false, false≢true}
use mathlib.Core.List.{List}
use mathlib.Core.Option.{some, none as nothing}
use lib.Arith.{bin_ind}
use lib.Bits.{bit_or, or_step, or_shr, or_zero_l, or_zero_r}
use lib.ListN.{length, get_or, drop, drop_of_length-le}
use lib.Seq.{drop-cons}
use Rattle.part.specs.PartReq.{PartReq, all, exist, none, more, is_all, is_exist, Subpart, gone, there, get_subpart}
use Rattle.module.specs.Module.{TypeInner, FunctionArg}
use Rattle.module.proofs.Knot.{below-lt}
use Rattle.context.specs.RequiredContext.{variable}
use Rattle.bindings.specs.Bindings.{Bindings, empty, own_binding}
use Rattle.bindings.specs.TypeBindings.{step_bindings, get_type_bindings}
use Rattle.bindings.specs.ContextBindings.{Needed as Answered, needed, asserts, bound_part, arg_bindings, both, args_bindings}
use Rattle.bindings.specs.Linear.{all_table, walk_bindings}
use Rattle.std.specs.Prelude.{Option as Optional, Some, None}
use Rattle.std.specs.Option.{is_some}
use Rattle.std.proofs.lemmas.List.{length-map, get_or-map}
use mathlib.Core.Logic.{◌⊎◌, inl, inr}
use Rattle.access.specs.Access.{number_in, arg_from}
use Rattle.access.specs.declared.whole.Bound.{Bound}
use Rattle.bindings.specs.Rows.{args_of}
use Rattle.bindings_request.specs.Walks.{lower}
use Rattle.bindings.proofs.Linear.{all-table_is, walk_is}
use Rattle.bindings_request.proofs.Walking.{lower-step}

-- below a type
module _ (types : List TypeInner) (sets : List Bindings) (t : ℕ) where
  lower-walk : (p : PartReq) → lower types sets (suc t) t p ≡ walk_bindings types sets p t
  unfolding lower
  lower-walk p = ap (λ (g : PartReq → ℕ). g p) (below-lt (λ v q. walk_bindings types sets q v) (λ q. empty) (suc t) t (omega arith))

module _ (types : List TypeInner) {sets : List Bindings} (t : ℕ) (T : sets ≡ all_table types) where
  pub found_all : (p : PartReq) → is_all p ≡ true → get_or sets t 0 ≡ get_type_bindings types p t
  found_all all e = rw T (all-table_is types t)
  found_all exist e = absurd (false≢true e)
  found_all none e = absurd (false≢true e)
  found_all (more i p r) e = absurd (false≢true e)

  pub found_step : (p : PartReq) → is_all p ≡ false → step_bindings types (lower types sets t) t p ≡ get_type_bindings types p t
  found_step p e =
      lower-step types sets (suc t) t p (omega arith) e ∙ lower-walk types sets t p ∙ rw T (walk_is types p t)

-- both, one after the other
or_assoc : (c a b : ℕ) → bit_or (bit_or a b) c ≡ bit_or a (bit_or b c)
or_assoc =
    bin_ind (λ (c : ℕ). (a b : ℕ) → bit_or (bit_or a b) c ≡ bit_or a (bit_or b c)) (λ a b. or_zero_r (bit_or a b) ∙ sym (ap (bit_or a) (or_zero_r b)))
    (λ c ih a b.
    let p : bit_or (bit_or a b / 2) (c / 2) ≡ bit_or (a / 2) (bit_or b c / 2) = ap (λ x. bit_or x (c / 2)) (or_shr a b 1) ∙ ih (a / 2) (b / 2) ∙ sym (ap (bit_or (a / 2)) (or_shr b c 1)) in
    omega (arith, or_step (bit_or a b) c, or_step a (bit_or b c), or_step a b, or_step b c))

both_empty : (x : Answered) → x ≡ both (needed 0) x
unfolding both
both_empty (needed t) = ap needed (sym (or_zero_l t))
both_empty (asserts i) = refl

both-more : (s a : ℕ) (x : Answered) → both (needed s) (both (needed a) x) ≡ both (needed (bit_or s a)) x
unfolding both
both-more s a (needed t) = ap needed (sym (or_assoc t s a))
both-more s a (asserts i) = refl

-- one argument, by whether it has a binding
bound_by : (o : Optional ℕ) → is_some o ≡ true → (b : ℕ) × (number_in o ≡ some b)
bound_by None e = absurd (false≢true e)
bound_by (Some b) e = (b, refl)

free_by : (o : Optional ℕ) → is_some o ≡ false → number_in o ≡ nothing
free_by None e = refl
free_by (Some b) e = absurd (false≢true (sym e))

module _ (types : List TypeInner) (i : ℕ) (a : FunctionArg) where
  unneeded : (p : PartReq) → is_exist p ≡ true → needed 0 ≡ arg_bindings types i a (there p)
  unfolding arg_bindings
  unneeded all h = absurd (false≢true h)
  unneeded exist h = refl
  unneeded none h = absurd (false≢true h)
  unneeded (more j q r) h = absurd (false≢true h)

  wholly : (p : PartReq) → is_all p ≡ true → needed (bit_or (own_binding a.binding) (get_type_bindings types p a.type)) ≡ arg_bindings types i a (there p)
  unfolding arg_bindings
  wholly all h = refl
  wholly exist h = absurd (false≢true h)
  wholly none h = absurd (false≢true h)
  wholly (more j q r) h = absurd (false≢true h)

  free : (p : PartReq) → is_exist p ≡ false → a.binding ≡ nothing → needed (bit_or (own_binding a.binding) (get_type_bindings types p a.type)) ≡ arg_bindings types i a (there p)
  unfolding arg_bindings bound_part own_binding
  free all h f = refl
  free exist h f = absurd (false≢true (sym h))
  free none h f = rw f (ap needed (or_zero_l (get_type_bindings types none a.type)))
  free (more j q r) h f = rw f (ap needed (or_zero_l (get_type_bindings types (more j q r) a.type)))

  partly : (p : PartReq) {b : ℕ} → is_exist p ≡ false → is_all p ≡ false → a.binding ≡ some b → asserts i ≡ arg_bindings types i a (there p)
  unfolding arg_bindings bound_part
  partly all h g f = absurd (false≢true (sym g))
  partly exist h g f = absurd (false≢true (sym h))
  partly none h g f = rw f
  partly (more j q r) h g f = rw f

module _ (types : List TypeInner) (i : ℕ) (x : Bound) {sub : Subpart} where
  pub arg_gone : sub ≡ gone → needed 0 ≡ arg_bindings types i (arg_from x) sub
  unfolding arg_bindings
  arg_gone e = rw e

  module _ (p : PartReq) (e : sub ≡ there p) where
    pub arg_exist : is_exist p ≡ true → needed 0 ≡ arg_bindings types i (arg_from x) sub
    arg_exist h = rw e (unneeded types i (arg_from x) p h)

    pub arg_given : {own found : ℕ} → is_exist p ≡ false → (is_some x.binding ≡ false) ⊎ (is_all p ≡ true) → found ≡ get_type_bindings types p x.ty.0 → own ≡ own_binding (number_in x.binding) → needed (bit_or own found) ≡ arg_bindings types i (arg_from x) sub
    arg_given h (inl n) f g = rw (e, f, g) (free types i (arg_from x) p h (free_by x.binding n))
    arg_given h (inr w) f g = rw (e, f, g) (wholly types i (arg_from x) p w)

    pub arg_part : is_exist p ≡ false → is_some x.binding ≡ true → is_all p ≡ false → asserts i ≡ arg_bindings types i (arg_from x) sub
    arg_part h f g = rw e (partly types i (arg_from x) p h g (bound_by x.binding f).1)

-- s is needed of the arguments below i, and the others are left
pub record ArgsMet (types : List TypeInner) (args : PartReq) (arguments : List Bound) (i s : ℕ) : Type 0 where
  pub is : args_bindings types args 0 (args_of arguments) ≡ both (needed s) (args_bindings types args i (drop i (args_of arguments)))

module _ (types : List TypeInner) (args : PartReq) (arguments : List Bound) where
  args_cons : (i : ℕ) (d : Bound) → i < length arguments → args_bindings types args i (drop i (args_of arguments)) ≡ both (arg_bindings types i (arg_from (get_or arguments i d)) (get_subpart args (variable i))) (args_bindings types args (suc i) (drop (suc i) (args_of arguments)))
  args_cons i d h =
      rw (drop-cons (args_of arguments) i (arg_from d) (rw (length-map arguments arg_from) h), get_or-map arg_from arguments i d (arg_from d) h) (unfold args_bindings in refl)

  pub args_none : ArgsMet types args arguments 0 0
  args_none = record { is = both_empty (args_bindings types args 0 (args_of arguments)) }

  module _ {i s : ℕ} (M : ArgsMet types args arguments i s) where
    module _ (h : i < length arguments) (d : Bound) where
      pub args_more : {a : ℕ} → needed a ≡ arg_bindings types i (arg_from (get_or arguments i d)) (get_subpart args (variable i)) → ArgsMet types args arguments (i + 1) (bit_or s a)
      args_more {a} e =
          record { is = M.is ∙ rw (args_cons i d h, ← e, add-one i) (both-more s a (args_bindings types args (suc i) (drop (suc i) (args_of arguments)))) }

      pub args_stop : {j : ℕ} → asserts j ≡ arg_bindings types i (arg_from (get_or arguments i d)) (get_subpart args (variable i)) → asserts j ≡ args_bindings types args 0 (args_of arguments)
      unfolding both
      args_stop e = sym (M.is ∙ rw (args_cons i d h, ← e))

    pub args-all : length arguments ≤ i → needed s ≡ args_bindings types args 0 (args_of arguments)
    unfolding both args_bindings
    args-all h = sym (M.is ∙ rw (drop_of_length-le (args_of arguments) {i = i} (rw (length-map arguments arg_from) h)) (ap needed (or_zero_r s)))
