-- What an expression asks of its operands, kind by kind: its row gives its arm, and that its list of asks. That each lies within its type, and keeps what needs are,
-- follows of all of them at once from the function's being judged.
use Prim.Native.Nat.{ℕ, ◌≤◌}
use native.Mathlib.Omega.{arith}
use native.Mathlib.Decide.{ℕ_discrete, dec_lt}
use mathlib.Core.Path.{◌≡◌, refl, sym, ap, subst, ◌∙◌}
use mathlib.Core.Bool.{Bool, true, false, cond, ◌&&◌}
use mathlib.Core.List.{List, [], ◌∷◌, ◌++◌, map, map-append}
use mathlib.Core.Logic.{◌⊎◌, inl, inr}
use mathlib.Core.Option.{some, none as nothing}
use lib.Dec.{eqb, ltb}
use borrow.Author.Tests.{lt-ltb, le-ltb, ltb-true, eq-eqb, ne_eqb}
use Rattle.field.specs.Limits.{absent}
use Rattle.part.specs.PartReq.{PartReq}
use Rattle.part.proofs.Distinct.{untrue}
use Rattle.module.specs.Module.{Typed}
use Rattle.module.specs.Decode.{option_of, expression_of}
use Rattle.access.specs.declared.kinded.Kinded.{Kinded}
use Rattle.access.specs.Access.{operand_at, expression_row}
use Rattle.access.proofs.Access.{typed_is, expression-of}
use Rattle.clearance.specs.Scope.{Scope, no_expression, typed, inner_of, is_vector, any_vector, is_path, optional, by_part, Arm, pointing, access_index, access, arm_of, arm}
use Rattle.clearance.specs.Needs.{Ask, ask_operand, ask_whole, ask_picked, ask_components, asks, gives}
use Rattle.clearance.specs.IsJudged.{JudgedExpression}
use Rattle.clearance.proofs.Relations.{path_exactly}
use Rattle.clearance.proofs.JudgedExpressions.{expression_exactly}
use Rattle.judge.specs.Given.{scope_at, Row}
use Rattle.judge.proofs.Operands.{operands}
use Rattle.judge.proofs.Components.{few_letters}
use Rattle.asked.proofs.Acts.{emit_within}
use Rattle.framed.proofs.Kept.{asks-fine}
use Rattle.place.specs.Sources.{gives_kind}
use Rattle.place.specs.Target.{Pointer}
use Rattle.place.proofs.SourceKinds.{gives_other}
use Rattle.operands.specs.AsksAll.{wanted_in, ListGiven, AsksAll}
use Rattle.operands.specs.Lists.{same_of, whole_of, both_same, both_whole, select_of, math_of, member_of, letters, components, load_of}
use Rattle.operands.specs.Arms.{asks_of, OperandsGiven, ArmGiven, AsksOperands}

-- what the code is given, as a row and a list of asks
pub arm_given : {bytes t : List ℕ} {f : ℕ} {types alike : List ℕ} {paths : List Bool} {s rs : List ℕ} {n e : ℕ} {row : Kinded} → OperandsGiven bytes t f types alike paths s rs n e → row ≡ expression_row bytes t f e →
    ArmGiven bytes t f types alike paths e row s rs n
arm_given {bytes} {t} {f} {s = s} {rs = rs} {n = n} {e = e} g h =
    let S = scope_at bytes t f in
    record {
      expression = record { given = g.world.given; there = g.there; is = h };
      gives = g.gives;
      asks = record {
        read = g.world.read;
        judged = g.world.judged;
        live = g.live;
        two = g.two;
        spare = g.spare;
        need = g.need;
        within = emit_within S g.world.read g.world.judged e g.there (wanted_in s rs n) g.wanted.tidy;
        fine = asks-fine S (arm S e) (wanted_in s rs n) g.wanted.ascends;
      };
    }

-- an operand that may be absent
optional-are : (a : PartReq) (v : ℕ) → map (ask_operand a) (optional (option_of v)) ≡ cond (eqb v absent) [] (ask_whole v ∷ [])
unfolding option_of optional ask_operand
optional-are a v = go (eqb v absent)
  where
    go : (b : Bool) → map (ask_operand a) (optional (cond b nothing (some v))) ≡ cond b [] (ask_whole v ∷ [])
    go true = refl
    go false = refl

-- where the tests on the kinds lead
not_path : (b : Bool) (x : Arm) → gives (cond b pointing x) ≡ true → b ≡ false
unfolding gives
not_path true x e = untrue e
not_path false x e = refl

-- the numbers of the kinds that the code gives no arm of their own
abbrev pub Other : ℕ → Type 0
Other k =
    (k ≡ 3 → ⊥) × (k ≡ 4 → ⊥) × (k ≡ 6 → ⊥) × (k ≡ 7 → ⊥) × (k ≡ 8 → ⊥) × (k ≡ 12 → ⊥) × (k ≡ 17 → ⊥) × (k ≡ 18 → ⊥) × (k ≡ 20 → ⊥) × (k ≡ 21 → ⊥)

-- of those an emit gives the value of Unary and As alone
last_other : (k : ℕ) → gives_kind k ≡ true → Other k → (k ≡ 16 → ⊥) → k ≡ 22
last_other k e d h =
    elim (dec_lt k 9) [
      | yes l ↦ let y = ltb-true 5 k (rw (lt-ltb k 9 l) at e) in absurd (omega (arith, d))
      | no l ↦
          elim (dec_lt k 16) [
            | yes m ↦ untrue (rw (le-ltb k 9 (omega arith), ne_eqb k 12 (omega (arith, d)), lt-ltb k 16 m) at e)
            | no m ↦
                let z : cond (eqb k 19) false (ltb k 23) ≡ true = rw (le-ltb k 9 (omega arith), ne_eqb k 12 (omega arith), le-ltb k 16 (omega arith)) at e in
                elim (ℕ_discrete k 19) [
                  | yes i ↦ untrue (rw (eq-eqb k 19 i) at z)
                  | no i ↦ let y = ltb-true k 23 (rw (ne_eqb k 19 i) at z) in omega (arith, d)
                ]
          ]
    ]

module _ {bytes t : List ℕ} {f : ℕ} {types alike : List ℕ} {paths : List Bool} {e : ℕ} {row : Kinded} {s rs : List ℕ} {n : ℕ} (g : ArmGiven bytes t f types alike paths e row s rs n) where
  abbrev S : Scope
  S = scope_at bytes t f

  abbrev o : ℕ → ℕ
  o = operand_at bytes row

  abbrev a : PartReq
  a = wanted_in s rs n

  abbrev R : Row bytes t f types alike paths e row
  R = g.expression

  -- another name of the list
  pub given_as : {xs : List Ask} → asks_of S e a ≡ xs → ListGiven S xs s rs n
  given_as q = subst (λ (xs : List Ask). ListGiven S xs s rs n) q g.asks

  pub all_as : {xs : List Ask} {u us : List ℕ} {r : Bool} → asks_of S e a ≡ xs → AsksAll S xs s rs n u us r → AsksOperands bytes t f e s rs n u us r
  all_as {u = u} {us = us} {r = r} q d = subst (λ (xs : List Ask). AsksAll S xs s rs n u us r) (sym q) d

  typed-as : (k : ℕ) → row.kind ≡ k → (typed S e).expression ≡ expression_of k o
  unfolding typed
  typed-as k h = ap (λ (x : Typed). x.expression) (typed_is bytes t f e no_expression R.there) ∙ expression-of bytes t f e k row R.is h

  arm-as : (k : ℕ) → row.kind ≡ k → arm S e ≡ arm_of S e (expression_of k o)
  unfolding arm
  arm-as k h = ap (arm_of S e) (typed-as k h)

  asks-as : (k : ℕ) → row.kind ≡ k → asks_of S e a ≡ asks S (arm_of S e (expression_of k o)) a
  asks-as k h = ap (λ (x : Arm). asks S x a) (arm-as k h)

  gives_as : (row.kind ≡ 3 → ⊥) → (row.kind ≡ 4 → ⊥) → gives_kind row.kind ≡ true
  gives_as p q = gives_other bytes t f e refl R.there R.is refl p q ∙ g.gives

  -- operators
  pub select_list : row.kind ≡ 18 → asks_of S e a ≡ select_of o a
  unfolding asks arm_of expression_of ask_operand
  select_list h = asks-as 18 h

  pub math_list : row.kind ≡ 21 → asks_of S e a ≡ math_of o
  unfolding asks arm_of expression_of ask_operand
  math_list h =
      asks-as 21 h
      ∙ ap (λ (xs : List Ask). ask_whole (o 0) ∷ xs)
      (map-append (ask_operand a) (optional (option_of (o 1))) (optional (option_of (o 2)) ++ optional (option_of (o 3)))
      ∙ rw (map-append (ask_operand a) (optional (option_of (o 2))) (optional (option_of (o 3))), optional-are a (o 1), optional-are a (o 2), optional-are a (o 3)))

  unary_list : row.kind ≡ 16 → asks_of S e a ≡ same_of o 0 a
  unfolding asks arm_of expression_of ask_operand
  unary_list h = asks-as 16 h

  cast_list : row.kind ≡ 22 → asks_of S e a ≡ same_of o 0 a
  unfolding asks arm_of expression_of ask_operand
  cast_list h = asks-as 22 h

  -- the kinds that are left
  pub same_list : Other row.kind → asks_of S e a ≡ same_of o 0 a
  same_list d =
      elim (ℕ_discrete row.kind 16) [
        | yes h ↦ unary_list h
        | no h ↦ cast_list (last_other row.kind (gives_as (omega (arith, d)) (omega (arith, d))) d h)
      ]

  module _ (h : row.kind ≡ 17) {r : Bool} (q : r ≡ by_part S e (o 0) (o 1)) where
    pub part_list : r ≡ true → asks_of S e a ≡ both_same o a
    unfolding asks arm_of expression_of ask_operand
    part_list i = asks-as 17 h ∙ rw (sym q ∙ i)

    pub whole_list : r ≡ false → asks_of S e a ≡ both_whole o
    unfolding asks arm_of expression_of ask_operand
    whole_list i = asks-as 17 h ∙ rw (sym q ∙ i)

  -- indexes
  pub index_list : row.kind ≡ 3 → asks_of S e a ≡ member_of o a
  unfolding asks arm_of expression_of
  index_list h = asks-as 3 h ∙ rw (not_path (is_path S e) (access_index (o 0) (o 1)) (sym (ap gives (arm-as 3 h)) ∙ g.gives))

  pub access_list : row.kind ≡ 4 → asks_of S e a ≡ both_whole o
  unfolding asks arm_of expression_of
  access_list h = asks-as 4 h ∙ rw (not_path (is_path S e) (access (o 0) (o 1)) (sym (ap gives (arm-as 4 h)) ∙ g.gives))

  -- what is made of parts
  pub wholes_list : (row.kind ≡ 6) ⊎ (row.kind ≡ 20) → asks_of S e a ≡ whole_of o 0
  unfolding asks arm_of expression_of ask_operand
  wholes_list (inl h) = asks-as 6 h
  wholes_list (inr h) = asks-as 20 h

  pub letters-list : row.kind ≡ 7 → asks_of S e a ≡ ask_picked (o 0) (letters o) 0 a
  unfolding asks arm_of expression_of
  letters-list h = asks-as 7 h

  pub letters_few : row.kind ≡ 7 → o 1 ≤ 4
  letters_few h = few_letters R h

  module _ (h : row.kind ≡ 8) {r : Bool} (q : r ≡ (is_vector (inner_of S e) && any_vector S (components o))) where
    pub joined_list : r ≡ true → asks_of S e a ≡ map ask_whole (components o)
    unfolding asks arm_of expression_of
    joined_list i = asks-as 8 h ∙ rw (sym q ∙ i)

    pub components-list : r ≡ false → asks_of S e a ≡ ask_components (components o) 0 a
    unfolding asks arm_of expression_of
    components-list i = asks-as 8 h ∙ rw (sym q ∙ i)

  -- a load
  module _ (h : row.kind ≡ 12) {p : ℕ} (q : p ≡ o 0) where
    pub load_list : asks_of S e a ≡ load_of S p a
    unfolding asks arm_of expression_of
    load_list = rw q (asks-as 12 h)

    pub load_pointer : Pointer bytes t f p
    unfolding expression_of
    load_pointer =
        let j = subst (λ y. JudgedExpression S e y) (typed-as 12 h) ((expression_exactly S e).0 (g.asks.judged.each e R.there)) in
        rw q
        (record {
          read = R.given.of.read;
          function = R.given.of.there;
          there = omega (arith, operands R 12 h, R.there);
          path = (path_exactly S (o 0)).1 (j.loads_path (o 0) refl);
        })
