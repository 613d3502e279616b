-- The arms that follow their fields: what `ways` says of the kinds without ways and of a sample's codes, what is asked of a field, and a turn of the loop of
-- `field_ask`, in which what is left of the fields gives the whole. A sum of ways ends with its first by division.
use mathlib.Core.Path.{◌≡◌, refl, sym, ◌∙◌}
use mathlib.Core.Bool.{Bool, true, false, cond, not}
use mathlib.Core.List.{List, [], ◌∷◌}
use mathlib.Core.Option.{Option, some, none as nothing, none-ne-some, some-ne-none, some-injective}
use Prim.Native.Nat.{ℕ, zero, suc, ◌+◌, ◌-◌, ◌*◌, ◌/◌, ◌%◌, ◌<◌, ◌≤◌}
use native.Mathlib.Omega.{arith}
use native.Mathlib.Numerals.{add-one}
use native.Mathlib.Decide.{ℕ_discrete}
use lib.Dec.{eqb}
use lib.ListN.{length, drop, get_or, get_elem?, drop_of_length-le}
use lib.Seq.{drop-cons}
use Rattle.field.specs.Limits.{absent}
use Rattle.part.specs.PartReq.{PartReq, all, exist, over}
use Rattle.module.specs.Decode.{option_of}
use Rattle.module.proofs.Each.{each}
use Rattle.asks.proofs.ByKind.{no_kind}
use Rattle.walk.specs.Expression.{Ask, of_operand}
use Rattle.memory.specs.Layout.{all_slot, exist_slot}
use Rattle.memory.specs.Memory.{Memory}
use Rattle.memory.specs.Want.{want_of}
use Rattle.memory.specs.declared.want.Want.{Want}
use Rattle.memory.proofs.Slots.{asked-slot, want_slot}
use Rattle.asks.specs.declared.fields.Way.{Way}
use Rattle.asks.specs.Ways.{asks_by, chosen, part_by, field_asks, fields, pack, kind_ways, sample_ways, ways_of, way_number, numbers, WaysOf, By}

-- a kind that is none of those whose arms follow their fields
abbrev pub Unlisted : ℕ → Type 0
Unlisted kind = (kind ≡ 4 → ⊥) × ((kind ≡ 6 → ⊥) × ((kind ≡ 12 → ⊥) × ((kind ≡ 13 → ⊥) × ((kind ≡ 14 → ⊥) × ((kind ≡ 15 → ⊥) × ((kind ≡ 16 → ⊥) × ((kind ≡ 17 → ⊥) × ((kind ≡ 18 → ⊥) × ((kind ≡ 19 → ⊥) × ((kind ≡ 20 → ⊥) × ((kind ≡ 21 → ⊥) × ((kind ≡ 22 → ⊥) × ((kind ≡ 25 → ⊥) × (kind ≡ 27 → ⊥))))))))))))))

no_way : (kind code : ℕ) → Unlisted kind → ways_of kind code ≡ 0
unfolding ways_of kind_ways pack
no_way kind code =
    each (λ k. Unlisted k → ways_of k code ≡ 0) 32
    (λ h. refl, (λ h. refl, (λ h. refl, (λ h. refl, (λ h. absurd (h.0 refl), (λ h. refl, (λ h. absurd (h.1.0 refl), (λ h. refl, (λ h. refl, (λ h. refl, (λ h. refl, (λ h. refl, (λ h. absurd (h.1.1.0 refl), (λ h. absurd (h.1.1.1.0 refl), (λ h. absurd (h.1.1.1.1.0 refl), (λ h. absurd (h.1.1.1.1.1.0 refl), (λ h. absurd (h.1.1.1.1.1.1.0 refl), (λ h. absurd (h.1.1.1.1.1.1.1.0 refl), (λ h. absurd (h.1.1.1.1.1.1.1.1.0 refl), (λ h. absurd (h.1.1.1.1.1.1.1.1.1.0 refl), (λ h. absurd (h.1.1.1.1.1.1.1.1.1.1.0 refl), (λ h. absurd (h.1.1.1.1.1.1.1.1.1.1.1.0 refl), (λ h. absurd (h.1.1.1.1.1.1.1.1.1.1.1.1.0 refl), (λ h. refl, (λ h. refl, (λ h. absurd (h.1.1.1.1.1.1.1.1.1.1.1.1.1.0 refl), (λ h. refl, (λ h. absurd (h.1.1.1.1.1.1.1.1.1.1.1.1.1.1 refl), (λ h. refl, (λ h. refl, (λ h. refl, (λ h. refl, tt))))))))))))))))))))))))))))))))
    (λ k h. no_kind k code)
    kind

pub unlisted : (kind code : ℕ) → Unlisted kind → WaysOf kind code []
unfolding pack numbers
unlisted kind code h = record { is = sym (no_way kind code h); few = omega arith }

-- a sample by the code of its level
pub sample_some : (code : ℕ) → 2 ≤ code → code ≤ 3 → WaysOf 13 code (Way.All ∷ Way.All ∷ Way.All ∷ Way.Maybe ∷ Way.Skip ∷ Way.All ∷ Way.Maybe ∷ [])
unfolding ways_of sample_ways pack numbers
sample_some code a b =
    elim (ℕ_discrete code 2) [
      | yes e ↦ rw e (record { is = refl; few = omega arith })
      | no ne ↦ let e : code ≡ 3 = omega arith in rw e (record { is = refl; few = omega arith })
    ]

pub sample_else : (code : ℕ) → (code ≡ 2 → ⊥) → (code ≡ 3 → ⊥) → (code ≡ 4 → ⊥) → WaysOf 13 code (Way.All ∷ Way.All ∷ Way.All ∷ Way.Maybe ∷ Way.Skip ∷ Way.Maybe ∷ [])
unfolding ways_of sample_ways pack numbers
sample_else zero a b c = record { is = refl; few = omega arith }
sample_else (suc zero) a b c = record { is = refl; few = omega arith }
sample_else (suc (suc zero)) a b c = absurd (a refl)
sample_else (suc (suc (suc zero))) a b c = absurd (b refl)
sample_else (suc (suc (suc (suc zero)))) a b c = absurd (c refl)
sample_else (suc (suc (suc (suc (suc code))))) a b c = record { is = refl; few = omega arith }

-- the slots of all and of exist
module _ {s rs : List ℕ} {u : Want} (m : Memory s rs) where
  pub wants_all : u ≡ want_of all_slot → By s rs all u
  unfolding over
  wants_all e =
      rw e
      (record {
        wants = want_slot s rs all_slot (omega arith) (rw m.first);
        is = asked-slot s rs all_slot ∙ m.first;
      })

  pub wants_exist : u ≡ want_of exist_slot → By s rs exist u
  unfolding over
  wants_exist e =
      rw e
      (record {
        wants = want_slot s rs exist_slot (omega arith) (rw m.second);
        is = asked-slot s rs exist_slot ∙ m.second;
      })

no_ways : (o : ℕ → ℕ) (p : PartReq) (n k : ℕ) → field_asks n 0 o k p ≡ []
unfolding field_asks asks_by
no_ways o p zero k = refl
no_ways o p (suc n) k = no_ways o p n (suc k)

later : (a : Ask) (xs : List Ask) (n : ℕ) → (n ≡ 0 → ⊥) → get_elem? (a ∷ xs) n ≡ get_elem? xs (n - 1)
later a xs zero ne = absurd (ne refl)
later a xs (suc n) ne = let e : suc n - 1 ≡ n = omega arith in rw e

-- an operand that may be left out
pub maybe_is : (x : ℕ) → option_of x ≡ cond (not (eqb x absent)) (some x) nothing
unfolding option_of
maybe_is x = go (eqb x absent)
  where
    go : (b : Bool) → ◌≡◌ {A = Option ℕ} (cond b nothing (some x)) (cond (not b) (some x) nothing)
    go true = refl
    go false = refl

-- what an operand that was chosen, or was not, says of its way
is_chosen : (b : Bool) {n x : ℕ} → ◌≡◌ {A = Option ℕ} (some n) (cond b (some x) nothing) → (b ≡ true) × (n ≡ x)
is_chosen true h = (refl, some-injective _ _ h)
is_chosen false h = absurd (some-ne-none _ h)

not_chosen : (b : Bool) (x : ℕ) → ◌≡◌ {A = Option ℕ} nothing (cond b (some x) nothing) → b ≡ false
not_chosen true x h = absurd (none-ne-some _ h)
not_chosen false x h = refl

way_small : (way : Way) → way_number way < 8
way_small Way.Skip = omega arith
way_small Way.Part = omega arith
way_small Way.All = omega arith
way_small Way.Exist = omega arith
way_small Way.Maybe = omega arith

-- a turn of the loop: what is left of the ways, from the field k on, gives the whole
pub record Fields (ways : List Way) (o : ℕ → ℕ) (p : PartReq) (total : List Ask) (j skip k : ℕ) : Type 0 where
  pub few : length ways ≤ fields
  pub rest : get_elem? (field_asks (fields - k) (pack (numbers (drop k ways))) o k p) skip ≡ get_elem? total j

module _ {ways : List Way} {o : ℕ → ℕ} {p : PartReq} {total : List Ask} {j skip k : ℕ} (h : Fields ways o p total j skip k) where
  pub fields-end : length ways ≤ k → get_elem? total j ≡ nothing
  unfolding numbers pack
  fields-end l = sym h.rest ∙ rw (drop_of_length-le ways l, no_ways o p (fields - k) k)

  module _ (on : k < length ways) (d : Way) where
    abbrev way : Way
    way = get_or ways k d

    abbrev rest_of : List Ask
    rest_of = field_asks (fields - suc k) (pack (numbers (drop (suc k) ways))) o (suc k) p

    step : field_asks (fields - k) (pack (numbers (drop k ways))) o k p ≡ cond (asks_by (way_number way) (o k)) (of_operand (o k) (part_by (way_number way) p) ∷ rest_of) rest_of
    unfolding field_asks numbers pack
    step =
        let z : fields - k ≡ suc (fields - suc k) = omega (arith, h.few) in
        let small = way_small way in
        let first : (way_number way + 8 * pack (numbers (drop (suc k) ways))) % 8 ≡ way_number way = omega (arith, small) in
        let others : (way_number way + 8 * pack (numbers (drop (suc k) ways))) / 8 ≡ pack (numbers (drop (suc k) ways)) = omega (arith, small) in
        rw (z, drop-cons ways k d on, first, others)

    module _ {n : ℕ} (c : ◌≡◌ {A = Option ℕ} (some n) (chosen (way_number way) (o k))) where
      pub fields_found : skip ≡ 0 → get_elem? total j ≡ some (of_operand n (part_by (way_number way) p))
      fields_found z = let d = is_chosen _ c in sym h.rest ∙ rw (step, d.0, d.1, z)

      pub fields_later : {m : ℕ} → (skip ≡ 0 → ⊥) → m ≡ skip - 1 → Fields ways o p total j m (k + 1)
      fields_later ne d =
          let b = is_chosen _ c in
          record { few = h.few; rest = rw (d, add-one) (sym (later (of_operand (o k) (part_by (way_number way) p)) rest_of skip ne) ∙ (sym (rw (step, b.0)) ∙ h.rest)) }

    pub fields_skip : {m : ℕ} → ◌≡◌ {A = Option ℕ} nothing (chosen (way_number way) (o k)) → m ≡ skip → Fields ways o p total j m (k + 1)
    fields_skip c d = record { few = h.few; rest = rw (d, add-one) (sym (rw (step, not_chosen _ _ c)) ∙ h.rest) }
