-- What the slots reach, by their use: the needs at hand, what is kept aside and the new table together reach what all slots do; a slot more kept aside is one need more; what
-- is kept aside looks at no slot of the new table.
use Prim.Native.Nat.{ℕ, zero, suc, ◌+◌, ◌-◌, ◌<◌, ◌≤◌}
use native.Mathlib.Omega.{arith}
use native.Mathlib.Decide.{dec_lt}
use native.Mathlib.Numerals.{add-one}
use mathlib.Core.Path.{◌≡◌, refl, sym, ap, ◌∙◌}
use mathlib.Core.List.{List, [], ◌∷◌, ◌++◌}
use lib.ListN.{length, get_or, take, get_or-eq_default}
use lib.Seq.{take-suc}
use borrow.Author.Tests.{lt-ltb, le-ltb}
use Rattle.part.specs.PartReq.{PartReq, none}
use Rattle.part.specs.Collect.{cells_in, reached, meant}
use Rattle.part.proofs.Distinct.{Among}
use Rattle.module.specs.Decode.{tab}
use Rattle.module.proofs.Tab.{get_d_tab, tab-past, tab-same}
use Rattle.clearance.specs.Needs.{reentry}
use Rattle.pass.specs.Pass.{Carried}
use Rattle.hold.specs.Hold.{held_by, in_slot, Reach}
use Rattle.hold.proofs.Reach.{at_in, each_in, left_in, right_in, both_in, none_in, reach_trans, reach_right, reach_swap, reach_get_d}
use Rattle.standing.specs.Slots.{table_size, asked_slot, new_of, besides, aside_of, Beside}
use Rattle.standing.specs.Standing.{TableIn}

beside_at : (g : ℕ → PartReq) (j : ℕ) → Beside j → besides g j ≡ g j
unfolding besides
beside_at g j b =
    elim (dec_lt j table_size) [
      | yes l ↦ rw (lt-ltb j table_size l)
      | no l ↦ let h : table_size ≤ j = omega arith in let k = b.is h in rw (le-ltb j table_size h, le-ltb j asked_slot k)
    ]

beside_not : (g : ℕ → PartReq) (j : ℕ) → table_size ≤ j → j < asked_slot → besides g j ≡ none
unfolding besides
beside_not g j h l = rw (le-ltb j table_size h, lt-ltb j asked_slot l)

pub beside_high : (j : ℕ) → asked_slot ≤ j → Beside j
beside_high j h = record { is = λ l. h }

pub beside_low : (j : ℕ) → j < table_size → Beside j
beside_low j h = record { is = λ l. absurd (omega arith) }

-- all slots, as a list given by number
held_tab : (s rs : List ℕ) (n : ℕ) → n ≤ length rs → held_by s rs n ≡ tab n (λ j. in_slot s rs j)
unfolding tab
held_tab s rs zero h = refl
held_tab s rs (suc n) h = rw (take-suc rs n 0) (map_end (take n rs) (get_or rs n 0) ∙ ap (λ l. l ++ (in_slot s rs n ∷ [])) (held_tab s rs n (omega arith)))
  where
    map_end : (l : List ℕ) (x : ℕ) → meant s (l ++ (x ∷ [])) ≡ meant s l ++ (meant s (x ∷ []))
    map_end [] x = refl
    map_end (y ∷ l) x = ap (λ m. meant s (y ∷ []) ++ m) (map_end l x)

-- one of a list given by number
tab-in : (n : ℕ) (f : ℕ → PartReq) (j : ℕ) → j < n → Among (cells_in (f j)) (reached (tab n f))
tab-in n f j h q z = at_in (tab n f) j q (rw (get_d_tab n f j none h) z)

-- each of a list given by number
tab-each : (n : ℕ) (f : ℕ → PartReq) (m : List PartReq) → ((j : ℕ) → j < n → Among (cells_in (f j)) (reached m)) → Among (reached (tab n f)) (reached m)
tab-each n f m h =
    each_in (tab n f) m
    (λ j.
    elim (dec_lt j n) [
      | yes l ↦ λ q z. h j l q (rw (get_d_tab n f j none l) at z)
      | no l ↦ λ q z. none_in (reached m) q (rw (tab-past n f j none (omega arith)) at z)
    ])

module _ (s rs : List ℕ) (n : ℕ) (low : asked_slot ≤ n) (few : n ≤ length rs) where
  slot_apart : (j : ℕ) → j < n → Among (cells_in (in_slot s rs j)) (reached (aside_of s rs n ++ new_of s rs))
  unfolding aside_of new_of
  slot_apart j l q z =
      elim (dec_lt j table_size) [
        | yes a ↦
            left_in (aside_of s rs n) (new_of s rs) q
            (tab-in n (besides (λ j. in_slot s rs j)) j l q (rw (beside_at (λ j. in_slot s rs j) j (beside_low j a)) z))
        | no a ↦
            elim (dec_lt j asked_slot) [
              | yes b ↦
                  let i : ℕ = j - table_size in
                  let e : table_size + i ≡ j = omega arith in
                  right_in (aside_of s rs n) (new_of s rs) q
                  (tab-in table_size (λ j. in_slot s rs (table_size + j)) i (omega arith) q (rw e z))
              | no b ↦
                  left_in (aside_of s rs n) (new_of s rs) q
                  (tab-in n (besides (λ j. in_slot s rs j)) j l q (rw (beside_at (λ j. in_slot s rs j) j (beside_high j (omega arith))) z))
            ]
      ]

  apart_slot : (j : ℕ) → j < n → Among (cells_in (besides (λ j. in_slot s rs j) j)) (reached (held_by s rs n))
  apart_slot j l q z =
      elim (dec_lt j table_size) [
        | yes a ↦ rw (held_tab s rs n few) (tab-in n (λ j. in_slot s rs j) j l q (rw (beside_at (λ j. in_slot s rs j) j (beside_low j a)) at z))
        | no a ↦
            elim (dec_lt j asked_slot) [
              | yes b ↦ none_in (reached (held_by s rs n)) q (rw (beside_not (λ j. in_slot s rs j) j (omega arith) b) at z)
              | no b ↦ rw (held_tab s rs n few) (tab-in n (λ j. in_slot s rs j) j l q (rw (beside_at (λ j. in_slot s rs j) j (beside_high j (omega arith))) at z))
            ]
      ]

  -- all slots reach what those kept aside and the new table do
  pub held_apart : Reach (held_by s rs n) (aside_of s rs n ++ new_of s rs)
  unfolding aside_of new_of
  held_apart = record {
    into = λ q z. tab-each n (λ j. in_slot s rs j) (aside_of s rs n ++ new_of s rs) slot_apart q (rw (held_tab s rs n few) at z);
    back =
        both_in (aside_of s rs n) (new_of s rs) (held_by s rs n)
        (tab-each n (besides (λ j. in_slot s rs j)) (held_by s rs n) apart_slot)
        (tab-each table_size (λ j. in_slot s rs (table_size + j)) (held_by s rs n)
        (λ j l q z. rw (held_tab s rs n few) (tab-in n (λ j. in_slot s rs j) (table_size + j) (omega arith) q z)));
  }

-- a slot more kept aside
pub aside_more : (s rs : List ℕ) (n : ℕ) → asked_slot ≤ n → Reach (aside_of s rs (n + 1)) (in_slot s rs n ∷ aside_of s rs n)
unfolding aside_of tab
aside_more s rs n low =
    rw (add-one n, beside_at (λ j. in_slot s rs j) n (beside_high n low)) (reach_swap (aside_of s rs n) (in_slot s rs n ∷ []))

-- the last slot, what is kept aside below it and the new table
pub held_last : (s rs : List ℕ) (n : ℕ) → asked_slot ≤ n → n + 1 ≤ length rs → Reach (held_by s rs (n + 1)) (in_slot s rs n ∷ (aside_of s rs n ++ new_of s rs))
held_last s rs n low few =
    reach_trans (held_apart s rs (n + 1) (omega arith) few) (reach_right (aside_more s rs n low) (new_of s rs))

-- slots that mean the same
pub aside_same : (s rs t us : List ℕ) (n : ℕ) → ((j : ℕ) → j < n → Beside j → in_slot t us j ≡ in_slot s rs j) → aside_of t us n ≡ aside_of s rs n
unfolding aside_of
aside_same s rs t us n h = tab-same n (besides (λ j. in_slot t us j)) (besides (λ j. in_slot s rs j)) one
  where
    one : (j : ℕ) → j < n → besides (λ j. in_slot t us j) j ≡ besides (λ j. in_slot s rs j) j
    one j l =
        elim (dec_lt j table_size) [
          | yes a ↦ both j (beside_low j a) l
          | no a ↦
              elim (dec_lt j asked_slot) [
                | yes b ↦ let c : table_size ≤ j = omega arith in beside_not (λ j. in_slot t us j) j c b ∙ sym (beside_not (λ j. in_slot s rs j) j c b)
                | no b ↦ both j (beside_high j (omega arith)) l
              ]
        ]
      where
        both : (j : ℕ) → Beside j → j < n → besides (λ j. in_slot t us j) j ≡ besides (λ j. in_slot s rs j) j
        both j b l = beside_at (λ j. in_slot t us j) j b ∙ h j l b ∙ sym (beside_at (λ j. in_slot s rs j) j b)

-- the new table's slots reach what the carried table does
pub new_table : (s rs : List ℕ) (c : Carried) → TableIn s rs c → Reach (new_of s rs) c.table
unfolding new_of reentry
new_table s rs c h =
    reach_get_d (new_of s rs) c.table
    (λ j.
    elim (dec_lt j table_size) [
      | yes l ↦ get_d_tab table_size (λ j. in_slot s rs (table_size + j)) j none l ∙ h.is j l
      | no l ↦ tab-past table_size (λ j. in_slot s rs (table_size + j)) j none (omega arith) ∙ sym (get_or-eq_default c.table none (omega (arith, h.short)))
    ])
