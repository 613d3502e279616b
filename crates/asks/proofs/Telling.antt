-- What each answer tells: laws for the ways out of an arm's code. The arms that ask at most one thing, then a construction's, whose asks follow its
-- components or the entries of the part.
use mathlib.Core.Path.{◌≡◌, refl, sym, ◌∙◌}
use mathlib.Core.Bool.{Bool, true, false, cond, true≢false, false≢true}
use mathlib.Core.List.{List, [], ◌∷◌}
use mathlib.Core.Option.{Option, some, none as nothing}
use Rattle.std.specs.Prelude as std
use Rattle.std.specs.Prelude.{Some, None, MatchOption, unwrap_or}
use Prim.Native.Nat.{ℕ, zero, suc, ◌<◌, ◌≤◌}
use native.Mathlib.Omega.{arith}
use native.Mathlib.Nat.{le_of_suc-le-suc}
use native.Mathlib.Decide.{dec_lt}
use lib.ListN.{length, get_or, get_elem?, get_or-eq_default}
use Rattle.field.specs.Limits.{max_depth}
use Rattle.field.specs.Refusal.{number}
use Rattle.field.specs.declared.refusal.Refusal.{Refusal}
use Rattle.field.specs.declared.refusal.Refusal.TheVariants.{Panic, PartLimit}
use Rattle.part.specs.PartReq.{PartReq, all, exist, none, more, over, spine, is_all, is_exist}
use Rattle.part.specs.Store.{part}
use Rattle.module.specs.Module.{ExpressionHandle}
use Rattle.module.specs.declared.handles.ExpressionHandle as handles
use Rattle.module.specs.Decode.{tab}
use Rattle.module.proofs.Tab.{length-tab, get_d_tab, tab-past}
use Rattle.context.specs.Swizzle.{Swizzled, asks, panics, swizzled}
use Rattle.walk.specs.Expression.{Ask, of_operand, refuse, formed, constant_asks, swizzle_asks, all_of_each, component_ask, entry_asks, compose_asks}
use Rattle.valid.specs.Valid.{EachBelow}
use Rattle.memory.specs.declared.want.Want.{Want}
use Rattle.memory.specs.Layout.{all_slot}
use Rattle.memory.specs.Memory.{Memory}
use Rattle.memory.specs.Want.{kid, after, tail, asked, Wants, want_of, wrapped, first, Child}
use Rattle.memory.specs.Picks.{Letters, Picking, Picks}
use Rattle.memory.proofs.Asks.{asks-wrapped, wrap_low, asking_wrapped}
use Rattle.memory.proofs.Slots.{asked-slot, want_slot}
use Rattle.memory.proofs.FlatParts.{swizzled-same}
use Rattle.asks.specs.Asks.{Told, Lettered}
use Rattle.asks.specs.Ways.{By}
use Rattle.asks.specs.declared.what.Ask.TheVariants.{Operand, Refuse}
use Rattle.asks.proofs.FieldAsks.{wants_all}

module _ {s rs : List ℕ} {w : Want} {xs : List Ask} {j : ℕ} where
  pub told_end : get_elem? xs j ≡ nothing → Told s rs w xs j None
  told_end e = record { wants = tt; is = e }

  pub told_refuse : {r : Refusal} → get_elem? xs j ≡ some (refuse (number r)) → Told s rs w xs j (Some (Refuse r))
  told_refuse e = record { wants = tt; is = e }

  pub told_operand : (h : handles.ExpressionHandle) {p : PartReq} {u : Want} → By s rs p u → get_elem? xs j ≡ some (of_operand h.0 p) → Told s rs w xs j (Some (Operand h u))
  told_operand h b e = record { wants = b.wants; is = e ∙ rw b.is }

-- at most one thing
none_after : (xs : List Ask) (j : ℕ) → length xs ≤ 1 → 0 < j → get_elem? xs j ≡ nothing
none_after [] j f h = refl
none_after (a ∷ []) zero f h = absurd (omega arith)
none_after (a ∷ []) (suc j) f h = refl
none_after (a ∷ (b ∷ xs)) j f h = absurd (omega arith)

formed-few : (a : ExpressionHandle) (p : PartReq) → length (formed a p) ≤ 1
unfolding formed
formed-few a p = go (over p)
  where
    go : (o : Bool) → length (cond o (refuse 15 ∷ []) (of_operand a p ∷ [])) ≤ 1
    go true = omega arith
    go false = omega arith

constant_few : (p : PartReq) → length (constant_asks p) ≤ 1
unfolding constant_asks
constant_few all = omega arith
constant_few exist = omega arith
constant_few none = omega arith
constant_few (more i p r) = omega arith

swizzle_few : (a : ExpressionHandle) (x : Swizzled) → length (swizzle_asks a x) ≤ 1
unfolding swizzle_asks
swizzle_few a (asks p) = formed-few a p
swizzle_few a panics = omega arith

-- room for the index that an access wraps around
pub index_room : (s rs : List ℕ) {w : Want} → Wants s rs w → {i : ℕ} {b : Bool} → b ≡ over (more i (asked s rs w) none) → i < spine → b ≡ false → w.up < max_depth
index_room s rs {w} q {i} o l f = wrap_low w (part s (get_or rs w.slot 0)) q i l (sym o ∙ f)

module _ {s rs : List ℕ} {w : Want} (j : ℕ) where
  pub index_after : (a : ExpressionHandle) (p : PartReq) → 0 < j → Told s rs w (formed a p) j None
  index_after a p h = told_end (none_after (formed a p) j (formed-few a p) h)

  -- the index i is the field x, and b says whether {i: what w asks} passes a limit
  module _ (h : j ≤ 0) {i x : ℕ} {b : Bool} (d : i ≡ x) (o : b ≡ over (more i (asked s rs w) none)) where
    pub index_over : (a : ExpressionHandle) → b ≡ true → Told s rs w (formed a (more x (asked s rs w) none)) j (Some (Refuse PartLimit))
    unfolding formed
    index_over a t = let z : j ≡ 0 = omega arith in told_refuse (rw (z, ← d, ← o, t))

    pub index_asked : Wants s rs w → {e : handles.ExpressionHandle} {a : ExpressionHandle} {u : Want} → i < spine → b ≡ false → e.0 ≡ a → u ≡ wrapped w i → Told s rs w (formed a (more x (asked s rs w) none)) j (Some (Operand e u))
    unfolding formed
    index_asked q {e} l f c g =
        let z : j ≡ 0 = omega arith in
        let p = part s (get_or rs w.slot 0) in
        rw g
        (told_operand e (record { wants = asking_wrapped w p q i l (sym o ∙ f); is = asks-wrapped w p q i (wrap_low w p q i l (sym o ∙ f)) })
        (rw (z, ← d, ← o, f, c)))

  pub constant_after : (p : PartReq) → 0 < j → Told s rs w (constant_asks p) j None
  constant_after p h = told_end (none_after (constant_asks p) j (constant_few p) h)

  pub constant_all : (p : PartReq) → true ≡ is_all p → Told s rs w (constant_asks p) j None
  unfolding constant_asks
  constant_all all h = told_end refl
  constant_all exist h = absurd (true≢false h)
  constant_all none h = absurd (true≢false h)
  constant_all (more i p r) h = absurd (true≢false h)

  pub constant_exist : (p : PartReq) → true ≡ is_exist p → Told s rs w (constant_asks p) j None
  unfolding constant_asks
  constant_exist all h = absurd (true≢false h)
  constant_exist exist h = told_end refl
  constant_exist none h = absurd (true≢false h)
  constant_exist (more i p r) h = absurd (true≢false h)

  pub constant_refused : (p : PartReq) → j ≤ 0 → false ≡ is_all p → false ≡ is_exist p → Told s rs w (constant_asks p) j (Some (Refuse Panic))
  unfolding constant_asks
  constant_refused all h a e = absurd (false≢true a)
  constant_refused exist h a e = absurd (false≢true e)
  constant_refused none h a e = let z : j ≡ 0 = omega arith in told_refuse (rw z)
  constant_refused (more i p r) h a e = let z : j ≡ 0 = omega arith in told_refuse (rw z)

  pub swizzle_after : (a : ExpressionHandle) (x : Swizzled) → 0 < j → Told s rs w (swizzle_asks a x) j None
  swizzle_after a x h = told_end (none_after (swizzle_asks a x) j (swizzle_few a x) h)

-- the letters of a pattern
pub letter_filled : (n : ℕ) (f : ℕ → ℕ) (i : ℕ) (r : std.Option ℕ) → MatchOption r (n ≤ i) (λ x. (i < n) × (x ≡ f i)) → unwrap_or r 0 ≡ get_or (tab n f) i 0
letter_filled n f i None h = sym (tab-past n f i 0 h)
letter_filled n f i (Some x) h = h.1 ∙ sym (get_d_tab n f i 0 h.0)

pub lettered : {pattern : List ℕ} {a b c d : ℕ} → a ≡ get_or pattern 0 0 → b ≡ get_or pattern 1 0 → c ≡ get_or pattern 2 0 → d ≡ get_or pattern 3 0 → Lettered pattern (a ∷ b ∷ c ∷ d ∷ [])
lettered {pattern} {a} {b} {c} {d} p q r s = record { same = go }
  where
    go : (i : ℕ) → i < 4 → get_or (a ∷ b ∷ c ∷ d ∷ []) i 0 ≡ get_or pattern i 0
    go zero h = p
    go (suc zero) h = q
    go (suc (suc zero)) h = r
    go (suc (suc (suc zero))) h = s
    go (suc (suc (suc (suc i)))) h = absurd (omega arith)

-- a swizzle: the letters stand for the pattern, and the slot that was picked has what is asked
pub letters-low : {pattern letters : List ℕ} → EachBelow 4 pattern → Lettered pattern letters → Letters letters
letters-low {pattern} {letters} b l = record { low = λ i h. rw (l.same i h) (low pattern i b) }
  where
    low : (xs : List ℕ) (i : ℕ) → EachBelow 4 xs → get_or xs i 0 < 4
    low xs i b =
        elim (dec_lt i (length xs)) [
          | yes h ↦ b i h
          | no h ↦
              let l : length xs ≤ i = omega arith in
              rw (get_or-eq_default xs 0 l) (omega arith)
        ]

module _ {s rs pattern letters : List ℕ} (w : Want) (j : ℕ) (l : Lettered pattern letters) where
  picked : {a : std.Option ℕ} → Picks s rs (swizzled letters (asked s rs w)) a → Picking s rs (swizzled pattern (asked s rs w)) a
  picked x = rw (← swizzled-same letters pattern l.same (asked s rs w)) x.by

  pub swizzle_refused : (v : ExpressionHandle) → j ≤ 0 → Picks s rs (swizzled letters (asked s rs w)) None → Told s rs w (swizzle_asks v (swizzled pattern (asked s rs w))) j (Some (Refuse Panic))
  unfolding swizzle_asks
  swizzle_refused v h x = let z : j ≡ 0 = omega arith in told_refuse (rw (picked x, z))

  pub swizzle_asked : {h : handles.ExpressionHandle} {v : ExpressionHandle} {u : Want} {n : ℕ} → j ≤ 0 → Picks s rs (swizzled letters (asked s rs w)) (Some n) → h.0 ≡ v → u ≡ want_of n
      → Told s rs w (swizzle_asks v (swizzled pattern (asked s rs w))) j (Some (Operand h u))
  unfolding swizzle_asks formed
  swizzle_asked {h} {n = n} z x c g =
      let i : j ≡ 0 = omega arith in
      let k = picked x in
      rw g
      (told_operand h (record { wants = want_slot s rs n k.0 k.1.0; is = asked-slot s rs n }) (rw (k.1.1, k.1.0, i, c)))

-- a construction: its components, where all is asked
abbrev whole_of : Option ExpressionHandle → Option Ask
whole_of nothing = nothing
whole_of (some c) = some (of_operand c all)

each_is : (cs : List ExpressionHandle) (j : ℕ) → get_elem? (all_of_each cs) j ≡ whole_of (get_elem? cs j)
unfolding all_of_each
each_is [] j = refl
each_is (c ∷ cs) zero = refl
each_is (c ∷ cs) (suc j) = each_is cs j

component_at : (cs : List ExpressionHandle) (i : ℕ) → i < length cs → get_elem? cs i ≡ some (get_or cs i 0)
component_at [] i h = absurd (omega arith)
component_at (c ∷ cs) zero h = refl
component_at (c ∷ cs) (suc i) h = component_at cs i (le_of_suc-le-suc h)

component_past : (cs : List ExpressionHandle) (i : ℕ) → length cs ≤ i → get_elem? cs i ≡ nothing
component_past [] i h = refl
component_past (c ∷ cs) zero h = absurd (omega arith)
component_past (c ∷ cs) (suc i) h = component_past cs i (le_of_suc-le-suc h)

-- and the entries of the part else
tail-of_rest : (i : ℕ) (p r : PartReq) (j : ℕ) → tail (more i p r) (suc j) ≡ tail r j
unfolding tail after
tail-of_rest i p r zero = refl
tail-of_rest i p r (suc j) = rw (tail-of_rest i p r j)

after-ended : (p : PartReq) → None ≡ first p → None ≡ first (after p)
unfolding after
after-ended all h = refl
after-ended exist h = refl
after-ended none h = refl
after-ended (more i p r) h = cc

ended : (p : PartReq) (j : ℕ) → None ≡ first p → None ≡ first (tail p j)
unfolding tail
ended p zero h = h
ended p (suc j) h = after-ended (tail p j) (ended p j h)

entries_at : (cs : List ExpressionHandle) (p : PartReq) (j i : ℕ) → Some i ≡ first (tail p j) → get_elem? (entry_asks cs p) j ≡ some (component_ask (get_elem? cs i) (kid (tail p j)))
unfolding entry_asks
entries_at cs all j i h = let e = ended all j refl in cc
entries_at cs exist j i h = let e = ended exist j refl in cc
entries_at cs none j i h = let e = ended none j refl in cc
entries_at cs (more k p r) zero i h =
    let e : Some i ≡ Some k = unfold tail in h in
    let z : i ≡ k = cc in
    rw z (unfold tail kid in refl)
entries_at cs (more k p r) (suc j) i h = rw tail-of_rest (entries_at cs r j i (rw tail-of_rest at h))

entries_past : (cs : List ExpressionHandle) (p : PartReq) (j : ℕ) → None ≡ first (tail p j) → get_elem? (entry_asks cs p) j ≡ nothing
unfolding entry_asks
entries_past cs all j h = refl
entries_past cs exist j h = refl
entries_past cs none j h = refl
entries_past cs (more i p r) zero h = let e : None ≡ Some i = unfold tail in h in cc
entries_past cs (more i p r) (suc j) h = entries_past cs r j (rw tail-of_rest at h)

by_entries : (cs : List ExpressionHandle) (p : PartReq) → false ≡ is_all p → compose_asks cs p ≡ entry_asks cs p
unfolding compose_asks entry_asks
by_entries cs all h = absurd (false≢true h)
by_entries cs exist h = refl
by_entries cs none h = refl
by_entries cs (more i p r) h = refl

entry_is : (cs : List ExpressionHandle) (p : PartReq) (j : ℕ) → false ≡ is_all p → {i : ℕ} → Some i ≡ first (tail p j) → get_elem? (compose_asks cs p) j ≡ some (component_ask (get_elem? cs i) (kid (tail p j)))
entry_is cs p j h e = rw (by_entries cs p h) (entries_at cs p j _ e)

by_components : (cs : List ExpressionHandle) (p : PartReq) → true ≡ is_all p → compose_asks cs p ≡ all_of_each cs
unfolding compose_asks
by_components cs all h = refl
by_components cs exist h = absurd (true≢false h)
by_components cs none h = absurd (true≢false h)
by_components cs (more i p r) h = absurd (true≢false h)

module _ {s rs : List ℕ} {w : Want} (j : ℕ) (n : ℕ) (f : ℕ → ℕ) where
  module _ (h : true ≡ is_all (asked s rs w)) where
    pub compose_all : (x : handles.ExpressionHandle) {u : Want} → Memory s rs → j < n → x.0 ≡ f j → u ≡ want_of all_slot → Told s rs w (compose_asks (tab n f) (asked s rs w)) j (Some (Operand x u))
    compose_all x m l e g =
        told_operand x (wants_all m g)
        (rw (by_components (tab n f) (asked s rs w) h, each_is (tab n f) j, component_at (tab n f) j (rw length-tab l), get_d_tab n f j 0 l, e))

    pub compose_all_past : n ≤ j → Told s rs w (compose_asks (tab n f) (asked s rs w)) j None
    compose_all_past l = told_end (rw (by_components (tab n f) (asked s rs w) h, each_is (tab n f) j, component_past (tab n f) j (rw length-tab l)))

  module _ (h : false ≡ is_all (asked s rs w)) where
    pub compose_past : None ≡ first (tail (asked s rs w) j) → Told s rs w (compose_asks (tab n f) (asked s rs w)) j None
    compose_past e = told_end (rw (by_entries (tab n f) (asked s rs w) h) (entries_past (tab n f) (asked s rs w) j e))

    module _ {i : ℕ} (e : Some i ≡ first (tail (asked s rs w) j)) where
      pub compose_entry : (x : handles.ExpressionHandle) {u : Want} → i < n → x.0 ≡ f i → Child s rs w j u → Told s rs w (compose_asks (tab n f) (asked s rs w)) j (Some (Operand x u))
      unfolding component_ask
      compose_entry x l d c =
          told_operand x (record { wants = c.wants; is = c.is })
          (entry_is (tab n f) (asked s rs w) j h e ∙ rw (component_at (tab n f) i (rw length-tab l), get_d_tab n f i 0 l, d))

      pub compose_refused : n ≤ i → Told s rs w (compose_asks (tab n f) (asked s rs w)) j (Some (Refuse Panic))
      unfolding component_ask
      compose_refused l = told_refuse (entry_is (tab n f) (asked s rs w) j h e ∙ rw (component_past (tab n f) i (rw length-tab l)))
