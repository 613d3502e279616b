-- `contains` on a list of entries, entry by entry: what a need asks of the first one (`asks`), and what of the others. A list that was read ends in `none`.
use Prim.Native.Nat.{ℕ, zero, suc, ◌+◌, ◌<◌, ◌≤◌}
use native.Mathlib.Omega.{arith}
use mathlib.Core.Path.{◌≡◌, refl, ap, sym, ◌∙◌}
use mathlib.Core.Bool.{Bool, true, false, cond, ◌&&◌}
use mathlib.Core.List.{List, [], ◌∷◌}
use mathlib.Core.Option.{Option, some, none as nothing}
use lib.Dec.{leb, ltb}
use borrow.Author.Tests.{lt-ltb, le-ltb}
use Rattle.field.specs.Limits.{absent}
use Rattle.part.specs.PartReq.{PartReq, all, exist, none, more, contains, is_all, is_exist}
use Rattle.part.proofs.Equations.{way, before, after as behind, at, contains-exist, contains-all, contains-none, contains-lt, contains_gt, contains-eq}
use Rattle.request.specs.Fields.{Read, malformed, got, ◌>>=◌}
use Rattle.request.specs.Part.{read_entries}
use Rattle.context_bytes.specs.Covered.{covers, Asked, other, each, asks, after}

-- what `asks` comes to
module _ (i j : ℕ) (q s : PartReq) where
  pub asks-before : i < j → asks (more j q s) i ≡ each exist (more j q s)
  unfolding asks
  asks-before h = simp (lt-ltb i j h)

  pub asks_after : j < i → asks (more j q s) i ≡ other
  unfolding asks
  asks_after h = let z : j ≤ i = omega arith in simp (le-ltb i j z, lt-ltb j i h)

  pub asks_at : i ≡ j → asks (more j q s) i ≡ each q s
  unfolding asks
  asks_at e =
      let h : j ≤ i = omega arith in
      let l : i ≤ j = omega arith in
      simp (le-ltb i j h, le-ltb j i l)

unfoldable allows : PartReq → PartReq → Asked → Bool
allows p r other = false
allows p r (each c t) = contains p c && contains r t

ask_is : (q : PartReq) (j : ℕ) (p r : PartReq) → is_exist r ≡ false → contains (more j p r) q ≡ allows p r (asks q j)
unfolding allows asks
ask_is all j p r h = contains-all _
ask_is exist j p r h = rw (contains-exist (more j p r), contains-exist p, contains-exist r)
ask_is none j p r h = rw (contains-none (more j p r), contains-exist p, contains-none r, h)
ask_is (more k q s) j p r h =
    elim (way j k) [
      | before l ↦ rw (asks-before j k q s l) (rw (contains-exist p) (contains-lt j k p q r s l))
      | behind l ↦ rw (asks_after j k q s l) (contains_gt j k p q r s l)
      | at e ↦ rw (asks_at j k q s e) (contains-eq j k p q r s e)
    ]

-- a list that was read is neither `all` nor `exist`
IsList : PartReq → Type 0
IsList r = (is_all r ≡ false) × (is_exist r ≡ false)

more_list : (y : Read PartReq) (j : ℕ) (p : PartReq) {r : PartReq} {gs : List ℕ} → (y >>= λ q hs. got (more j p q) hs) ≡ got r gs → IsList r
unfolding IsList
more_list malformed j p e = let z : ◌≡◌ {A = ℕ} 0 1 = cc in absurd (omega arith)
more_list (got q hs) j p {r} e = let z : more j p q ≡ r = cc in (sym (ap is_all z), sym (ap is_exist z))

entry_list : (c : Bool) (x : Read PartReq) (y : List ℕ → Read PartReq) (j : ℕ) {r : PartReq} {gs : List ℕ}
    → cond c (x >>= λ p fs. y fs >>= λ q hs. got (more j p q) hs) malformed ≡ got r gs → IsList r
entry_list false x y j e = let z : ◌≡◌ {A = ℕ} 0 1 = cc in absurd (omega arith)
entry_list true malformed y j e = let z : ◌≡◌ {A = ℕ} 0 1 = cc in absurd (omega arith)
entry_list true (got p fs) y j e = more_list (y fs) j p e

pub read_list : (part' : List ℕ → Read PartReq) (base low n : ℕ) (fs : List ℕ) {r : PartReq} {gs : List ℕ} → read_entries part' base low n fs ≡ got r gs → (is_all r ≡ false) × (is_exist r ≡ false)
unfolding read_entries IsList
read_list part' base low zero fs {r} e = let z : none ≡ r = cc in (sym (ap is_all z), sym (ap is_exist z))
read_list part' base low (suc n) [] e = let z : ◌≡◌ {A = ℕ} 0 1 = cc in absurd (omega arith)
read_list part' base low (suc n) (i ∷ fs) e = entry_list (leb low i && ltb i absent) (part' fs) (read_entries part' base (suc i) n) (base + i) e

-- the entries after a first one that was read: `z`
unfoldable through : Asked → PartReq → Read PartReq → Option (List ℕ)
through other p z = nothing
through (each c t) p z = cond (contains p c) (covers t z) nothing

never_some : (b : Bool) → ◌≡◌ {A = Option (List ℕ)} nothing (cond b nothing nothing)
never_some true = refl
never_some false = refl

through-malformed : (a : Asked) (p : PartReq) → nothing ≡ through a p malformed
unfolding through covers
through-malformed other p = refl
through-malformed (each c t) p = never_some (contains p c)

cond-and : (a b : Bool) (hs : List ℕ) → cond (a && b) (some hs) nothing ≡ cond a (cond b (some hs) nothing) nothing
cond-and true b hs = refl
cond-and false b hs = refl

through-got : (a : Asked) (p r : PartReq) (hs : List ℕ) → cond (allows p r a) (some hs) nothing ≡ through a p (got r hs)
unfolding through covers allows
through-got other p r hs = refl
through-got (each c t) p r hs = cond-and (contains p c) (contains r t) hs

through-is : (q : PartReq) (j : ℕ) (p : PartReq) (z : Read PartReq) → ((r : PartReq) (gs : List ℕ) → z ≡ got r gs → is_exist r ≡ false)
    → covers q (z >>= λ r hs. got (more j p r) hs) ≡ through (asks q j) p z
unfolding covers
through-is q j p malformed h = through-malformed (asks q j) p
through-is q j p (got r hs) h = rw (ask_is q j p r (h r hs refl)) (through-got (asks q j) p r hs)

-- an entry, read by x, and those after it, read by y
unfoldable step : Asked → Read PartReq → (List ℕ → Read PartReq) → Option (List ℕ)
step other x y = nothing
step (each c t) x y = after (covers c x) (λ gs. covers t (y gs))

after-cond : (b : Bool) (gs : List ℕ) (f : List ℕ → Option (List ℕ)) → cond b (f gs) nothing ≡ after (cond b (some gs) nothing) f
after-cond true gs f = refl
after-cond false gs f = refl

step-malformed : (a : Asked) (y : List ℕ → Read PartReq) → nothing ≡ step a malformed y
unfolding step covers
step-malformed other y = refl
step-malformed (each c t) y = refl

step-got : (a : Asked) (p : PartReq) (gs : List ℕ) (y : List ℕ → Read PartReq) → through a p (y gs) ≡ step a (got p gs) y
unfolding step through covers
step-got other p gs y = refl
step-got (each c t) p gs y = after-cond (contains p c) gs (λ fs. covers t (y fs))

step_is : (q : PartReq) (j : ℕ) (x : Read PartReq) (y : List ℕ → Read PartReq) → ((fs : List ℕ) (r : PartReq) (gs : List ℕ) → y fs ≡ got r gs → is_exist r ≡ false)
    → covers q (x >>= λ p gs. y gs >>= λ r hs. got (more j p r) hs) ≡ step (asks q j) x y
unfolding covers
step_is q j malformed y h = step-malformed (asks q j) y
step_is q j (got p gs) y h = through-is q j p (y gs) (h gs) ∙ step-got (asks q j) p gs y

-- n entries, by what the need q asks of the first
module _ (q : PartReq) (j : ℕ) (x : Read PartReq) (part' : List ℕ → Read PartReq) (base low n : ℕ) where
  abbrev entry : Read PartReq
  entry = x >>= λ p gs. read_entries part' base low n gs >>= λ r hs. got (more j p r) hs

  stepped : covers q entry ≡ step (asks q j) x (read_entries part' base low n)
  stepped = step_is q j x (read_entries part' base low n) (λ fs r gs e. (read_list part' base low n fs e).1)

  pub covers-other : asks q j ≡ other → covers q entry ≡ nothing
  unfolding step
  covers-other e = stepped ∙ rw e

  module _ {c t : PartReq} (e : asks q j ≡ each c t) where
    pub covers-not : covers c x ≡ nothing → covers q entry ≡ nothing
    unfolding step
    covers-not h = stepped ∙ rw (e, h)

    pub covers-rest : {gs : List ℕ} → covers c x ≡ some gs → covers q entry ≡ covers t (read_entries part' base low n gs)
    unfolding step
    covers-rest h = stepped ∙ rw (e, h)
