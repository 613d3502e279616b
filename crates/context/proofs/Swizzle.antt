-- The arm of `Swizzle` asks of its vector what WGSL's swizzle picks, where all is asked of each component: along the entries, with
-- what has been collected before them. (Where the entries differ, the last of two with one letter stays, which is the Rust's own way.)
use Prim.Native.Nat.{ℕ, zero, suc, ◌+◌, ◌<◌, ◌≤◌}
use native.Mathlib.Omega.{arith}
use native.Mathlib.Decide.{ℕ_discrete}
use mathlib.Core.Path.{◌≡◌, refl, ◌∙◌}
use mathlib.Core.Logic.{◌⊎◌, inl, inr}
use mathlib.Core.List.{List, [], ◌∷◌, map}
use lib.ListN.{length, get_or}
use borrow.Author.Tests.{lt-ltb}
use Rattle.part.specs.PartReq.{PartReq, all, exist, none, more}
use Rattle.part.specs.Insert.{insert}
use Rattle.part.specs.Ascending.{From}
use Rattle.part.proofs.Equations.{way, before, after, at, insert_before, insert_at, insert-after}
use Rattle.part.proofs.Ascending.{from_insert}
use Rattle.context.specs.Wgsl.{Letter, named, x, y, z, w, r, g, b, a, Picks, first, later}
use Rattle.context.specs.Swizzle.{asks, is_flat, collected, swizzled}
use Rattle.context.specs.Components.{times, Whole, Picked, Agrees}
use Rattle.context.proofs.Wgsl.{times-at, times-off, times_none}

-- how often the component c is asked
abbrev asked : PartReq → ℕ → ℕ
asked p c = times p (c ∷ [])

-- an entry of which all is asked counts one
one_more : (c i : ℕ) (m : PartReq) → i ≡ c → asked (more i all m) c ≡ 1 + asked m c
one_more c i m e = times-at all c [] i m e ∙ (unfold times in refl)

module _ (c : ℕ) where
  -- the entry that is put in is asked
  inserted : (m : PartReq) → 0 < asked (insert m c all) c
  inserted all = unfold insert in omega (arith, one_more c c none refl)
  inserted exist = unfold insert in omega (arith, one_more c c none refl)
  inserted none = unfold insert in omega (arith, one_more c c none refl)
  inserted (more i p m) =
      let ih = inserted m in
      elim (way c i) [
        | before h ↦ rw (insert_before c i all p m h) (omega (arith, one_more c c (more i p m) refl))
        | after h ↦ rw (insert-after c i all p m h) (rw (times-off p c [] i (insert m c all) (omega arith)) ih)
        | at e ↦ rw (insert_at c i all p m e) (omega (arith, one_more c c m refl))
      ]

  -- and of the others nothing changes
  not_inserted : (d : ℕ) → (c ≡ d → ⊥) → (m : PartReq) → asked (insert m c all) d ≡ asked m d
  not_inserted d n all = unfold insert times in (times-off all d [] c none n)
  not_inserted d n exist = unfold insert times in (times-off all d [] c none n)
  not_inserted d n none = unfold insert in (times-off all d [] c none n)
  not_inserted d n (more i p m) =
      let ih = not_inserted d n m in
      elim (way c i) [
        | before h ↦ rw (insert_before c i all p m h) (times-off all d [] c (more i p m) n)
        | after h ↦
            rw (insert-after c i all p m h)
            (elim (ℕ_discrete i d) [
              | yes e ↦ rw (times-at p d [] i (insert m c all) e, times-at p d [] i m e, ih)
              | no e ↦ rw (times-off p d [] i (insert m c all) e, times-off p d [] i m e, ih)
            ])
        | at e ↦
            let o : i ≡ d → ⊥ = omega arith in
            rw (insert_at c i all p m e, times-off all d [] c m n, times-off p d [] i m o)
      ]

  insert-whole : (n : ℕ) (m : PartReq) → c < n → Whole n m → Whole n (insert m c all)
  insert-whole n all h f = absurd f
  insert-whole n exist h f = absurd f
  insert-whole n none h f = unfold insert in (h, (refl, tt))
  insert-whole n (more i p m) h f =
      elim (way c i) [
        | before l ↦ rw (insert_before c i all p m l) (h, (refl, f))
        | after l ↦ rw (insert-after c i all p m l) (f.0, (f.1.0, insert-whole n m h f.1.1))
        | at e ↦ rw (insert_at c i all p m e) (h, (refl, f.1.1))
      ]

-- what ascends asks a component once at most
below_from : (k c : ℕ) (m : PartReq) → From k m → c < k → asked m c ≡ 0
below_from k c all f h = absurd f
below_from k c exist f h = absurd f
below_from k c none f h = times_none none c []
below_from k c (more i p m) f h = times-off p c [] i m (omega (arith, f.0)) ∙ below_from (suc i) c m f.1.1 (omega (arith, f.0))

once : (n k c : ℕ) (m : PartReq) → From k m → Whole n m → asked m c ≤ 1
once n k c all f h = absurd f
once n k c exist f h = absurd f
once n k c none f h = omega (arith, times_none none c [])
once n k c (more i p m) f h =
    elim (ℕ_discrete i c) [
      | yes e ↦ rw h.1.0 (omega (arith, one_more c i m e, below_from (suc i) c m f.1.1 (omega arith)))
      | no e ↦ omega (arith, times-off p c [] i m e, once n (suc i) c m f.1.1 h.1.1)
    ]

-- the letters, as numbers
named-low : (l : Letter) → named l < 4
named-low x = omega arith
named-low y = omega arith
named-low z = omega arith
named-low w = omega arith
named-low r = omega arith
named-low g = omega arith
named-low b = omega arith
named-low a = omega arith

abbrev letter_at : List Letter → ℕ → ℕ
letter_at letters i = get_or (map named letters) i 0

letter_picks : (letters : List Letter) (i : ℕ) → i < length letters → Picks letters i (letter_at letters i)
letter_picks [] i h = absurd (omega arith)
letter_picks (l ∷ ls) zero h = first refl
letter_picks (l ∷ ls) (suc i) h = later (letter_picks ls i (omega arith))

picks_letter : {letters : List Letter} {i c : ℕ} → Picks letters i c → letter_at letters i ≡ c
picks_letter (first e) = e
picks_letter (later h) = picks_letter h

letter_low : (letters : List Letter) (i : ℕ) → letter_at letters i < 4
letter_low [] i = omega arith
letter_low (l ∷ ls) zero = named-low l
letter_low (l ∷ ls) (suc i) = letter_low ls i

-- m is what p's entries are collected into, and s what comes of it
record Collected (letters : List Letter) (p m s : PartReq) : Type 0 where
  is : collected (map named letters) p m ≡ asks s
  climbs : From 0 s
  whole : Whole 4 s
  new : (c : ℕ) → Picked letters p c → 0 < asked s c
  old : (c : ℕ) → 0 < asked m c → 0 < asked s c
  only : (c : ℕ) → 0 < asked s c → (0 < asked m c) ⊎ Picked letters p c

module _ (letters : List Letter) (short : length letters ≤ 4) where
  -- the entry i goes to the component that its letter names
  entry_step : (i : ℕ) (p e m : PartReq) → i < length letters → p ≡ all
      → collected (map named letters) (more i p e) m ≡ collected (map named letters) e (insert m (letter_at letters i) all)
  unfolding collected is_flat
  entry_step i p e m h q = let k : i < 4 = omega arith in rw q (simp (lt-ltb i 4 k))

  -- what is asked with the entry i put in: it was before, or it is picked
  from_entry : (i : ℕ) (p e m : PartReq) (c : ℕ) → i < length letters → p ≡ all
      → (0 < asked (insert m (letter_at letters i) all) c) ⊎ Picked letters e c → (0 < asked m c) ⊎ Picked letters (more i p e) c
  from_entry i p e m c h q (inl f) =
      elim (ℕ_discrete (letter_at letters i) c) [
        | yes o ↦
            inr (record {
              component = i;
              asked = rw q (omega (arith, one_more i i e refl));
              picks = rw (← o) (letter_picks letters i h);
            })
        | no o ↦ inl (rw (not_inserted (letter_at letters i) c o m) at f)
      ]
  from_entry i p e m c h q (inr f) =
      inr (record {
        component = f.component;
        asked = elim (ℕ_discrete i f.component) [
          | yes o ↦ rw q (omega (arith, one_more f.component i e o))
          | no o ↦ rw (times-off p f.component [] i e o) f.asked
        ];
        picks = f.picks;
      })

  entry_done : (i : ℕ) (p e m s : PartReq) → i < length letters → p ≡ all
      → Collected letters e (insert m (letter_at letters i) all) s → Collected letters (more i p e) m s
  entry_done i p e m s h q k = record {
    is = entry_step i p e m h q ∙ k.is;
    climbs = k.climbs;
    whole = k.whole;
    new = λ c f.
        elim (ℕ_discrete i f.component) [
          | yes o ↦
              let l : letter_at letters i ≡ c = rw o (picks_letter f.picks) in
              k.old c (rw (← l) (inserted (letter_at letters i) m))
          | no o ↦ k.new c (record { component = f.component; asked = rw (times-off p f.component [] i e o) at f.asked; picks = f.picks })
        ];
    old = λ c f.
        elim (ℕ_discrete (letter_at letters i) c) [
          | yes o ↦ k.old c (rw (← o) (inserted (letter_at letters i) m))
          | no o ↦ k.old c (rw (not_inserted (letter_at letters i) c o m) f)
        ];
    only = λ c f. from_entry i p e m c h q (k.only c f);
  }

  collects : (p m : PartReq) → Whole (length letters) p → From 0 m → Whole 4 m → (s : PartReq) × Collected letters p m s
  collects all m h f k = absurd h
  collects exist m h f k = absurd h
  collects none m h f k = (
    m,
    record {
      is = unfold collected in refl;
      climbs = f;
      whole = k;
      new = λ c d. absurd (omega (arith, times_none none d.component [], d.asked));
      old = λ c d. d;
      only = λ c d. inl d;
    },
  )
  collects (more i p e) m h f k =
      let n = letter_at letters i in
      let ih =
      collects e (insert m n all) h.1.1 (from_insert 0 n all m f (omega arith) tt) (insert-whole n 4 m (letter_low letters i) k) in
      (ih.0, entry_done i p e m ih.0 h.0 h.1.0 ih.1)

  part_is : (p s : PartReq) → Whole (length letters) p → collected (map named letters) p none ≡ asks s → swizzled (map named letters) p ≡ asks s
  unfolding swizzled collected
  part_is all s h e = absurd h
  part_is exist s h e = absurd h
  part_is none s h e = e
  part_is (more i q t) s h e = e

  not_none : (p : PartReq) (c : ℕ) → (0 < asked none c) ⊎ Picked letters p c → Picked letters p c
  not_none p c (inl f) = absurd (omega (arith, times_none none c []))
  not_none p c (inr f) = f

  -- For a part of components below the swizzle's size, of which all is asked, the arm agrees with WGSL.
  pub swizzle_agrees : (p : PartReq) → Whole (length letters) p → (s : PartReq) × Agrees letters p s
  swizzle_agrees p h =
      let k = collects p none h tt tt in (
        k.0,
        record {
          is = part_is p k.0 h k.1.is;
          whole = k.1.whole;
          picked = λ c f. omega (arith, k.1.new c f, once 4 0 c k.0 k.1.climbs k.1.whole);
          only = λ c f. not_none p c (k.1.only c f);
        },
      )

-- Outside that domain it does not: of `.xx` with all of the first and only that the second exists, all of x is needed, and the arm
-- asks that it exists.
pub swizzle_departs : swizzled (map named (x ∷ x ∷ [])) (more 0 all (more 1 exist none)) ≡ asks (more 0 exist none)
unfolding swizzled collected is_flat insert
swizzle_departs = refl
