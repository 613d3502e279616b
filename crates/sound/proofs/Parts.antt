-- What is read as a part is fine: its indexes are a file's and ascend, and it is within the limits. By recursion over the depth and over the count.
use mathlib.Core.Path.{◌≡◌, refl, subst}
use mathlib.Core.Bool.{Bool, true, false, cond, ◌&&◌}
use mathlib.Core.List.{List, [], ◌∷◌}
use Prim.Native.Nat.{ℕ, zero, suc, ◌+◌, ◌<◌, ◌≤◌}
use native.Mathlib.Omega.{arith}
use lib.Dec.{leb, ltb, eqb}
use borrow.Author.Tests.{ltb-true, leb-true, le-ltb}
use Rattle.field.specs.Limits.{absent, max_depth, max_entries}
use Rattle.part.specs.PartReq.{PartReq, all, exist, none, more, over, depth, width, spine}
use Rattle.part.specs.Ascending.{Ascending, From}
use Rattle.part.specs.Limited.{Plain, widest}
use Rattle.part.proofs.Sizes.{not_over}
use Rattle.context.specs.RequiredContext.{variable}
use Rattle.request.specs.Fields.{Read, malformed, got, ◌>>=◌}
use Rattle.request.specs.Part.{read_entries, read_level, by_code, read_part, read_return, read_variables}
use Rattle.request.specs.Request.{all_below}
use Rattle.walk.specs.Proper.{Fine, FineRecord, VariablesFrom}
use Rattle.valid.proofs.Fits.{and_left, and_right}

-- Of what is read, if anything is.
abbrev pub OnGot : {A : Type 0} → (A → Type 0) → Read A → Type 0
OnGot P malformed = Unit {0}
OnGot P (got a fs) = P a

pub on_then : {A B : Type 0} (P : A → Type 0) (Q : B → Type 0) (x : Read A) (k : A → List ℕ → Read B) → OnGot P x → ((a : A) (fs : List ℕ) → P a → OnGot Q (k a fs)) → OnGot Q (x >>= k)
on_then P Q malformed k h f = tt
on_then P Q (got a fs) k h f = f a fs h

on_all : {A : Type 0} (P Q : A → Type 0) (x : Read A) → ((a : A) → P a → Q a) → OnGot P x → OnGot Q x
on_all P Q malformed f h = tt
on_all P Q (got a fs) f h = f a h

module _ {A : Type 0} (P : A → Type 0) where
  pub on_cond : (b : Bool) (x y : Read A) → (b ≡ true → OnGot P x) → OnGot P y → OnGot P (cond b x y)
  on_cond true x y h k = h refl
  on_cond false x y h k = k

-- a list of entries whose indexes are from k on and below b, each with a part of which P holds
abbrev pub EntriesFrom : (PartReq → Type 0) → (k b : ℕ) → PartReq → Type 0
EntriesFrom P k b all = ⊥
EntriesFrom P k b exist = ⊥
EntriesFrom P k b none = Unit {0}
EntriesFrom P k b (more i p r) = (k ≤ i) × (i < b) × P p × EntriesFrom P (suc i) b r

-- at most n of them
pub record Listed (P : PartReq → Type 0) (k b n : ℕ) (q : PartReq) : Type 0 where
  pub each : EntriesFrom P k b q
  pub few : width q ≤ n

module _ (P : PartReq → Type 0) (part : List ℕ → Read PartReq) (h : (fs : List ℕ) → OnGot P (part fs)) (base : ℕ) where
  entries_read : (low n : ℕ) (fs : List ℕ) → OnGot (Listed P (base + low) (base + absent) n) (read_entries part base low n fs)
  unfolding read_entries width
  entries_read low zero fs = record { each = tt; few = omega arith }
  entries_read low (suc n) [] = tt
  entries_read low (suc n) (i ∷ fs) =
      let Goal = Listed P (base + low) (base + absent) (suc n) in
      on_cond Goal (leb low i && ltb i absent) _ malformed
      (λ t.
      let l : low ≤ i = leb-true low i (and_left (leb low i) (ltb i absent) t) in
      let u : i < absent = ltb-true i absent (and_right (leb low i) (ltb i absent) t) in
      on_then P Goal (part fs) _ (h fs)
      (λ p gs hp.
      on_then (Listed P (base + suc i) (base + absent) n) Goal (read_entries part base (suc i) n gs) _ (entries_read (suc i) n gs)
      (λ r hs hr.
      let next : base + suc i ≡ suc (base + i) = omega arith in
      let rest : EntriesFrom P (suc (base + i)) (base + absent) r = subst (λ (k : ℕ). EntriesFrom P k (base + absent) r) next hr.each in
      let few : width r ≤ n = hr.few in
      record { each = (omega arith, omega arith, hp, rest); few = omega arith })))
      tt

-- a part at most d deep
pub record Shallow (d : ℕ) (p : PartReq) : Type 0 where
  pub ascends : Ascending p
  pub plain : Plain p
  pub deep : depth p ≤ d
  pub wide : widest p ≤ max_entries

shallow_fine : (p : PartReq) → Shallow max_depth p → Fine p
shallow_fine p h =
    record { ascends = h.ascends; plain = h.plain; within = not_over p h.plain (record { deep = h.deep; wide = h.wide }) }

-- a level of parts that are at most d deep
level_from : (d k : ℕ) (q : PartReq) → EntriesFrom (Shallow d) k absent q → From k q
level_from d k all h = h
level_from d k exist h = h
level_from d k none h = tt
level_from d k (more i p r) h = (h.0, (h.2.ascends, level_from d (suc i) r h.3))

level_shallow : (d k : ℕ) (q : PartReq) → EntriesFrom (Shallow d) k absent q → width q ≤ max_entries → Shallow (suc d) q
unfolding depth width widest
level_shallow d k all h few = absurd h
level_shallow d k exist h few = absurd h
level_shallow d k none h few = record { ascends = tt; plain = tt; deep = omega arith; wide = omega arith }
level_shallow d k (more i p r) h few =
    let rest = level_shallow d (suc i) r h.3 (omega arith) in
    let child = h.2 in
    record {
      ascends = (child.ascends, level_from d (suc i) r h.3);
      plain = (h.1, (child.plain, rest.plain));
      deep = omega (arith, child.deep, rest.deep);
      wide = omega (arith, child.wide, rest.wide, few);
    }

level_read : (d : ℕ) (fs : List ℕ) → ((gs : List ℕ) → OnGot (Shallow d) (read_part d gs)) → OnGot (Shallow (suc d)) (read_level (read_part d) fs)
unfolding read_level
level_read d [] h = tt
level_read d (n ∷ fs) h =
    on_cond (Shallow (suc d)) (leb n max_entries) _ malformed
    (λ t.
    on_all (Listed (Shallow d) 0 absent n) (Shallow (suc d)) (read_entries (read_part d) 0 0 n fs)
    (λ q l. level_shallow d 0 q l.each (omega (arith, l.few, leb-true n max_entries t)))
    (entries_read (Shallow d) (read_part d) h 0 0 n fs))
    tt

code_read : (d : ℕ) (level : List ℕ → Read PartReq) → ((gs : List ℕ) → OnGot (Shallow d) (level gs)) → (fs : List ℕ) → OnGot (Shallow d) (by_code level fs)
unfolding by_code depth widest
code_read d level h [] = tt
code_read d level h (c ∷ fs) =
    on_cond (Shallow d) (eqb c 0) _ _ (λ t. record { ascends = tt; plain = tt; deep = omega arith; wide = omega arith })
    (on_cond (Shallow d) (eqb c 1) _ _ (λ t. record { ascends = tt; plain = tt; deep = omega arith; wide = omega arith })
    (on_cond (Shallow d) (eqb c 2) _ malformed (λ t. h fs) tt))

part-read : (d : ℕ) (fs : List ℕ) → OnGot (Shallow d) (read_part d fs)
unfolding read_part
part-read zero fs = code_read zero (λ gs. malformed) (λ gs. tt) fs
part-read (suc d) fs = code_read (suc d) (read_level (read_part d)) (λ gs. level_read d gs (part-read d)) fs

part_fine : (fs : List ℕ) → OnGot Fine (read_part max_depth fs)
part_fine fs = on_all (Shallow max_depth) Fine (read_part max_depth fs) shallow_fine (part-read max_depth fs)

-- the return part
pub return_fine : (fs : List ℕ) → OnGot FineRecord (read_return fs)
unfolding read_return
return_fine [] = tt
return_fine (c ∷ fs) =
    on_cond FineRecord (eqb c 3) _ _ (λ t. tt)
    (on_then Fine FineRecord (read_part max_depth (c ∷ fs)) _ (part_fine (c ∷ fs)) (λ p gs h. h))

-- entries of variables, of which it is not yet known that they are there
abbrev pub SomeVariables : PartReq → Type 0
SomeVariables q = EntriesFrom Fine spine (variable absent) q

pub variables_read : (fs : List ℕ) → OnGot SomeVariables (read_variables fs)
unfolding read_variables
variables_read [] = tt
variables_read (n ∷ fs) =
    on_all (Listed Fine (spine + 0) (spine + absent) n) SomeVariables (read_entries (read_part max_depth) spine 0 n fs) (λ q h. h.each)
    (entries_read Fine (read_part max_depth) part_fine spine 0 n fs)

-- variables that are there
pub variables_there : (n k b : ℕ) (q : PartReq) → all_below (variable n) q ≡ true → EntriesFrom Fine k b q → VariablesFrom n k q
unfolding all_below
variables_there n k b all t h = h
variables_there n k b exist t h = h
variables_there n k b none t h = tt
variables_there n k b (more i p r) t h =
    (h.0, ltb-true i (variable n) (and_left (ltb i (variable n)) (all_below (variable n) r) t), h.2, variables_there n (suc i) b r (and_right (ltb i (variable n)) (all_below (variable n) r) t) h.3)

-- lists of variables pass no limit of their own
pub variables_within : (n k : ℕ) (q : PartReq) → spine ≤ k → VariablesFrom n k q → over q ≡ false
unfolding over
variables_within n k all l h = absurd h
variables_within n k exist l h = absurd h
variables_within n k none l h = refl
variables_within n k (more i p r) l h =
    let high : spine ≤ i = omega (arith, h.0) in
    rw (h.2.within, variables_within n (suc i) r (omega arith) h.3, le-ltb i spine high)
