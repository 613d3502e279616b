-- Reading a part's code and an entry's index: one law for each way through the code, and what an answer leaves known.
use Prim.Native.Nat.{ℕ, suc, ◌+◌, ◌-◌, ◌≤◌, ◌<◌}
use native.Mathlib.Omega.{arith}
use native.Mathlib.Decide.{dec_lt}
use mathlib.Core.Path.{◌≡◌, refl, sym, ◌∙◌}
use mathlib.Core.Bool.{Bool, true, false, cond, ◌&&◌}
use mathlib.Core.List.{List, [], ◌∷◌}
use mathlib.Core.Option.{some, none as nothing}
use lib.Dec.{leb, ltb}
use lib.ListN.{length}
use borrow.Author.Tests.{lt-ltb, le-ltb, le-leb, lt-leb}
use Rattle.field.specs.Limits.{absent, max_entries}
use Rattle.part.specs.PartReq.{PartReq, more}
use Rattle.request.specs.Fields.{fields, Read, malformed, got, ◌>>=◌}
use Rattle.request.specs.Part.{read_part, read_level, read_entries}
use Rattle.request.specs.Answers.{Field}
use Rattle.request.proofs.Bytes.{no_field, tail_then}
use Rattle.request.proofs.Entries.{Index, pred_of, part_end, part_all, part_exist, part_unknown, part_deep, part_level, level_end, level_wide, level_entries, index_next}
use Rattle.std.specs.Borrow.{Bor}
use Rattle.std.specs.Prelude.{Some, None}
use Rattle.request.specs.declared.codes.Code.TheVariants as codes
use Rattle.request.specs.Codes.{CodeWasRead, IndexWasRead, index_of}

-- a part's code, where c is what is left behind it
malformed-code : {b : List ℕ} {d : ℕ} → read_part d (fields b) ≡ malformed → CodeWasRead b d None
malformed-code e = record { is = e; placed = tt }

pub code_short : {b : List ℕ} {d : ℕ} → length b < 2 → CodeWasRead b d None
code_short {b} {d} h = malformed-code (part_end b d h)

pub code_all : {b : List ℕ} {d i : ℕ} {c : Bor (List ℕ)} → Field b i c.now → i ≡ 0 → CodeWasRead b d (Some (codes.All, c))
code_all {d = d} f e = record { is = part_all f d e; placed = (f.left, f.tail) }

pub code_exist : {b : List ℕ} {d i : ℕ} {c : Bor (List ℕ)} → Field b i c.now → i ≡ 1 → CodeWasRead b d (Some (codes.Exist, c))
code_exist {d = d} f e = record { is = part_exist f d e; placed = (f.left, f.tail) }

module _ {b c : List ℕ} {d i : ℕ} (f : Field b i c) where
  pub code_unknown : (i ≡ 0 → ⊥) → (i ≡ 1 → ⊥) → (i ≡ 2 → ⊥) → CodeWasRead b d None
  code_unknown x y z = malformed-code (part_unknown f d x y z)

  module _ (two : i ≡ 2) where
    pub code_deep : d ≡ 0 → CodeWasRead b d None
    code_deep z = malformed-code (part_deep f d z two)

    module _ (some' : d ≡ 0 → ⊥) where
      level : read_part d (fields b) ≡ read_level (read_part (d - 1)) (fields c)
      level = part_level f d (d - 1) (pred_of d some') two

      pub code_ends : length c < 2 → CodeWasRead b d None
      code_ends h = malformed-code (level ∙ level_end c (read_part (d - 1)) h)

      pub code_wide : {e : List ℕ} {n : ℕ} → Field c n e → max_entries < n → CodeWasRead b d None
      code_wide g h = malformed-code (level ∙ level_wide g (read_part (d - 1)) h)

      pub code_entries : {e : Bor (List ℕ)} {n : ℕ} → Field c n e.now → n ≤ max_entries → CodeWasRead b d (Some (codes.Entries n, e))
      code_entries g h =
          record {
            is = level ∙ level_entries g (read_part (d - 1)) h;
            placed = (omega (arith, f.left, g.left), omega (arith, some'), tail_then f.tail g.tail);
          }

-- an entry's index
pub index_short : {b : List ℕ} {low : ℕ} → length b < 2 → IndexWasRead b low None
unfolding index_of
index_short {b} h = record { is = rw (no_field b h); placed = tt }

module _ {b c : List ℕ} {low i : ℕ} (f : Field b i c) where
  pub index_falls : i < low → IndexWasRead b low None
  unfolding index_of
  index_falls h = record { is = rw (f.is, lt-leb low i h); placed = tt }

  pub index_absent : low ≤ i → absent ≤ i → IndexWasRead b low None
  unfolding index_of
  index_absent l h = record { is = rw (f.is, le-leb low i l, le-ltb i absent h); placed = tt }

pub index_is : {b : List ℕ} {low i : ℕ} {c : Bor (List ℕ)} → Field b i c.now → low ≤ i → i < absent → IndexWasRead b low (Some (i, c))
unfolding index_of
index_is {low = low} {i = i} f l h = record { is = rw (f.is, le-leb low i l, lt-ltb i absent h); placed = f }

-- an index that was read is within its bounds
in_bounds : (low i : ℕ) (fs : List ℕ) → some i ≡ index_of low (i ∷ fs) → (low ≤ i) × (i < absent)
unfolding index_of
in_bounds low i fs e =
    elim (dec_lt i low) [
      | yes l ↦
          let x : some i ≡ nothing = e ∙ rw (lt-leb low i l) in
          let z : ◌≡◌ {A = ℕ} 0 1 = cc in
          absurd (omega arith)
      | no l ↦
          elim (dec_lt i absent) [
            | yes k ↦ (omega arith, k)
            | no k ↦
                let x : some i ≡ nothing = e ∙ rw (le-leb low i (omega arith), le-ltb i absent (omega arith)) in
                let z : ◌≡◌ {A = ℕ} 0 1 = cc in
                absurd (omega arith)
          ]
    ]

-- the index that was refused refuses the entries
unchosen : (v : Bool) (i : ℕ) (r : Read PartReq) → cond v (some i) nothing ≡ nothing → cond v r malformed ≡ malformed
unchosen true i r e = let z : ◌≡◌ {A = ℕ} 0 1 = cc in absurd (omega arith)
unchosen false i r e = refl

no_index : (part' : List ℕ → Read PartReq) (base low n k : ℕ) (fs : List ℕ) → n ≡ suc k → index_of low fs ≡ nothing → read_entries part' base low n fs ≡ malformed
unfolding index_of read_entries
no_index part' base low n k [] some' e = rw some'
no_index part' base low n k (i ∷ fs) some' e = rw some' (unchosen (leb low i && ltb i absent) i _ e)

-- what an answer says of an entry that is to be read, n being left
pub index_read : {b : List ℕ} {low n k : ℕ} {p : ℕ × Bor (List ℕ)} → n ≡ suc k → IndexWasRead b low (Some p) → Index b low n p.0 k p.1.now
index_read {b} {low} {p = p} some' was =
    let h = in_bounds low p.0 (fields p.1.now) (rw (← was.placed.is) was.is) in
    record { field = was.placed; more_left = some'; high = h.0; known = h.1 }

pub index_refused : {b : List ℕ} {low n : ℕ} → 0 < n → IndexWasRead b low None → (part' : List ℕ → Read PartReq) (base : ℕ) → read_entries part' base low n (fields b) ≡ malformed
index_refused {b} {low} {n} some' was part' base = no_index part' base low n (n - 1) (fields b) (omega arith) (sym was.is)

-- an entry whose part was read, and those after it
pub index_then : {b c : List ℕ} {low n i k : ℕ} (x : Index b low n i k c) (base d : ℕ) {p : PartReq} {gs : List ℕ} → read_part d (fields c) ≡ got p gs
    → read_entries (read_part d) base low n (fields b) ≡ (read_entries (read_part d) base (i + 1) k gs >>= λ r hs. got (more (base + i) p r) hs)
index_then x base d e = rw (index_next x base d, e)
