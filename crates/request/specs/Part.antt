-- Requirements as fields. 01's part codes: 0 all, 1 exist, 2 count then index and part ascending, 3 none (return only).
use Rattle.std.specs.Prelude.{ℕ, zero, suc, ◌+◌, cond, ◌&&◌, List, [], ◌∷◌, ◌++◌, leb, ltb, eqb}
use Rattle.std.proofs.Math.Option.{Option, some, none as nothing}
use Rattle.field.specs.Limits.{absent, max_depth, max_entries}
use Rattle.part.specs.PartReq.{PartReq, all, exist, none, more, width, spine}
use Rattle.request.specs.Fields.{Read, malformed, got, ◌>>=◌, as_field}

-- n entries, index and part each, `part` reading a part: no index is absent, none is below `low`, and they ascend. In the requirement the index
-- i of the file is `base + i`.
unfoldable pub read_entries : (List ℕ → Read PartReq) → (base low n : ℕ) → List ℕ → Read PartReq
read_entries part base low zero fs = got none fs
read_entries part base low (suc n) [] = malformed
read_entries part base low (suc n) (i ∷ fs) =
    let entry = part fs >>= λ p gs. read_entries part base (suc i) n gs >>= λ r hs. got (more (base + i) p r) hs in
    cond (leb low i && ltb i absent) entry malformed

-- what follows code 2: the count, at most max_entries, then the entries
unfoldable pub read_level : (List ℕ → Read PartReq) → List ℕ → Read PartReq
read_level part [] = malformed
read_level part (n ∷ fs) = let entries = read_entries part 0 0 n fs in cond (leb n max_entries) entries malformed

-- a part by its code, `level` reading what follows code 2
unfoldable pub by_code : (List ℕ → Read PartReq) → List ℕ → Read PartReq
by_code level [] = malformed
by_code level (c ∷ fs) =
    let entries = level fs in
    cond (eqb c 0) (got all fs) (cond (eqb c 1) (got exist fs) (cond (eqb c 2) entries malformed))

-- a part at most d deep
unfoldable pub read_part : (d : ℕ) → List ℕ → Read PartReq
read_part zero = by_code (λ fs. malformed)
read_part (suc d) = by_code (read_level (read_part d))

-- the return part, which alone may be none
unfoldable pub read_return : List ℕ → Read (Option PartReq)
read_return [] = malformed
read_return (c ∷ fs) =
    let part = read_part max_depth (c ∷ fs) >>= λ p gs. got (some p) gs in
    cond (eqb c 3) (got nothing fs) part

-- count, then variable and part each, ascending
unfoldable pub read_variables : List ℕ → Read PartReq
read_variables [] = malformed
read_variables (n ∷ fs) = read_entries (read_part max_depth) spine 0 n fs

-- code and count, with the fields of the entries
unfoldable pub with_code : PartReq → List ℕ → List ℕ
with_code all entries = 0 ∷ []
with_code exist entries = 1 ∷ []
with_code none entries = 2 ∷ (0 ∷ entries)
with_code (more i p r) entries = 2 ∷ (as_field (width (more i p r)) ∷ entries)

-- index and part each
unfoldable pub write_entries : PartReq → List ℕ
write_entries all = []
write_entries exist = []
write_entries none = []
write_entries (more i p r) = as_field i ∷ (with_code p (write_entries p) ++ write_entries r)

unfoldable pub write_part : PartReq → List ℕ
write_part p = with_code p (write_entries p)

unfoldable pub write_return : PartReq → List ℕ
write_return all = 3 ∷ []
write_return exist = 3 ∷ []
write_return none = 3 ∷ []
write_return (more i p r) = write_part p

unfoldable pub write_variables : PartReq → List ℕ
write_variables r = as_field (width r) ∷ write_entries r
