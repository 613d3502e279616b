-- What a request can ask for: an entry takes two fields at least, and a request's body has fewer than 2^15 fields. So its base context has at most twice the pieces that 16 allows.
use Prim.Native.Nat.{ℕ, zero, suc, ◌+◌, ◌*◌, ◌≤◌}
use native.Mathlib.Omega.{arith}
use mathlib.Core.Path.{◌≡◌, subst}
use mathlib.Core.Bool.{Bool, true, false, cond, ◌&&◌}
use mathlib.Core.List.{List, [], ◌∷◌}
use mathlib.Core.Option.{Option, some, none as nothing}
use lib.Dec.{leb, ltb, eqb}
use lib.ListN.{length, drop, length-drop}
use Rattle.field.specs.Limits.{absent, max_depth, max_entries, max_pieces, min_report}
use Rattle.part.specs.PartReq.{PartReq, all, exist, entries, spine}
use Rattle.context.specs.RequiredContext.{pieces, return_entry}
use Rattle.request.specs.Fields.{fields, Read, malformed, got, ◌>>=◌, whole, accepted, refused}
use Rattle.request.specs.Part.{read_entries, read_level, by_code, read_part, read_return, read_variables}
use Rattle.request.specs.Request.{Request, read_body, is_request, request_of, known, judge}
use Rattle.sound.proofs.Parts.{OnGot}
use Rattle.sound.proofs.Asked.{OnSome, OnAccepted, whole-on, some_when}
use Rattle.requests.specs.Begin.{base_of}

-- of n fields, what was read has two for each piece, and k beside; the others are left
abbrev Costs : {A : Type 0} → (A → ℕ) → (n k : ℕ) → Read A → Type 0
Costs count n k malformed = Unit {0}
Costs count n k (got a gs) = 2 * count a + k + length gs ≤ n

either : {A : Type 0} (count : A → ℕ) (n k : ℕ) (b : Bool) (x y : Read A) → Costs count n k x → Costs count n k y → Costs count n k (cond b x y)
either count n k true x y a b = a
either count n k false x y a b = b

chained : {A B : Type 0} (count : A → ℕ) (counted : B → ℕ) (n k m l : ℕ) (x : Read A) (next : A → List ℕ → Read B) → Costs count n k x
    → ((a : A) (gs : List ℕ) → 2 * count a + k + length gs ≤ n → Costs counted m l (next a gs)) → Costs counted m l (x >>= next)
chained count counted n k m l malformed next h f = tt
chained count counted n k m l (got a gs) next h f = f a gs h

module _ (part : List ℕ → Read PartReq) (costs : (fs : List ℕ) → Costs entries (length fs) 1 (part fs)) where
  entries-cost : (base low n : ℕ) (fs : List ℕ) → Costs entries (length fs) 0 (read_entries part base low n fs)
  unfolding read_entries entries
  entries-cost base low zero fs = omega arith
  entries-cost base low (suc n) [] = tt
  entries-cost base low (suc n) (i ∷ fs) =
      either entries (suc (length fs)) 0 (leb low i && ltb i absent) _ malformed
      (chained entries entries (length fs) 1 (suc (length fs)) 0 (part fs) _ (costs fs)
      (λ p gs h. chained entries entries (length gs) 0 (suc (length fs)) 0 (read_entries part base (suc i) n gs) _ (entries-cost base (suc i) n gs) (λ r hs l. omega arith)))
      tt

  level_cost : (fs : List ℕ) → Costs entries (length fs) 0 (read_level part fs)
  unfolding read_level
  level_cost [] = tt
  level_cost (n ∷ fs) =
      either entries (suc (length fs)) 0 (leb n max_entries) (read_entries part 0 0 n fs) malformed
      (weaker (read_entries part 0 0 n fs) (entries-cost 0 0 n fs)) tt
    where
      weaker : (x : Read PartReq) → Costs entries (length fs) 0 x → Costs entries (suc (length fs)) 0 x
      weaker malformed h = tt
      weaker (got a gs) h = omega arith

code_cost : (level : List ℕ → Read PartReq) → ((fs : List ℕ) → Costs entries (length fs) 0 (level fs)) → (fs : List ℕ) → Costs entries (length fs) 1 (by_code level fs)
unfolding by_code entries
code_cost level costs [] = tt
code_cost level costs (c ∷ fs) =
    either entries (suc (length fs)) 1 (eqb c 0) (got all fs) _ (omega arith)
    (either entries (suc (length fs)) 1 (eqb c 1) (got exist fs) _ (omega arith)
    (either entries (suc (length fs)) 1 (eqb c 2) (level fs) malformed (more_by (level fs) (costs fs)) tt))
  where
    more_by : (x : Read PartReq) → Costs entries (length fs) 0 x → Costs entries (suc (length fs)) 1 x
    more_by malformed h = tt
    more_by (got a gs) h = omega arith

part_cost : (d : ℕ) (fs : List ℕ) → Costs entries (length fs) 1 (read_part d fs)
unfolding read_part
part_cost zero fs = code_cost (λ gs. malformed) (λ gs. tt) fs
part_cost (suc d) fs = code_cost (read_level (read_part d)) (level_cost (read_part d) (part_cost d)) fs

-- what is asked of the return value
abbrev returned : Option PartReq → ℕ
returned nothing = 0
returned (some p) = entries p

return_cost : (fs : List ℕ) → Costs returned (length fs) 1 (read_return fs)
unfolding read_return
return_cost [] = tt
return_cost (c ∷ fs) =
    either returned (suc (length fs)) 1 (eqb c 3) (got nothing fs) _ (omega arith)
    (chained entries returned (suc (length fs)) 1 (suc (length fs)) 1 (read_part max_depth (c ∷ fs)) _ (part_cost max_depth (c ∷ fs)) (λ p gs h. h))

variables_cost : (fs : List ℕ) → Costs entries (length fs) 1 (read_variables fs)
unfolding read_variables
variables_cost [] = tt
variables_cost (n ∷ fs) = more_by (read_entries (read_part max_depth) spine 0 n fs) (entries-cost (read_part max_depth) (part_cost max_depth) spine 0 n fs)
  where
    more_by : (x : Read PartReq) → Costs entries (length fs) 0 x → Costs entries (suc (length fs)) 1 x
    more_by malformed h = tt
    more_by (got a gs) h = omega arith

abbrev asks : Request → ℕ
asks q = returned q.retval + entries q.globals

body_cost : (fs : List ℕ) → Costs asks (length fs) 3 (read_body fs)
unfolding read_body
body_cost [] = tt
body_cost (f ∷ fs) =
    either asks (suc (length fs)) 3 (ltb f absent) _ malformed
    (chained returned asks (length fs) 1 (suc (length fs)) 3 (read_return fs) _ (return_cost fs)
    (λ p gs h. chained entries asks (length gs) 1 (suc (length fs)) 3 (read_variables gs) _ (variables_cost gs) (λ g hs l. omega arith)))
    tt

-- a field has two bytes
fields-few : (s : List ℕ) → 2 * length (fields s) ≤ length s
unfolding fields
fields-few [] = omega arith
fields-few (b ∷ []) = omega arith
fields-few (b ∷ (c ∷ bs)) = omega (arith, fields-few bs)

-- of n fields, or of as many bytes
abbrev Asks : ℕ → Request → Type 0
Asks n q = 2 * asks q + 3 ≤ n

got_few : (n : ℕ) (x : Read Request) → Costs asks n 3 x → OnGot (Asks n) x
got_few n malformed h = tt
got_few n (got q gs) h = omega arith

judged_few : (n : ℕ) (q : Request) (a b : Bool) → Asks n q → OnAccepted (Asks n) (cond a (cond b (refused 18) (accepted q)) (refused 11))
judged_few n q true true h = tt
judged_few n q true false h = h
judged_few n q false b h = tt

judge-few : (functions globals report n : ℕ) (o : Option Request) → OnSome (Asks n) o → OnAccepted (Asks n) (judge functions globals report o)
unfolding judge
judge-few functions globals report n nothing h = tt
judge-few functions globals report n (some q) h = judged_few n q (known functions globals q) (ltb report min_report) h

request_few : (functions globals report : ℕ) (s : List ℕ) → OnAccepted (Asks (length (fields (drop 4 s)))) (judge functions globals report (request_of s))
unfolding request_of
request_few functions globals report s =
    let fs = fields (drop 4 s) in
    judge-few functions globals report (length fs) (cond (is_request s) (whole (read_body fs)) nothing)
    (some_when (Asks (length fs)) (is_request s) (whole (read_body fs)) (whole-on (Asks (length fs)) (read_body fs) (got_few (length fs) (read_body fs) (body_cost fs))))

asked_few : (o : Option PartReq) → entries (return_entry o) ≤ 1 + returned o
unfolding return_entry entries
asked_few nothing = omega arith
asked_few (some p) = omega arith

pub base_few : (functions globals report : ℕ) (s : List ℕ) (q : Request) → judge functions globals report (request_of s) ≡ accepted q → length s ≤ 4 + absent → pieces (base_of q) ≤ 2 * max_pieces
unfolding pieces entries
base_few functions globals report s q e l =
    let h : Asks (length (fields (drop 4 s))) q = subst (OnAccepted (Asks (length (fields (drop 4 s))))) e (request_few functions globals report s) in
    omega (arith, fields-few (drop 4 s), length-drop 4 s, asked_few q.retval)
