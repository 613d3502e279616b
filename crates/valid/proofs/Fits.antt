-- What it means for the operands, given by number, that the fields of a record are allowed as a shape: one law over the classes, and
-- by recursion over the shape what holds of each operand.
use mathlib.Core.Path.{◌≡◌, refl, sym, ap, ◌∙◌, subst, fun_ext}
use mathlib.Core.Bool.{Bool, true, false, not, false≢true, ◌&&◌, ◌||◌}
use mathlib.Core.List.{List, [], ◌∷◌}
use mathlib.Core.Option.{some, none as nothing}
use Prim.Native.Nat.{ℕ, zero, suc, ◌+◌, ◌*◌, ◌-◌, ◌<◌}
use native.Mathlib.Omega.{arith}
use lib.Dec.{ltb, leb, eqb}
use lib.ListN.{get_or, drop}
use lib.Seq.{get_or-drop, drop-drop}
use borrow.Author.Tests.{not-true}
use Rattle.field.specs.Limits.{absent}
use Rattle.module.specs.Decode.{level_handles, mode_handles}
use Rattle.module.specs.Shape.{Operand, expression, optional, index, list, pattern, level, mode, argument, global, local, block, cases, function, range, type, size, members, binding, flag, result, never}
use Rattle.valid.proofs.Cases.{CasesRead, cases_none, cases_more}
use Rattle.module.specs.Operands.{Scope, Left, given, one, then, many, counted, below, below_or_absent, two_to_four, bindings, pairs, elem, cases_after, unemitted, range_in, result_in, pattern_after, code_after, taken, on_left, operands}

-- the operands from k on
abbrev pub after : ℕ → (ℕ → ℕ) → ℕ → ℕ
after k o j = o (k + j)

abbrev pub numbers : List ℕ → ℕ → ℕ
numbers xs j = get_or xs j 0

-- how many fields an operand of the class has
abbrev pub width : Operand → (ℕ → ℕ) → ℕ
width expression o = 1
width optional o = 1
width index o = 1
width list o = 1 + o 0
width pattern o = 1 + o 0
width level o = 1 + get_or level_handles (o 0) 0
width mode o = 1 + get_or mode_handles (o 0) 0
width argument o = 1
width global o = 1
width local o = 1
width block o = 1
width cases o = 1 + 2 * o 0
width function o = 1
width range o = 2
width type o = 1
width size o = 1
width members o = 1 + 2 * o 0
width binding o = 1
width flag o = 1
width result o = 2
width never o = 1

-- what is true of an operand of the class
abbrev pub Fit : Operand → Scope → (ℕ → ℕ) → Type 0
Fit expression s o = below s.expressions (o 0) ≡ true
Fit optional s o = below_or_absent s.expressions (o 0) ≡ true
Fit index s o = below absent (o 0) ≡ true
Fit list s o = (i : ℕ) → i < o 0 → below s.expressions (o (1 + i)) ≡ true
Fit pattern s o = (two_to_four (o 0) ≡ true) × ((i : ℕ) → i < o 0 → below 4 (o (1 + i)) ≡ true)
Fit level s o = (ltb (o 0) 5 ≡ true) × ((i : ℕ) → i < get_or level_handles (o 0) 0 → below s.expressions (o (1 + i)) ≡ true)
Fit mode s o = (ltb (o 0) 2 ≡ true) × ((i : ℕ) → i < get_or mode_handles (o 0) 0 → below s.expressions (o (1 + i)) ≡ true)
Fit argument s o = below s.arguments (o 0) ≡ true
Fit global s o = below s.globals (o 0) ≡ true
Fit local s o = below s.locals (o 0) ≡ true
Fit block s o = Unit {0}
Fit cases s o = CasesRead [] (o 0) (λ i. o (1 + 2 * i))
Fit function s o = not (get_or s.entries (o 0) true) ≡ true
Fit range s o = (leb (o 0) (o 1) ≡ true) × (ltb (o 1) s.expressions ≡ true)
Fit type s o = below s.types (o 0) ≡ true
Fit size s o = two_to_four (o 0) ≡ true
Fit members s o =
    (i : ℕ) → i < o 0 → (below s.types (o (1 + 2 * i)) ≡ true) × (below_or_absent bindings (o (2 + 2 * i)) ≡ true)
Fit binding s o = below_or_absent bindings (o 0) ≡ true
Fit flag s o = below 2 (o 0) ≡ true
Fit result s o = (below_or_absent s.types (o 0) ≡ true) × (below_or_absent bindings (o 1) ≡ true)
Fit never s o = false ≡ true

abbrev pub Fits : List Operand → Scope → (ℕ → ℕ) → Type 0
Fits [] s o = Unit {0}
Fits (c ∷ cs) s o = Fit c s o × Fits cs s (after (width c o) o)

pub and_left : (a b : Bool) → (a && b) ≡ true → a ≡ true
and_left true b h = refl
and_left false b h = h

pub and_right : (a b : Bool) → (a && b) ≡ true → b ≡ true
and_right true b h = h
and_right false b h = absurd (false≢true h)

pub given-true : (b : Bool) (l : Left) (k : List ℕ → Bool) → on_left (given b l) k ≡ true → (b ≡ true) × (on_left l k ≡ true)
given-true true l k h = (refl, h)
given-true false l k h = absurd (false≢true h)

one-fits : (p : ℕ → Bool) (xs : List ℕ) (k : List ℕ → Bool) → on_left (one p xs) k ≡ true → (p (numbers xs 0) ≡ true) × (k (drop 1 xs) ≡ true)
unfolding one
one-fits p [] k h = absurd (false≢true h)
one-fits p (x ∷ xs) k h = given-true (p x) (some xs) k h

counted-fits : (f : ℕ → List ℕ → Left) (xs : List ℕ) (k : List ℕ → Bool) → on_left (counted f xs) k ≡ true → on_left (f (numbers xs 0) (drop 1 xs)) k ≡ true
unfolding counted
counted-fits f [] k h = absurd (false≢true h)
counted-fits f (x ∷ xs) k h = h

then-on_left : (l : Left) (f : List ℕ → Left) (k : List ℕ → Bool) → on_left (then l f) k ≡ on_left l (λ ys. on_left (f ys) k)
then-on_left nothing f k = refl
then-on_left (some xs) f k = refl

each_suc : (P : ℕ → Type 0) (n : ℕ) → P 0 → ((i : ℕ) → i < n → P (suc i)) → (i : ℕ) → i < suc n → P i
each_suc P n z s zero h = z
each_suc P n z s (suc i) h = s i (omega arith)

drop-suc : (n : ℕ) (xs : List ℕ) → drop n (drop 1 xs) ≡ drop (suc n) xs
drop-suc n xs =
    let e : 1 + n ≡ suc n = omega arith in
    drop-drop n 1 xs ∙ ap (λ (k : ℕ). drop k xs) e

get_d_drop_one : (xs : List ℕ) (i : ℕ) → get_or (drop 1 xs) i 0 ≡ get_or xs (suc i) 0
get_d_drop_one xs i =
    let e : 1 + i ≡ suc i = omega arith in
    get_or-drop 1 xs i 0 ∙ ap (λ (k : ℕ). get_or xs k 0) e

many-fits : (p : ℕ → Bool) (n : ℕ) (xs : List ℕ) (k : List ℕ → Bool) → on_left (many p n xs) k ≡ true → ((i : ℕ) → i < n → p (numbers xs i) ≡ true) × (k (drop n xs) ≡ true)
unfolding many
many-fits p zero xs k h = (λ i l. absurd (omega arith), h)
many-fits p (suc n) xs k h =
    let a = one-fits p xs (λ ys. on_left (many p n ys) k) (sym (then-on_left (one p xs) (many p n) k) ∙ h) in
    let b = many-fits p n (drop 1 xs) k a.1 in
    (each_suc (λ i. p (numbers xs i) ≡ true) n a.0 (λ i l. sym (ap p (get_d_drop_one xs i)) ∙ b.0 i l), sym (ap k (drop-suc n xs)) ∙ b.1)

pairs-fits : (p q : ℕ → Bool) (n : ℕ) (xs : List ℕ) (k : List ℕ → Bool) → on_left (pairs p q n xs) k ≡ true → ((i : ℕ) → i < n → (p (numbers xs (2 * i)) ≡ true) × (q (numbers xs (1 + 2 * i)) ≡ true)) × (k (drop (2 * n) xs) ≡ true)
unfolding pairs
pairs-fits p q zero xs k h = (λ i l. absurd (omega arith), h)
pairs-fits p q (suc n) xs k h =
    let a =
    one-fits p xs (λ ys. on_left (then (one q ys) (pairs p q n)) k)
    (sym (then-on_left (one p xs) (λ ys. then (one q ys) (pairs p q n)) k) ∙ h) in
    let b = one-fits q (drop 1 xs) (λ ys. on_left (pairs p q n ys) k) (sym (then-on_left (one q (drop 1 xs)) (pairs p q n) k) ∙ a.1) in
    let t = pairs-fits p q n (drop 1 (drop 1 xs)) k b.1 in
    let two : drop 1 (drop 1 xs) ≡ drop 2 xs = drop-drop 1 1 xs in
    let d : (j : ℕ) → get_or (drop 1 (drop 1 xs)) j 0 ≡ get_or xs (2 + j) 0 =
    λ j. ap (λ (ys : List ℕ). get_or ys j 0) two ∙ get_or-drop 2 xs j 0 in
    let e : (i : ℕ) → 2 + 2 * i ≡ 2 * suc i = λ i. omega arith in
    let f : (i : ℕ) → 2 + (1 + 2 * i) ≡ 1 + 2 * suc i = λ i. omega arith in
    let g : 2 + 2 * n ≡ 2 * suc n = omega arith in (
      each_suc
          (λ i. (p (numbers xs (2 * i)) ≡ true) × (q (numbers xs (1 + 2 * i)) ≡ true))
          n
          (a.0, sym (ap q (get_d_drop_one xs 0)) ∙ b.0)
          (λ i l. (sym (ap p (d (2 * i) ∙ ap (numbers xs) (e i))) ∙ (t.0 i l).0, sym (ap q (d (1 + 2 * i) ∙ ap (numbers xs) (f i))) ∙ (t.0 i l).1)),
      sym (ap k (ap (drop (2 * n)) two ∙ drop-drop (2 * n) 2 xs ∙ ap (λ (m : ℕ). drop m xs) g)) ∙ t.1,
    )

-- the values stand at every second field
values_after : (earlier : List ℕ) (n v b : ℕ) (xs : List ℕ) → CasesRead earlier n (λ i. numbers xs (2 * i)) → CasesRead earlier n (λ i. numbers (v ∷ b ∷ xs) (2 * suc i))
values_after earlier n v b xs =
    let e : (i : ℕ) → suc (suc (2 * i)) ≡ 2 * suc i = λ i. omega arith in
    subst (CasesRead earlier n) (fun_ext (λ i. ap (numbers (v ∷ b ∷ xs)) (e i)))

cases_fits : (earlier : List ℕ) (n : ℕ) (xs : List ℕ) (k : List ℕ → Bool) → on_left (cases_after earlier n xs) k ≡ true → CasesRead earlier n (λ i. numbers xs (2 * i)) × (k (drop (2 * n) xs) ≡ true)
unfolding cases_after
cases_fits earlier zero xs k h =
    let a = given-true (elem absent earlier) (some xs) k h in
    (cases_none earlier (λ i. numbers xs (2 * i)) a.0, a.1)
cases_fits earlier (suc n) [] k h = absurd (false≢true h)
cases_fits earlier (suc n) (v ∷ []) k h = absurd (false≢true h)
cases_fits earlier (suc n) (v ∷ b ∷ xs) k h =
    let a = given-true (not (elem v earlier)) (cases_after (v ∷ earlier) n xs) k h in
    let c = cases_fits (v ∷ earlier) n xs k a.1 in
    let g : 2 + 2 * n ≡ 2 * suc n = omega arith in (
      cases_more earlier n (λ i. numbers (v ∷ b ∷ xs) (2 * i)) (not-true (elem v earlier) a.0) (values_after (v ∷ earlier) n v b xs c.0),
      sym (ap k (drop-drop (2 * n) 2 (v ∷ b ∷ xs) ∙ ap (λ (m : ℕ). drop m (v ∷ b ∷ xs)) g)) ∙ c.1,
    )

range_fits : (n : ℕ) (emitted : List Bool) (xs : List ℕ) (k : List ℕ → Bool) → on_left (range_in n emitted xs) k ≡ true → ((leb (numbers xs 0) (numbers xs 1) ≡ true) × (ltb (numbers xs 1) n ≡ true)) × (k (drop 2 xs) ≡ true)
unfolding range_in
range_fits n emitted [] k h = absurd (false≢true h)
range_fits n emitted (x ∷ []) k h = absurd (false≢true h)
range_fits n emitted (x ∷ y ∷ xs) k h =
    let a = given-true (leb x y && (ltb y n && unemitted emitted x (suc y - x))) (some xs) k h in
    ((and_left (leb x y) _ a.0, and_left (ltb y n) _ (and_right (leb x y) _ a.0)), a.1)

result_fits : (n : ℕ) (xs : List ℕ) (k : List ℕ → Bool) → on_left (result_in n xs) k ≡ true → ((below_or_absent n (numbers xs 0) ≡ true) × (below_or_absent bindings (numbers xs 1) ≡ true)) × (k (drop 2 xs) ≡ true)
unfolding result_in
result_fits n [] k h = absurd (false≢true h)
result_fits n (x ∷ []) k h = absurd (false≢true h)
result_fits n (x ∷ y ∷ xs) k h =
    let a = given-true (below_or_absent n x && (below_or_absent bindings y && (ltb x absent || eqb y absent))) (some xs) k h in
    ((and_left (below_or_absent n x) _ a.0, and_left (below_or_absent bindings y) _ (and_right (below_or_absent n x) _ a.0)), a.1)

-- n fields after the first that pass the test
behind : (p : ℕ → Bool) (n : ℕ) (xs : List ℕ) (k : List ℕ → Bool) → on_left (many p n (drop 1 xs)) k ≡ true → ((i : ℕ) → i < n → p (numbers xs (1 + i)) ≡ true) × (k (drop (1 + n) xs) ≡ true)
behind p n xs k h =
    let a = many-fits p n (drop 1 xs) k h in
    (λ i l. sym (ap p (get_or-drop 1 xs i 0)) ∙ a.0 i l, sym (ap k (drop-drop n 1 xs)) ∙ a.1)

-- what is left of the fields after an operand, and what is true of it
pub class_fits : (c : Operand) (s : Scope) (xs : List ℕ) (k : List ℕ → Bool) → on_left (taken c s xs) k ≡ true → Fit c s (numbers xs) × (k (drop (width c (numbers xs)) xs) ≡ true)
unfolding taken pattern_after code_after level_handles mode_handles
class_fits expression s xs k h = one-fits (below s.expressions) xs k h
class_fits optional s xs k h = one-fits (below_or_absent s.expressions) xs k h
class_fits index s xs k h = one-fits (below absent) xs k h
class_fits list s xs k h =
    behind (below s.expressions) (numbers xs 0) xs k (counted-fits (many (below s.expressions)) xs k h)
class_fits pattern s xs k h =
    let a = given-true (two_to_four (numbers xs 0)) (many (below 4) (numbers xs 0) (drop 1 xs)) k (counted-fits pattern_after xs k h) in
    let b = behind (below 4) (numbers xs 0) xs k a.1 in
    ((a.0, b.0), b.1)
class_fits level s xs k h =
    let a =
    given-true (ltb (numbers xs 0) 5) (many (below s.expressions) (get_or level_handles (numbers xs 0) 0) (drop 1 xs)) k
    (counted-fits (code_after s.expressions level_handles) xs k h) in
    let b = behind (below s.expressions) (get_or level_handles (numbers xs 0) 0) xs k a.1 in
    ((a.0, b.0), b.1)
class_fits mode s xs k h =
    let a =
    given-true (ltb (numbers xs 0) 2) (many (below s.expressions) (get_or mode_handles (numbers xs 0) 0) (drop 1 xs)) k
    (counted-fits (code_after s.expressions mode_handles) xs k h) in
    let b = behind (below s.expressions) (get_or mode_handles (numbers xs 0) 0) xs k a.1 in
    ((a.0, b.0), b.1)
class_fits argument s xs k h = one-fits (below s.arguments) xs k h
class_fits global s xs k h = one-fits (below s.globals) xs k h
class_fits local s xs k h = one-fits (below s.locals) xs k h
class_fits block s xs k h = (tt, (one-fits (λ x. true) xs k h).1)
class_fits cases s xs k h =
    let a = cases_fits [] (numbers xs 0) (drop 1 xs) k (counted-fits (cases_after []) xs k h) in
    (subst (CasesRead [] (numbers xs 0)) (fun_ext (λ i. get_or-drop 1 xs (2 * i) 0)) a.0, sym (ap k (drop-drop (2 * numbers xs 0) 1 xs)) ∙ a.1)
class_fits function s xs k h = one-fits (λ x. not (get_or s.entries x true)) xs k h
class_fits range s xs k h = range_fits s.expressions s.emitted xs k h
class_fits type s xs k h = one-fits (below s.types) xs k h
class_fits size s xs k h = one-fits two_to_four xs k h
class_fits members s xs k h =
    let a =
    pairs-fits (below s.types) (below_or_absent bindings) (numbers xs 0) (drop 1 xs) k
    (counted-fits (pairs (below s.types) (below_or_absent bindings)) xs k h) in
    let e : (i : ℕ) → 1 + (1 + 2 * i) ≡ 2 + 2 * i = λ i. omega arith in
    (λ i l. (sym (ap (below s.types) (get_or-drop 1 xs (2 * i) 0)) ∙ (a.0 i l).0, sym (ap (below_or_absent bindings) (get_or-drop 1 xs (1 + 2 * i) 0 ∙ ap (numbers xs) (e i))) ∙ (a.0 i l).1), sym (ap k (drop-drop (2 * numbers xs 0) 1 xs)) ∙ a.1)
class_fits binding s xs k h = one-fits (below_or_absent bindings) xs k h
class_fits flag s xs k h = one-fits (below 2) xs k h
class_fits result s xs k h = result_fits s.types xs k h
class_fits never s xs k h = one-fits (λ x. false) xs k h

-- the operands of a shape
pub fits : (cs : List Operand) (s : Scope) (xs : List ℕ) → operands cs s xs ≡ true → Fits cs s (numbers xs)
unfolding operands
fits [] s xs h = tt
fits (c ∷ cs) s xs h =
    let a = class_fits c s xs (operands cs s) h in
    let w = width c (numbers xs) in
    (a.0, subst (Fits cs s) (fun_ext (λ j. get_or-drop w xs j 0)) (fits cs s (drop w xs) a.1))
