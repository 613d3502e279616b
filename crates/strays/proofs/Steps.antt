-- A statement's strays by its kind, and the turns over a switch's cases and a block's statements: each finds the lower of what was found and of
-- its own.
use Prim.Native.Nat.{ℕ, suc, ◌+◌, ◌-◌, ◌*◌, ◌<◌, ◌≤◌}
use native.Mathlib.Omega.{arith}
use native.Mathlib.Numerals.{add-one}
use mathlib.Core.Path.{◌≡◌, refl, sym, ap, ◌∙◌}
use mathlib.Core.Bool.{Bool}
use mathlib.Core.List.{List, []}
use mathlib.Core.Option.{Option, none as nothing}
use lib.ListN.{length, get_or}
use Rattle.module.specs.Module.{BlockHandle, BlockRange, Function}
use Rattle.module.specs.Decode.{statement_of}
use Rattle.module.specs.Knot.{below}
use Rattle.module.specs.Tables.{function_of}
use Rattle.module.proofs.Knot.{knot-is, below-lt}
use Rattle.access.specs.declared.kinded.Kinded.{Kinded}
use Rattle.access.specs.Access.{operand_at, statement_row, range_at}
use Rattle.access.proofs.Access.{range_is}
use Rattle.clearance.specs.Tree.{Tree, nop, statement, statements_from, no_block, block_tree, body_tree}
use Rattle.clearance.specs.Needs.{Exit, only_next, concat}
use Rattle.clearance.specs.Judged.{at_top, in_case, in_body, unless, strays, lowest, failing, fits_statement, blamed_statement}
use Rattle.clearance.specs.Scope.{Scope}
use Rattle.clearance.proofs.Markless.{strays-same}
use Rattle.strays.specs.declared.exits.Exits.{Exits}
use Rattle.strays.specs.Lower.{lower_of}
use Rattle.strays.specs.Exits.{exits_of}
use Rattle.strays.specs.Places.{BlockOf, StatementIn, CasesIn, tree_of, stray_block, stray_statement, stray_cases}
use Rattle.strays.proofs.Lowers.{lowest_append, then, none_before}
use Rattle.strays.proofs.Trees.{concat-same, block_of, if_of, switch_of, loop_of, break_of, continue_of, return_of, silent_of}
use Rattle.strays.proofs.Found.{decoded, block_low, accept_low, reject_low, body_low, continuing_low, cases_in}

-- r is the lower of low and of a list's lowest
abbrev pub Lowers : List ℕ → Option ℕ → Option ℕ → Type 0
Lowers l low r = r ≡ lower_of (lowest l) low

same_list : (a b : List ℕ) (low r : Option ℕ) → b ≡ a → Lowers a low r → Lowers b low r
same_list a b low r e h = rw e h

none_found : (l : List ℕ) (low : Option ℕ) → l ≡ [] → Lowers l low low
unfolding lowest lower_of
none_found l low e = rw e

-- A statement, by its kind
module _ {bytes t : List ℕ} {f b s : ℕ} (p : StatementIn bytes t f b s) {row : Kinded} (is : row ≡ statement_row bytes t f s) (E : Exits Bool) where
  abbrev F : Function
  F = function_of bytes t f

  abbrev e : Exit → Bool
  e = exits_of E

  abbrev o : ℕ → ℕ
  o = operand_at bytes row

  abbrev w : BlockHandle → Tree
  w = below (tree_of F) nop b

  by-kind : (low r : Option ℕ) (k : ℕ) → row.kind ≡ k → {l : List ℕ} → strays (statement F [] w s (statement_of k o)) e ≡ l → Lowers l low r → Lowers (stray_statement F b s e) low r
  by-kind low r k h {l} q z = rw (decoded p is k h) (same_list l _ low r q z)

  held_is : (j : ℕ) (a : Exit → Bool) → o j < b → strays (w (o j)) a ≡ stray_block F (o j) a
  held_is j a l = ap (λ (x : Tree). strays x a) (below-lt (tree_of F) nop b (o j) l)

  module _ (low r : Option ℕ) where
    -- neither holds blocks nor leaves
    pub stray_silent : (0 < row.kind → 7 < row.kind) → row.kind ≤ 20 → r ≡ low → Lowers (stray_statement F b s e) low r
    stray_silent h l q = by-kind low r row.kind refl refl (rw q (none_found _ low (silent_of F w s e o row.kind h l)))

    pub stray_continue : row.kind ≡ 6 → Lowers (unless E.continued s) low r → Lowers (stray_statement F b s e) low r
    unfolding exits_of
    stray_continue h = by-kind low r 6 h (continue_of F w s e o)

    pub stray_return : row.kind ≡ 7 → Lowers (unless E.returned s) low r → Lowers (stray_statement F b s e) low r
    unfolding exits_of
    stray_return h = by-kind low r 7 h (return_of F w s e o)

    pub stray_break : (row.kind ≤ 20 → row.kind ≡ 5) → Lowers (unless E.broke s) low r → Lowers (stray_statement F b s e) low r
    unfolding exits_of
    stray_break h = by-kind low r row.kind refl (break_of F w s e o row.kind h)

    pub stray-block : {x : ℕ} → row.kind ≡ 1 → x ≡ o 0 → Lowers (stray_block F x e) low r → Lowers (stray_statement F b s e) low r
    stray-block h q z = by-kind low r 1 h (block_of F w s e o ∙ held_is 0 e (block_low p is h)) (rw q at z)

    pub stray_if : (m : Option ℕ) {x y : ℕ} → row.kind ≡ 2 → y ≡ o 2 → Lowers (stray_block F y e) low m → x ≡ o 1 → Lowers (stray_block F x e) m r → Lowers (stray_statement F b s e) low r
    stray_if m h q y v z =
        by-kind low r 2 h (if_of F w s e o ∙ rw (held_is 1 e (accept_low p is h), held_is 2 e (reject_low p is h)))
        (then (stray_block F (o 1) e) (stray_block F (o 2) e) low m r (rw q at y) (rw v at z))

    pub stray_loop : (m : Option ℕ) {x y : ℕ} {a c : Exit → Bool} → row.kind ≡ 4 → y ≡ o 1 → c ≡ only_next → Lowers (stray_block F y c) low m → x ≡ o 0 → a ≡ in_body e → Lowers (stray_block F x a) m r → Lowers (stray_statement F b s e) low r
    stray_loop m h q c y v a z =
        by-kind low r 4 h (loop_of F w s e o ∙ rw (held_is 0 (in_body e) (body_low p is h), held_is 1 only_next (continuing_low p is h)))
        (then (stray_block F (o 0) (in_body e)) (stray_block F (o 1) only_next) low m r (rw (q, c) at y) (rw (v, a) at z))

    pub stray_switch : {a : Exit → Bool} → row.kind ≡ 3 → a ≡ in_case e → Lowers (stray_cases F o (o 1) a) low r → Lowers (stray_statement F b s e) low r
    stray_switch h a z =
        by-kind low r 3 h (switch_of F w s e o ∙ concat-same (o 1) _ _ (λ i l. held_is (3 + 2 * i) (in_case e) ((cases_in p is h).each i l)))
        (rw a at z)

-- A turn over the cases
module _ {bytes t : List ℕ} {f b : ℕ} {row : Kinded} (p : CasesIn bytes t f b row) (e : Exit → Bool) (low : Option ℕ) where
  -- of the first i
  abbrev those : ℕ → List ℕ
  those i = stray_cases (function_of bytes t f) (operand_at bytes row) i e

  pub no_case : Lowers (those 0) low low
  unfolding concat
  no_case = none_found [] low refl

  pub next_case : (i : ℕ) (m r : Option ℕ) {x : ℕ} → Lowers (those i) low m → x ≡ operand_at bytes row (3 + 2 * i) → Lowers (stray_block (function_of bytes t f) x e) m r → Lowers (those (i + 1)) low r
  unfolding concat
  next_case i m r h q z = rw add-one (then (stray_block (function_of bytes t f) (operand_at bytes row (3 + 2 * i)) e) (those i) low m r h (rw q at z))

  pub all_cases : (r : Option ℕ) {n i : ℕ} → n ≡ operand_at bytes row 1 → i ≡ n → Lowers (those i) low r → Lowers (those (operand_at bytes row 1)) low r
  all_cases r h l z = rw (l, h) at z

-- A turn over a block's statements, the last first
module _ (f : Function) (b first count : ℕ) (e : Exit → Bool) where
  -- those from the k-th on
  abbrev pub later : ℕ → List ℕ
  later k = strays (statements_from f [] (below (tree_of f) nop b) (first + k) (count - k)) e

  module _ (low : Option ℕ) where
    pub no_statement : (k : ℕ) → k ≡ count → Lowers (later k) low low
    unfolding statements_from strays
    no_statement k h = let z : count - k ≡ 0 = omega arith in rw z (none_found [] low refl)

    pub next_statement : (k j : ℕ) (m r : Option ℕ) → k ≤ count → k ≡ j + 1 → Lowers (later k) low m → Lowers (stray_statement f b (first + j) e) m r → Lowers (later j) low r
    unfolding statements_from strays
    next_statement k j m r l h q z =
        let x : count - j ≡ suc (count - k) = omega arith in
        let y : first + k ≡ suc (first + j) = omega arith in
        rw x (then (stray_statement f b (first + j) e) _ low m r (rw y at q) z)

-- The whole block
module _ {bytes t : List ℕ} {f b : ℕ} (p : BlockOf bytes t f b) where
  pub all_statements : (e : Exit → Bool) (low r : Option ℕ) (g : BlockRange) (k : ℕ) → g ≡ range_at t f b → k ≡ 0 → Lowers (later (function_of bytes t f) b g.first g.count e k) low r → Lowers (stray_block (function_of bytes t f) b e) low r
  all_statements e low r g k q h z =
      let G = function_of bytes t f in
      let whole : tree_of G b ≡ statements_from G [] (below (tree_of G) nop b) (get_or G.blocks b no_block).first (get_or G.blocks b no_block).count = unfold block_tree in knot-is (block_tree G []) nop b in
      let same : get_or G.blocks b no_block ≡ g = range_is bytes t f b no_block p.block ∙ sym q in
      let x : g.first + k ≡ (get_or G.blocks b no_block).first = omega (arith, ap (λ (y : BlockRange). y.first) same) in
      let y : g.count - k ≡ (get_or G.blocks b no_block).count = omega (arith, ap (λ (y : BlockRange). y.count) same) in
      rw whole (rw (x, y) at z)

-- The body, and the joint answer
pub body_strays : (f : Function) (b : ℕ) (e : Exit → Bool) (r : Option ℕ) → b ≡ length f.blocks - 1 → e ≡ at_top → Lowers (stray_block f b e) nothing r → (marks : List ℕ) → r ≡ lowest (strays (body_tree f marks) at_top)
body_strays f b e r h q z marks =
    z ∙ none_before _ ∙ (rw (q, h) (ap lowest (unfold body_tree in strays-same f [] marks at_top)))

pub joint : (S : Scope) (f : Function) (a c r : Option ℕ) → a ≡ lowest (failing (λ n x. fits_statement S x) 0 S.function.statements) → ((marks : List ℕ) → c ≡ lowest (strays (body_tree f marks) at_top)) → r ≡ lower_of a c → (marks : List ℕ) → r ≡ blamed_statement S (body_tree f marks)
unfolding blamed_statement
joint S f a c r h q z marks = z ∙ rw (h, q marks, lowest_append)
