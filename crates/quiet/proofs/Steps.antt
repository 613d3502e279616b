-- Whether a block is quiet, from its statements, and a statement from the blocks that it holds, each as the code asks it: one law for each way on, at a stop and where it goes on.
use Prim.Native.Nat.{ℕ, suc, ◌+◌, ◌-◌, ◌*◌, ◌<◌, ◌≤◌}
use native.Mathlib.Omega.{arith}
use mathlib.Core.Path.{◌≡◌, refl, sym, ap, ◌∙◌}
use mathlib.Core.Bool.{Bool, true, false, ◌&&◌}
use mathlib.Core.List.{List}
use lib.ListN.{length, get_or}
use Rattle.part.specs.PartReq.{PartReq}
use Rattle.module.specs.Module.{BlockHandle, BlockRange, Function}
use Rattle.module.specs.Decode.{statement_of}
use Rattle.module.specs.Knot.{below}
use Rattle.module.specs.Tables.{function_of}
use Rattle.module.proofs.Knot.{knot-is, below-lt}
use Rattle.access.specs.declared.kinded.Kinded.{Kinded}
use Rattle.access.specs.Access.{operand_at, statement_row, range_at}
use Rattle.access.proofs.Access.{range_is}
use Rattle.clearance.specs.Scope.{Scope}
use Rattle.clearance.specs.Tree.{Tree, nop, statement, statements_from, no_block, block_tree}
use Rattle.clearance.specs.Needs.{Exit, next, only_next, each, quiet, obeys}
use Rattle.clearance.specs.Judged.{in_case, in_body}
use Rattle.judge.specs.Given.{scope_at}
use Rattle.strays.specs.declared.exits.Exits.{Exits}
use Rattle.strays.specs.Exits.{exits_of}
use Rattle.strays.specs.Places.{BlockOf, StatementIn, CasesIn}
use Rattle.strays.proofs.Found.{decoded, block_low, accept_low, reject_low, body_low, continuing_low, cases_in}
use Rattle.quiet.specs.Places.{tree_of, quiet_block, quiet_statement, quiet_cases, Says, Obeys}
use Rattle.quiet.proofs.Trees.{each_same, by_quiet, block_of, if_of, switch_of, loop_of}

-- One after the other

-- what is left says the whole
pub record Left (whole rest : List ℕ → Bool) (before after : List ℕ) : Type 0 where
  pub is : (marks : List ℕ) → whole marks ≡ rest marks
  pub long : length after ≡ length before

pub at_first : (whole : List ℕ → Bool) (path : List ℕ) → Left whole whole path path
at_first whole path = record { is = λ marks. refl; long = refl }

-- the first of what is left, and the others
pub record Parts (rest q more : List ℕ → Bool) : Type 0 where
  pub is : (marks : List ℕ) → rest marks ≡ q marks && more marks

-- the first is asked
module _ {whole rest q more : List ℕ → Bool} {before now after : List ℕ} {r : Bool} (l : Left whole rest before now) (e : Parts rest q more) (s : Says q now after r) where
  found : (x : Bool) → r ≡ x → (marks : List ℕ) → whole marks ≡ x && more marks
  found x h marks = let z : q marks ≡ x = sym (s.is marks) ∙ h in l.is marks ∙ e.is marks ∙ rw z

  pub stops : r ≡ false → Says whole before after false
  stops h = record { is = λ marks. sym (found false h marks); long = s.long ∙ l.long }

  pub goes_on : r ≡ true → Left whole more before after
  goes_on h = record { is = found true h; long = s.long ∙ l.long }

-- nothing is left, or one
pub ends : {whole rest : List ℕ → Bool} {before after : List ℕ} → Left whole rest before after → ((marks : List ℕ) → rest marks ≡ true) → Says whole before after true
ends l e = record { is = λ marks. sym (l.is marks ∙ e marks); long = l.long }

pub is_last : {whole q : List ℕ → Bool} {before now after : List ℕ} {r : Bool} → Left whole q before now → Says q now after r → Says whole before after r
is_last l s = record { is = λ marks. s.is marks ∙ sym (l.is marks); long = s.long ∙ l.long }

-- A turn over the cases, the last first
module _ {bytes t : List ℕ} {f b : ℕ} {row : Kinded} (p : CasesIn bytes t f b row) (n : PartReq) (e : Exit → Bool) where
  -- the first i
  abbrev those : ℕ → List ℕ → Bool
  those i = quiet_cases (scope_at bytes t f) n (operand_at bytes row) i e

  pub all_cases : {i : ℕ} → i ≡ operand_at bytes row 1 → (path : List ℕ) → Left (those (operand_at bytes row 1)) (those i) path path
  all_cases h path = record { is = λ marks. rw h; long = refl }

  pub case_first : {i x : ℕ} → 0 < i → x ≡ operand_at bytes row (3 + 2 * (i - 1)) → Parts (those i) (quiet_block (scope_at bytes t f) n x e) (those (i - 1))
  unfolding each
  case_first {i} l h = let z : i ≡ suc (i - 1) = omega arith in record { is = λ marks. ap (λ (k : ℕ). those k marks) z ∙ rw h }

  pub no_case : {i : ℕ} → i ≡ 0 → (marks : List ℕ) → those i marks ≡ true
  unfolding each
  no_case h marks = rw h

-- A turn over a block's statements
module _ (S : Scope) (n : PartReq) (b first count : ℕ) (e : Exit → Bool) where
  -- those from the k-th on
  abbrev pub later : ℕ → List ℕ → Bool
  later k marks = quiet S n (statements_from S.function marks (below (tree_of S.function marks) nop b) (first + k) (count - k)) e

  pub statement_first : {k : ℕ} → k < count → Parts (later k) (quiet_statement S n b (first + k) e) (later (k + 1))
  unfolding statements_from quiet
  statement_first {k} l =
      let x : count - k ≡ suc (count - (k + 1)) = omega arith in
      let y : suc (first + k) ≡ first + (k + 1) = omega arith in
      record { is = λ marks. rw (x, y) }

  pub no_statement : {k : ℕ} → count ≤ k → (marks : List ℕ) → later k marks ≡ true
  unfolding statements_from quiet
  no_statement {k} l marks = let x : count - k ≡ 0 = omega arith in rw x

block-tree : (f : Function) (marks : List ℕ) (b : ℕ) →
    tree_of f marks b ≡ statements_from f marks (below (tree_of f marks) nop b) (get_or f.blocks b no_block).first (get_or f.blocks b no_block).count
unfolding block_tree
block-tree f marks b = knot-is (block_tree f marks) nop b

pub all_statements : {bytes t : List ℕ} {f b : ℕ} → BlockOf bytes t f b → (n : PartReq) (e : Exit → Bool) (path : List ℕ) {g : BlockRange} → g ≡ range_at t f b →
    Left (quiet_block (scope_at bytes t f) n b e) (later (scope_at bytes t f) n b g.first g.count e 0) path path
all_statements {bytes} {t} {f} {b} p n e path {g} q =
    let G = function_of bytes t f in
    let same : get_or G.blocks b no_block ≡ g = range_is bytes t f b no_block p.block ∙ sym q in
    let x : (get_or G.blocks b no_block).first ≡ g.first + 0 = omega (arith, ap (λ (y : BlockRange). y.first) same) in
    let y : (get_or G.blocks b no_block).count ≡ g.count - 0 = omega (arith, ap (λ (y : BlockRange). y.count) same) in
    record {
      is = λ marks. ap (λ (a : Tree). quiet (scope_at bytes t f) n a e) (block-tree G marks b ∙ rw (x, y));
      long = refl;
    }

-- A statement, by its kind
module _ {bytes t : List ℕ} {f b s : ℕ} (p : StatementIn bytes t f b s) {row : Kinded} (is : row ≡ statement_row bytes t f s) (n : PartReq) (E : Exits Bool) where
  abbrev S : Scope
  S = scope_at bytes t f

  abbrev o : ℕ → ℕ
  o = operand_at bytes row

  abbrev e : Exit → Bool
  e = exits_of E

  abbrev w : List ℕ → BlockHandle → Tree
  w marks = below (tree_of S.function marks) nop b

  end_allowed : e next ≡ true
  unfolding exits_of
  end_allowed = refl

  by-kind : (k : ℕ) → row.kind ≡ k → {q : List ℕ → Bool} → ((marks : List ℕ) → quiet S n (statement S.function marks (w marks) s (statement_of k o)) e ≡ q marks) → (path : List ℕ) →
      Left (quiet_statement S n b s e) q path path
  by-kind k h z path = record { is = λ marks. rw (decoded p is k h) (z marks); long = refl }

  held_is : {x : ℕ} (j : ℕ) → x ≡ o j → o j < b → (a : Exit → Bool) (marks : List ℕ) → quiet S n (w marks (o j)) a ≡ quiet_block S n x a marks
  held_is j h l a marks = ap (λ (y : Tree). quiet S n y a) (below-lt (tree_of S.function marks) nop b (o j) l) ∙ rw h

  pub quiet_inner : {x : ℕ} → row.kind ≡ 1 → x ≡ o 0 → (path : List ℕ) → Left (quiet_statement S n b s e) (quiet_block S n x e) path path
  quiet_inner h x = by-kind 1 h (λ marks. block_of S n S.function marks (w marks) s e o ∙ held_is 0 x (block_low p is h) e marks)

  pub quiet_if : {x y : ℕ} → row.kind ≡ 2 → x ≡ o 1 → y ≡ o 2 → Parts (quiet_statement S n b s e) (quiet_block S n x e) (quiet_block S n y e)
  quiet_if h x y =
      record {
        is =
            λ marks. rw (decoded p is 2 h)
            (if_of S n S.function marks (w marks) s e o ∙ rw (held_is 1 x (accept_low p is h) e marks, held_is 2 y (reject_low p is h) e marks));
      }

  pub quiet_loop : {x y : ℕ} {a c : Exit → Bool} → row.kind ≡ 4 → x ≡ o 0 → a ≡ in_body e → y ≡ o 1 → c ≡ in_case e →
      Parts (quiet_statement S n b s e) (quiet_block S n x a) (quiet_block S n y c)
  quiet_loop h x a y c =
      record {
        is =
            λ marks. rw (decoded p is 4 h, a, c)
            (loop_of S n S.function marks (w marks) s e o end_allowed
            ∙ rw (held_is 0 x (body_low p is h) (in_body e) marks, held_is 1 y (continuing_low p is h) (in_case e) marks));
      }

  pub quiet_switch : {a : Exit → Bool} → row.kind ≡ 3 → a ≡ in_case e → (path : List ℕ) → Left (quiet_statement S n b s e) (quiet_cases S n o (o 1) a) path path
  quiet_switch h a =
      by-kind 3 h
      (λ marks. switch_of S n S.function marks (w marks) s e o end_allowed
      ∙ rw a (each_same (o 1) _ _ (λ i l. held_is (3 + 2 * i) refl ((cases_in p is h).each i l) (in_case e) marks)))

-- The rule
pub obeys_by : {S : Scope} {n : PartReq} {b s : ℕ} {e : Exit → Bool} {before after : List ℕ} {r : Bool} → e ≡ only_next → Says (quiet_statement S n b s e) before after r → Obeys S n b s before after r
unfolding obeys
obeys_by {S} {n} {b} {s} h q =
    record {
      is = λ marks a z. q.is marks ∙ rw (h, z) (by_quiet S n S.function marks (below (tree_of S.function marks) nop b) s only_next 0 a);
      long = q.long;
    }
