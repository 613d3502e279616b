-- The tables of packed shapes are the shapes: each table is unpacked whole, by computation, and a row of it then by its number.
use mathlib.Core.Path.{◌≡◌, refl, sym, ap, ◌∙◌}
use mathlib.Core.List.{List, [], ◌∷◌, map}
use Prim.Native.Nat.{ℕ, zero, suc, ◌<◌, ◌≤◌}
use native.Mathlib.Omega.{arith}
use lib.ListN.{get_or, get_or-eq_default}
use borrow.Author.Tests.{ne_eqb}
use Rattle.std.specs.Prelude.{Some}
use Rattle.std.proofs.lemmas.List.{get_or-map}
use Rattle.module.specs.declared.shape.Class.{Class}
use Rattle.module.specs.Shape.{Operand, never, type_shapes, type_shape, expression_shapes, expression_shape, statement_shapes, statement_shape}
use Rattle.module.specs.Packed.{operand_of, class_then, unpack, classes, meant, class_at}

row : (table : List ℕ) (k : ℕ) → get_or (map (unpack classes) table) k (never ∷ []) ≡ unpack classes (get_or table k 21)
unfolding unpack class_then operand_of
row [] k = refl
row (x ∷ xs) zero = refl
row (x ∷ xs) (suc k) = row xs k

row_of : (table : List ℕ) (shapes : List (List Operand)) → map (unpack classes) table ≡ shapes → (k : ℕ) → unpack classes (get_or table k 21) ≡ get_or shapes k (never ∷ [])
row_of table shapes whole k = sym (row table k) ∙ ap (λ (l : List (List Operand)). get_or l k (never ∷ [])) whole

abbrev type_table : List ℕ
type_table = 0 ∷ 16 ∷ 528 ∷ 0 ∷ 15 ∷ 111 ∷ 17 ∷ 15 ∷ 0 ∷ []

types_whole : map (unpack classes) type_table ≡ type_shapes
unfolding type_shapes unpack class_then operand_of
types_whole = refl

pub type_row : (k : ℕ) → unpack classes (get_or type_table k 21) ≡ type_shape k
type_row k = row_of type_table type_shapes types_whole k

abbrev expression_table : List ℕ
expression_table = 0 ∷ 0 ∷ 0 ∷ 97 ∷ 33 ∷ 0 ∷ 1 ∷ 161 ∷ 4 ∷ 8 ∷ 9 ∷ 10 ∷ 1 ∷ 73466913 ∷ 2164769 ∷ 65 ∷ 1 ∷ 33 ∷ 1057 ∷ 1 ∷ 1 ∷ 67649 ∷ 1 ∷ 0 ∷ 0 ∷ 1 ∷ 0 ∷ 1 ∷ 0 ∷ 0 ∷ 0 ∷ 0 ∷ []

expressions_whole : map (unpack classes) expression_table ≡ expression_shapes
unfolding expression_shapes unpack class_then operand_of
expressions_whole = refl

pub expression-row : (k : ℕ) → unpack classes (get_or expression_table k 21) ≡ expression_shape k
expression-row k = row_of expression_table expression_shapes expressions_whole k

abbrev statement_table : List ℕ
statement_table = 14 ∷ 11 ∷ 11617 ∷ 385 ∷ 2411 ∷ 0 ∷ 0 ∷ 2 ∷ 0 ∷ 0 ∷ 0 ∷ 0 ∷ 33 ∷ 2081 ∷ 2189 ∷ 34849 ∷ 1 ∷ 33 ∷ 65 ∷ 1063 ∷ 33 ∷ []

statements_whole : map (unpack classes) statement_table ≡ statement_shapes
unfolding statement_shapes unpack class_then operand_of
statements_whole = refl

pub statement-row : (k : ℕ) → unpack classes (get_or statement_table k 21) ≡ statement_shape k
statement-row k = row_of statement_table statement_shapes statements_whole k

abbrev class_table : List Class
class_table = Class.Never ∷ Class.Expression ∷ Class.Optional ∷ Class.Index ∷ Class.List ∷ Class.Pattern ∷ Class.Level ∷ Class.Mode ∷ Class.Argument ∷ Class.Global ∷ Class.Local ∷ Class.Block ∷ Class.Cases ∷ Class.Function ∷ Class.Range ∷ Class.«Type» ∷ Class.Size ∷ Class.Members ∷ Class.Binding ∷ Class.Flag ∷ Class.Result ∷ []

pub class_row : (d : Class) (k : ℕ) → (k ≡ 0 → ⊥) → k ≤ 20 → Some (meant (get_or class_table k d)) ≡ class_at k
unfolding meant operand_of
class_row d k ne h = rw (ne_eqb k 0 ne, get_or-map meant class_table k d never (omega arith))

pub no_class : (k : ℕ) → 20 < k → Some never ≡ class_at k
unfolding meant operand_of
no_class k h = rw (ne_eqb k 0 (λ e. omega arith)) (ap (λ (o : Operand). Some o) (sym (get_or-eq_default (map meant class_table) never h)))
