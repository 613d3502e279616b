-- A table that has for each type the lowest alike one decides `alike`: equal entries are alike to each other, and alike types have the
-- same lowest. It is filled upwards, since a type is made of lower ones.
use Prim.Native.Nat.{ℕ, ◌+◌, ◌<◌, ◌≤◌}
use native.Mathlib.Omega.{arith}
use native.Mathlib.Decide.{dec_lt, ℕ_discrete}
use mathlib.Core.Path.{◌≡◌, sym, ◌∙◌}
use mathlib.Core.Bool.{true}
use mathlib.Core.List.{List}
use lib.ListN.{length, get_or, set}
use lib.Seq.{get_or-set_same, get_or-set_other}
use borrow.Author.Tests.{eq-eqb, eqb-true}
use Rattle.part.proofs.Equations.{never}
use Rattle.module.specs.Module.{TypeInner, Opaque}
use Rattle.clearance.specs.Scope.{bases, alike_inner}
use Rattle.judge.specs.Alike.{alike_in, by_table, Lower, Lowest, Upto, AlikeTable}
use Rattle.judge.proofs.Pairwise.{same_test}
use Rattle.judge.proofs.Equivalence.{alike-in, inner_agree, alike_is, alike_sym, alike_trans}

module _ (types : List TypeInner) (L : Lower types) where
  -- the lowest of a type is no higher than that of one alike to it
  no_higher : (a b m n : ℕ) → Lowest types a m → Lowest types b n → alike_in types a b ≡ true → n ≤ m
  no_higher a b m n A B h =
      elim (dec_lt m n) [
        | yes l ↦ never (sym (B.first m l) ∙ alike_trans types L m a b A.is h)
        | no l ↦ omega arith
      ]

  module _ (table : List ℕ) (n : ℕ) (U : Upto types table n) where
    pub by-table : (a b : ℕ) → a < n → b < n → by_table table a b ≡ alike_in types a b
    unfolding by_table
    by-table a b h l =
        let A = U.each a h in
        let B = U.each b l in
        same_test (by_table table a b) (alike_in types a b)
        (λ e. alike_trans types L a (get_or table a 0) b (alike_sym types L (get_or table a 0) a A.is)
        (rw (eqb-true (get_or table a 0) (get_or table b 0) e) B.is))
        (λ e. eq-eqb (get_or table a 0) (get_or table b 0)
        (omega (arith, no_higher a b (get_or table a 0) (get_or table b 0) A B e, no_higher b a (get_or table b 0) (get_or table a 0) B A (alike_sym types L a b e))))

    -- the insides of types up to n, whose bases are below n
    pub inner_by_table : (j : ℕ) → j ≤ n → alike_inner (by_table table) (get_or types j Opaque) (get_or types n Opaque) ≡ alike_in types j n
    inner_by_table j h =
        inner_agree (by_table table) (alike_in types) (get_or types j Opaque) (get_or types n Opaque)
        (λ i l m. by-table (get_or (bases (get_or types j Opaque)) i 0) (get_or (bases (get_or types n Opaque)) i 0) (omega (arith, L.each j i l)) (L.each n i m))
        ∙ sym (alike_is types L j n)

  -- before the first type, one type more, and all of them
  pub upto_none : (table : List ℕ) → Upto types table 0
  upto_none table = record { each = λ t l. absurd (omega arith) }

  pub upto_next : (table : List ℕ) (n v : ℕ) → n < length table → Upto types table n → Lowest types n v → Upto types (set table n v) (n + 1)
  upto_next table n v h U W = record { each = each_next }
    where
      each_next : (t : ℕ) → t < n + 1 → Lowest types t (get_or (set table n v) t 0)
      each_next t l =
          elim (ℕ_discrete t n) [
            | yes e ↦ rw (e, get_or-set_same table n v 0 h) W
            | no e ↦ rw (get_or-set_other table n t v 0 e) (U.each t (omega arith))
          ]

  pub upto_all : (table : List ℕ) (n : ℕ) → length table ≡ length types → length types ≤ n → Upto types table n → AlikeTable types table
  upto_all table n e h U =
      record {
        long = e;
        is = λ S s a b k l. by-table table n U a b (omega arith) (omega arith) ∙ (rw (← s) (alike-in S a b));
      }
