-- `asks::fields::ways` meets its contract: kind by kind. Assumes nothing.
use mathlib.Core.Path.{◌≡◌, refl}
use mathlib.Core.Logic.{◌⊎◌, inl, inr}
use native.Mathlib.Omega.{arith}
use borrow.Author.Rules.{rules}
use Rattle.asks.specs.Ways.{kind_ways, ways_of, pack, numbers}
use Rattle.asks.proofs.FieldAsks.{Unlisted, unlisted}
use Rattle.asks.proofs.fields.ways.Goals as goal

pub returns-in-Ok-Access : goal.returns-in-Ok-Access
unfolding kind_ways ways_of pack numbers
returns-in-Ok-Access c = let k : c.args.row.kind ≡ 4 = search rules in rw k (record { is = refl; few = omega arith })

pub returns-in-Ok-Splat : goal.returns-in-Ok-Splat
unfolding kind_ways ways_of pack numbers
returns-in-Ok-Splat c =
    let k : (c.args.row.kind ≡ 6) ⊎ ((c.args.row.kind ≡ 19) ⊎ ((c.args.row.kind ≡ 20) ⊎ (c.args.row.kind ≡ 27))) = search rules in
    elim k [
      | inl e ↦ rw e (record { is = refl; few = omega arith })
      | inr (inl e) ↦ rw e (record { is = refl; few = omega arith })
      | inr (inr (inl e)) ↦ rw e (record { is = refl; few = omega arith })
      | inr (inr (inr e)) ↦ rw e (record { is = refl; few = omega arith })
    ]

pub returns-in-Ok-Load : goal.returns-in-Ok-Load
unfolding kind_ways ways_of pack numbers
returns-in-Ok-Load c =
    let k : (c.args.row.kind ≡ 12) ⊎ ((c.args.row.kind ≡ 16) ⊎ (c.args.row.kind ≡ 22)) = search rules in
    elim k [
      | inl e ↦ rw e (record { is = refl; few = omega arith })
      | inr (inl e) ↦ rw e (record { is = refl; few = omega arith })
      | inr (inr e) ↦ rw e (record { is = refl; few = omega arith })
    ]

pub returns-in-Ok-ImageLoad : goal.returns-in-Ok-ImageLoad
unfolding kind_ways ways_of pack numbers
returns-in-Ok-ImageLoad c = let k : c.args.row.kind ≡ 14 = search rules in rw k (record { is = refl; few = omega arith })

pub returns-in-Ok-ImageQuery : goal.returns-in-Ok-ImageQuery
unfolding kind_ways ways_of pack numbers
returns-in-Ok-ImageQuery c = let k : c.args.row.kind ≡ 15 = search rules in rw k (record { is = refl; few = omega arith })

pub returns-in-Ok-Binary : goal.returns-in-Ok-Binary
unfolding kind_ways ways_of pack numbers
returns-in-Ok-Binary c = let k : c.args.row.kind ≡ 17 = search rules in rw k (record { is = refl; few = omega arith })

pub returns-in-Ok-Select : goal.returns-in-Ok-Select
unfolding kind_ways ways_of pack numbers
returns-in-Ok-Select c = let k : c.args.row.kind ≡ 18 = search rules in rw k (record { is = refl; few = omega arith })

pub returns-in-Ok-Math : goal.returns-in-Ok-Math
unfolding kind_ways ways_of pack numbers
returns-in-Ok-Math c = let k : c.args.row.kind ≡ 21 = search rules in rw k (record { is = refl; few = omega arith })

pub returns-in-Ok-ArrayLength : goal.returns-in-Ok-ArrayLength
unfolding kind_ways ways_of pack numbers
returns-in-Ok-ArrayLength c = let k : c.args.row.kind ≡ 25 = search rules in rw k (record { is = refl; few = omega arith })

pub returns-in_default : goal.returns-in_default
returns-in_default c = let other : Unlisted c.args.row.kind = search rules in unlisted _ _ other
