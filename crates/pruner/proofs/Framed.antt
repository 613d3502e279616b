-- A record of ours: a mark, a 32-bit length and a body of fields. Its header says how long it is, and the body's fields are read back, whatever follows it in the buffer.
use Prim.Native.Nat.{ℕ, suc, ◌+◌, ◌*◌, ◌/◌, ◌%◌}
use native.Mathlib.Omega.{arith}
use native.Mathlib.Nat.{mod-add-div}
use mathlib.Core.Path.{◌≡◌, refl}
use mathlib.Core.Bool.{true}
use mathlib.Core.List.{List, ◌∷◌, ◌++◌}
use lib.Dec.{leb, eqb}
use lib.ListN.{length, drop}
use lib.Seq.{take_at}
use borrow.Author.Tests.{le-leb, eq-eqb}
use Rattle.field.specs.Field.{field_at, word_at}
use Rattle.request.specs.Fields.{fields, bytes_of, framed}
use Rattle.request.proofs.Bytes.{fields-bytes_of, length-bytes_of}
use Rattle.pruner.specs.Form.{stated}

module _ (a b : ℕ) (body : List ℕ) where
  abbrev long : ℕ
  long = 2 * length body

  -- the record with the mark a, b
  abbrev pub widely : List ℕ
  widely = a ∷ (b ∷ bytes_of (long % 65536 ∷ (long / 65536 ∷ body)))

  pub wide_long : length widely ≡ 6 + 2 * length body
  unfolding bytes_of
  wide_long = rw (length-bytes_of body) (omega arith)

  pub wide_word : (rest : List ℕ) → word_at (widely ++ rest) 2 ≡ 2 * length body
  unfolding bytes_of field_at word_at
  wide_word rest = rw (mod-add-div (long % 65536) 256, mod-add-div (long / 65536) 256, mod-add-div long 65536)

  pub wide_stated : (rest : List ℕ) → stated (widely ++ rest) ≡ widely
  wide_stated rest = rw (wide_word rest) (take_at widely rest _ wide_long)

  pub wide_framed : framed a b 6 (2 * length body) widely ≡ true
  unfolding framed bytes_of
  wide_framed =
      let s = suc (suc (suc (suc (suc (suc long))))) in
      let head : leb 6 s ≡ true = le-leb 6 s (omega arith) in
      let same : eqb (6 + long) s ≡ true = eq-eqb (6 + long) s (omega arith) in
      let even : eqb (long % 2) 0 ≡ true = eq-eqb (long % 2) 0 (omega arith) in
      rw (length-bytes_of body, head, eq-eqb a a refl, eq-eqb b b refl, same, even)

  pub wide_fields : fields (drop 6 widely) ≡ body
  unfolding bytes_of
  wide_fields = fields-bytes_of body
