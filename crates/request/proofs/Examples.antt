-- Requests by their fields, computed by the definition: what is read, and what is malformed (12).
use Prim.Native.Nat.{ℕ, ◌*◌}
use mathlib.Core.Path.{◌≡◌, refl}
use mathlib.Core.List.{List, [], ◌∷◌}
use mathlib.Core.Option.{Option, some, none as nothing}
use lib.ListN.{length}
use Rattle.field.specs.Field.{field_at}
use Rattle.part.specs.PartReq.{all, exist, none, more}
use Rattle.context.specs.RequiredContext.{variable}
use Rattle.request.specs.Fields.{fields, bytes_of, framed, whole}
use Rattle.request.specs.Part.{read_entries, read_level, by_code, read_part, read_return, read_variables}
use Rattle.request.specs.Request.{Request, asking, read_body, request_of}

abbrev request : List ℕ → Option Request
unfolding request_of framed field_at fields bytes_of read_body read_return read_variables read_entries read_part read_level by_code whole
request fs = request_of (82 ∷ (81 ∷ bytes_of (2 * length fs ∷ fs)))

-- the global 0, all
one_global : request (0 ∷ (3 ∷ (1 ∷ (0 ∷ (0 ∷ []))))) ≡ some (asking 0 nothing (more (variable 0) all none))
unfolding request_of framed field_at fields bytes_of read_body read_return read_variables read_entries read_part read_level by_code whole
one_global = refl

-- {0:all,2:exist} returned
returned : request (1 ∷ (2 ∷ (2 ∷ (0 ∷ (0 ∷ (2 ∷ (1 ∷ (0 ∷ [])))))))) ≡ some (asking 1 (some (more 0 all (more 2 exist none))) none)
unfolding request_of framed field_at fields bytes_of read_body read_return read_variables read_entries read_part read_level by_code whole
returned = refl

-- the empty part is allowed
empty-part : request (0 ∷ (2 ∷ (0 ∷ (0 ∷ [])))) ≡ some (asking 0 (some none) none)
unfolding request_of framed field_at fields bytes_of read_body read_return read_variables read_entries read_part read_level by_code whole
empty-part = refl

-- equal indexes
equal_indexes : request (0 ∷ (2 ∷ (2 ∷ (1 ∷ (0 ∷ (1 ∷ (0 ∷ (0 ∷ [])))))))) ≡ nothing
unfolding request_of framed field_at fields bytes_of read_body read_return read_variables read_entries read_part read_level by_code whole
equal_indexes = refl

-- none below the top, and none of a global
none_below : request (0 ∷ (2 ∷ (1 ∷ (0 ∷ (3 ∷ (0 ∷ [])))))) ≡ nothing
unfolding request_of framed field_at fields bytes_of read_body read_return read_variables read_entries read_part read_level by_code whole
none_below = refl

none_of_a_global : request (0 ∷ (3 ∷ (1 ∷ (0 ∷ (3 ∷ []))))) ≡ nothing
unfolding request_of framed field_at fields bytes_of read_body read_return read_variables read_entries read_part read_level by_code whole
none_of_a_global = refl

-- a field left over, and an absent function
left_over : request (0 ∷ (3 ∷ (0 ∷ (0 ∷ [])))) ≡ nothing
unfolding request_of framed field_at fields bytes_of read_body read_return read_variables read_entries read_part read_level by_code whole
left_over = refl

absent_function : request (65535 ∷ (3 ∷ (0 ∷ []))) ≡ nothing
unfolding request_of framed field_at fields bytes_of read_body read_return read_variables read_entries read_part read_level by_code whole
absent_function = refl
