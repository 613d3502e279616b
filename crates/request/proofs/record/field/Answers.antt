-- `request::record::field` meets its contract: what the pattern leaves is all but two bytes.
use native.Mathlib.Omega.{arith}
use Rattle.std.proofs.lemmas.List.{take_rest}
use Rattle.field.specs.Field.{field_at}
use Rattle.request.proofs.Bytes.{first_field}
use Rattle.request.proofs.record.field.Goals as goal

pub returns : goal.returns
unfolding field_at
returns c =
    let b = c.args.bytes.now in
    rw (take_rest b 2) (first_field b c.in-len2-up.len_at_least (omega arith))
