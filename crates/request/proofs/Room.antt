-- How long what is written can be: at most three fields for each entry, and a few for what holds them. By recursion over the entries.
use Prim.Native.Nat.{◌+◌, ◌*◌, ◌≤◌}
use native.Mathlib.Omega.{arith}
use mathlib.Core.List.{◌++◌}
use lib.ListN.{length, length-append}
use Rattle.part.specs.PartReq.{PartReq, all, exist, none, more, entries}
use Rattle.context.specs.RequiredContext.{RequiredContext, pieces}
use Rattle.request.specs.Part.{with_code, write_entries, write_part, write_return, write_variables}
use Rattle.request.specs.Context.{write_context_body, write_context}
use Rattle.request.proofs.ContextBytes.{length-context}

coded_long : (p : PartReq) → length (write_entries p) ≤ 3 * entries p → length (with_code p (write_entries p)) ≤ 2 + 3 * entries p
unfolding with_code entries
coded_long all h = omega arith
coded_long exist h = omega arith
coded_long none h = omega arith
coded_long (more i p r) h = omega arith

entries-long : (q : PartReq) → length (write_entries q) ≤ 3 * entries q
unfolding write_entries entries
entries-long all = omega arith
entries-long exist = omega arith
entries-long none = omega arith
entries-long (more i p r) =
    omega (arith, length-append (with_code p (write_entries p)) (write_entries r), coded_long p (entries-long p), entries-long r)

pub part_long : (p : PartReq) → length (write_part p) ≤ 2 + 3 * entries p
unfolding write_part
part_long p = coded_long p (entries-long p)

return_long : (p : PartReq) → length (write_return p) ≤ 1 + 3 * entries p
unfolding write_return entries
return_long all = omega arith
return_long exist = omega arith
return_long none = omega arith
return_long (more i p r) = omega (arith, part_long p)

pub variables_long : (q : PartReq) → length (write_variables q) ≤ 1 + 3 * entries q
unfolding write_variables
variables_long q = omega (arith, entries-long q)

-- a context's record has at most six bytes for each of its pieces, and 14 more
pub context_long : (c : RequiredContext) → length (write_context c) ≤ 14 + 6 * pieces c
unfolding write_context_body pieces
context_long c =
    let retval = write_return c.retval in
    let globals = write_variables c.globals in
    let args = write_variables c.args in
    let locals = write_variables c.locals in
    omega
    (arith, length-context c, length-append retval (globals ++ (args ++ locals)), length-append globals (args ++ locals), length-append args locals, return_long c.retval, variables_long c.globals, variables_long c.args, variables_long c.locals)
