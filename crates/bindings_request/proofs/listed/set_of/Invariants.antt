-- `bindings_request::listed::set_of` meets its contract: from the last of the list to the first.
use Rattle.std.specs.Slice.Iter.{iter_rest}
use Rattle.bindings_request.proofs.Sets.{Reading}
use Rattle.bindings_request.proofs.listed.set_of.Given as goal

abbrev pub invariant-loop-x : goal.invariant-loop-x
invariant-loop-x l = Reading l.list (iter_rest l.x-iterator.iter) l.after l.s
