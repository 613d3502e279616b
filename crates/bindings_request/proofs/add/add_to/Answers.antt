-- `bindings_request::add::add_to` meets its contract: the returned value's entry, then what the store's function answers, written.
use Rattle.bindings_request.proofs.Modules.{rows_sized, rows_bound}
use Rattle.bindings_request.proofs.Adding.{add-asks, add_gave}
use Rattle.bindings_request.proofs.add.add_to.Goals as goal

pub invariant_of-types : goal.invariant_of-types
invariant_of-types c = record { all_bound = rows_bound c.requires.tables; all_sized = rows_sized c.requires.tables }

pub add_binding-a-requires : goal.add_binding-a-requires
add_binding-a-requires c =
    let q9 = add-asks c.requires.tables c.requires.f_in_bounds.0 c.requires.b_lt_bindings.0 c.result-declared.result c.result-declared.ensures c.args.retval c.returned-entry.ensures c.requires.f_in_bounds.1.1 c.args.parts.now c.requires.parts_len.0 c.requires.parts_len.1 in
    record { good = q9.0; parts_len = q9.1.0; bound_result = q9.1.1.0; b_lt_bindings = q9.1.1.1 }

pub returns : goal.returns
returns c =
    add_gave c.requires.tables c.requires.f_in_bounds.0 c.requires.b_lt_bindings.0 c.result-declared.result c.result-declared.ensures c.args.retval c.returned-entry.ensures c.requires.f_in_bounds.1.1 c.add_binding-a.ensures c.write_asking.ensures
