-- `context::required_context::RequiredContext::merge` meets its contract: four sums, each with the room that those before it have left.
use Rattle.context.proofs.Contexts.{globals-ask, locals-ask, args-ask, retval-ask, merge_done}
use Rattle.context.proofs.required_context.RequiredContext.merge.Goals as goal

pub add-globals-requires : goal.add-globals-requires
add-globals-requires c =
    let q9 = globals-ask c.requires.good c.requires.has_context c.requires.room in
    record { good = q9.0; a_bound = q9.1.0; room = q9.1.1 }

pub add-locals-requires : goal.add-locals-requires
add-locals-requires c =
    let q9 = locals-ask c.requires.good c.requires.has_context c.requires.room c.add-globals.ensures in
    record { good = q9.0; a_bound = q9.1.0; room = q9.1.1 }

pub add-args-requires : goal.add-args-requires
add-args-requires c =
    let q9 = args-ask c.requires.good c.requires.has_context c.requires.room c.add-globals.ensures c.add-locals.ensures in
    record { good = q9.0; a_bound = q9.1.0; room = q9.1.1 }

pub add-retval-requires : goal.add-retval-requires
add-retval-requires c =
    let q9 = retval-ask c.requires.good c.requires.has_context c.requires.room c.add-globals.ensures c.add-locals.ensures c.add-args.ensures in
    record { good = q9.0; a_bound = q9.1.0; room = q9.1.1 }

pub returns : goal.returns
returns c =
    merge_done c.requires.good c.requires.has_context c.requires.room c.add-globals.ensures c.add-locals.ensures c.add-args.ensures c.add-retval.ensures
