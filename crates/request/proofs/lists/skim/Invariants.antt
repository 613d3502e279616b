-- `request::lists::skim` meets its contract: the loop's invariant says that what is left gives the whole.
use Prim.Native.Nat.{◌-◌}
use Rattle.field.specs.Limits.{max_depth}
use Rattle.part.specs.PartReq.{spine}
use Rattle.request.specs.Part.{read_part, read_entries}
use Rattle.request.specs.Fields.{fields}
use Rattle.request.specs.Answers.{skimmed}
use Rattle.request.proofs.Variables.{Skimming}
use Rattle.request.proofs.lists.skim.Given as goal

abbrev pub invariant-loop : goal.invariant-loop
invariant-loop l =
    Skimming l.initial.cells l.cells l.bytes (skimmed (read_entries (read_part max_depth) spine l.low l.n (fields l.bytes))) l.left l.least (l.n - l.counter)
