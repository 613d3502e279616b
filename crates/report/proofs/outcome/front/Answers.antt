-- `report::outcome::front` meets its contract: what stands before the place where the input is split.
use Rattle.report.proofs.Whole.{split_inside}
use Rattle.report.proofs.outcome.front.Goals as goal

pub slice_bounds-result-end : goal.slice_bounds-result-end
slice_bounds-result-end c = split_inside c.args.input.now c.split-at.ensures
