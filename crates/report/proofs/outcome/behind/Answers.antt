-- `report::outcome::behind` meets its contract: what stands from the place on where the input is split.
use Rattle.report.proofs.Whole.{split_inside}
use Rattle.report.proofs.outcome.behind.Goals as goal

pub slice_bounds-result-count : goal.slice_bounds-result-count
slice_bounds-result-count c = split_inside c.args.input.now c.split-at.ensures

pub slice_bounds-result-start : goal.slice_bounds-result-start
slice_bounds-result-start c = split_inside c.args.input.now c.split-at.ensures
