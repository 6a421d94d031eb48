use Rattle.std.proofs.Common.{ap₂, ◌∙◌}
use Rattle.pat_grid_points.specs.Chains.{chains}
use Rattle.pat_grid_points.proofs.Linked.{none_listed}
use Rattle.pat_grid_points.proofs.chains.of_links.Goals as goal

pub returns : goal.returns
returns c = ap₂ chains c.requires.links c.requires.firsts ∙ none_listed c.args.count
