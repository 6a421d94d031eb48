use Rattle.std.proofs.Common.{sym, ◌∙◌, arith}
use Rattle.std.proofs.lemmas.Bool.{le-leb}
use Rattle.pat_patterns.specs.Views.{pattern_view}
use Rattle.pat_linear.proofs.FormOfParts.{few_nodes}
use Rattle.pat_linear.proofs.forms.is_small.Goals as goal
use Rattle.pat_limits.specs.Limits.{most_levels}

pub returns-then-nodes-le-MOST_LEVELS : goal.returns-then-nodes-le-MOST_LEVELS
returns-then-nodes-le-MOST_LEVELS c =
    let few = c.if-nodes-le-MOST_LEVELS.true in
    let nodes = c.requires in
    le-leb c.args.nodes most_levels few ∙ sym (few_nodes (pattern_view c.args.p.now) (omega arith))
