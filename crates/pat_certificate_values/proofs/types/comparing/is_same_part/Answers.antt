use Rattle.pat_patterns.specs.Views.{pattern_view}
use Rattle.pat_certificate_values.proofs.Pairs.{same_is}
use Rattle.pat_certificate_values.proofs.types.comparing.is_same_part.Goals as goal

pub returns : goal.returns
returns c = same_is c.is_same.result (pattern_view c.args.left.now) (pattern_view c.args.right.now) c.is_same.ensures
