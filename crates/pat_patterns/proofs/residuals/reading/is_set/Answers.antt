use Rattle.std.proofs.Common.{rules}
use Rattle.pat_patterns.proofs.ResidualsMeaning.{no_bit}
use Rattle.pat_patterns.proofs.residuals.reading.is_set.Goals as goal

pub returns-else-tag-lt32 : goal.returns-else-tag-lt32
returns-else-tag-lt32 c = no_bit c.args.received c.args.tag (search rules) (search rules)
