use Rattle.std.proofs.Common.{rules}
use Rattle.pat_patterns.specs.Views.{pattern_view}
use Rattle.pat_patterns.proofs.ResidualsMeaning.{residual_words}
use Rattle.pat_patterns.proofs.residuals.residuals.residual.Goals as goal

pub returns-clause-words : goal.returns-clause-words
returns-clause-words c = residual_words (pattern_view c.take_one.result) (pattern_view c.args.p.now) c.args.tag (search rules)
