use Rattle.pat_patterns.specs.Views.{pattern_view}
use Rattle.pat_patterns.proofs.ResidualsMeaning.{nullable_words}
use Rattle.pat_patterns.proofs.residuals.reading.nullable.Goals as goal

pub returns-clause-words : goal.returns-clause-words
returns-clause-words c = nullable_words c.has_empty_word.result (pattern_view c.args.p.now) c.has_empty_word.ensures
