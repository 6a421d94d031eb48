use Rattle.pat_patterns.specs.Views.{pattern_view}
use Rattle.pat_patterns.proofs.ResidualsMeaning.{inhabited_words}
use Rattle.pat_patterns.proofs.residuals.reading.inhabited.Goals as goal

pub returns-clause-words : goal.returns-clause-words
returns-clause-words c = inhabited_words c.has_word.result (pattern_view c.args.p.now) c.has_word.ensures
