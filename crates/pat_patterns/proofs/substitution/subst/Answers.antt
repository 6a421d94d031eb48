use Rattle.std.proofs.Common.{rules}
use Rattle.pat_patterns.specs.Views.{pattern_view, patterns_view, value_at}
use Rattle.pat_patterns.proofs.Meaning.{subst_words}
use Rattle.pat_patterns.proofs.substitution.subst.Goals as goal

pub returns-clause-words : goal.returns-clause-words
returns-clause-words c =
    subst_words (pattern_view c.take_one.result) (pattern_view c.args.p.now) (value_at (patterns_view c.args.values.now)) (search rules)
