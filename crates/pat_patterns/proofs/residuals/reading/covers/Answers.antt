use Rattle.std.proofs.Common.{rules}
use Rattle.pat_patterns.specs.Views.{pattern_view}
use Rattle.pat_patterns.specs.residuals.Received.{is_received}
use Rattle.pat_patterns.proofs.ResidualsMeaning.{covers_words}
use Rattle.pat_patterns.proofs.residuals.reading.covers.Goals as goal

pub returns-then-free-clause-words : goal.returns-then-free-clause-words
returns-then-free-clause-words c =
    covers_words c.args.free (pattern_view c.args.p.now) (is_received c.args.received) c.args.free (search rules)

pub returns-else-free-clause-words : goal.returns-else-free-clause-words
returns-else-free-clause-words c = covers_words _ (pattern_view c.args.p.now) (is_received c.args.received) c.args.free (search rules)

pub returns-else-bare_words-clause-words : goal.returns-else-bare_words-clause-words
returns-else-bare_words-clause-words c = covers_words c.bare_words.result.is_empty (pattern_view c.args.p.now) (is_received c.args.received) c.args.free (search rules)
