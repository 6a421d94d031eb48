use Rattle.pat_print.proofs.Numbered.{text_same}
use Rattle.pat_print.proofs.patterns.numbered_pattern.pattern_text_law.Goals as goal

pub returns : goal.returns
returns c = text_same
