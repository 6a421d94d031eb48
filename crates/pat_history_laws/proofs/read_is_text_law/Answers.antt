use Rattle.pat_history_laws.proofs.Lines.{read_is_text, read_is_readable}
use Rattle.pat_history_laws.proofs.read_is_text_law.Goals as goal

pub returns-clause-text : goal.returns-clause-text
returns-clause-text c = read_is_text

pub returns-clause-readable : goal.returns-clause-readable
returns-clause-readable c = read_is_readable
