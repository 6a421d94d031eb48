use Rattle.pat_checkpoint_laws.proofs.Exact.{read_is_text, read_is_readable}
use Rattle.pat_checkpoint_laws.proofs.TextSpelled.{reads_text}
use Rattle.pat_checkpoint_laws.proofs.text.read_is_text_law.Goals as goal

pub returns-clause-text : goal.returns-clause-text
returns-clause-text c = read_is_text

pub returns-clause-readable : goal.returns-clause-readable
returns-clause-readable c = read_is_readable

pub returns-clause-front : goal.returns-clause-front
returns-clause-front c = reads_text
