use Rattle.pat_derivation_text_laws.proofs.Exact.{text_is_read, text_is_one, unread_is_first, read_is_readable}
use Rattle.pat_derivation_text_laws.proofs.text_is_read_law.Goals as goal

pub returns-clause-read : goal.returns-clause-read
returns-clause-read c = text_is_read c.pattern_text_laws.ensures.read

pub returns-clause-one : goal.returns-clause-one
returns-clause-one c = text_is_one c.pattern_text_laws.ensures.read

pub returns-clause-first : goal.returns-clause-first
returns-clause-first c = unread_is_first c.pattern_text_laws.ensures.read

pub returns-clause-only : goal.returns-clause-only
returns-clause-only c = read_is_readable
