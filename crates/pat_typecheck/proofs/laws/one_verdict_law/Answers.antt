use Rattle.pat_typecheck.proofs.OneVerdict.{one_verdict_of}
use Rattle.pat_typecheck.proofs.laws.one_verdict_law.Goals as goal

pub returns : goal.returns
returns c = λ bytes. one_verdict_of bytes (c.verdict_law.ensures bytes) c.text_laws.ensures.whole c.one_answer_laws.ensures.one
