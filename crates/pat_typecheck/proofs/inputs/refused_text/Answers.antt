use Rattle.pat_typecheck.proofs.Checking.{refused_text}
use Rattle.pat_typecheck.proofs.inputs.refused_text.Goals as goal

pub returns : goal.returns
returns c = λ bytes why. refused_text bytes c.in_ok-refused.field-0 (c.in_ok-refused.ensures bytes why)
