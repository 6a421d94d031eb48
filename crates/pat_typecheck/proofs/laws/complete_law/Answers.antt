use Rattle.pat_typecheck.proofs.Complete.{never_refused}
use Rattle.pat_typecheck.proofs.laws.complete_law.Goals as goal

pub returns : goal.returns
returns c = λ bytes line t p v spelled bounds usable typable refusal.
    never_refused bytes line t p v (c.verdict_law.ensures bytes) spelled bounds usable typable refusal
