use Rattle.pat_machine_laws.proofs.Refused.{refused_none, refused_once, none_refused}
use Rattle.pat_machine_laws.proofs.commits.refusal_laws.Goals as goal

pub returns : goal.returns
returns c = record { refused = λ p d es. (none_refused p d es, λ i. refused_none p d es i.0 i.1); one = refused_once }
