use Rattle.pat_semantics_laws.proofs.Enabled.{thread_exact, step_found, found_step, other_found, found_other}
use Rattle.pat_semantics_laws.proofs.Outcomes.{ends_so, so_ends}
use Rattle.pat_semantics_laws.proofs.outcome_laws.Goals as goal

pub returns : goal.returns
returns c = record {
  threads = thread_exact;
  steps = λ p c. (found_step p c, λ e. step_found p c e.1.0 e.0 e.1.1);
  others = λ p c. (found_other p c, λ e. other_found p c e.1.0 e.0 e.1.1 e.2);
  outcomes = λ p c steps budget limit o. (ends_so p c steps budget limit o, so_ends p c steps budget limit o);
}
