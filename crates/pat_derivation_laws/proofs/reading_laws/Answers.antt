use Rattle.pat_derivation_laws.proofs.ReadingLaws.{empty_to, empty_from, alias_to, alias_from, payload_to, payload_from, guard_to, guard_from, taken_to, taken_from}
use Rattle.pat_derivation_spec.specs.Derivations.{scope_of}
use Rattle.pat_derivation_spec.specs.Rules.{needed}
use Rattle.pat_derivation_laws.proofs.reading_laws.Goals as goal

pub returns : goal.returns
returns c = record {
  empty = λ p d h. (empty_to p d h, empty_from p d h);
  alias = λ p d h. (alias_to p d h.number h.node h.function h.line h.node.core, alias_from p d h.number h.node h.function h.line h.node.core);
  payload = λ p d h. (payload_to p d h.number h.node h.function h.line h.node.core, payload_from p d h.number h.node h.function h.line h.node.core);
  covers = λ h. (guard_to h.number h.node h.function h.line h.node.core, guard_from h.number h.node h.function h.line h.node.core);
  cert = λ p d h. (taken_to (scope_of p d) (needed p d h) h.line.certs, taken_from (scope_of p d) (needed p d h) h.line.certs);
}
