use Rattle.pat_examples.proofs.UnsafePrograms.{leak_formed, alias_formed, beside_formed, leak_faults, alias_faults, only_alias, beside_faults, only_beside}
use Rattle.pat_examples.proofs.safety.unsafe_programs.Goals as goal

pub returns : goal.returns
returns c = record {
  formed = (leak_formed, alias_formed, beside_formed);
  leak = leak_faults;
  alias = alias_faults;
  only_alias = only_alias;
  beside = beside_faults;
  only_beside = only_beside;
}
