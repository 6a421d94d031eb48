use Rattle.pat_examples.proofs.FormPrograms.{branches_safe, given_safe, renamed_safe, impossible_safe}
use Rattle.pat_examples.proofs.safety.safe_forms.Goals as goal

pub returns : goal.returns
returns c = record { branches = branches_safe; given = given_safe; renamed = renamed_safe; impossible = impossible_safe }
