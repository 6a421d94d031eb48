use Rattle.pat_print_laws.proofs.Examples.{brackets_are, messages_are}
use Rattle.pat_print_laws.proofs.example_law.Goals as goal

pub returns-clause-brackets : goal.returns-clause-brackets
returns-clause-brackets c = brackets_are

pub returns-clause-messages : goal.returns-clause-messages
returns-clause-messages c = messages_are
