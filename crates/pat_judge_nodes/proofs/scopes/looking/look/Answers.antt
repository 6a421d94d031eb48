use Rattle.pat_judge_nodes.proofs.Tables.{up_inside}
use Rattle.pat_judge_nodes.proofs.scopes.looking.look.Goals as goal

pub returns-else-binds-clause-inside : goal.returns-else-binds-clause-inside
returns-else-binds-clause-inside c =
    up_inside c.args.program.now c.args.above.now c.args.at c.in-Some.next c.requires.above c.requires.at c.in-Some.is
