use Rattle.std.proofs.Common.{ap, ◌∙◌}
use Rattle.pat_patterns.specs.Views.{pattern_view}
use Rattle.pat_checkpoint_balances.specs.Gathered.{rows_view}
use Rattle.pat_checkpoint_balances.proofs.RowLaws.{unchanged, put_one}
use Rattle.pat_checkpoint_balances.proofs.Parting.{ok_so}
use Rattle.pat_checkpoint_balances.proofs.rows.add.Goals as goal

pub returns-in-None : goal.returns-in-None
returns-in-None c = λ row same. same ∙ unchanged row c.args.mailbox (pattern_view c.args.pattern) c.args.live.now c.in-None.ensures.none

pub returns-in-Some : goal.returns-in-Some
returns-in-Some c =
    ok_so c.put.result (λ u h. λ row same.
    ap rows_view h ∙ put_one 0 c.args.live.now c.args.rows.now c.in-Some.place c.args.mailbox row c.args.pattern c.requires c.in-Some.ensures.found same) c.put.ensures
