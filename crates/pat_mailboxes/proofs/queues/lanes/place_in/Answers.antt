use Rattle.std.proofs.lemmas.Bool.{eqb-true}
use Rattle.std.proofs.Common.{sym}
use Rattle.pat_mailboxes.proofs.queues.lanes.place_in.Goals as goal

pub returns-in-Some-clause-some : goal.returns-in-Some-clause-some
returns-in-Some-clause-some c =
    let first = c.in-Some.ensures in
    (_, first.0, sym (eqb-true c.args.number _ first.1))
