use Rattle.std.proofs.Common.{arith}
use Rattle.pat_replay.proofs.counting.follow.Goals as goal

pub returns-clause-counted : goal.returns-clause-counted
returns-clause-counted c = λ yes old next brought a.
    let taken = c.change_taken.ensures c.if-not-change_taken.false old next brought a in
    let came = c.follow_control.ensures.counted yes a in
    omega arith
