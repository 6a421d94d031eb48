use Rattle.std.proofs.Common.{arith}
use Rattle.pat_replay.proofs.counting.exchange.Goals as goal

pub returns : goal.returns
returns c = λ yes a.
    let gone = c.change_top.ensures c.if-not-change_top.false a in
    let came = c.change_thread.ensures yes a in
    omega arith
