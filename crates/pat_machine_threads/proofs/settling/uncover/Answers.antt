use Rattle.std.proofs.Common.{rules}
use Rattle.pat_machine_threads.proofs.Settlings.{uncovers}
use Rattle.pat_machine_threads.proofs.settling.uncover.Goals as goal

pub returns : goal.returns
returns c =
    let x = c.args.kept.now in
    let s = c.args.settled.now in
    uncovers x s _ c.frame_below.result.now c.in_ok-frame.frame c.requires.bare c.requires.there c.frame_below.ensures c.in_ok-frame.ensures (search rules) (search rules) (search rules) (search rules)
