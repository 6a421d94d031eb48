use Rattle.std.proofs.Common.{ap, arith}
use Rattle.pat_machine_indexes.specs.ready_sets.ReadySets.{count_asleep}
use Rattle.pat_machine_indexes.proofs.Slept.{count_within}
use Rattle.pat_machine_indexes.proofs.ready_sets.waits.ReadySets.reserve.Goals as goal

pub returns-clause-space : goal.returns-clause-space
returns-clause-space c =
    let sleepers = c.args.self.now.sleepers.items in
    let same = ap count_asleep c.in_ok-reserve-3.ensures.items in
    let within = count_within sleepers in
    let mailboxes = c.len.ensures in
    let room = c.in_ok-reserve.ensures.space in
    omega arith
