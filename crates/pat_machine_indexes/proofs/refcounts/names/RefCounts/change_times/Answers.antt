use Rattle.std.proofs.Common.{arith}
use Rattle.std.proofs.lemmas.List.{get_or_default}
use Rattle.pat_machine_indexes.proofs.Times.{come_fits, go_fits, has_place}
use Rattle.pat_machine_indexes.proofs.refcounts.names.RefCounts.change_times.Goals as goal

pub index_mut-requires : goal.index_mut-requires
index_mut-requires c =
    let fits = come_fits c.args.change c.args.self.now c.args.mailbox c.in-Come.is c.requires in
    omega (arith, fits.0, c.args.self.now.times.ok.0)

pub overflow_add-index_mut : goal.overflow_add-index_mut
overflow_add-index_mut c =
    let fits = come_fits c.args.change c.args.self.now c.args.mailbox c.in-Come.is c.requires in
    let same = get_or_default c.args.self.now.times.items c.args.mailbox c.index_mut.result.now 0 fits.0 in
    omega (arith, fits.1, same, c.index_mut.ensures.value)

pub index_mut-requires-in-Go : goal.index_mut-requires-in-Go
index_mut-requires-in-Go c =
    let place = has_place c.args.self.now.times.items c.args.mailbox (go_fits c.args.change c.args.self.now c.args.mailbox c.in-Go.is c.requires) in
    omega (arith, place, c.args.self.now.times.ok.0)
