use Rattle.std.proofs.Common.{arith}
use Rattle.pat_checkpoint_print.proofs.Parts.{row_from, parts_here}
use Rattle.pat_checkpoint_print.proofs.printing.put_threads.Goals as goal

pub put_whole_thread-requires : goal.put_whole_thread-requires
put_whole_thread-requires c =
    let i = c.loop-place.place in
    let ts = c.args.threads.now in
    let ks = c.args.certs.now in
    (parts_here ts ks i c.index-threads-place.result c.index-certs-place.result
    (row_from ts i c.index-threads-place.result c.loop-place-test.true c.index-threads-place.is)
    (row_from ks i c.index-certs-place.result (omega (arith, c.requires.count)) c.index-certs-place.is)
    c.loop-place.invariant.aligned).0
