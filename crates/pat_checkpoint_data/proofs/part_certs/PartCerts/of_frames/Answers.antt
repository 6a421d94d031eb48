use Rattle.pat_checkpoint_data.proofs.Bare.{bare_is}
use Rattle.pat_checkpoint_data.proofs.part_certs.PartCerts.of_frames.Goals as goal

pub returns-then-are_none : goal.returns-then-are_none
returns-then-are_none c = bare_is c.as_slice.result.now c.args.frames c.len.result c.as_slice.ensures (c.are_none.ensures c.if-are_none.true) c.len.ensures
