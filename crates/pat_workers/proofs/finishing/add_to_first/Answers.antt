use Rattle.pat_workers.proofs.Rows.{grew}
use Rattle.pat_workers.proofs.finishing.add_to_first.Goals as goal

pub returns : goal.returns
returns c = grew c.extend_from_slice.result c.args.receipts.now.items c.index_mut.result.now c.extend_from_slice.new.self c.args.more.now c.requires c.index_mut.ensures.value c.extend_from_slice.ensures.items
