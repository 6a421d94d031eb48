use Rattle.std.proofs.Common.{length, sym, ap, ◌∙◌}
use Rattle.pat_checkpoint_print.proofs.Parts.{parts_count}
use Rattle.pat_checkpoint_print.proofs.printing.print.Goals as goal

pub put_threads-requires-clause-count : goal.put_threads-requires-clause-count
put_threads-requires-clause-count c =
    ap length c.as_slice-4.ensures
    ∙ parts_count c.args.checkpoint.now.config.threads c.args.checkpoint.now.part_certs c.requires.aligned.parts
    ∙ sym (ap length c.as_slice-3.ensures)
