use Rattle.pat_machine_threads.proofs.Copying.{copied_more}
use Rattle.pat_machine_threads.proofs.store.copies.copy_threads.Goals as goal

pub loop-slot-preserved : goal.loop-slot-preserved
loop-slot-preserved c = copied_more c.args.slots.now c.loop-slot.own c.copy_slot.new.own c.loop-slot.slot c.loop-slot.invariant c.in_ok-copy_slot.ensures
