use Rattle.pat_machine_threads.proofs.Copying.{listed_more}
use Rattle.pat_machine_threads.proofs.store.remains.list_slots.Goals as goal

pub loop-slot-preserved : goal.loop-slot-preserved
loop-slot-preserved c = listed_more c.args.slots.now c.loop-slot.own c.list_slot.new.own c.loop-slot.slot c.loop-slot.invariant c.in_ok-list_slot.ensures
