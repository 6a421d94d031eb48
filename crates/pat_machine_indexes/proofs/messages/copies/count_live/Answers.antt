use Rattle.std.proofs.Common.{true, false, sym, ◌∙◌, arith}
use Rattle.pat_machine_indexes.proofs.Listing.{counted_more}
use Rattle.pat_machine_indexes.proofs.messages.copies.count_live.Goals as goal
use Rattle.pat_machine_indexes.proofs.messages.copies.count_live.Goals.{then-is_live, else-is_live}

pub loop-mailbox-preserved : goal.loop-mailbox-preserved
loop-mailbox-preserved c =
    let so_far = c.loop-mailbox.invariant in
    let few = so_far.few in
    elim c.if-is_live.branch [
      | then-is_live w ↦ let is = w.live-is in record {
        count = counted_more c.args.mailboxes.now.mailboxes c.loop-mailbox.live c.if-is_live.live c.loop-mailbox.mailbox true so_far.count (sym c.is_live.ensures ∙ w.if-is_live.true) is;
        few = omega (arith, is, few);
      }
      | else-is_live w ↦ let is = w.live-is in record {
        count = counted_more c.args.mailboxes.now.mailboxes c.loop-mailbox.live c.if-is_live.live c.loop-mailbox.mailbox false so_far.count (sym c.is_live.ensures ∙ w.if-is_live.false) (is ∙ omega arith);
        few = omega (arith, is, few);
      }
    ]
