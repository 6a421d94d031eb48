use Rattle.std.proofs.Common.{refl, ap}
use Rattle.pat_primitives.specs.Views.{polarity_view}
use Rattle.pat_types.specs.Views.{type_view}
use Rattle.pat_patterns.specs.Views.{pattern_view}
use Rattle.pat_checkpoint_balances.specs.Gathered.{coming, expected}
use Rattle.pat_checkpoint_balances.proofs.Parting.{ok_so, sender_parted, receiver_parted}
use Rattle.pat_checkpoint_balances.proofs.gathering.add_side.Goals as goal

pub returns-in-Sending : goal.returns-in-Sending
returns-in-Sending c =
    let t = type_view c.args.of.now in
    ok_so c.add.result (λ u h. λ ms hs q. sender_parted c.args.live.now ms hs c.args.sides.now _ c.args.mailbox t (pattern_view c.in_ok-pattern.pattern) c.in_ok-pattern.ensures q (ap polarity_view c.in-Sending.is) (h (coming ms hs) q.coming_rows) refl) c.add.ensures

pub returns-in-Receiving : goal.returns-in-Receiving
returns-in-Receiving c =
    let t = type_view c.args.of.now in
    ok_so c.add-in-Receiving.result (λ u h. λ ms hs q. receiver_parted c.args.live.now ms hs c.args.sides.now _ c.args.mailbox t (pattern_view c.in_ok-pattern.pattern) c.in_ok-pattern.ensures q (ap polarity_view c.in-Receiving.is) (h (expected hs) q.receiver_rows) refl) c.add-in-Receiving.ensures
