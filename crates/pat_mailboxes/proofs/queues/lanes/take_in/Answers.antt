use Rattle.std.proofs.Common.{◌+◌, ◌*◌, [], get_or, remove, slice_get, slice_set, arith, subst, sym, ap, ◌∙◌}
use Rattle.pat_mailboxes.specs.queues.Lanes.{HasNumber}
use Rattle.pat_mailboxes.specs.queues.Pooled.{contents}
use Rattle.pat_mailboxes.proofs.Serving.{lane_below, numbered_inside, numbered_place, numbered_is, numbered_there}
use Rattle.pat_mailboxes.proofs.queues.lanes.take_in.Goals as goal

pub chain_of-chain-requires-clause-lane : goal.chain_of-chain-requires-clause-lane
chain_of-chain-requires-clause-lane c = let is = c.lane_of.ensures in let below = lane_below c.args.tag in omega arith

pub place_in-requires-clause-there : goal.place_in-requires-clause-there
place_in-requires-clause-there c =
    let cs = contents c.args.region.now in
    let chain = c.chain_of-chain.ensures ∙ ap (λ l. c.args.queue * 8 + l) c.lane_of.ensures in
    numbered_inside c.args.number c.chain_of-chain.result cs (subst (λ k. HasNumber c.args.number (get_or cs k [])) (sym chain) c.requires.there)

pub take-requires-clause-there : goal.take-requires-clause-there
take-requires-clause-there c = numbered_place c.args.number (get_or (contents c.args.region.now) c.chain_of-chain.result []) c.in-Some.place c.in-Some.ensures.some

pub unreachable-requires : goal.unreachable-requires
unreachable-requires c =
    let cs = contents c.args.region.now in
    let chain = c.chain_of-chain.ensures ∙ ap (λ l. c.args.queue * 8 + l) c.lane_of.ensures in
    numbered_there c.args.number (get_or cs c.chain_of-chain.result []) (subst (λ k. HasNumber c.args.number (get_or cs k [])) (sym chain) c.requires.there) c.in-None.ensures.none

pub returns-clause-number : goal.returns-clause-number
returns-clause-number c = numbered_is c.args.number (get_or (contents c.args.region.now) c.chain_of-chain.result []) c.in-Some.place c.take.result c.in-Some.ensures.some c.take.ensures.value

pub returns-clause-contents : goal.returns-clause-contents
returns-clause-contents c =
    let cs = contents c.args.region.now in
    let chain = c.chain_of-chain.ensures ∙ ap (λ l. c.args.queue * 8 + l) c.lane_of.ensures in
    let i = c.in-Some.place in (
      i,
      ap (λ k. slice_get (get_or cs k []) i) (sym chain) ∙ c.take.ensures.value,
      c.take.ensures.contents ∙ ap (λ k. slice_set cs k (remove (get_or cs k []) i)) chain,
    )
