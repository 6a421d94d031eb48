use Rattle.std.proofs.Common.{◌+◌, ◌*◌, [], ◌∷◌, ◌++◌, get_or, slice_set, arith, ap, ◌∙◌}
use Rattle.pat_mailboxes.specs.queues.Pooled.{contents}
use Rattle.pat_mailboxes.proofs.Serving.{lane_below}
use Rattle.pat_mailboxes.proofs.queues.lanes.push_in.Goals as goal

pub chain_of-chain-requires-clause-lane : goal.chain_of-chain-requires-clause-lane
chain_of-chain-requires-clause-lane c = let is = c.lane_of.ensures in let below = lane_below c.args.message.tag in omega arith

pub push-requires-clause-there : goal.push-requires-clause-there
push-requires-clause-there c =
    let is = c.lane_of.ensures in
    let below = lane_below c.args.message.tag in
    let chain = c.chain_of-chain.ensures in
    let there = c.requires.there in
    omega arith

pub returns-clause-contents : goal.returns-clause-contents
returns-clause-contents c =
    let cs = contents c.args.region.now in
    let chain = c.chain_of-chain.ensures ∙ ap (λ l. c.args.queue * 8 + l) c.lane_of.ensures in
    c.push.ensures.contents ∙ ap (λ k. slice_set cs k (get_or cs k [] ++ c.args.message ∷ [])) chain
