use Rattle.std.proofs.Common.{[], get_or, sym, ap, ◌∙◌}
use Rattle.std.specs.Prelude.{find}
use Rattle.pat_mailboxes.specs.queues.Pooled.{contents}
use Rattle.pat_mailboxes.proofs.Firsts.{none_found, first_found}
use Rattle.pat_mailboxes.proofs.LaneLoops.{none_in_lane}
use Rattle.pat_mailboxes.proofs.queues.lanes.first_of.Goals as goal

pub returns-then-not-may_pass : goal.returns-then-not-may_pass
returns-then-not-may_pass g c =
    none_in_lane (g.P.Test.passes c.args.test.now) c.args.lane (get_or (contents c.args.region.now) _ []) (c.requires.lanes c.args.queue c.args.lane c.requires.lane) (c.may_pass.ensures c.if-not-may_pass.true)

pub returns-in-Some : goal.returns-in-Some
returns-in-Some g c =
    let cs = contents c.args.region.now in
    let test = g.P.Test.passes c.args.test.now in
    let first = c.in-Some.ensures in
    sym (ap (λ k. find test (get_or cs k [])) (sym c.chain_of.ensures) ∙ first_found test (get_or cs c.chain_of.result []) c.in-Some.field-0-0 c.in-Some.message.now first.0 first.1 first.2)

pub returns-in-None : goal.returns-in-None
returns-in-None g c =
    let cs = contents c.args.region.now in
    let test = g.P.Test.passes c.args.test.now in
    sym (ap (λ k. find test (get_or cs k [])) (sym c.chain_of.ensures) ∙ none_found test (get_or cs c.chain_of.result []) c.in-None.ensures)
