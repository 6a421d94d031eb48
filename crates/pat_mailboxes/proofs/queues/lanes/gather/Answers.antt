use Rattle.std.proofs.Common.{◌≡◌, ℕ, ◌-◌, List, [], ◌++◌, map, get_or, arith, sym, subst, ap, ◌∙◌}
use Rattle.std.specs.List.Sorted.{IsPermutation}
use Rattle.std.specs.Borrow.{Bor}
use Rattle.std.proofs.lemmas.List.{map-append}
use Rattle.std.proofs.lemmas.List.Sorted.{IsPermutation-refl}
use Rattle.pat_reduce.specs.declared.threads.state.Message.{Message}
use Rattle.pat_mailboxes.specs.queues.Lanes.{merged, lanes_from}
use Rattle.pat_mailboxes.specs.queues.Pooled.{contents}
use Rattle.pat_mailboxes.proofs.LaneLoops.{gathered_more}
use Rattle.pat_mailboxes.proofs.queues.lanes.gather.Goals as goal

pub loop-lane-init : goal.loop-lane-init
loop-lane-init c = (omega arith, subst (IsPermutation []) (sym (ap (map (λ (m : Bor Message). m.now)) c.new-messages.ensures.items)) (IsPermutation-refl []))

pub loop-lane-preserved : goal.loop-lane-preserved
loop-lane-preserved c =
    let l = c.loop-lane in
    let some = c.loop-lane-test.true in
    let within = l.invariant.0 in
    let cs = contents c.args.region.now in
    let now = λ (m : Bor Message). m.now in
    let moved = gathered_more cs c.args.queue (l.lane - 1) l.lane (omega arith) within (map now l.messages.items) l.invariant.1 in
    let is = ap (map now) c.in_ok-append.ensures.items ∙ map-append now _ l.messages.items ∙ ap (λ (vs : List Message). vs ++ map now l.messages.items) (c.in_ok-more.ensures ∙ ap (λ k. get_or cs k []) c.chain_of.ensures) in
    (omega arith, subst (IsPermutation (merged (lanes_from cs c.args.queue (l.lane - 1) (8 - (l.lane - 1))))) (sym is) moved)

pub returns : goal.returns
returns c =
    let l = c.loop-lane in
    let done = c.loop-lane-test.false in
    let none : l.lane ≡ 0 = omega arith in
    subst (λ (n : ℕ). IsPermutation (merged (lanes_from (contents c.args.region.now) c.args.queue n (8 - n))) (map (λ (m : Bor Message). m.now) l.messages.items)) none l.invariant.1
