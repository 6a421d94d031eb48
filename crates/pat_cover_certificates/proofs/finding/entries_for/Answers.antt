use Rattle.std.proofs.Common.{◌+◌, None, Some, drop, arith, sym, subst}
use Rattle.pat_inclusion_spec.specs.Counts.{most_tags}
use Rattle.pat_linear.specs.Views.{set_view, sets_view}
use Rattle.pat_cover_certificates.specs.Views.{entry_view, entry_if}
use Rattle.pat_cover_certificates.specs.Firsts.{FindsEntry}
use Rattle.pat_cover_certificates.proofs.FirstCovers.{CoverSoFar, cover_turn, cover_end, cover_none}
use Rattle.pat_cover_certificates.proofs.finding.entries_for.Goals as goal

pub returns-in-None : goal.returns-in-None
returns-in-None c =
    let right = sets_view c.args.right.now in
    let found = subst (λ o. FindsEntry most_tags (set_view c.set-item.result) right (entry_if o)) c.in-None.is c.in_ok-entry_for.ensures in
    cover_none most_tags right c.args.left.now c.loop-set.set-index c.set-item.result c.loop-set-test.true
    (subst (λ x. FindsEntry most_tags (set_view x) right None) c.set-item.is found)

pub loop-set-preserved : goal.loop-set-preserved
loop-set-preserved c =
    let right = sets_view c.args.right.now in
    let left = c.args.left.now in
    let found = subst (λ o. FindsEntry most_tags (set_view c.set-item.result) right (entry_if o)) c.in-Some.is c.in_ok-entry_for.ensures in
    subst (λ x. CoverSoFar most_tags right x (drop (c.loop-set.set-index + 1) left) left) (sym c.in_ok-push-in-Some.ensures.ok)
    (cover_turn most_tags right c.loop-set.cover left c.loop-set.set-index c.set-item.result c.in-Some.entry c.loop-set-test.true c.loop-set.invariant
    (subst (λ x. FindsEntry most_tags (set_view x) right (Some (entry_view c.in-Some.entry))) c.set-item.is found))

pub returns : goal.returns
returns c =
    let a = c.loop-set-test.false in
    cover_end most_tags (sets_view c.args.right.now) c.loop-set.cover c.args.left.now c.loop-set.set-index (omega arith) c.loop-set.invariant
