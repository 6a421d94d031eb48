use Rattle.std.proofs.Common.{◌++◌, ◌+◌, [], ◌∷◌, ap, sym, ◌∙◌, take, arith, subst}
use Rattle.std.proofs.lemmas.List.{map_more, take_all}
use Rattle.pat_types.specs.Views.{need_view, needs_view}
use Rattle.pat_checkpoint_balances.specs.Gathered.{rows_view, Parted}
use Rattle.pat_checkpoint_balances.proofs.RowLaws.{empty_rows}
use Rattle.pat_checkpoint_balances.proofs.Parting.{parted_first}
use Rattle.pat_checkpoint_balances.proofs.gathering.parted.Goals as goal

pub loop-mailbox-init : goal.loop-mailbox-init
loop-mailbox-init c = λ ms tags. parted_first c.args.live.now ms _ tags (ap rows_view c.in_ok-receivers.ensures ∙ empty_rows c.args.live.now)

pub loop-mailbox-preserved : goal.loop-mailbox-preserved
loop-mailbox-preserved c = λ ms tags.
    let hs = c.args.held.now in
    let i = c.loop-mailbox.mailbox-index in
    let h = c.loop-mailbox-item.result in
    subst (λ l. Parted c.args.live.now ms l c.add_side.new.sides) (sym (map_more need_view hs i h c.loop-mailbox-test.true ∙ ap (λ z. needs_view (take i hs) ++ need_view z ∷ []) (sym c.loop-mailbox-item.is)))
    (c.in_ok-add_side.ensures ms (needs_view (take i hs)) (c.loop-mailbox.invariant ms tags))

pub returns : goal.returns
returns c = λ ms tags.
    subst (λ l. Parted c.args.live.now ms (needs_view l) c.loop-mailbox.sides) (take_all c.loop-mailbox.mailbox-index c.args.held.now (omega (arith, c.loop-mailbox-test.false))) (c.loop-mailbox.invariant ms tags)
