use Rattle.std.proofs.Common.{sym, ◌∙◌}
use Rattle.pat_core.specs.Views.{program_view}
use Rattle.pat_derivations.specs.Views.{derivation_view}
use Rattle.pat_checkpoint_data.specs.Views.{checkpoint_view}
use Rattle.pat_checkpoint_checks.proofs.Breaking.{breaks_numbers, breaks_kinds, breaks_distinct, breaks_order, breaks_holder, breaks_messages, breaks_balance, breaks_none}
use Rattle.pat_checkpoint_checks.proofs.examining.examine.Goals as goal

pub returns-then-not-numbers_hold : goal.returns-then-not-numbers_hold
returns-then-not-numbers_hold c =
    let p = program_view c.args.program.now in
    let d = derivation_view c.args.derivation.now in
    let x = checkpoint_view c.args.checkpoint.now in
    breaks_numbers p d x (sym c.if-not-numbers_hold.ensures)

pub returns-then-not-branch : goal.returns-then-not-branch
returns-then-not-branch c =
    let p = program_view c.args.program.now in
    let d = derivation_view c.args.derivation.now in
    let x = checkpoint_view c.args.checkpoint.now in
    breaks_kinds p d x (sym c.if-not-numbers_hold.ensures) (sym c.in_ok-kinds_hold.ensures ∙ c.if-not-branch.true)

pub returns-then-not-branch-2 : goal.returns-then-not-branch-2
returns-then-not-branch-2 c =
    let p = program_view c.args.program.now in
    let d = derivation_view c.args.derivation.now in
    let x = checkpoint_view c.args.checkpoint.now in
    breaks_distinct p d x (sym c.if-not-numbers_hold.ensures) (sym c.in_ok-kinds_hold.ensures ∙ c.if-not-branch.false) (sym c.in_ok-mailboxes_differ.ensures ∙ c.if-not-branch-2.true)

pub returns-then-not-branch-3 : goal.returns-then-not-branch-3
returns-then-not-branch-3 c =
    let p = program_view c.args.program.now in
    let d = derivation_view c.args.derivation.now in
    let x = checkpoint_view c.args.checkpoint.now in
    breaks_order p d x (sym c.if-not-numbers_hold.ensures) (sym c.in_ok-kinds_hold.ensures ∙ c.if-not-branch.false) (sym c.in_ok-mailboxes_differ.ensures ∙ c.if-not-branch-2.false) (sym c.in_ok-order_holds.ensures ∙ c.if-not-branch-3.true)

pub returns-then-not-holders_hold : goal.returns-then-not-holders_hold
returns-then-not-holders_hold c =
    let p = program_view c.args.program.now in
    let d = derivation_view c.args.derivation.now in
    let x = checkpoint_view c.args.checkpoint.now in
    breaks_holder p d x (sym c.if-not-numbers_hold.ensures) (sym c.in_ok-kinds_hold.ensures ∙ c.if-not-branch.false) (sym c.in_ok-mailboxes_differ.ensures ∙ c.if-not-branch-2.false) (sym c.in_ok-order_holds.ensures ∙ c.if-not-branch-3.false) (sym (c.if-not-holders_hold.ensures p d x c.in_ok-sides.ensures))

pub returns-then-not-messages_hold : goal.returns-then-not-messages_hold
returns-then-not-messages_hold c =
    let p = program_view c.args.program.now in
    let d = derivation_view c.args.derivation.now in
    let x = checkpoint_view c.args.checkpoint.now in
    breaks_messages p d x (sym c.if-not-numbers_hold.ensures) (sym c.in_ok-kinds_hold.ensures ∙ c.if-not-branch.false) (sym c.in_ok-mailboxes_differ.ensures ∙ c.if-not-branch-2.false) (sym c.in_ok-order_holds.ensures ∙ c.if-not-branch-3.false) (sym (c.if-not-holders_hold.ensures p d x c.in_ok-sides.ensures)) (sym c.if-not-messages_hold.ensures)

pub returns-then-not-branch-4 : goal.returns-then-not-branch-4
returns-then-not-branch-4 c =
    let p = program_view c.args.program.now in
    let d = derivation_view c.args.derivation.now in
    let x = checkpoint_view c.args.checkpoint.now in
    breaks_balance p d x (sym c.if-not-numbers_hold.ensures) (sym c.in_ok-kinds_hold.ensures ∙ c.if-not-branch.false) (sym c.in_ok-mailboxes_differ.ensures ∙ c.if-not-branch-2.false) (sym c.in_ok-order_holds.ensures ∙ c.if-not-branch-3.false) (sym (c.if-not-holders_hold.ensures p d x c.in_ok-sides.ensures)) (sym c.if-not-messages_hold.ensures) (sym c.in_ok-balances_hold.ensures ∙ c.if-not-branch-4.true)

pub returns : goal.returns
returns c =
    let p = program_view c.args.program.now in
    let d = derivation_view c.args.derivation.now in
    let x = checkpoint_view c.args.checkpoint.now in
    breaks_none p d x (sym c.if-not-numbers_hold.ensures) (sym c.in_ok-kinds_hold.ensures ∙ c.if-not-branch.false) (sym c.in_ok-mailboxes_differ.ensures ∙ c.if-not-branch-2.false) (sym c.in_ok-order_holds.ensures ∙ c.if-not-branch-3.false) (sym (c.if-not-holders_hold.ensures p d x c.in_ok-sides.ensures)) (sym c.if-not-messages_hold.ensures) (sym c.in_ok-balances_hold.ensures ∙ c.if-not-branch-4.false)
