use Rattle.std.proofs.Common.{◌≤◌, length, map, sym, subst, arith}
use Rattle.std.proofs.lemmas.List.{length-map}
use Rattle.pat_core.specs.Views.{program_view}
use Rattle.pat_reduce.specs.Views.{config_view, entry_view}
use Rattle.pat_causal_laws.proofs.Histories.{leads_history}
use Rattle.pat_command_order.proofs.Answering.{leads_length, ordered_is}
use Rattle.pat_command_order.proofs.command.shown.Goals as goal
use Rattle.pat_limits.specs.Limits.{most_entries}

pub order_text_of-requires-clause-history : goal.order_text_of-requires-clause-history
order_text_of-requires-clause-history c =
    let order = c.requires.ordered in
    leads_history order.places (map entry_view c.args.replayed.now.entries.items) (map entry_view c.args.ordered.now) order.reordered.led c.requires.history

pub order_text_of-requires-clause-few : goal.order_text_of-requires-clause-few
order_text_of-requires-clause-few c =
    let few : length c.args.replayed.now.entries.items ≤ most_entries = c.requires.few in
    let order = c.requires.ordered in
    let led = leads_length order.places (map entry_view c.args.replayed.now.entries.items) (map entry_view c.args.ordered.now) order.reordered.led in
    let a = length-map c.args.ordered.now entry_view in
    let b = length-map c.args.replayed.now.entries.items entry_view in
    omega arith

pub returns : goal.returns
returns c = λ bytes replays.
    let r = c.args.replayed.now in
    let few : length (map entry_view r.entries.items) ≤ most_entries = subst (λ n. n ≤ most_entries) (sym (length-map r.entries.items entry_view)) c.requires.few in
    let text = c.in_ok-text.ensures (config_view r.config) (sym c.as_slice-printed.ensures) (sym c.in_ok-remains.ensures) in
    ordered_is bytes (program_view r.code.program) (map entry_view r.entries.items) (config_view r.config) replays (map entry_view c.args.ordered.now) _ c.in_ok-text.text.items few c.requires.ordered c.standing_of-standing.ensures text
