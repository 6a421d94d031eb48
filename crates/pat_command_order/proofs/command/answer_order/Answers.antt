use Rattle.std.proofs.Common.{[], map, rules}
use Rattle.pat_reduce.specs.Views.{entry_view}
use Rattle.pat_replay_input.specs.Histories.{IsReplayRefusal}
use Rattle.pat_command_order.proofs.Answering.{readable_history, refused}
use Rattle.pat_command_order.proofs.command.answer_order.Goals as goal

pub in_order-answer-requires : goal.in_order-answer-requires
in_order-answer-requires c =
    let leads = c.in-Ok.ensures.gives.leads in
    let es = map entry_view c.in-Ok.replayed.entries.items in
    readable_history es (c.read_is_text_law.ensures.readable leads.part es [] leads.read)

pub returns-in-Ok : goal.returns-in-Ok
returns-in-Ok c = c.in_order-answer.ensures c.args.bytes.now c.in-Ok.ensures.gives

pub returns-in-Err-Refused : goal.returns-in-Err-Refused
returns-in-Err-Refused c =
    let why : IsReplayRefusal c.args.bytes.now c.in-Err-Refused.verdict = search rules in
    refused c.args.bytes.now c.in-Err-Refused.verdict c.verdict_answer.result why c.verdict_answer.ensures
