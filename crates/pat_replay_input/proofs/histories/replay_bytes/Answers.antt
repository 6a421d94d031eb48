use Rattle.std.proofs.Common.{drop, subst}
use Rattle.std.proofs.lemmas.List.{take_rest}
use Rattle.pat_semantics_spec.specs.Configs.{start}
use Rattle.pat_core.specs.Views.{program_view}
use Rattle.pat_replay_input.specs.Gives.{TextGives}
use Rattle.pat_replay_input.proofs.Giving.{bytes_give, bytes_refused}
use Rattle.pat_replay_input.proofs.histories.replay_bytes.Goals as goal

pub returns-in-Ok-clause-gives : goal.returns-in-Ok-clause-gives
returns-in-Ok-clause-gives c =
    let p = program_view c.in-Ok.program in
    let own = subst (λ l. TextGives p (start p) c.in-Ok.at l c.replay_text.result) (take_rest c.args.bytes.now c.in-Ok.at) c.replay_text.ensures.gives in
    bytes_give c.args.bytes.now c.in-Ok.at (drop c.in-Ok.at c.args.bytes.now) p c.replay_text.result c.in-Ok.ensures.program c.in-Ok.ensures.within own

pub returns-in-Err-clause-gives : goal.returns-in-Err-clause-gives
returns-in-Err-clause-gives c = bytes_refused c.args.bytes.now c.in-Err.error c.in-Err.ensures.refused
