use Rattle.std.proofs.Common.{drop, take, subst}
use Rattle.std.proofs.lemmas.List.{take_rest}
use Rattle.pat_core.specs.Views.{program_view}
use Rattle.pat_checkpoint_spec.specs.text.CheckpointText.{marker}
use Rattle.pat_checkpoint_input.specs.Gives.{PartsGive}
use Rattle.pat_checkpoint_input.proofs.inputs.checked_behind.Goals as goal

pub returns-clause-gives : goal.returns-clause-gives
returns-clause-gives c =
    let p = program_view c.args.program in
    let d = take c.in-Some.at c.args.text.now in
    let own = subst (λ l. PartsGive p c.args.from d l c.checked_parts.result) (take_rest c.args.text.now c.in-Some.at) c.checked_parts.ensures.gives in
    (d, drop c.in-Some.at c.args.text.now, c.in-Some.ensures.marked, own)

pub unreachable-requires : goal.unreachable-requires
unreachable-requires c = let m = c.requires.marked in (c.split_law.ensures marker c.args.text.now).not_both m.0 m.1 m.2 c.in-None.ensures.unmarked
