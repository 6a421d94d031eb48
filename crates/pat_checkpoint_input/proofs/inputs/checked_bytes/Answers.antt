use Rattle.std.proofs.Common.{drop, inl, inr, sym, subst}
use Rattle.std.proofs.lemmas.List.{take_rest}
use Rattle.pat_core.specs.Views.{program_view}
use Rattle.pat_checkpoint_input.specs.Parts.{HasCheckpoint}
use Rattle.pat_checkpoint_input.specs.Gives.{BehindGives}
use Rattle.pat_checkpoint_input.proofs.Giving.{behind_given, refused, marked_behind}
use Rattle.pat_checkpoint_input.proofs.inputs.checked_bytes.Goals as goal

pub returns-then-lacks_checkpoint-clause-gives : goal.returns-then-lacks_checkpoint-clause-gives
returns-then-lacks_checkpoint-clause-gives c = inl (inr (inr (c.lacks_checkpoint.ensures.lacks c.if-lacks_checkpoint.true)))

pub checked_behind-requires-clause-marked : goal.checked_behind-requires-clause-marked
checked_behind-requires-clause-marked c =
    subst HasCheckpoint (sym (take_rest c.args.bytes.now c.in-Ok.at))
    (marked_behind c.args.bytes.now _ (drop c.in-Ok.at c.args.bytes.now) (program_view c.in-Ok.program) (c.lacks_checkpoint.ensures.has c.if-lacks_checkpoint.false) c.in-Ok.ensures.program)

pub returns-in-Ok-clause-gives : goal.returns-in-Ok-clause-gives
returns-in-Ok-clause-gives c =
    let p = program_view c.in-Ok.program in
    let own = subst (λ l. BehindGives p c.in-Ok.at l c.checked_behind.result) (take_rest c.args.bytes.now c.in-Ok.at) c.checked_behind.ensures.gives in
    behind_given c.args.bytes.now c.in-Ok.at (drop c.in-Ok.at c.args.bytes.now) p c.checked_behind.result c.in-Ok.ensures.program c.in-Ok.ensures.within own

pub returns-in-Err-clause-gives : goal.returns-in-Err-clause-gives
returns-in-Err-clause-gives c = refused c.args.bytes.now c.in-Err.error (c.lacks_checkpoint.ensures.has c.if-lacks_checkpoint.false) c.in-Err.ensures.refused
