use Rattle.std.proofs.Common.{◌++◌, ap, sym, ◌∙◌}
use Rattle.std.specs.Prelude.{replicate}
use Rattle.pat_semantics_laws.proofs.Ordered.{run_keeps_order}
use Rattle.pat_core.specs.Views.{program_view}
use Rattle.pat_machine_spec.specs.Commits.{local_of}
use Rattle.pat_reduce.specs.Views.{entry_view}
use Rattle.pat_replay.specs.Kept.{kept_view}
use Rattle.pat_replay.proofs.Entries.{locals_taken, shared_last, locals_stop}
use Rattle.pat_replay.proofs.Makes.{on_ok, entry_makes}
use Rattle.pat_replay.proofs.replaying.take_entry.Goals as goal

pub take_shared-requires-clause-taken : goal.take_shared-requires-clause-taken
take_shared-requires-clause-taken c = locals_taken (program_view c.args.code.now.program) (kept_view c.args.kept.now) (kept_view c.run_locals.new.self) c.args.entry.thread c.args.entry.local 4294967294 c.in-Ok.ensures.gives c.requires.taken

pub take_shared-requires-clause-ordered : goal.take_shared-requires-clause-ordered
take_shared-requires-clause-ordered c =
    run_keeps_order (program_view c.args.code.now.program) (replicate c.args.entry.local (local_of c.args.entry.thread)) (kept_view c.args.kept.now) (kept_view c.run_locals.new.self) c.requires.ordered c.in-Ok.ensures.gives

pub returns-in-Ok-clause-gives : goal.returns-in-Ok-clause-gives
returns-in-Ok-clause-gives c =
    shared_last (program_view c.args.code.now.program) (kept_view c.args.kept.now) (kept_view c.run_locals.new.self) (kept_view c.take_shared.new.kept) (entry_view c.args.entry) c.take_shared.result
    (c.has_step.ensures.some c.if-not-has_step.false) c.in-Ok.ensures.gives c.take_shared.ensures.gives

pub returns-in-Err-clause-gives : goal.returns-in-Err-clause-gives
returns-in-Err-clause-gives c =
    locals_stop (program_view c.args.code.now.program) (kept_view c.args.kept.now) (kept_view c.run_locals.new.self) (entry_view c.args.entry) c.in-Err.error
    (c.has_step.ensures.some c.if-not-has_step.false) c.in-Err.ensures.gives

pub returns-in-Ok-clause-made : goal.returns-in-Ok-clause-made
returns-in-Ok-clause-made c =
    let p = program_view c.args.code.now.program in
    let e = entry_view c.args.entry in
    let makes = entry_makes p (kept_view c.args.kept.now) (kept_view c.run_locals.new.self) e c.in-Ok.ensures.gives in
    on_ok c.take_shared.result (λ h. h ∙ ap (λ l. c.args.made.now ++ l) (sym makes)) c.take_shared.ensures.made
