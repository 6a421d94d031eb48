use Rattle.std.specs.Prelude.{replicate}
use Rattle.pat_semantics_laws.proofs.Ordered.{run_keeps_order}
use Rattle.pat_core.specs.Views.{program_view}
use Rattle.pat_reduce.specs.Views.{config_view}
use Rattle.pat_machine_spec.specs.Commits.{local_of}
use Rattle.pat_replay.proofs.Entries.{one_more, locals_taken}
use Rattle.pat_replay.proofs.plain.run_locals.Goals as goal

pub loop-taken-preserved : goal.loop-taken-preserved
loop-taken-preserved c = one_more (program_view c.args.code.now.program) (config_view c.args.config.now) (config_view c.loop-taken.config) (config_view c.take.new.config) c.loop-taken.taken (local_of c.args.thread) c.loop-taken.invariant c.in-Ok.ensures

pub take-requires-clause-ordered : goal.take-requires-clause-ordered
take-requires-clause-ordered c =
    run_keeps_order (program_view c.args.code.now.program) (replicate c.loop-taken.taken (local_of c.args.thread)) (config_view c.args.config.now) (config_view c.loop-taken.config) c.requires.ordered c.loop-taken.invariant

pub take-requires-clause-taken : goal.take-requires-clause-taken
take-requires-clause-taken c =
    locals_taken (program_view c.args.code.now.program) (config_view c.args.config.now) (config_view c.loop-taken.config) c.args.thread c.loop-taken.taken 4294967294 c.loop-taken.invariant c.requires.taken
