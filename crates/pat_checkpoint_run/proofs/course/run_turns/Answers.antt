use Rattle.std.proofs.Common.{refl}
use Rattle.pat_core.specs.Views.{program_view}
use Rattle.pat_reduce.specs.Views.{config_view}
use Rattle.pat_checkpoint_run.proofs.Courses.{begins, goes_on, falls, has_run}
use Rattle.pat_checkpoint_run.proofs.course.run_turns.Goals as goal

pub loop-turn-init : goal.loop-turn-init
loop-turn-init c = begins (program_view c.args.code.now.program) (config_view c.args.config) c.args.steps _ c.requires.ordered c.requires.room refl c.new.ensures c.new-2.ensures refl refl

pub next-requires : goal.next-requires
next-requires c = c.loop-turn.invariant.ordered

pub take-requires-clause-ordered : goal.take-requires-clause-ordered
take-requires-clause-ordered c = c.loop-turn.invariant.ordered

pub take-requires-clause-room : goal.take-requires-clause-room
take-requires-clause-room c = c.loop-turn.invariant.room

pub loop-turn-smaller : goal.loop-turn-smaller
loop-turn-smaller c = falls (program_view c.args.code.now.program) (config_view c.args.config) c.args.steps c.turn_laws.ensures.unfolds c.turn_laws.ensures.takes c.turn_laws.ensures.able c.made_laws.ensures.joins c.loop-turn.course c.loop-turn.invariant c.in-Some.turn.thread c.in-Some.ensures.some c.in-Some.ensures.turn c.take.new.self c.in_ok-take.ensures

pub loop-turn-preserved : goal.loop-turn-preserved
loop-turn-preserved c = goes_on (program_view c.args.code.now.program) (config_view c.args.config) c.args.steps c.turn_laws.ensures.unfolds c.turn_laws.ensures.takes c.turn_laws.ensures.able c.made_laws.ensures.joins c.loop-turn.course c.loop-turn.invariant c.in-Some.turn.thread c.in-Some.ensures.some c.in-Some.ensures.turn c.take.new.self c.in_ok-take.ensures

pub returns : goal.returns
returns c = has_run (program_view c.args.code.now.program) (config_view c.args.config) c.args.steps c.turn_laws.ensures.unfolds c.turn_laws.ensures.takes c.turn_laws.ensures.able c.made_laws.ensures.joins c.loop-turn.course c.loop-turn.invariant c.in_default.ensures.none
