use Rattle.pat_core.specs.Views.{program_view}
use Rattle.pat_machine_states.specs.Boxes.{Indexed}
use Rattle.std.proofs.Common.{ap}
use Rattle.pat_replay.proofs.Counted.{start_counted}
use Rattle.pat_replay.proofs.tables.Tables.start.Goals as goal

pub returns-clause-start : goal.returns-clause-start
returns-clause-start c = ap (λ (s : Indexed). s.config) c.in_ok-state.ensures

pub returns-clause-known : goal.returns-clause-known
returns-clause-known c = λ yes.
    start_counted (program_view c.args.code.now.program) c.in_ok-state.state.config c.new.result.counts.times.items (ap (λ (s : Indexed). s.config) c.in_ok-state.ensures) c.new.ensures
