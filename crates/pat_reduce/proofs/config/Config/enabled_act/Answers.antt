use Rattle.std.proofs.Common.{ap, sym, ◌∙◌, nat_eq}
use Rattle.std.specs.Map.{lookup}
use Rattle.pat_reduce.specs.threads.Views.{program_view}
use Rattle.pat_reduce.specs.Views.{config_view, threads_view}
use Rattle.pat_reduce.proofs.Candidates.{absent}
use Rattle.pat_reduce.proofs.config.Config.enabled_act.Goals as goal

pub returns-in-None-clause-enabled : goal.returns-in-None-clause-enabled
returns-in-None-clause-enabled c =
    absent (program_view c.args.code.now.program) (config_view c.args.self.now) c.args.thread (ap (λ l. lookup (nat_eq c.args.thread) (threads_view l)) (sym c.as_slice.ensures) ∙ c.in-None.ensures.none)
