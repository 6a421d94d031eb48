use Rattle.std.proofs.Common.{sym, subst}
use Rattle.pat_reduce.specs.threads.ThreadViews.{control_view}
use Rattle.pat_reduce_values.specs.ValueViews.{env_view}
use Rattle.pat_machine_laws.specs.refcounts.Naming.{times_in_control, times_in_env}
use Rattle.pat_machine_indexes.specs.refcounts.Changes.{Fits}
use Rattle.pat_machine_indexes.proofs.refcounts.names.RefCounts.change_control.Goals as goal

pub change_env-requires : goal.change_env-requires
change_env-requires c =
    subst (λ env. Fits c.args.change c.args.self.now (λ a. times_in_env a (env_view env))) (sym c.as_slice.ensures)
    (subst (λ control. Fits c.args.change c.args.self.now (λ a. times_in_control a (control_view control))) c.in-Node.is c.requires)

pub change_value-requires : goal.change_value-requires
change_value-requires c =
    subst (λ control. Fits c.args.change c.args.self.now (λ a. times_in_control a (control_view control))) c.in-Returned.is c.requires
