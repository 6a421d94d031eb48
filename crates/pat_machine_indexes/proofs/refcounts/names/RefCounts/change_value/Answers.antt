use Rattle.std.proofs.Common.{subst}
use Rattle.pat_semantics_spec.specs.WellFormed.{count_if}
use Rattle.pat_semantics_spec.specs.Configs.{is_mailbox}
use Rattle.pat_reduce_values.specs.ValueViews.{value_view}
use Rattle.pat_machine_indexes.specs.refcounts.Changes.{Fits}
use Rattle.pat_machine_indexes.proofs.refcounts.names.RefCounts.change_value.Goals as goal

pub change_times-requires : goal.change_times-requires
change_times-requires c = subst (λ v. Fits c.args.change c.args.self.now (λ a. count_if (is_mailbox a (value_view v)))) c.in-Mailbox.is c.requires
