use Rattle.std.proofs.Common.{◌≡◌, drop, true}
use Rattle.pat_primitives.specs.Programs.{keep}
use Rattle.pat_core.specs.Views.{program_view}
use Rattle.pat_reduce_values.specs.Environments.{all_less}
use Rattle.pat_reduce_values.specs.ValueViews.{env_view}
use Rattle.pat_reduce_values.proofs.environments.are_free_below.Given as goal

-- where all that are left are so, all are
abbrev pub invariant-loop-entry : goal.invariant-loop-entry
invariant-loop-entry l = record {
  free :
      keep (program_view l.code.program) l.node (env_view (drop l.entry-index l.env)) ≡ env_view (drop l.entry-index l.env)
      → keep (program_view l.code.program) l.node (env_view l.env) ≡ env_view l.env;
  less : all_less l.limit (env_view (drop l.entry-index l.env)) ≡ true → all_less l.limit (env_view l.env) ≡ true;
}
