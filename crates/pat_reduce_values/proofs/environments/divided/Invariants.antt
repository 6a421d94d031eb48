use Rattle.std.proofs.Common.{◌≡◌, ◌++◌, drop}
use Rattle.pat_primitives.specs.Programs.{keep}
use Rattle.pat_core.specs.Views.{program_view}
use Rattle.pat_reduce_values.specs.Environments.{keep_but}
use Rattle.pat_reduce_values.specs.ValueViews.{env_view}
use Rattle.pat_reduce_values.proofs.environments.divided.Given as goal

-- what was kept so far, and what is of those that are left
abbrev pub invariant-loop-entry : goal.invariant-loop-entry
invariant-loop-entry l = record {
  own : env_view l.own ++ keep (program_view l.code.program) l.bound (env_view (drop l.entry-index l.env)) ≡ keep (program_view l.code.program) l.bound (env_view l.env);
  rest : env_view l.rest ++ keep_but (program_view l.code.program) l.body l.var (env_view (drop l.entry-index l.env)) ≡ keep_but (program_view l.code.program) l.body l.var (env_view l.env);
}
