use Rattle.std.proofs.Common.{◌≡◌, ℕ, ◌≤◌, length}
use Rattle.pat_semantics_laws.specs.Programs.{is_free}
use Rattle.pat_core.specs.Views.{program_view}
use Rattle.pat_reduce_values.specs.programs.FreeVariables.{is_listed}
use Rattle.pat_reduce_values.proofs.programs.free_variables.list_free.Given as goal

-- a list for each node so far
abbrev pub invariant-loop : goal.invariant-loop
invariant-loop l = length l.free ≡ l.index

-- the lists from here on are right
abbrev pub invariant-loop-n : goal.invariant-loop-n
invariant-loop-n l = record {
  each : length l.free ≡ length l.program.nodes;
  right : (x k : ℕ) → l.n ≤ k → is_listed l.free k x ≡ is_free (program_view l.program) x k;
}
