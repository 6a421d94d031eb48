use Rattle.pat_core.specs.Views.{program_view}
use Rattle.pat_reduce_values.proofs.FreeLists.{free_by_parts, small_free}
use Rattle.pat_reduce_values.proofs.programs.executable.Executable.new.Goals as goal

pub invariant_of-result : goal.invariant_of-result
invariant_of-result c = record {
  listed = c.in_ok-free.ensures;
  parts = free_by_parts (program_view c.args.program) c.requires;
  small = small_free (program_view c.args.program) c.in_ok-free.free c.in_ok-free.ensures;
}
