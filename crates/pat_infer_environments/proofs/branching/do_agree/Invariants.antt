use Rattle.std.proofs.Common.{◌≡◌, ◌||◌, ◌&&◌, drop}
use Rattle.pat_infer_spec.specs.Branches.{some_receive, all_receive}
use Rattle.pat_infer_environments.specs.Combining.{column_view}
use Rattle.pat_infer_environments.proofs.branching.do_agree.Given as goal

-- what was seen, and what the needs that are left say
abbrev pub invariant-loop-need : goal.invariant-loop-need
invariant-loop-need l = record {
  some : (l.some || some_receive (column_view (drop l.need-index l.needs))) ≡ some_receive (column_view l.needs);
  all : (l.all && all_receive (column_view (drop l.need-index l.needs))) ≡ all_receive (column_view l.needs);
}
