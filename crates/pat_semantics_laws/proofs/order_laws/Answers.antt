use Rattle.pat_semantics_laws.proofs.Ordered.{start_is_ordered, step_keeps_order, run_keeps_order, replay_keeps_order, run_is_ordered}
use Rattle.pat_semantics_laws.proofs.order_laws.Goals as goal

pub returns : goal.returns
returns c = record {
  start = start_is_ordered;
  steps = step_keeps_order;
  runs = run_keeps_order;
  replays = replay_keeps_order;
  reached = run_is_ordered;
}
