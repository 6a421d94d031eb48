use Rattle.pat_examples.proofs.Histories.{future_ends, swap_ends, crossed_ends, turned_ends, turned_held}
use Rattle.pat_examples.proofs.safety.runs.Goals as goal

pub returns : goal.returns
returns c = record { future = future_ends; swap = swap_ends; crossed = crossed_ends; turned = turned_ends; held = turned_held }
