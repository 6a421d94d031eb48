use Rattle.pat_infer_laws.proofs.WalkShaped.{found_fits}
use Rattle.pat_infer_laws.proofs.Enough.{each_node_once}
use Rattle.pat_infer_laws.proofs.Order.{needs_ordered}
use Rattle.pat_infer_laws.proofs.Merging.{lets_merge}
use Rattle.pat_infer_laws.proofs.found_laws.Goals as goal

pub returns : goal.returns
returns c = record { fits = found_fits; once = each_node_once; ordered = needs_ordered; merge = lets_merge }
