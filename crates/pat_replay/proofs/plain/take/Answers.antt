use Rattle.std.specs.Map.{keys_of}
use Rattle.std.proofs.Common.{sym, subst}
use Rattle.pat_semantics_spec.specs.Orders.{AscendsFrom}
use Rattle.pat_reduce.specs.Views.{threads_view}
use Rattle.pat_reduce.proofs.Ascending.{Threads}
use Rattle.pat_replay.proofs.plain.take.Goals as goal

pub place_among-requires : goal.place_among-requires
place_among-requires c = subst (λ (l : Threads). AscendsFrom 0 (keys_of (threads_view l))) (sym c.as_slice.ensures) c.requires.ordered.threads
