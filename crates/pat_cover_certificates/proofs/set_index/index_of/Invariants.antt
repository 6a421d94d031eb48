use Rattle.std.proofs.Common.{◌≡◌}
use Rattle.pat_cover_certificates.specs.Indexes.{Indexes}
use Rattle.pat_cover_certificates.proofs.set_index.index_of.Given as goal

abbrev pub invariant-loop-set : goal.invariant-loop-set
invariant-loop-set l = record {
  place : l.place ≡ l.set-index;
  index : Indexes l.sets l.set-index l.index.by_base.entries l.index.others;
}
