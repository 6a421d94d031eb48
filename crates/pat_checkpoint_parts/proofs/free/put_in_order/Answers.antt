use Rattle.std.proofs.Common.{ap, ◌∙◌}
use Rattle.std.proofs.lemmas.List.Filters.{dedup_is}
use Rattle.pat_semantics_spec.specs.Programs.{is_among}
use Rattle.pat_checkpoint_spec.specs.Numbers.{ascends}
use Rattle.pat_checkpoint_parts.proofs.FreeLists.{same_among, sorted_ascends}
use Rattle.pat_checkpoint_parts.proofs.free.put_in_order.Goals as goal

pub returns-clause-same : goal.returns-clause-same
returns-clause-same c = λ x.
    ap (is_among x) (dedup_is _ _ _ c.dedup.ensures.filtered) ∙ same_among x _ _ c.sort_unstable.ensures.permutation

pub returns-clause-ascends : goal.returns-clause-ascends
returns-clause-ascends c =
    ap (ascends 0) (dedup_is _ _ _ c.dedup.ensures.filtered) ∙ sorted_ascends _ c.sort_unstable.ensures.sorted
