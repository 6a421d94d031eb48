use Rattle.std.proofs.Common.{subst}
use Rattle.std.specs.List.{AllByRecursion}
use Rattle.pat_words_spec.specs.Tags.{HasTagsBelow}
use Rattle.pat_inclusion_spec.specs.Counts.{most_tags}
use Rattle.pat_inclusion_spec.specs.LinearSets.{SetBelow}
use Rattle.pat_linear.specs.Views.{set_view, words_of}
use Rattle.pat_cover_certificates.proofs.Lists.{all_more}
use Rattle.pat_cover_certificates.proofs.few_tags.sets_are_few.Goals as goal

pub loop-set-preserved : goal.loop-set-preserved
loop-set-preserved c =
    let set = c.set-item.result in
    all_more (SetBelow most_tags) set_view c.args.sets.now c.loop-set.set-index set c.loop-set-test.true c.loop-set.invariant
    (subst (λ x. SetBelow most_tags (set_view x)) c.set-item.is
    (c.tags_are_few.ensures, subst (λ l. AllByRecursion (HasTagsBelow most_tags) (words_of l)) c.as_slice.ensures c.words_are_few.ensures))
