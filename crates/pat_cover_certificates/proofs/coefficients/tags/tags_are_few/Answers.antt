use Rattle.std.proofs.Common.{sym, subst}
use Rattle.pat_words_spec.specs.Tags.{HasTagsBelow}
use Rattle.pat_bags.specs.Views.{word_of}
use Rattle.pat_linear.proofs.Exact.{tags_are}
use Rattle.pat_cover_certificates.proofs.coefficients.tags.tags_are_few.Goals as goal

pub returns : goal.returns
returns c = subst (λ n. HasTagsBelow n (word_of c.args.bag.now)) (sym tags_are) c.counts_are_few.ensures
