use Rattle.std.proofs.Common.{subst}
use Rattle.std.specs.List.{AllByRecursion}
use Rattle.pat_inclusion_spec.specs.Counts.{most_tags}
use Rattle.pat_linear.specs.Views.{sets_view}
use Rattle.pat_linear.specs.WordSets.{IsWord}
use Rattle.pat_linear.proofs.StarOfWords.{words_joined}
use Rattle.pat_linear.proofs.forms.join_star.Goals as goal

pub returns-then-are_words : goal.returns-then-are_words
returns-then-are_words c =
    let words = subst (λ sets. AllByRecursion IsWord (sets_view sets)) c.top.ensures (c.are_words.ensures c.if-are_words.true) in
    words_joined most_tags c.args.done.now c.repeat_words.new.done c.requires words c.in_ok-repeat_words.ensures
