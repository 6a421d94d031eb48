use Rattle.std.proofs.Common.{rules, ◌≡◌}
use Rattle.std.specs.Prelude.{codes}
use Rattle.pat_bags.specs.Views.{word_of}
use Rattle.pat_types.specs.Views.{right_view}
use Rattle.pat_typecheck.proofs.Worded.{words_said}
use Rattle.pat_typecheck.proofs.words.words_by.Goals as goal

pub returns : goal.returns
returns c =
    let text : c.in_ok-text.text.items ≡ codes ": word" = search rules in
    words_said c.args.interface.now (word_of c.args.word.now) (right_view c.args.right.now) c.as_slice.result.now c.in_ok-text.text.items c.push_word.new.text.items c.push_right.new.text.items c.as_slice.ensures text c.in_ok-push_word.ensures c.in_ok-push_right.ensures
