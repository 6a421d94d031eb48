use Rattle.std.proofs.Common.{arith}
use Rattle.pat_words_spec.specs.Words.{no_word}
use Rattle.pat_words_laws.proofs.WordLaws.{count_eq}
use Rattle.pat_bags.specs.Views.{word_of}
use Rattle.pat_bags.proofs.Bag.is_empty.Goals as goal

pub returns-then-self-t-gt0 : goal.returns-then-self-t-gt0
returns-then-self-t-gt0 c = (λ h. cc, λ e. let none = count_eq (word_of c.args.self.now) no_word e c.loop-t.t in absurd (omega arith))
