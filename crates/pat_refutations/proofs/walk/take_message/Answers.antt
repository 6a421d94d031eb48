use Rattle.std.proofs.Common.{arith, subst, sym}
use Rattle.pat_words_spec.specs.Words.{Word, LiesIn}
use Rattle.pat_words_laws.proofs.WordLaws.{one_lies}
use Rattle.pat_bags.specs.Views.{word_of}
use Rattle.pat_refutations.proofs.walk.take_message.Goals as goal

pub returns-in-None : goal.returns-in-None
returns-in-None c =
    let there = c.if-get-eq0.false in
    let value = c.get.ensures.value in
    let lies = one_lies (word_of c.args.left.now) c.args.tag (omega arith) in
    let no1 = c.in-None.ensures.some.1 (subst (λ (x : Word). LiesIn x (word_of c.args.left.now)) (sym c.one.ensures) lies) in
    absurd (cc)
