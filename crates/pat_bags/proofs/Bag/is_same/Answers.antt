use Rattle.std.proofs.Common.{sym}
use Rattle.pat_bags.specs.Views.{word_of}
use Rattle.pat_bags.proofs.Counts.{same_lies, lies_same}
use Rattle.pat_bags.proofs.Bag.is_same.Goals as goal

pub returns-then-contains : goal.returns-then-contains
returns-then-contains c =
    let a = word_of c.args.self.now in
    let b = word_of c.args.other.now in (
      λ h. same_lies a b (c.contains-then-contains.ensures.0 h) (c.contains.ensures.0 c.if-contains.true),
      λ e. c.contains-then-contains.ensures.1 (lies_same a b e),
    )

pub returns-else-contains : goal.returns-else-contains
returns-else-contains c =
    let a = word_of c.args.self.now in
    let b = word_of c.args.other.now in
    let no = c.if-contains.false in (λ h. cc, λ e. c.contains.ensures.1 (lies_same b a (sym e)))
