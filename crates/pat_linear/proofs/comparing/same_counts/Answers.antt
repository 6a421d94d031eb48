use Rattle.std.proofs.Common.{arith, sym, ◌∙◌}
use Rattle.pat_bags.specs.Views.{word_of}
use Rattle.pat_linear.proofs.SameWords.{same_end, same_not}
use Rattle.pat_linear.proofs.comparing.same_counts.Goals as goal

pub returns-then-get : goal.returns-then-get
returns-then-get c = same_not c.loop-t.t (word_of c.args.a.now) (word_of c.args.b.now) c.loop-t-test.true
    (λ e. c.if-get.true (c.get.ensures.value ∙ e ∙ sym c.get-in-loop-t.ensures.value))

pub returns : goal.returns
returns c =
    let a = c.loop-t-test.false in
    let b = c.loop-t.auto.t-end in
    same_end c.loop-t.t (word_of c.args.a.now) (word_of c.args.b.now) c.loop-t.invariant (omega arith)
