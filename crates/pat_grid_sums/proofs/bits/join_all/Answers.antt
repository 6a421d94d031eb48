use Rattle.std.proofs.Common.{◌≡◌, length, arith}
use Rattle.pat_grid_sums.proofs.Putting.{IsWordOf, puts_begun, puts_more, words_joined}
use Rattle.pat_grid_sums.proofs.bits.join_all.Goals as goal

pub loop-word-init : goal.loop-word-init
loop-word-init c = puts_begun (IsWordOf c.args.more.now) c.args.words.now

pub loop-word-preserved : goal.loop-word-preserved
loop-word-preserved c =
    puts_more (IsWordOf c.args.more.now) c.loop-word.word c.args.words.now c.loop-word.words c.join.new.words c.loop-word.invariant c.join.ensures

pub returns : goal.returns
returns c =
    let e : c.loop-word.word ≡ length c.args.more.now = (let past = c.loop-word-test.false in let end = c.loop-word.auto.word-end in omega arith) in
    words_joined c.args.more.now c.args.words.now c.loop-word.words c.loop-word.word e c.loop-word.invariant
