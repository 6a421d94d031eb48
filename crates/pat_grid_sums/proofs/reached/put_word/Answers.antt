use Rattle.std.proofs.Common.{◌+◌, arith}
use Rattle.pat_grid_sums.proofs.Writing.{word_begun, word_more, word_none}
use Rattle.pat_grid_sums.proofs.reached.put_word.Goals as goal

pub loop-bit-init : goal.loop-bit-init
loop-bit-init c = word_begun c.args.words.now c.args.word c.args.from c.args.entries.now

pub overflow_add-from : goal.overflow_add-from
overflow_add-from c =
    let l = c.loop-bit-test.true in
    let fits = c.requires.fits in
    omega arith

pub put_one-requires : goal.put_one-requires
put_one-requires c =
    let l = c.loop-bit-test.true in
    let long = c.loop-bit.invariant.0 in
    let room = c.requires.room in
    omega arith

pub loop-bit-preserved : goal.loop-bit-preserved
loop-bit-preserved c =
    let a = c.args in
    let l = c.loop-bit-test.true in
    let long = c.loop-bit.invariant.0 in
    let room = c.requires.room in
    word_more a.words.now a.word a.from c.loop-bit.bit a.entries.now c.loop-bit.entries c.put_one.new.entries c.has.result c.loop-bit.invariant c.has.ensures c.in_ok-put_one.ensures (omega arith) (c.requires.none (a.from + c.loop-bit.bit) (omega arith) (omega arith))

pub returns-then-words-word-eq0 : goal.returns-then-words-word-eq0
returns-then-words-word-eq0 c =
    let a = c.args in
    word_none a.words.now a.word a.from a.width a.entries.now c.if-words-word-eq0.true c.requires.none
