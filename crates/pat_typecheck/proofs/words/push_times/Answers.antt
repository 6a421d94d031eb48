use Rattle.std.proofs.Common.{◌++◌, arith}
use Rattle.pat_typecheck.specs.Words.{times_words}
use Rattle.pat_typecheck.proofs.Worded.{times_step}
use Rattle.pat_typecheck.proofs.words.push_times.Goals as goal

pub loop-left-preserved : goal.loop-left-preserved
loop-left-preserved c =
    let some = c.loop-left-test.true in
    times_step c.loop-left.text.items c.push.new.self.items c.extend_from_slice.new.self.items c.args.name.now (c.args.text.now.items ++ times_words c.args.times c.args.name.now) c.loop-left.left (omega (arith, some)) c.in_ok-push.ensures.items c.in_ok-extend_from_slice.ensures.items c.loop-left.invariant
