use Rattle.std.proofs.Common.{refl}
use Rattle.pat_reduce.specs.threads.Views.{program_view}
use Rattle.pat_reduce.specs.threads.ThreadViews.{thread_view}
use Rattle.pat_machine_threads.proofs.Settlings.{begun_runs, uncovered_begins, run_on_those, run_with_less_room}
use Rattle.pat_machine_threads.proofs.settling.settle_top.Goals as goal

pub loop-alloc-init : goal.loop-alloc-init
loop-alloc-init c =
    begun_runs (program_view c.args.code.now.program) c.args.allowance (thread_view c.args.kept.now) c.in_ok-settled.settled c.run_on.new.settled c.in_ok-settled.ensures c.in_ok-run_on.ensures

pub loop-alloc-preserved : goal.loop-alloc-preserved
loop-alloc-preserved c =
    let p = program_view c.args.code.now.program in
    let x = thread_view c.args.kept.now in
    let begun = uncovered_begins p c.args.allowance x c.loop-alloc.settled c.uncover.new.settled c.loop-alloc.invariant c.in_ok-uncover.ensures in
    begun_runs p c.args.allowance x c.uncover.new.settled c.run_on-in-loop-alloc.new.settled begun c.in_ok-run_on-2.ensures

pub returns : goal.returns
returns c =
    let p = program_view c.args.code.now.program in
    let x = thread_view c.args.kept.now in
    let run = run_on_those p c.args.allowance x c.loop-alloc.settled c.loop-alloc.invariant (c.needs_more.ensures.no c.loop-alloc-test.false) in
    run_with_less_room p c.args.allowance x c.loop-alloc.settled _ refl refl c.give_back_room.ensures run
