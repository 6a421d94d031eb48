use Rattle.std.proofs.Common.{◌+◌, [], refl, sym, subst, take, arith}
use Rattle.std.proofs.lemmas.List.{take_all}
use Rattle.std.proofs.lemmas.Result.{err_from_is_err_and}
use Rattle.pat_reduce.specs.Views.{threads_view}
use Rattle.pat_checkpoint_spec.specs.Written.{threads_need}
use Rattle.pat_checkpoint_certificates.specs.Searches.{program_in, scope_in, typing_in, bounds_in}
use Rattle.pat_checkpoint_certificates.specs.Found.{IsUnshownFrom}
use Rattle.pat_checkpoint_certificates.specs.Parts.{ThreadsFound}
use Rattle.pat_checkpoint_certificates.proofs.Turns.{read_at, formed_thread, thread_unshown, thread_more, line_more}
use Rattle.pat_checkpoint_certificates.proofs.Errors.{spent, passed}
use Rattle.pat_checkpoint_certificates.proofs.parts.certify_threads.Goals as goal

pub certify_thread-requires-clause-formed : goal.certify_thread-requires-clause-formed
certify_thread-requires-clause-formed c =
    let s = c.args.search.now in
    let es = c.args.threads.now in
    let k = c.loop-thread.thread-index in
    let e = c.loop-thread-item.result in
    formed_thread (program_in s) (typing_in s) (scope_in s) (bounds_in s) es k e (read_at es k e c.loop-thread-test.true c.loop-thread-item.is) c.requires.formed

pub returns-in_err-own-clause-unshown : goal.returns-in_err-own-clause-unshown
returns-in_err-own-clause-unshown c =
    let s = c.args.search.now in
    let es = c.args.threads.now in
    let k = c.loop-thread.thread-index in
    let e = c.loop-thread-item.result in
    let q = err_from_is_err_and c.from_residual.result c.from_residual.ensures.1 in
    let given = c.in_err-own.field-0.0 in
    passed (IsUnshownFrom (scope_in s) (bounds_in s) c.args.first (threads_need (program_in s) (typing_in s) (threads_view es))) c.from_residual.result q.0 given q.1 q.2
    (thread_unshown (program_in s) (typing_in s) (scope_in s) (bounds_in s) es k e c.args.first c.loop-thread.line given (read_at es k e c.loop-thread-test.true c.loop-thread-item.is) c.loop-thread.invariant.line c.loop-thread.invariant.found.showable c.in_err-own.ensures.unshown)

pub returns-in_err-push-clause-unshown : goal.returns-in_err-push-clause-unshown
returns-in_err-push-clause-unshown c =
    let s = c.args.search.now in
    let r = c.from_residual-in_err-push in
    let q = err_from_is_err_and r.result r.ensures.1 in
    spent (scope_in s) (bounds_in s) c.args.first (threads_need (program_in s) (typing_in s) (threads_view c.args.threads.now)) r.result q.0 q.1 q.2

pub returns-in_err-line-clause-unshown : goal.returns-in_err-line-clause-unshown
returns-in_err-line-clause-unshown c =
    let s = c.args.search.now in
    let r = c.from_residual-in_err-line in
    let q = err_from_is_err_and r.result r.ensures.1 in
    spent (scope_in s) (bounds_in s) c.args.first (threads_need (program_in s) (typing_in s) (threads_view c.args.threads.now)) r.result q.0 q.1 q.2

pub loop-thread-init : goal.loop-thread-init
loop-thread-init c =
    record {
      found = subst (ThreadsFound c.args.search.now []) (sym c.new-certs.ensures) (record { certified = refl; showable = tt });
      line = omega arith;
    }

pub loop-thread-preserved : goal.loop-thread-preserved
loop-thread-preserved c =
    let s = c.args.search.now in
    let es = c.args.threads.now in
    let k = c.loop-thread.thread-index in
    let e = c.loop-thread-item.result in
    let at = read_at es k e c.loop-thread-test.true c.loop-thread-item.is in
    let p = program_in s in
    let y = typing_in s in
    record {
      found = subst (ThreadsFound s (threads_view (take (k + 1) es))) (sym c.in_ok-push.ensures.ok) (thread_more p y (scope_in s) (bounds_in s) es k e c.loop-thread.certs c.in_ok-own.own at c.in_ok-own.ensures.found c.loop-thread.invariant.found);
      line = line_more p y (scope_in s) (bounds_in s) es k e c.args.first c.loop-thread.line c.in_ok-line.line at c.loop-thread.invariant.line (c.in_ok-line.ensures p y);
    }

pub returns-clause-found : goal.returns-clause-found
returns-clause-found c =
    subst (λ es. ThreadsFound c.args.search.now (threads_view es) c.loop-thread.certs) (take_all c.loop-thread.thread-index c.args.threads.now (omega (arith, c.loop-thread-test.false))) c.loop-thread.invariant.found
