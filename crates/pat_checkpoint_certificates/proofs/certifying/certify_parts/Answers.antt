use Rattle.std.proofs.Common.{◌≡◌, ◌+◌, length, sym, subst, arith}
use Rattle.std.proofs.lemmas.List.{length-map}
use Rattle.std.proofs.lemmas.Result.{err_from_is_err_and}
use Rattle.pat_derivations.specs.Views.{derivation_view}
use Rattle.pat_reduce.specs.threads.ThreadViews.{message_view}
use Rattle.pat_reduce.specs.Views.{threads_view}
use Rattle.pat_checkpoint_spec.specs.Checkpoints.{interfaces_of}
use Rattle.pat_checkpoint_spec.specs.Written.{threads_need, lines_need, NeedsFormed}
use Rattle.pat_checkpoint_data.specs.Views.{checkpoint_view}
use Rattle.pat_checkpoint_certificates.specs.Searches.{program_in, scope_in, typing_in, bounds_in}
use Rattle.pat_checkpoint_certificates.specs.Found.{IsUnshownFrom}
use Rattle.pat_checkpoint_certificates.specs.Parts.{ThreadsFound}
use Rattle.pat_checkpoint_certificates.proofs.Errors.{spent, passed}
use Rattle.pat_checkpoint_certificates.proofs.Certs.{parts_formed, unshown_part}
use Rattle.pat_checkpoint_certificates.proofs.certifying.certify_parts.Goals as goal

pub certify_threads-requires-clause-formed : goal.certify_threads-requires-clause-formed
certify_threads-requires-clause-formed c =
    let s = c.args.search.now in
    let threads = c.args.bare.now.config.threads in
    subst (λ ts. NeedsFormed (scope_in s) (threads_need (program_in s) (typing_in s) (threads_view ts))) (sym c.as_slice.ensures)
    (parts_formed (program_in s) (derivation_view s.derivation.now) (checkpoint_view c.args.bare.now) c.writing_laws.ensures.formed c.requires.search.well c.requires.valid c.requires.stands)

pub returns-in_err-line-clause-unshown : goal.returns-in_err-line-clause-unshown
returns-in_err-line-clause-unshown c =
    let s = c.args.search.now in
    let x = checkpoint_view c.args.bare.now in
    let q = err_from_is_err_and c.from_residual.result c.from_residual.ensures.1 in
    spent (scope_in s) (bounds_in s) 1 (lines_need (program_in s) (typing_in s) (interfaces_of x) x.config) c.from_residual.result q.0 q.1 q.2

pub returns-in_err-certs-clause-unshown : goal.returns-in_err-certs-clause-unshown
returns-in_err-certs-clause-unshown c =
    let s = c.args.search.now in
    let x = checkpoint_view c.args.bare.now in
    let r = c.from_residual-in_err-certs in
    let q = err_from_is_err_and r.result r.ensures.1 in
    let e = c.in_err-certs.field-0.0 in
    let own = subst (λ ts. IsUnshownFrom (scope_in s) (bounds_in s) c.in_ok-line.line (threads_need (program_in s) (typing_in s) (threads_view ts)) e) c.as_slice.ensures c.in_err-certs.ensures.unshown in
    let given = c.in_ok-line.ensures in
    let pending = length-map c.args.bare.now.config.messages message_view in
    let line_is : c.in_ok-line.line ≡ 3 + length x.config.live + length x.config.messages = omega (arith, given, pending) in
    passed (IsUnshownFrom (scope_in s) (bounds_in s) 1 (lines_need (program_in s) (typing_in s) (interfaces_of x) x.config)) r.result q.0 e q.1 q.2
    (unshown_part (program_in s) (derivation_view s.derivation.now) x (bounds_in s) c.in_ok-line.line e line_is c.requires.balances own)

pub returns-clause-found : goal.returns-clause-found
returns-clause-found c =
    subst (λ ts. ThreadsFound c.args.search.now (threads_view ts) c.in_ok-certs.certs) c.as_slice.ensures c.in_ok-certs.ensures.found
