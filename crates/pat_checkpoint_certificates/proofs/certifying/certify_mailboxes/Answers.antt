use Rattle.std.proofs.lemmas.Result.{err_from_is_err_and}
use Rattle.pat_derivations.specs.Views.{derivation_view}
use Rattle.pat_checkpoint_spec.specs.Checkpoints.{interfaces_of}
use Rattle.pat_checkpoint_spec.specs.Written.{lines_need}
use Rattle.pat_checkpoint_data.specs.Views.{checkpoint_view}
use Rattle.pat_checkpoint_certificates.specs.Searches.{program_in, scope_in, typing_in, bounds_in}
use Rattle.pat_checkpoint_certificates.specs.Found.{IsUnshownFrom}
use Rattle.pat_checkpoint_certificates.proofs.Errors.{spent, passed}
use Rattle.pat_checkpoint_certificates.proofs.Certs.{live_ascends, numbers_stand, mailboxes_stand, balances_formed, unshown_balance}
use Rattle.pat_checkpoint_certificates.proofs.certifying.certify_mailboxes.Goals as goal

pub sides_of-requires-clause-numbers : goal.sides_of-requires-clause-numbers
sides_of-requires-clause-numbers c =
    numbers_stand (program_in c.args.search.now) (derivation_view c.args.search.now.derivation.now) (checkpoint_view c.args.bare.now) c.requires.stands

pub sides_of-requires-clause-differ : goal.sides_of-requires-clause-differ
sides_of-requires-clause-differ c =
    mailboxes_stand (program_in c.args.search.now) (derivation_view c.args.search.now.derivation.now) (checkpoint_view c.args.bare.now) c.requires.stands

pub certify_balances-requires-clause-live : goal.certify_balances-requires-clause-live
certify_balances-requires-clause-live c =
    let x = checkpoint_view c.args.bare.now in
    live_ascends x.config (numbers_stand (program_in c.args.search.now) (derivation_view c.args.search.now.derivation.now) x c.requires.stands)

pub certify_balances-requires-clause-formed : goal.certify_balances-requires-clause-formed
certify_balances-requires-clause-formed c =
    balances_formed (program_in c.args.search.now) (derivation_view c.args.search.now.derivation.now) (checkpoint_view c.args.bare.now) c.writing_laws.ensures.formed c.requires.search.well c.requires.valid c.requires.stands

pub returns-in_err-sides-clause-unshown : goal.returns-in_err-sides-clause-unshown
returns-in_err-sides-clause-unshown c =
    let s = c.args.search.now in
    let x = checkpoint_view c.args.bare.now in
    let q = err_from_is_err_and c.from_residual.result c.from_residual.ensures.1 in
    spent (scope_in s) (bounds_in s) 1 (lines_need (program_in s) (typing_in s) (interfaces_of x) x.config) c.from_residual.result q.0 q.1 q.2

pub returns-in_err-certs-clause-unshown : goal.returns-in_err-certs-clause-unshown
returns-in_err-certs-clause-unshown c =
    let s = c.args.search.now in
    let x = checkpoint_view c.args.bare.now in
    let r = c.from_residual-in_err-certs in
    let q = err_from_is_err_and r.result r.ensures.1 in
    let e = c.in_err-certs.field-0.0 in
    passed (IsUnshownFrom (scope_in s) (bounds_in s) 1 (lines_need (program_in s) (typing_in s) (interfaces_of x) x.config)) r.result q.0 e q.1 q.2
    (unshown_balance (program_in s) (derivation_view s.derivation.now) x (bounds_in s) e c.in_err-certs.ensures.unshown)
