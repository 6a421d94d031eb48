use Rattle.std.proofs.Common.{◌+◌, ◌<◌, [], length, get_or, refl, sym, subst, take, arith}
use Rattle.std.proofs.lemmas.List.{take_all}
use Rattle.std.proofs.lemmas.Option.{slice_get-get_or}
use Rattle.std.proofs.lemmas.Result.{err_from_is_err_and}
use Rattle.pat_derivations.specs.Views.{derivation_view}
use Rattle.pat_checkpoint_data.specs.Views.{checkpoint_view}
use Rattle.pat_checkpoint_certificates.specs.Searches.{program_in, scope_in, bounds_in}
use Rattle.pat_checkpoint_certificates.specs.Found.{IsUnshownFrom}
use Rattle.pat_checkpoint_certificates.specs.Balances.{balances_need, BalancesFound}
use Rattle.pat_checkpoint_certificates.proofs.Errors.{spent, passed}
use Rattle.pat_checkpoint_certificates.proofs.Gathering.{balance_more}
use Rattle.pat_checkpoint_certificates.proofs.balances.certify_balances.Goals as goal

pub loop-place-init : goal.loop-place-init
loop-place-init c = subst (BalancesFound c.args.search.now c.args.bare.now []) (sym c.new-certs.ensures) (record { certified = refl; showable = tt })

pub certify_balance-requires-clause-before : goal.certify_balance-requires-clause-before
certify_balance-requires-clause-before c = c.loop-place.invariant.showable

pub returns-in_err-cert-clause-unshown : goal.returns-in_err-cert-clause-unshown
returns-in_err-cert-clause-unshown c =
    let s = c.args.search.now in
    let x = c.args.bare.now in
    let q = err_from_is_err_and c.from_residual.result c.from_residual.ensures.1 in
    passed (IsUnshownFrom (scope_in s) (bounds_in s) c.args.first (balances_need (program_in s) (derivation_view s.derivation.now) (checkpoint_view x) x.config.live)) c.from_residual.result q.0 c.in_err-cert.field-0.0 q.1 q.2 c.in_err-cert.ensures.unshown

pub returns-in_err-push-clause-unshown : goal.returns-in_err-push-clause-unshown
returns-in_err-push-clause-unshown c =
    let s = c.args.search.now in
    let x = c.args.bare.now in
    let r = c.from_residual-in_err-push in
    let q = err_from_is_err_and r.result r.ensures.1 in
    spent (scope_in s) (bounds_in s) c.args.first (balances_need (program_in s) (derivation_view s.derivation.now) (checkpoint_view x) x.config.live) r.result q.0 q.1 q.2

pub loop-place-preserved : goal.loop-place-preserved
loop-place-preserved c =
    let s = c.args.search.now in
    let x = c.args.bare.now in
    let live = x.config.live in
    let k = c.loop-place.place in
    let count = c.len-place-end.ensures in
    let test = c.loop-place-test.true in
    let below : k < length live = omega (arith, test, count) in
    let at = slice_get-get_or live k 0 below in
    subst (BalancesFound s x (take (k + 1) live)) (sym c.in_ok-push.ensures.ok)
    (balance_more (program_in s) (derivation_view s.derivation.now) (checkpoint_view x) (scope_in s) (bounds_in s) live k (get_or live k 0) c.loop-place.certs c.in_ok-cert.cert at (c.in_ok-cert.ensures.found (get_or live k 0) at) c.loop-place.invariant)

pub returns-clause-found : goal.returns-clause-found
returns-clause-found c =
    let test = c.loop-place-test.false in
    let count = c.len-place-end.ensures in
    subst (λ live. BalancesFound c.args.search.now c.args.bare.now live c.loop-place.certs) (take_all c.loop-place.place c.args.bare.now.config.live (omega (arith, test, count))) c.loop-place.invariant
