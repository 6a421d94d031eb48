use Rattle.std.proofs.Common.{◌+◌, [], refl, sym, subst, take, reverse, arith}
use Rattle.std.proofs.lemmas.List.{take_all}
use Rattle.std.proofs.lemmas.Result.{err_from_is_err_and}
use Rattle.pat_checkpoint_spec.specs.Written.{frames_need}
use Rattle.pat_checkpoint_certificates.specs.Searches.{program_in, scope_in, typing_in, bounds_in}
use Rattle.pat_checkpoint_certificates.specs.Found.{IsUnshownFrom}
use Rattle.pat_checkpoint_certificates.specs.Parts.{frames_of, FramesFound}
use Rattle.pat_checkpoint_certificates.proofs.Lists.{there}
use Rattle.pat_checkpoint_certificates.proofs.Turns.{frame_more}
use Rattle.pat_checkpoint_certificates.proofs.Errors.{spent, passed}
use Rattle.pat_checkpoint_certificates.proofs.parts.certify_frames.Goals as goal

pub loop-place-init : goal.loop-place-init
loop-place-init c = subst (FramesFound c.args.search.now []) (sym c.new-certs.ensures) (record { certified = refl; showable = tt })

pub certify_frame-requires-clause-below : goal.certify_frame-requires-clause-below
certify_frame-requires-clause-below c = c.loop-place.invariant.showable

pub returns-in_err-cert-clause-unshown : goal.returns-in_err-cert-clause-unshown
returns-in_err-cert-clause-unshown c =
    let s = c.args.search.now in
    let q = err_from_is_err_and c.from_residual.result c.from_residual.ensures.1 in
    passed (IsUnshownFrom (scope_in s) (bounds_in s) c.args.line (reverse (frames_need (program_in s) (typing_in s) (frames_of c.args.frames.now)))) c.from_residual.result q.0 c.in_err-cert.field-0.0 q.1 q.2 c.in_err-cert.ensures.unshown

pub returns-in_err-push-clause-unshown : goal.returns-in_err-push-clause-unshown
returns-in_err-push-clause-unshown c =
    let s = c.args.search.now in
    let r = c.from_residual-in_err-push in
    let q = err_from_is_err_and r.result r.ensures.1 in
    spent (scope_in s) (bounds_in s) c.args.line (reverse (frames_need (program_in s) (typing_in s) (frames_of c.args.frames.now))) r.result q.0 q.1 q.2

pub loop-place-preserved : goal.loop-place-preserved
loop-place-preserved c =
    let s = c.args.search.now in
    let xs = c.args.frames.now in
    let k = c.loop-place.place in
    let at = there xs k c.loop-place-test.true in
    subst (FramesFound s (take (k + 1) xs)) (sym c.in_ok-push.ensures.ok)
    (frame_more (program_in s) (typing_in s) (scope_in s) (bounds_in s) xs k at.0 c.loop-place.certs c.in_ok-cert.cert at.1 (c.in_ok-cert.ensures.found at.0 at.1) c.loop-place.invariant)

pub returns-clause-found : goal.returns-clause-found
returns-clause-found c =
    subst (λ xs. FramesFound c.args.search.now xs c.loop-place.certs) (take_all c.loop-place.place c.args.frames.now (omega (arith, c.loop-place-test.false))) c.loop-place.invariant
