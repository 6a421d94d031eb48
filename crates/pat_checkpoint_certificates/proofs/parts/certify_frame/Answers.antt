use Rattle.std.proofs.Common.{Option, subst, take, reverse}
use Rattle.std.proofs.lemmas.Result.{err_from_is_err_and}
use Rattle.pat_type_system_spec.specs.Holdings.{wanted}
use Rattle.pat_derivations.specs.declared.data.Cert.{Cert as CodeCert}
use Rattle.pat_checkpoint_spec.specs.Kinds.{type_needs}
use Rattle.pat_checkpoint_spec.specs.Written.{frames_need}
use Rattle.pat_checkpoint_certificates.specs.Searches.{program_in, scope_in, typing_in, bounds_in}
use Rattle.pat_checkpoint_certificates.specs.Found.{IsFound}
use Rattle.pat_checkpoint_certificates.specs.Parts.{frames_of, IsFoundAt}
use Rattle.pat_checkpoint_certificates.proofs.Lists.{there}
use Rattle.pat_checkpoint_certificates.proofs.Turns.{frame_unshown}
use Rattle.pat_checkpoint_certificates.proofs.Errors.{spent}
use Rattle.pat_checkpoint_certificates.proofs.parts.certify_frame.Goals as goal

pub returns-in_err-show_frame-clause-unshown : goal.returns-in_err-show_frame-clause-unshown
returns-in_err-show_frame-clause-unshown c =
    let s = c.args.search.now in
    let q = err_from_is_err_and c.from_residual.result c.from_residual.ensures.1 in
    spent (scope_in s) (bounds_in s) c.args.line (reverse (frames_need (program_in s) (typing_in s) (frames_of c.args.frames.now))) c.from_residual.result q.0 q.1 q.2

pub returns-in-None-clause-unshown : goal.returns-in-None-clause-unshown
returns-in-None-clause-unshown c =
    let s = c.args.search.now in
    let xs = c.args.frames.now in
    let k = c.args.place in
    let at = there xs k c.requires.place in
    frame_unshown (program_in s) (typing_in s) (scope_in s) (bounds_in s) xs k at.0 c.args.line c.unshown.result at.1 c.requires.place c.requires.below
    (subst (IsFound (scope_in s) (bounds_in s) (type_needs ((typing_in s).results at.0.body) (wanted (program_in s) (typing_in s) (frames_of (take k xs))))) c.in-None.is (c.in_ok-show_frame.ensures at.0 at.1))
    c.unshown.ensures

pub returns-in-Some-clause-found : goal.returns-in-Some-clause-found
returns-in-Some-clause-found c =
    subst (λ (o : Option (Option CodeCert)). IsFoundAt c.args.search.now c.args.frames.now c.args.place o) c.in-Some.is c.in_ok-show_frame.ensures
