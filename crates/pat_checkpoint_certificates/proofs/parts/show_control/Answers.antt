use Rattle.std.proofs.Common.{refl, sym, subst}
use Rattle.std.specs.Prelude.{None, IfOk}
use Rattle.pat_reduce.specs.threads.ThreadViews.{control_view}
use Rattle.pat_checkpoint_spec.specs.Kinds.{control_needs}
use Rattle.pat_checkpoint_spec.specs.Written.{IsFormedNeed}
use Rattle.pat_checkpoint_certificates.specs.Searches.{program_in, scope_in, typing_in, bounds_in}
use Rattle.pat_checkpoint_certificates.specs.Found.{IsFound, IsShownBy}
use Rattle.pat_checkpoint_certificates.specs.Parts.{frames_of}
use Rattle.pat_checkpoint_certificates.proofs.parts.show_control.Goals as goal

pub show_part-requires-clause-formed : goal.show_part-requires-clause-formed
show_part-requires-clause-formed c =
    let s = c.args.search.now in
    subst (λ k. IsFormedNeed (scope_in s) (control_needs (program_in s) (typing_in s) (control_view k) (frames_of c.args.frames.now))) c.in-Node.is c.requires.formed

pub returns-in-Node : goal.returns-in-Node
returns-in-Node c =
    let s = c.args.search.now in
    subst (λ k. IfOk c.show_part.result (IsFound (scope_in s) (bounds_in s) (control_needs (program_in s) (typing_in s) (control_view k) (frames_of c.args.frames.now)))) (sym c.in-Node.is)
    c.show_part.ensures

pub returns-in-Returned : goal.returns-in-Returned
returns-in-Returned c =
    let s = c.args.search.now in
    subst (λ k. IsShownBy (scope_in s) (bounds_in s) (control_needs (program_in s) (typing_in s) (control_view k) (frames_of c.args.frames.now)) None) (sym c.in-Returned.is)
    (record { certified = refl; showable = tt })
