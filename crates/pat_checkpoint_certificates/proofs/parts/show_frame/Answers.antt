use Rattle.std.proofs.Common.{◌≡◌, get_or, subst, take}
use Rattle.std.proofs.lemmas.Option.{slice_get-get_or}
use Rattle.std.proofs.lemmas.Result.{IfOk-weaker}
use Rattle.pat_type_system_spec.specs.Holdings.{wanted}
use Rattle.pat_reduce.specs.declared.threads.state.Frame.{Frame as CodeFrame}
use Rattle.pat_checkpoint_spec.specs.Kinds.{type_needs}
use Rattle.pat_checkpoint_certificates.specs.Searches.{program_in, scope_in, typing_in, bounds_in}
use Rattle.pat_checkpoint_certificates.specs.Found.{IsFound}
use Rattle.pat_checkpoint_certificates.specs.Parts.{frames_of, IsFoundAt}
use Rattle.pat_checkpoint_certificates.proofs.Lists.{got}
use Rattle.pat_checkpoint_certificates.proofs.Turns.{formed_frame}
use Rattle.pat_checkpoint_certificates.proofs.parts.show_frame.Goals as goal

pub show_part-requires-clause-formed : goal.show_part-requires-clause-formed
show_part-requires-clause-formed c =
    let s = c.args.search.now in
    let xs = c.args.frames.now in
    let x = get_or xs c.args.place c.index-frames-place.result in
    formed_frame (program_in s) (typing_in s) (scope_in s) (bounds_in s) xs c.args.place x (slice_get-get_or xs c.args.place c.index-frames-place.result c.requires.place) c.requires.formed

pub returns : goal.returns
returns c =
    let s = c.args.search.now in
    let xs = c.args.frames.now in
    let x = get_or xs c.args.place c.index-frames-place.result in
    let asked = wanted (program_in s) (typing_in s) (frames_of (take c.args.place xs)) in
    IfOk-weaker c.show_part.result (IsFound (scope_in s) (bounds_in s) (type_needs ((typing_in s).results x.body) asked)) (IsFoundAt s xs c.args.place) (λ o h f at.
    let same : x ≡ f = got xs c.args.place f c.index-frames-place.result at in
    subst (λ (g : CodeFrame). IsFound (scope_in s) (bounds_in s) (type_needs ((typing_in s).results g.body) asked) o) same h) c.show_part.ensures
