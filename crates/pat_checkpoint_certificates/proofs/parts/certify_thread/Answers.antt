use Rattle.std.proofs.Common.{◌≡◌, List, [], ◌∷◌, map, sym, ap, subst, reverse}
use Rattle.std.proofs.lemmas.Result.{err_from_is_err_and}
use Rattle.pat_semantics_spec.specs.Configs.{Frame}
use Rattle.pat_reduce.specs.threads.ThreadViews.{control_view, frame_view, thread_view}
use Rattle.pat_checkpoint_spec.specs.Kinds.{control_needs}
use Rattle.pat_checkpoint_spec.specs.Written.{frames_need, IsFormedNeed, NeedsFormed, CanBeShown}
use Rattle.pat_checkpoint_certificates.specs.Searches.{program_in, scope_in, typing_in, bounds_in}
use Rattle.pat_checkpoint_certificates.specs.Found.{IsFound, IsUnshownFrom}
use Rattle.pat_checkpoint_certificates.specs.Parts.{frames_of, thread_needs, ThreadFound}
use Rattle.pat_checkpoint_certificates.proofs.Frames.{turned_back}
use Rattle.pat_checkpoint_certificates.proofs.Turns.{control_unshown, thread_found}
use Rattle.pat_checkpoint_certificates.proofs.Errors.{spent, passed, unshown_later}
use Rattle.pat_checkpoint_certificates.proofs.parts.certify_thread.Goals as goal

pub returns-in_err-next-clause-unshown : goal.returns-in_err-next-clause-unshown
returns-in_err-next-clause-unshown c =
    let s = c.args.search.now in
    let q = err_from_is_err_and c.from_residual.result c.from_residual.ensures.1 in
    spent (scope_in s) (bounds_in s) c.args.line (thread_needs (program_in s) (typing_in s) (thread_view c.args.thread.now)) c.from_residual.result q.0 q.1 q.2

pub show_control-requires-clause-formed : goal.show_control-requires-clause-formed
show_control-requires-clause-formed c =
    let s = c.args.search.now in
    let t = c.args.thread.now in
    let same : frames_of c.as_slice-frames.result.now ≡ map frame_view t.frames = ap (map frame_view) c.as_slice-frames.ensures in
    subst (λ (l : List Frame). IsFormedNeed (scope_in s) (control_needs (program_in s) (typing_in s) (control_view t.control) l)) (sym same) c.requires.formed.0

pub returns-in_err-show_control-clause-unshown : goal.returns-in_err-show_control-clause-unshown
returns-in_err-show_control-clause-unshown c =
    let s = c.args.search.now in
    let r = c.from_residual-in_err-show_control in
    let q = err_from_is_err_and r.result r.ensures.1 in
    spent (scope_in s) (bounds_in s) c.args.line (thread_needs (program_in s) (typing_in s) (thread_view c.args.thread.now)) r.result q.0 q.1 q.2

pub returns-in-None-clause-unshown : goal.returns-in-None-clause-unshown
returns-in-None-clause-unshown c =
    let s = c.args.search.now in
    let t = c.args.thread.now in
    let p = program_in s in
    let y = typing_in s in
    let same : frames_of c.as_slice-frames.result.now ≡ map frame_view t.frames = ap (map frame_view) c.as_slice-frames.ensures in
    control_unshown p y (scope_in s) (bounds_in s) c.args.line (control_needs p y (control_view t.control) (map frame_view t.frames)) (reverse (frames_need p y (map frame_view t.frames)))
    (subst (λ (l : List Frame). CanBeShown (scope_in s) (bounds_in s) (control_needs p y (control_view t.control) l) → ⊥) same
    (subst (IsFound (scope_in s) (bounds_in s) (control_needs p y (control_view t.control) (frames_of c.as_slice-frames.result.now))) c.in-None.is c.in_ok-show_control.ensures))

pub certify_frames-requires-clause-formed : goal.certify_frames-requires-clause-formed
certify_frames-requires-clause-formed c =
    let s = c.args.search.now in
    let t = c.args.thread.now in
    let p = program_in s in
    let y = typing_in s in
    let same : frames_of c.as_slice-frames.result.now ≡ map frame_view t.frames = ap (map frame_view) c.as_slice-frames.ensures in
    subst (λ (l : List Frame). NeedsFormed (scope_in s) (frames_need p y l)) (sym same)
    (turned_back (IsFormedNeed (scope_in s)) (frames_need p y (map frame_view t.frames)) c.requires.formed.1)

pub returns-in_err-frames-in-Some-clause-unshown : goal.returns-in_err-frames-in-Some-clause-unshown
returns-in_err-frames-in-Some-clause-unshown c =
    let s = c.args.search.now in
    let t = c.args.thread.now in
    let p = program_in s in
    let y = typing_in s in
    let need = control_needs p y (control_view t.control) in
    let same : frames_of c.as_slice-frames.result.now ≡ map frame_view t.frames = ap (map frame_view) c.as_slice-frames.ensures in
    let shown = subst (IsFound (scope_in s) (bounds_in s) (need (frames_of c.as_slice-frames.result.now))) c.in-Some.is c.in_ok-show_control.ensures in
    let able = subst (λ (l : List Frame). CanBeShown (scope_in s) (bounds_in s) (need l)) same shown.showable in
    let e = c.in_err-frames-in-Some.field-0.0 in
    let rest = subst (λ (l : List Frame). IsUnshownFrom (scope_in s) (bounds_in s) c.in_ok-next.next (reverse (frames_need p y l)) e) same c.in_err-frames-in-Some.ensures.unshown in
    let r = c.from_residual-in_err-frames-in-Some in
    let q = err_from_is_err_and r.result r.ensures.1 in
    passed (IsUnshownFrom (scope_in s) (bounds_in s) c.args.line (thread_needs p y (thread_view t))) r.result q.0 e q.1 q.2
    (unshown_later (scope_in s) (bounds_in s) c.args.line c.in_ok-next.next (need (map frame_view t.frames) ∷ []) (reverse (frames_need p y (map frame_view t.frames))) e c.in_ok-next.ensures (able, tt) rest)

pub returns-in_err-certs-in-Some-clause-unshown : goal.returns-in_err-certs-in-Some-clause-unshown
returns-in_err-certs-in-Some-clause-unshown c =
    let s = c.args.search.now in
    let r = c.from_residual-in_err-certs-in-Some in
    let q = err_from_is_err_and r.result r.ensures.1 in
    spent (scope_in s) (bounds_in s) c.args.line (thread_needs (program_in s) (typing_in s) (thread_view c.args.thread.now)) r.result q.0 q.1 q.2

pub returns-in_ok-certs-in-Some-clause-found : goal.returns-in_ok-certs-in-Some-clause-found
returns-in_ok-certs-in-Some-clause-found c =
    let s = c.args.search.now in
    let t = c.args.thread.now in
    let same : frames_of c.as_slice-frames.result.now ≡ map frame_view t.frames = ap (map frame_view) c.as_slice-frames.ensures in
    subst (ThreadFound s (thread_view t)) (sym c.in_ok-certs-in-Some.ensures)
    (thread_found (program_in s) (typing_in s) (scope_in s) (bounds_in s) (thread_view t) (frames_of c.as_slice-frames.result.now) c.in-Some.control c.in_ok-frames-in-Some.frames same
    (subst (IsFound (scope_in s) (bounds_in s) (control_needs (program_in s) (typing_in s) (control_view t.control) (frames_of c.as_slice-frames.result.now))) c.in-Some.is c.in_ok-show_control.ensures)
    c.in_ok-frames-in-Some.ensures.found)
