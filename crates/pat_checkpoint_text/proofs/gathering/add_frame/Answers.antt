use Rattle.std.proofs.Common.{sym, ap, subst}
use Rattle.std.specs.Prelude.{option_and_then}
use Rattle.std.proofs.lemmas.Result.{err_from_is_err_and}
use Rattle.pat_core.specs.Views.{program_view}
use Rattle.pat_checkpoint_spec.specs.text.LineReading.{read_frame, add_frame}
use Rattle.pat_checkpoint_data.specs.declared.data.Checkpoint.{Checkpoint}
use Rattle.pat_checkpoint_text.specs.Views.{frame_view}
use Rattle.pat_checkpoint_text.specs.Gathered.{Grows}
use Rattle.pat_checkpoint_text.proofs.Frames.{frame_put, frame_exits}
use Rattle.pat_checkpoint_text.proofs.Grown.{exits}
use Rattle.pat_checkpoint_text.proofs.gathering.add_frame.Goals as goal

pub returns-in_err-line : goal.returns-in_err-line
returns-in_err-line c = λ lines g.
    let read = read_frame (program_view c.args.program.now) c.args.text.now in
    let q = err_from_is_err_and c.from_residual.result c.from_residual.ensures.1 in
    exits frame_view read (option_and_then (add_frame lines) read) c.args.x.now c.from_residual.result q.0 c.in_err-line.field-0.0 q.1 q.2 (ap (option_and_then (add_frame lines))) c.in_err-line.ensures

pub returns-in_err-frame_on_last : goal.returns-in_err-frame_on_last
returns-in_err-frame_on_last c = λ lines g.
    let r = c.from_residual-in_err-frame_on_last in
    let q = err_from_is_err_and r.result r.ensures.1 in
    let own : Checkpoint = record c.args.x.now { config = record c.args.x.now.config { threads = c.frame_on_last.new.threads } } in
    subst (λ o. Grows o own r.result) (sym (ap (option_and_then (add_frame lines)) c.in_ok-line.ensures))
    (frame_exits lines c.args.x.now g c.frame_on_last.result c.in_ok-line.line c.frame_on_last.new.threads own r.result q.0 c.in_err-frame_on_last.field-0.0 q.1 q.2 c.in_err-frame_on_last.ensures)

pub returns : goal.returns
returns c = λ lines g.
    let own : Checkpoint = record c.args.x.now { config = record c.args.x.now.config { threads = c.frame_on_last.new.threads }; part_certs = c.cert_on_last.new.part_certs } in
    subst (λ o. Grows o own c.cert_on_last.result) (sym (ap (option_and_then (add_frame lines)) c.in_ok-line.ensures))
    (frame_put lines c.args.x.now g c.in_ok-line.line c.frame_on_last.new.threads c.cert_on_last.new.part_certs c.cert_on_last.result c.in_ok-frame_on_last.ensures c.cert_on_last.ensures)
