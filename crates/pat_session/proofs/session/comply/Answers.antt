use Rattle.std.proofs.Common.{subst}
use Rattle.pat_session.specs.Ports.{SourceState, SinkState, source_state, sink_state, Writes}
use Rattle.pat_session.proofs.Allows.{not_a_write_fault}
use Rattle.pat_session.proofs.Calls.{call_command}
use Rattle.pat_session.proofs.session.comply.Goals as goal

pub answer_to-requires-clause-asked : goal.answer_to-requires-clause-asked
answer_to-requires-clause-asked g c = let read = c.in-Ok.ensures.ok in (c.args.command, read.0, read.2)

pub written-requires : goal.written-requires
written-requires g c =
    let read = c.in-Ok.ensures.ok in
    not_a_write_fault c.args.command read.0 c.in-Ok-answer_to.answer.text.items c.in-Ok-answer_to.answer.status (c.in-Ok-answer_to.ensures c.args.command read.0 read.2)

pub returns-in-Ok-answer_to-clause-call : goal.returns-in-Ok-answer_to-clause-call
returns-in-Ok-answer_to-clause-call g c = λ words asked.
    let read = c.in-Ok.ensures.ok in
    let had : SourceState = source_state g.S.Source.rest g.S.Source.faults g.S.Source.reach c.args.source.now in
    let left : SourceState = source_state g.S.Source.rest g.S.Source.faults g.S.Source.reach c.read_asked.new.source in
    let old : SinkState = sink_state g.K.Sink.taken g.K.Sink.handed g.K.Sink.faults c.args.sink.now in
    let new : SinkState = sink_state g.K.Sink.taken g.K.Sink.handed g.K.Sink.faults c.written.new.sink in
    let wrote = subst (λ l. Writes old new l c.in-Ok-answer_to.answer.status c.written.result) c.as_slice.ensures.value c.written.ensures in
    call_command words had left old new c.in-Ok-answer_to.answer.text.items c.in-Ok-answer_to.answer.status c.written.result wrote
    c.args.command read.0 read.1 (c.in-Ok-answer_to.ensures c.args.command read.0 read.2) c.in-Ok.ensures.faults c.in-Ok.ensures.one_end read.3 asked
