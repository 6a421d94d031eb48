use Rattle.std.proofs.Common.{◌≡◌, length, take, ◌-◌, ◌≤◌}
use Rattle.std.specs.Io.KnownBytes.{Appends}
use Rattle.pat_session.proofs.output.write_text.Given as goal

abbrev pub invariant-loop-done : goal.invariant-loop-done
invariant-loop-done g l = record {
  within : l.done ≤ length l.text;
  taken : Appends (g.K.Sink.taken l.fn.sink) (g.K.Sink.taken l.sink) (take l.done l.text);
  handed : Appends (g.K.Sink.handed l.fn.sink) (g.K.Sink.handed l.sink) (take l.done l.text);
  unfailed : g.K.Sink.faults l.sink ≡ g.K.Sink.faults l.fn.sink;
}

abbrev pub decreases-loop-done : goal.decreases-loop-done
decreases-loop-done g l = length l.text - l.done
