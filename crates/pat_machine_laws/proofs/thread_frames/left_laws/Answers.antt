use Rattle.pat_machine_laws.proofs.Steps.{beside_leaves}
use Rattle.pat_machine_laws.proofs.Sending.{send_leaves}
use Rattle.pat_machine_laws.proofs.ThreadFramesLeft.{threads_are_left}
use Rattle.pat_machine_laws.proofs.thread_frames.left_laws.Goals as goal

pub returns : goal.returns
returns c = record { threads = threads_are_left; beside = beside_leaves; send = send_leaves }
