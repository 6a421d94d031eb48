use Rattle.pat_machine_laws.proofs.Backs.{place_is_taken, same_is_back}
use Rattle.pat_machine_laws.proofs.thread_frames.back_laws.Goals as goal

pub returns : goal.returns
returns c = record { place = place_is_taken; same = same_is_back }
