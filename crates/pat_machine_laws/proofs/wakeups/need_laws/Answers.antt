use Rattle.pat_machine_laws.proofs.Decides.{guard_decides, space_decides}
use Rattle.pat_machine_laws.proofs.wakeups.need_laws.Goals as goal

pub returns : goal.returns
returns c = record { guard = guard_decides; space = space_decides }
