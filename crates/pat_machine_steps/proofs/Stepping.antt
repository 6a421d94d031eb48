-- Acts, as the code has them.
use Rattle.std.proofs.Common.{◌≡◌, Some, refl}
use Rattle.pat_semantics_spec.specs.Steps.{ActSend, ActSpawn}
use Rattle.pat_reduce.specs.declared.history.Act.{Act}
use Rattle.pat_reduce.specs.declared.history.Act.TheVariants as act
use Rattle.pat_reduce.specs.Views.{act_view}

pub sends : (a : Act) → Some (act_view a) ≡ Some ActSend → a ≡ act.Send
sends act.Send h = refl
sends _ h = cc

pub spawns : (a : Act) → Some (act_view a) ≡ Some ActSpawn → a ≡ act.Spawn
spawns act.Spawn h = refl
spawns _ h = cc
