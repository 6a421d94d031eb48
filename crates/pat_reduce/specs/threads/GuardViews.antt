-- The guard that the code sees, in the definitions.
use Rattle.std.specs.Prelude.{map}
use Rattle.pat_core.specs.Views.{clause_view}
use Rattle.pat_reduce.specs.declared.threads.guards.GuardRef.{GuardRef}
use Rattle.pat_reduce_values.specs.ValueViews.{env_view}
use Rattle.pat_reduce.specs.threads.ThreadActs.{Guarding}

abbrev pub guard_view : GuardRef → Guarding
guard_view g = record { mailbox = g.mailbox; free = g.free; receives = map clause_view g.receives.now; env = env_view g.env.now }
