-- The configuration that a replay goes through, however it is kept.
use Rattle.pat_semantics_spec.specs.Programs.{Program}
use Rattle.pat_semantics_spec.specs.Configs.{Config}
use Rattle.pat_semantics_spec.specs.Steps.{Step}
use Rattle.pat_reduce.specs.Views.{config_view}
use Rattle.pat_replay.specs.declared.kept.Kept.{Kept as CodeKept}
use Rattle.pat_replay.specs.declared.kept.Kept.TheVariants.{InTables, Plain}
use Rattle.pat_replay.specs.Naming.{CanTake, Knows}

abbrev pub kept_view : CodeKept → Config
kept_view (InTables t) = t.state.config
kept_view (Plain c) = config_view c

-- where names are counted, all are
abbrev pub IsKept : CodeKept → Type 0
IsKept (InTables t) = Knows t.names t.state.config
IsKept (Plain c) = Unit {0}

-- as it is kept, the step can be taken, or refused
abbrev pub TakesAsKept : Program → CodeKept → Step → Type 0
TakesAsKept p (InTables t) k = CanTake p t.state k
TakesAsKept p (Plain c) k = Unit {0}
