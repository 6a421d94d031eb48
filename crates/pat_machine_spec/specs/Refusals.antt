-- Which entry of a history is refused.
use Rattle.std.specs.Prelude.{◌≡◌, ℕ, zero, suc, List, [], ◌∷◌, Some, None}
use Rattle.pat_semantics_spec.specs.Programs.{Program}
use Rattle.pat_semantics_spec.specs.Configs.{Config}
use Rattle.pat_semantics_spec.specs.Runs.{Entry, entry_steps, entry_from}

-- from this configuration, the entry at place i is the first that has no step, or has one that isn't enabled after those before it
abbrev pub IsRefusedAt : Program → Config → List Entry → ℕ → Type 0
IsRefusedAt p c [] i = ⊥
IsRefusedAt p c (e ∷ es) zero = entry_from p c (entry_steps e) ≡ None
IsRefusedAt p c (e ∷ es) (suc i) = (d : Config) × (entry_from p c (entry_steps e) ≡ Some d) × IsRefusedAt p d es i
