-- How the threads of a configuration stand.
use Rattle.std.specs.Prelude.{◌≡◌, ℕ, [], None}
use Rattle.pat_semantics_spec.specs.Programs.{Program}
use Rattle.pat_semantics_spec.specs.Configs.{Config}
use Rattle.pat_semantics_spec.specs.Steps.{Step, step}
use Rattle.pat_semantics_laws.specs.Laws.{IsEnabled}
use Rattle.pat_machine_spec.specs.Opens.{IsOpen}
use Rattle.pat_machine_states.specs.declared.prospect.Prospect.{Prospect}
use Rattle.pat_machine_states.specs.declared.prospect.Prospect.TheVariants as prospect

-- all ended; or none can step; or steps are enabled and none is open; or a step is open
abbrev pub HasProspect : Program → Config → (limit : ℕ) → Prospect → Type 0
HasProspect p c limit prospect.Over = c.threads ≡ []
HasProspect p c limit prospect.Stuck = (c.threads ≡ [] → ⊥) × ((k : Step) → step p c k ≡ None)
HasProspect p c limit prospect.Full = ((k : Step) × IsEnabled p c k) × ((k : Step) → IsOpen p c limit k → ⊥)
HasProspect p c limit prospect.Open = (k : Step) × IsOpen p c limit k
