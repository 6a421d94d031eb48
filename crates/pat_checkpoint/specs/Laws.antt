-- What runs from the start of a program owe to `write`, and histories that go on from a checkpoint.
use Rattle.std.specs.Prelude.{◌≡◌, ℕ, ◌<◌, List, length, Some}
use Rattle.std.specs.List.{AllByRecursion}
use Rattle.pat_semantics_spec.specs.Programs.{Program}
use Rattle.pat_semantics_spec.specs.WellFormed.{WellFormed}
use Rattle.pat_semantics_spec.specs.Configs.{Config}
use Rattle.pat_semantics_spec.specs.Runs.{Entry, replay_from, Outcome}
use Rattle.pat_derivation_spec.specs.Derivations.{Derivation}
use Rattle.pat_resolver_spec.specs.Places.{Places}
use Rattle.pat_resolver_spec.specs.Resolved.{IsResolved}
use Rattle.pat_checkpoint_spec.specs.Checkpoints.{Checkpoint}
use Rattle.pat_checkpoint_spec.specs.Checked.{IsChecked}
use Rattle.pat_checkpoint_spec.specs.Resumed.{interfaces_after_history, IsResumed, start_checkpoint}
use Rattle.pat_checkpoint_spec.specs.text.Reading.{ReadsAs}
use Rattle.pat_checkpoint.specs.Strings.{HasSpelledStrings}

-- a run from the start of a program leads to mailboxes of interfaces of the program
abbrev pub StartedInterfacesAreThere : Type 0
StartedInterfacesAreThere =
    (p : Program) (d : Derivation) (steps : ℕ) (es : List Entry) (c : Config) (interfaces : List ℕ) (o : Outcome)
    → WellFormed p
    → IsResumed p d (start_checkpoint p) steps es c interfaces o
    → AllByRecursion (λ i. i < length p.interfaces) interfaces

-- so does a history that goes on from a checked checkpoint, if this was read of a text
abbrev pub ReplayedInterfacesAreThere : Type 0
ReplayedInterfacesAreThere =
    (p : Program) (d : Derivation) (text : List ℕ) (x : Checkpoint) (es : List Entry) (c : Config)
    → WellFormed p
    → IsChecked p d x
    → ReadsAs p text x
    → replay_from p x.config es ≡ Some c
    → AllByRecursion (λ i. i < length p.interfaces) (interfaces_after_history p x es c)

-- and its strings are ones that a program's text can have
abbrev pub ReplayedStringsAreSpelled : Type 0
ReplayedStringsAreSpelled =
    (p : Program) (q : Places) (text : List ℕ) (x : Checkpoint) (es : List Entry) (c : Config)
    → IsResolved p q
    → ReadsAs p text x
    → replay_from p x.config es ≡ Some c
    → HasSpelledStrings c
