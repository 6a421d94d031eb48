-- Steps from a typed configuration reach no fault, and a well-formed program that can be typed is safe.
use Rattle.std.proofs.Common.{◌≡◌, ℕ, List, Some}
use Rattle.pat_semantics_spec.specs.Programs.{Program}
use Rattle.pat_semantics_spec.specs.Configs.{Config, start}
use Rattle.pat_type_system_spec.specs.Interfaces.{interfaces_along}
use Rattle.pat_semantics_spec.specs.Steps.{Step}
use Rattle.pat_semantics_spec.specs.Runs.{run_from}
use Rattle.pat_type_system_spec.specs.Typed.{IsTyped}
use Rattle.pat_semantics_spec.specs.WellFormed.{WellFormed}
use Rattle.pat_semantics_spec.specs.Faults.{Fault, IsSafe}
use Rattle.pat_type_system_spec.specs.Typings.{Typing, IsTypable}
use Rattle.pat_safety_laws.proofs.Preserved.{run_keeps, run_typed}
use Rattle.pat_safety_laws.proofs.Progress.{no_fault}

pub typable_safe : (p : Program) → WellFormed p → IsTypable p → IsSafe p
typable_safe p wf y = λ ks c h f. no_fault p y.0 (interfaces_along p (start p) ks (λ a. 0)) c wf (run_typed p y.0 (λ a. 0) ks c wf y.1 h) f

pub typed_stays : (p : Program) (y : Typing) (interfaces : ℕ → ℕ) (ks : List Step) (c d : Config) → WellFormed p → IsTyped p y interfaces c → run_from p c ks ≡ Some d → Fault p d → ⊥
typed_stays p y interfaces ks c d wf typed h f = no_fault p y (interfaces_along p c ks interfaces) d wf (run_keeps p y interfaces ks c d wf typed h) f
