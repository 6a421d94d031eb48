-- What the examples show of the conditions of typings: that programs meet them.
use Rattle.pat_semantics_spec.specs.Programs.{Program}
use Rattle.pat_semantics_spec.specs.WellFormed.{WellFormed}
use Rattle.pat_semantics_spec.specs.Faults.{IsSafe}
use Rattle.pat_type_system_spec.specs.Typings.{IsTypable}

-- a well-formed program that can be typed, and that is safe
pub record IsWitness (p : Program) : Type 0 where
  pub formed : WellFormed p
  pub typable : IsTypable p
  pub safe : IsSafe p
