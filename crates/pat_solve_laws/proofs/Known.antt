-- The laws of inference, of typings and of the rules that the proofs here stand on.
use Rattle.pat_type_system_laws.specs.Laws.{BoundIsUnnamed}
use Rattle.pat_derivation_laws.specs.Laws.{ScopeOfBody, ScopeOfPart, EmptyReads, AliasReads, PayloadReads, CoversReads}
use Rattle.pat_infer_spec.specs.Inclusions.{InclusionsShown}
use Rattle.pat_infer_spec.specs.Laws.{SolutionTypes}
use Rattle.pat_infer_spec.specs.Shapes.{FoundFits, NeedsOrdered}

pub record Known : Type 0 where
  pub unbound : BoundIsUnnamed
  pub body : ScopeOfBody
  pub part : ScopeOfPart
  pub empty : EmptyReads
  pub alias : AliasReads
  pub payload : PayloadReads
  pub covers : CoversReads
  pub types : SolutionTypes
  pub fits : FoundFits
  pub ordered : NeedsOrdered
  pub shown : InclusionsShown
