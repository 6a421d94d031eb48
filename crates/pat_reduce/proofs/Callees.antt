-- What a callee gives is what its caller gives.
use Rattle.std.proofs.Common.{◌≡◌, Option, Result, subst}
use Rattle.pat_reduce_values.specs.declared.error.StepError.{StepError}
use Rattle.pat_reduce_values.specs.Results.{Gives}

pub gives_same : {A B : Type 0} (view : A → B) (o o' : Option B) (r : Result A StepError) → o ≡ o' → Gives view o r → Gives view o' r
gives_same view o o' r same gives = subst (λ p. Gives view p r) same gives
