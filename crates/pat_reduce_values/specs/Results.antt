-- What a refusable step in place does, and what is computed for it.
use Rattle.std.specs.Prelude.{◌≡◌, Option, Some, None, Result}
use Rattle.std.specs.declared.result.Result.TheVariants.{Ok, Err}
use Rattle.pat_reduce_values.specs.declared.error.StepError.{StepError}
use Rattle.pat_reduce_values.specs.declared.error.StepError.TheVariants.{Disabled, NoMemory}

-- a step in place, where `after` is what it gives, if it is enabled: it was taken, or it isn't enabled, or memory ran out; an `Err` changes nothing
abbrev pub StepGives : {A B : Type 0} → (A → B) → Option B → A → A → Result (Unit {0}) StepError → Type 0
StepGives view after old new (Ok _) = after ≡ Some (view new)
StepGives view after old new (Err Disabled) = (after ≡ None) × (new ≡ old)
StepGives view after old new (Err NoMemory) = new ≡ old

-- the view of the result is what is there to be computed, or there is nothing, or memory ran out
abbrev pub Gives : {A B : Type 0} → (A → B) → Option B → Result A StepError → Type 0
Gives view o (Ok x) = o ≡ Some (view x)
Gives view o (Err Disabled) = o ≡ None
Gives view o (Err NoMemory) = Unit {0}
