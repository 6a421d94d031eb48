-- Histories that a reader takes: each number has 32 bits, and no shared act is a local step.
use Rattle.std.specs.Prelude.{◌≡◌, true, List, Option, Some, None}
use Rattle.std.specs.List.{AllByRecursion}
use Rattle.pat_semantics_spec.specs.Steps.{Act, ActReceive}
use Rattle.pat_semantics_spec.specs.Runs.{Entry, IsSharedOrNone}
use Rattle.pat_texts_spec.specs.Numbers.{is_number}

-- the message that the act names, if it names one, has such a number
abbrev pub NamesNumber : Option Act → Type 0
NamesNumber (Some (ActReceive m)) = is_number m ≡ true
NamesNumber _ = Unit {0}

pub record IsReadable (e : Entry) : Type 0 where
  pub worker : is_number e.worker ≡ true
  pub thread : is_number e.thread ≡ true
  pub local_steps : is_number e.local_steps ≡ true
  pub message : NamesNumber e.shared
  pub shared : IsSharedOrNone e.shared

abbrev pub AreReadable : List Entry → Type 0
AreReadable es = AllByRecursion IsReadable es
