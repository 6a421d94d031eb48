-- What holds where something was put.
use Rattle.std.proofs.Common.{◌≡◌, ℕ, List, ◌++◌, ap₂, ◌∙◌, append_assoc}
use Rattle.std.specs.Prelude.{Result, OnOk}
use Rattle.std.specs.declared.result.Result.TheVariants.{Ok, Err}

-- what follows from what holds where nothing failed
pub also : {A E P Q : Type 0} (r : Result A E) → (P → Q) → OnOk r P → OnOk r Q
also (Ok x) f h = f h
also (Err e) f h = tt

-- one text and then another
pub joined : (old mid new own rest same : List ℕ) → mid ≡ old ++ own → rest ≡ same → new ≡ mid ++ rest → new ≡ old ++ (own ++ same)
joined old mid new own rest same put is e = e ∙ ap₂ (λ m t. m ++ t) put is ∙ append_assoc old own same
