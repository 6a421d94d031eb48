-- A log, after an entry was added or not.
use Rattle.std.proofs.Common.{◌≡◌, ℕ, List, [], ◌∷◌, ◌++◌, refl, sym, ◌∙◌, Result, Ok, Err}
use Rattle.std.proofs.lemmas.List.{append-nil}
use Rattle.std.proofs.lemmas.List.Elements.{All-nil, All-cons}
use Rattle.std.specs.Result.{OnOk, OnErr}
use Rattle.pat_turn.specs.Shown.{GoesOn}

module _ {E : Type 0} (by : E → ℕ) where
  pub goes_on : {X F : Type 0} (r : Result X F) (old new : List E) (e : E) → OnOk r (new ≡ old ++ e ∷ []) → OnErr r (new ≡ old) → GoesOn by (by e) old new
  goes_on (Ok x) old new e ok err = (e ∷ [], ok, All-cons (λ (d : E). by d ≡ by e) e [] refl (All-nil (λ (d : E). by d ≡ by e)))
  goes_on (Err x) old new e ok err = ([], err ∙ sym (append-nil old), All-nil (λ (d : E). by d ≡ by e))
