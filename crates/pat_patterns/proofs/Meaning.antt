-- What a substitution gives, in words.
use Rattle.std.proofs.Common.{◌≡◌, ℕ, ◌↔◌, sym, subst}
use Rattle.pat_words_spec.specs.Words.{Word}
use Rattle.pat_words_spec.specs.Patterns.{Pat, In, subst_of, no_values}
use Rattle.pat_words_spec.specs.Substitutions.{InWith}
use Rattle.pat_words_laws.proofs.FormLaws.{subst_to, subst_from}

-- a pattern that the substitution gives has the words under the values
pub subst_words : (r e : Pat) (values : ℕ → Pat) → r ≡ subst_of values e → (w : Word) → In r w ↔ InWith values e w
subst_words r e values q w =
    (λ h. subst_to values no_values e w (subst (λ p. In p w) q h), λ i. subst (λ p. In p w) (sym q) (subst_from values no_values e w i))
