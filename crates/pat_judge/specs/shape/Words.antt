-- The types of a signature, which stand in lists: words of the sending patterns of parameters, and the result.
use Rattle.std.specs.Prelude.{Bool, true, false, not, ◌&&◌, ◌||◌, List, [], ◌∷◌, Option, Some, None}
use Rattle.pat_semantics_spec.specs.Programs.{Sort, Program}
use Rattle.pat_type_system_spec.specs.Types.{MailboxType, TypeOf}
use Rattle.pat_inclusion_spec.specs.Values.{Scope}
use Rattle.pat_derivation_spec.specs.Same.{is_same_type}
use Rattle.pat_derivation_spec.specs.Derivations.{Derivation}
use Rattle.pat_derivation_spec.specs.Conditions.{Place, is_first}
use Rattle.pat_derivation_spec.specs.Rules.{param_has_word, type_has_word, signature_has_words}
use Rattle.pat_obligations.specs.Listed.{Signature}

abbrev pub listed_have_words : Scope → List (Option MailboxType) → List Sort → Bool
listed_have_words s ts [] = true
listed_have_words s [] (a ∷ more) = true
listed_have_words s (t ∷ ts) (a ∷ more) = param_has_word s t && listed_have_words s ts more

-- so have those of the signature, if it is there
abbrev pub signature_words : Scope → List Sort → Option Signature → Bool
signature_words s ss None = false
signature_words s ss (Some g) = listed_have_words s g.params ss && type_has_word s g.result

-- the type is the result's, if the signature is there
abbrev pub agrees_with : TypeOf → Option Signature → Bool
agrees_with t None = false
agrees_with t (Some g) = is_same_type t g.result

-- so have those of the signature, at the first node of its function
abbrev pub first_words : Program → Derivation → Place → Bool
first_words p d h = not (is_first h) || signature_has_words p d h
