-- Words of sending patterns by tests of the values of their variables.
use Rattle.std.proofs.Common.{◌≡◌, ℕ, ◌&&◌, ap}
use Rattle.pat_words_spec.specs.Patterns.{Pat, is_nullable, is_inhabited}
use Rattle.pat_semantics_spec.specs.Programs.{Sending}
use Rattle.pat_inclusion_spec.specs.Values.{Scope, pattern_of, is_formed}
use Rattle.pat_inclusion_spec.specs.Under.{nullable_under, inhabited_under}
use Rattle.pat_inclusion_laws.proofs.UnderLaws.{nullable_subst, inhabited_subst}
use Rattle.pat_derivation_spec.specs.Demands.{drops_as}
use Rattle.pat_derivation_spec.specs.Rules.{has_a_word}

pub word_tested : (s : Scope) (e : Pat) → has_a_word s Sending e ≡ inhabited_under (λ k. is_inhabited (pattern_of s k)) e
word_tested s e = inhabited_subst (pattern_of s) e

pub drop_tested : (s : Scope) (i : ℕ) (e : Pat) → drops_as s i Sending e ≡ (is_formed s i e && nullable_under (λ k. is_nullable (pattern_of s k)) e)
drop_tested s i e = ap (λ b. is_formed s i e && b) (nullable_subst (pattern_of s) e)
