-- The tests of values answer for the patterns of their variables.
use Rattle.std.proofs.Common.{◌≡◌, ℕ, zero, suc, Bool, false, ◌&&◌, ◌||◌, List, [], ◌∷◌, map, option_map, Some, None, Option, refl, sym, ap, ap₂, ◌∙◌, subst}
use mathlib.Core.Path.{fun_ext}
use Rattle.std.specs.Prelude.{slice_get}
use Rattle.std.proofs.lemmas.Option.{slice_get-map}
use Rattle.pat_words_spec.specs.Patterns.{Pat, Zero, One, Tag, Sum, Prod, Star, Var, is_nullable, is_inhabited, subst_of}
use Rattle.pat_inclusion_spec.specs.Values.{Scope, VarLine, value_pattern, line_pattern, var_at, pattern_of}
use Rattle.pat_inclusion_spec.specs.Under.{nullable_under, inhabited_under}
use Rattle.pat_inclusion_laws.proofs.UnderLaws.{nullable_subst, inhabited_subst}
use Rattle.pat_certificate_values.specs.declared.words.Tests.{Tests}
use Rattle.pat_certificate_values.specs.Tested.{or_no, flag_at, value_tests, IsTested}

at_line : (test : Pat → Bool) (s : Scope) (o : Option VarLine) → test Zero ≡ false → or_no (option_map (λ v. test (value_pattern (s.tags v.interface) v.value)) o) ≡ test (line_pattern s.tags o)
at_line test s None z = sym z
at_line test s (Some v) z = refl

flag_is : (test : Pat → Bool) (s : Scope) → test Zero ≡ false → (k : ℕ) → flag_at (value_tests test s) k ≡ test (pattern_of s k)
flag_is test s z zero = sym z
flag_is test s z (suc k) =
    ap or_no (slice_get-map (λ v. test (value_pattern (s.tags v.interface) v.value)) s.vars k) ∙ at_line test s (slice_get s.vars k) z

flags_are : (test : Pat → Bool) (s : Scope) (flags : List Bool) → test Zero ≡ false → flags ≡ value_tests test s → flag_at flags ≡ (λ k. test (pattern_of s k))
flags_are test s flags z e = ap flag_at e ∙ fun_ext (flag_is test s z)

pub nullable_tested : (t : Tests) (s : Scope) (e : Pat) → IsTested s t → nullable_under (flag_at t.nullable) e ≡ is_nullable (subst_of (pattern_of s) e)
nullable_tested t s e h =
    ap (λ f. nullable_under f e) (flags_are is_nullable s t.nullable refl h.nullable) ∙ sym (nullable_subst (pattern_of s) e)

pub inhabited_tested : (t : Tests) (s : Scope) (e : Pat) → IsTested s t → inhabited_under (flag_at t.inhabited) e ≡ is_inhabited (subst_of (pattern_of s) e)
inhabited_tested t s e h =
    ap (λ f. inhabited_under f e) (flags_are is_inhabited s t.inhabited refl h.inhabited) ∙ sym (inhabited_subst (pattern_of s) e)

-- without variables no flags are asked
pub unflagged : (e : Pat) → inhabited_under (flag_at []) e ≡ is_inhabited e
unflagged Zero = refl
unflagged One = refl
unflagged (Tag m) = refl
unflagged (Sum e f) = ap₂ (λ a b. a || b) (unflagged e) (unflagged f)
unflagged (Prod e f) = ap₂ (λ a b. a && b) (unflagged e) (unflagged f)
unflagged (Star e) = refl
unflagged (Var zero) = refl
unflagged (Var (suc k)) = refl
