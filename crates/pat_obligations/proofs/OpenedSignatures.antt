-- The signatures that one pass makes are those of the typing with variables.
use Rattle.std.proofs.Common.{◌≡◌, ℕ, zero, suc, ◌+◌, List, [], ◌∷◌, Option, Some, None, option_map, refl, sym, ap, ◌∙◌, subst, arith}
use Rattle.std.specs.Prelude.{slice_get, option_and_then}
use Rattle.pat_words_spec.specs.Patterns.{Var}
use Rattle.pat_semantics_spec.specs.Programs.{Sort, Function, Program, function_at}
use Rattle.pat_type_system_spec.specs.Typings.{sort_type, result_of, param_type, result_type}
use Rattle.pat_type_schemes_spec.specs.Signatures.{omits, number_at, result_number, function_number, first_number}
use Rattle.pat_type_schemes_spec.specs.Typings.{param_pattern_open, result_pattern_open}
use Rattle.pat_derivation_spec.specs.Derivations.{Derivation, written_typing}
use Rattle.pat_obligations.specs.of_terms.Opened.{opened_params, opened, opened_from}
use Rattle.pat_obligations.proofs.Listing.{joined, StandAt}
use Rattle.pat_obligations.proofs.Demanded.{IsSignatureOf}

param_at : (k : ℕ) (ss : List Sort) (j : ℕ) → option_and_then (sort_type (Var (number_at k ss j))) (slice_get ss j) ≡ joined (slice_get (opened_params k ss) j)
param_at k [] j = refl
param_at k (s ∷ ss) zero = refl
param_at k (s ∷ ss) (suc j) = param_at (k + omits s) ss j

opened_at : (k : ℕ) (gs : List Function) (f : ℕ) → slice_get (opened_from k gs) f ≡ option_map (opened (function_number k gs f)) (slice_get gs f)
opened_at k [] f = refl
opened_at k (g ∷ gs) zero = refl
opened_at k (g ∷ gs) (suc f) = opened_at (result_number k g + omits g.result) gs f

-- the signature at each number is that of its function
pub signatures_are : (p : Program) (d : Derivation) (f : ℕ) → IsSignatureOf (written_typing p d) f (function_at p f) (slice_get (opened_from 1 p.functions) f)
signatures_are p d f =
    subst (IsSignatureOf (written_typing p d) f (function_at p f)) (sym (opened_at 1 p.functions f)) (go (function_at p f) refl)
  where
    go : (o : Option Function) → function_at p f ≡ o → IsSignatureOf (written_typing p d) f o (option_map (opened (first_number p f)) o)
    go None q = tt
    go (Some g) q = (params, result)
      where
        params : StandAt (param_type (written_typing p d) f g) 0 (opened_params (first_number p f) g.params)
        params j =
            let e : 0 + j ≡ j = omega arith in
            ap (param_type (written_typing p d) f g) e
            ∙ ap (λ o. option_and_then (sort_type (param_pattern_open p f j o)) (slice_get g.params j)) q
            ∙ param_at (first_number p f) g.params j

        result : result_of (Var (result_number (first_number p f) g)) g.result ≡ result_type (written_typing p d) f g
        result = sym (ap (λ o. result_of (result_pattern_open p f o) g.result) q)
