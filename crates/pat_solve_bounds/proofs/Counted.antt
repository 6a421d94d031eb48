-- The variables of signatures, counted.
use Rattle.std.proofs.Common.{◌≡◌, ℕ, suc, ◌+◌, List, [], ◌∷◌, length, length-append, Some, None, refl, ap₂, ◌∙◌}
use Rattle.pat_semantics_spec.specs.Programs.{Sort, BaseSort, MailboxSort, Function, Program}
use Rattle.pat_type_schemes_spec.specs.Signatures.{Origin, OfParameter, OfResult, omitted, params_omitted, function_vars, functions_vars, signature_vars, omits}
use Rattle.pat_solve_bounds.specs.productive.Counts.{omitted_in, omitted_by, omitted_by_all}

one_counted : (o : Origin) (s : Sort) → length (omitted o s) ≡ omits s
one_counted o (BaseSort b) = refl
one_counted o (MailboxSort i q None) = refl
one_counted o (MailboxSort i q (Some e)) = refl

params_counted : (f k : ℕ) (ss : List Sort) → length (params_omitted f k ss) ≡ omitted_in ss
params_counted f k [] = refl
params_counted f k (s ∷ ss) =
    length-append (omitted (OfParameter f k) s) (params_omitted f (suc k) ss)
    ∙ ap₂ (λ a b. a + b) (one_counted (OfParameter f k) s) (params_counted f (suc k) ss)

function_counted : (f : ℕ) (g : Function) → length (function_vars f g) ≡ omitted_by g
function_counted f g =
    length-append (params_omitted f 0 g.params) (omitted (OfResult f) g.result)
    ∙ ap₂ (λ a b. a + b) (params_counted f 0 g.params) (one_counted (OfResult f) g.result)

functions_counted : (f : ℕ) (gs : List Function) → length (functions_vars f gs) ≡ omitted_by_all gs
functions_counted f [] = refl
functions_counted f (g ∷ gs) =
    length-append (function_vars f g) (functions_vars (suc f) gs)
    ∙ ap₂ (λ a b. a + b) (function_counted f g) (functions_counted (suc f) gs)

pub signatures_counted : (p : Program) → length (signature_vars p) ≡ omitted_by_all p.functions
signatures_counted p = functions_counted 0 p.functions
