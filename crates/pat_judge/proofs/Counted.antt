-- The variables of signatures are as many as the patterns that are left out.
use Rattle.std.proofs.Common.{◌≡◌, ℕ, suc, ◌+◌, ◌≤◌, ◌↔◌, Bool, true, ◌&&◌, List, [], ◌∷◌, ◌++◌, map, length, Some, None, refl, sym, ap, ap₂, ◌∙◌, subst, arith}
use Rattle.std.specs.Prelude.{nat_le}
use Rattle.std.specs.Cmp.{both_ways}
use Rattle.std.proofs.lemmas.Bool.{leb-true, le-leb}
use Rattle.pat_semantics_spec.specs.Programs.{Sort, BaseSort, MailboxSort, Function, Program}
use Rattle.pat_type_schemes_spec.specs.Signatures.{Origin, OfParameter, OfResult, Variable, omitted, params_omitted, function_vars, functions_vars, signature_vars, omits}
use Rattle.std.proofs.lemmas.List.{length-map}
use Rattle.pat_core.specs.declared.program.Function.{Function as CodeFunction}
use Rattle.pat_core.specs.declared.program.Program.{Program as CodeProgram}
use Rattle.pat_core.specs.Views.{function_view, program_view}
use Rattle.pat_derivations.specs.declared.data.Derivation.{Derivation as CodeDerivation}
use Rattle.pat_derivations.specs.Views.{var_view, derivation_view}
use Rattle.pat_judge.specs.shape.Counts.{omit_all, omit_in, omit_in_all}

join_length : (xs ys : List Variable) → length (xs ++ ys) ≡ length xs + length ys
join_length [] ys = omega arith
join_length (x ∷ xs) ys = let r = join_length xs ys in omega arith

omitted_length : (o : Origin) (s : Sort) → length (omitted o s) ≡ omits s
omitted_length o (BaseSort b) = refl
omitted_length o (MailboxSort i q None) = refl
omitted_length o (MailboxSort i q (Some e)) = refl

params_length : (f k : ℕ) (ss : List Sort) → length (params_omitted f k ss) ≡ omit_all ss
params_length f k [] = refl
params_length f k (s ∷ ss) =
    join_length (omitted (OfParameter f k) s) (params_omitted f (suc k) ss)
    ∙ ap₂ (λ a b. a + b) (omitted_length (OfParameter f k) s) (params_length f (suc k) ss)

functions_length : (f : ℕ) (gs : List Function) → length (functions_vars f gs) ≡ omit_in_all gs
functions_length f [] = refl
functions_length f (g ∷ gs) =
    join_length (function_vars f g) (functions_vars (suc f) gs)
    ∙ ap₂ (λ a b. a + b)
    (join_length (params_omitted f 0 g.params) (omitted (OfResult f) g.result) ∙ ap₂ (λ a b. a + b) (params_length f 0 g.params) (omitted_length (OfResult f) g.result))
    (functions_length (suc f) gs)

enough_are : (p : Program) (count : ℕ) (b : Bool) → ((b ≡ true) ↔ (omit_in_all p.functions ≤ count)) → b ≡ nat_le (length (signature_vars p)) count
enough_are p count b h =
    let same = functions_length 0 p.functions in
    both_ways b (nat_le (length (signature_vars p)) count)
    (λ y. le-leb (length (signature_vars p)) count (subst (λ n. n ≤ count) (sym same) (h.0 y)))
    (λ l. h.1 (subst (λ n. n ≤ count) same (leb-true (length (signature_vars p)) count l)))

pub enough_of : (p : CodeProgram) (d : CodeDerivation) (functions : List CodeFunction) (count : ℕ) (b : Bool) → functions ≡ p.functions → count ≡ length d.vars → ((b ≡ true) ↔ (omit_in_all (map function_view functions) ≤ count)) → b ≡ nat_le (length (signature_vars (program_view p))) (length (derivation_view d).vars)
enough_of p d functions count b fs cs h =
    enough_are (program_view p) count b (subst (λ xs. (b ≡ true) ↔ (omit_in_all (map function_view xs) ≤ count)) fs h)
    ∙ ap (nat_le (length (signature_vars (program_view p)))) (cs ∙ sym (length-map d.vars var_view))
