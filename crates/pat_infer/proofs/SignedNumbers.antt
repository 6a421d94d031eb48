-- The signatures that one pass makes are the definition's; calls by signatures.
use Rattle.std.proofs.Common.{◌≡◌, ℕ, zero, suc, ◌+◌, List, [], ◌∷◌, ◌++◌, length, map, Some, None, Result, Ok, Err, refl, sym, ap, ◌∙◌, subst}
use Rattle.std.specs.Prelude.{slice_get, option_and_then, not, IfOk}
use Rattle.pat_words_spec.specs.Patterns.{Var}
use Rattle.pat_semantics_spec.specs.Values.{Expr}
use Rattle.pat_semantics_spec.specs.Programs.{Sort, Function, Program}
use Rattle.pat_type_system_spec.specs.Types.{TypeOf}
use Rattle.pat_type_system_spec.specs.Typings.{sort_type, result_of, mailbox_args}
use Rattle.pat_type_schemes_spec.specs.NodeTypes.{Needs}
use Rattle.pat_type_schemes_spec.specs.Signatures.{omits, number_at, result_number, function_number, open_param, open_result}
use Rattle.pat_infer_spec.specs.Constraints.{AtNode, AliasRule, PolarityRule, unless, Found}
use Rattle.pat_infer_spec.specs.Needs.{args_needs}
use Rattle.pat_infer_spec.specs.Walk.{has_twice, result_agrees, result_constraints, call_found}
use Rattle.pat_core.specs.declared.program.Program.{Program as CodeProgram}
use Rattle.pat_types.specs.Views.{needs_view, node_type_view}
use Rattle.pat_types.specs.declared.types.MailboxType.{MailboxType}
use Rattle.pat_infer_problems.specs.Views.{placed_variable, placed_variable_of}
use Rattle.pat_infer_problems.specs.Growing.{settled}
use Rattle.pat_infer_problems.specs.declared.problem.Problem.{Problem}
use Rattle.pat_infer_problems.specs.declared.error.InferError.{InferError}
use Rattle.pat_infer_problems.specs.signatures.Opened.{Signature, open_params, params_end, signature_of, signature_end, signatures_from}
use Rattle.pat_infer_environments.specs.Types.{types_at}
use Rattle.pat_infer_terms.specs.Adding.{Adds}
use Rattle.pat_infer_terms.specs.Calls.{signed_call}
use Rattle.pat_infer_terms.proofs.Payloads.{needs_same, args_same}
use Rattle.pat_infer_problems.specs.Walked.{Infers}

-- the type at a place
pub params_at : (k : ℕ) (ss : List Sort) (j : ℕ) → types_at (open_params k ss) j ≡ option_and_then (sort_type (Var (number_at k ss j))) (slice_get ss j)
params_at k [] zero = refl
params_at k [] (suc j) = refl
params_at k (s ∷ ss) zero = refl
params_at k (s ∷ ss) (suc j) = params_at (k + omits s) ss j

-- the number behind the last
pub end_is : (k : ℕ) (ss : List Sort) → params_end k ss ≡ number_at k ss (length ss)
end_is k [] = refl
end_is k (s ∷ ss) = end_is (k + omits s) ss

-- a function's signature
pub record SignedAs (k : ℕ) (gs : List Function) (f : ℕ) (g : Function) : Type 0 where
  pub signature : Signature
  pub there : slice_get (signatures_from k gs) f ≡ Some signature
  pub params : (j : ℕ) → types_at signature.params j ≡ option_and_then (sort_type (Var (number_at (function_number k gs f) g.params j))) (slice_get g.params j)
  pub result : signature.result ≡ result_of (Var (result_number (function_number k gs f) g)) g.result

pub signed_as : (k : ℕ) (gs : List Function) (f : ℕ) (g : Function) → slice_get gs f ≡ Some g → SignedAs k gs f g
signed_as k [] zero g h = cc
signed_as k [] (suc f) g h = cc
signed_as k (d ∷ gs) zero g h =
    let same : d ≡ g = cc in
    subst (λ e. SignedAs k (d ∷ gs) zero e) same (record {
      signature = signature_of k d;
      there = refl;
      params = λ j. params_at k d.params j;
      result = ap (λ n. result_of (Var n) d.result) (end_is k d.params);
    })
signed_as k (d ∷ gs) (suc f) g h =
    let next : signature_end k d ≡ result_number k d + omits d.result = ap (λ n. n + omits d.result) (end_is k d.params) in
    let q = signed_as (result_number k d + omits d.result) gs f g h in
    record {
      signature = q.signature;
      there = ap (λ n. slice_get (signatures_from n gs) f) next ∙ q.there;
      params = q.params;
      result = q.result;
    }

-- ---- calls by signatures that are at hand

-- where there is no signature there is no function
pub none_there : (k : ℕ) (gs : List Function) (f : ℕ) → slice_get (signatures_from k gs) f ≡ None → slice_get gs f ≡ None
none_there k [] zero h = refl
none_there k [] (suc f) h = refl
none_there k (g ∷ gs) zero h = cc
none_there k (g ∷ gs) (suc f) h = none_there (signature_end k g) gs f h

-- the function of a signature
pub record IsOf (gs : List Function) (f : ℕ) : Type 0 where
  pub function : Function
  pub there : slice_get gs f ≡ Some function

pub of_signature : (k : ℕ) (gs : List Function) (f : ℕ) (s : Signature) → slice_get (signatures_from k gs) f ≡ Some s → IsOf gs f
of_signature k [] zero s h = cc
of_signature k [] (suc f) s h = cc
of_signature k (g ∷ gs) zero s h = record { function = g; there = refl }
of_signature k (g ∷ gs) (suc f) s h =
    let q = of_signature (signature_end k g) gs f s h in
    record { function = q.function; there = q.there }

module _ (p : Program) (n f : ℕ) (asked : TypeOf) (es : List Expr) where
  abbrev found_by : List ℕ → Needs → TypeOf → Found
  found_by names needs result = record {
    needs = needs;
    vars = [];
    constraints = result_constraints n result asked;
    nodes = [];
    findings = unless (not (has_twice names)) AliasRule (AtNode n) ++ unless (result_agrees result asked) PolarityRule (AtNode n);
  }

  by_function : (g : Function) (s : Signature) → slice_get p.functions f ≡ Some g → slice_get (signatures_from 1 p.functions) f ≡ Some s → call_found p n asked f es (Some g) ≡ signed_call n asked s es
  by_function g s h e =
      let q = signed_as 1 p.functions f g h in
      let same : q.signature ≡ s = some_is q.signature s (sym q.there ∙ e) in
      let params : (j : ℕ) → open_param p f g j ≡ types_at s.params j = λ j. sym (q.params j) ∙ ap (λ (z : Signature). types_at z.params j) same in
      let result : open_result p f g ≡ s.result = sym q.result ∙ ap (λ (z : Signature). z.result) same in
      ap (λ z. found_by z (args_needs (open_param p f g) 0 es) (open_result p f g)) (args_same (open_param p f g) (types_at s.params) params 0 es)
      ∙ ap (λ z. found_by (mailbox_args (types_at s.params) 0 es) z (open_result p f g)) (needs_same (open_param p f g) (types_at s.params) params 0 es)
      ∙ ap (λ z. found_by (mailbox_args (types_at s.params) 0 es) (args_needs (types_at s.params) 0 es) z) result
    where
      some_is : (a b : Signature) → Some a ≡ Some b → a ≡ b
      some_is a b h = cc

  pub call_same : (s : Signature) → slice_get (signatures_from 1 p.functions) f ≡ Some s → signed_call n asked s es ≡ call_found p n asked f es (slice_get p.functions f)
  call_same s e =
      let q = of_signature 1 p.functions f s e in
      sym (ap (λ o. call_found p n asked f es o) q.there ∙ by_function q.function s q.there e)

pub call_walked : (p : CodeProgram) (old new : Problem) (res : Result (List (ℕ × MailboxType)) InferError) (r : Found) → r.vars ≡ [] → r.nodes ≡ [] → Adds p old new res r.constraints r.findings → IfOk res (λ needs. needs_view needs ≡ r.needs) → Infers p old new res r
call_walked p old new (Ok needs) r v n a e = record {
  needed = e;
  grows = record {
    vars = a.grows.vars ∙ ap (λ z. map placed_variable_of old.vars ++ map (placed_variable p) z) (sym v);
    constraints = a.grows.constraints;
    nodes = a.grows.nodes ∙ ap (λ z. settled z (map node_type_view old.nodes)) (sym n);
  };
  clean = a.clean;
}
call_walked p old new (Err e) r v n a f = a
