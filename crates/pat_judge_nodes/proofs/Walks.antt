-- Looking for a name at one node.
use Rattle.std.proofs.Common.{◌≡◌, ℕ, suc, ◌-◌, ◌<◌, Bool, true, false, ◌||◌, length, map, Option, Some, None, sym, ap, ◌∙◌, arith}
use Rattle.std.proofs.lemmas.List.{length-map}
use Rattle.pat_core.specs.declared.program.Program.{Program as CodeProgram}
use Rattle.pat_core.specs.Views.{node_view, program_view}
use Rattle.pat_semantics_spec.specs.Programs.{Program, core_at, is_among}
use Rattle.pat_judge_nodes.specs.declared.scopes.looking.Found.{Found}
use Rattle.pat_judge_nodes.specs.scopes.Upwards.{after}
use Rattle.pat_derivation_spec.specs.Scopes.{function_of, bound_in, node_above, is_param, is_from_above, is_in_scope, is_in_scope_within}

module _ (p : Program) (n x : ℕ) where
  -- a step up, where it is known what is above
  step : (up : ℕ) (o : Option ℕ) (b : Bool) → is_param x (function_of p n) ≡ b → node_above p n ≡ o → is_in_scope_within (suc up) p n x ≡ (b || is_from_above p (λ k. is_in_scope_within up p k x) n x o)
  step up o b param above =
      ap (λ c. c || is_from_above p (λ k. is_in_scope_within up p k x) n x (node_above p n)) param
      ∙ ap (λ a. b || is_from_above p (λ k. is_in_scope_within up p k x) n x a) above

  pub of_function : is_param x (function_of p n) ≡ true → (up : ℕ) → is_in_scope_within (suc up) p n x ≡ true
  of_function param up = ap (λ c. c || is_from_above p (λ k. is_in_scope_within up p k x) n x (node_above p n)) param

  pub of_nothing : is_param x (function_of p n) ≡ false → node_above p n ≡ None → (up : ℕ) → is_in_scope_within (suc up) p n x ≡ false
  of_nothing param above up = step up None false param above

  pub of_above : (k : ℕ) → is_param x (function_of p n) ≡ false → node_above p n ≡ Some k → is_among x (bound_in n (core_at p k)) ≡ true → (up : ℕ) → is_in_scope_within (suc up) p n x ≡ true
  of_above k param above here up = step up (Some k) false param above ∙ ap (λ c. c || is_in_scope_within up p k x) here

  pub of_further : (k : ℕ) → is_param x (function_of p n) ≡ false → node_above p n ≡ Some k → is_among x (bound_in n (core_at p k)) ≡ false → (up : ℕ) → is_in_scope_within (suc up) p n x ≡ is_in_scope_within up p k x
  of_further k param above here up = step up (Some k) false param above ∙ ap (λ c. c || is_in_scope_within up p k x) here

pub whole_scope : (p : CodeProgram) (n x : ℕ) → is_in_scope_within (length p.nodes) (program_view p) n x ≡ is_in_scope (program_view p) n x
unfolding is_in_scope
whole_scope p n x = ap (λ up. is_in_scope_within up (program_view p) n x) (sym (length-map p.nodes node_view))

-- looking at one node more
pub looked : (p : CodeProgram) (x left at node : ℕ) (f : Found) → 0 < left → is_in_scope_within left (program_view p) at x ≡ is_in_scope_within (length p.nodes) (program_view p) node x → ((up : ℕ) → is_in_scope_within (suc up) (program_view p) at x ≡ after (program_view p) x up f) → after (program_view p) x (left - 1) f ≡ is_in_scope_within (length p.nodes) (program_view p) node x
looked p x left at node f some same found =
    let e : suc (left - 1) ≡ left = omega arith in
    sym (found (left - 1)) ∙ ap (λ k. is_in_scope_within k (program_view p) at x) e ∙ same

pub whole_length : (p : CodeProgram) → length (map node_view p.nodes) ≡ length p.nodes
whole_length p = length-map p.nodes node_view
