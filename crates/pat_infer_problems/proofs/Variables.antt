-- The variables that one pass finds are those of the definition, at their places.
use Rattle.std.proofs.Common.{◌≡◌, ℕ, zero, suc, ◌+◌, List, [], ◌∷◌, ◌++◌, map, Option, Some, None, refl, sym, ap, ◌∙◌, subst, arith}
use Rattle.std.specs.Prelude.{slice_get, option_map}
use Rattle.std.specs.List.{flat_map}
use Rattle.std.proofs.lemmas.List.{map-append}
use Rattle.pat_semantics_spec.specs.Programs.{Polarity, MailboxSort}
use Rattle.pat_syntax.specs.declared.span.Span.{Span}
use Rattle.pat_core.specs.declared.program.Sort.{Sort}
use Rattle.pat_core.specs.declared.program.Sort.TheVariants as sort
use Rattle.pat_core.specs.declared.program.Function.{Function}
use Rattle.pat_core.specs.declared.program.Program.{Program}
use Rattle.pat_core.specs.Views.{sort_view, function_view, program_view}
use Rattle.pat_patterns.specs.declared.pattern.Pattern.{Pattern}
use Rattle.pat_patterns.specs.Views.{pattern_view}
use Rattle.pat_primitives.specs.Views.{polarity_view}
use Rattle.pat_type_schemes_spec.specs.Signatures.{Origin, OfParameter, OfResult, omitted, params_omitted, function_vars, functions_vars, signature_vars}
use Rattle.pat_infer_problems.specs.Places.{sort_place, origin_place, param_place, sort_place_or, result_place}
use Rattle.pat_infer_problems.specs.Views.{PlacedVariable, placed_variable}
use Rattle.pat_infer_problems.specs.signatures.Views.{if_none, own_variable, function_variables}

-- a variable at a place
abbrev placed_at : ℕ → Polarity → Span → PlacedVariable
placed_at i q s = record { interface = i; polarity = q; span = s }

module _ (p : Program) where
  by_pattern : (origin : Origin) (i : ℕ) (q : Polarity) (at : Span) (o : Option Pattern) → origin_place p origin ≡ at → map (placed_variable p) (omitted origin (MailboxSort i q (option_map pattern_view o))) ≡ if_none o (record { interface = i; polarity = q; span = at })
  by_pattern origin i q at None e = ap (λ s. placed_at i q s ∷ []) e
  by_pattern origin i q at (Some f) e = refl

  one : (origin : Origin) (s : Sort) → origin_place p origin ≡ sort_place s → map (placed_variable p) (omitted origin (sort_view s)) ≡ own_variable s
  one origin (sort.Base b) e = refl
  one origin (sort.Mailbox m) e = by_pattern origin m.interface (polarity_view m.polarity) m.span m.pattern e

  -- the types of a function from place k on
  params : (f : ℕ) (g : Function) (k : ℕ) (ss : List Sort) → slice_get p.functions f ≡ Some g → ((j : ℕ) (s : Sort) → slice_get ss j ≡ Some s → slice_get g.params (k + j) ≡ Some s) → map (placed_variable p) (params_omitted f k (map sort_view ss)) ≡ flat_map own_variable ss
  params f g k [] at there = refl
  params f g k (s ∷ ss) at there =
      let here : k + 0 ≡ k = omega arith in
      map-append (placed_variable p) (omitted (OfParameter f k) (sort_view s)) (params_omitted f (suc k) (map sort_view ss))
      ∙ ap (λ xs. xs ++ map (placed_variable p) (params_omitted f (suc k) (map sort_view ss)))
      (one (OfParameter f k) s (ap (λ o. param_place o k) at ∙ ap sort_place_or (subst (λ n. slice_get g.params n ≡ Some s) here (there 0 s refl))))
      ∙ ap (λ xs. own_variable s ++ xs)
      (params f g (suc k) ss at (λ j t e. let next : k + suc j ≡ suc k + j = omega arith in subst (λ n. slice_get g.params n ≡ Some t) next (there (suc j) t e)))

  one_function : (f : ℕ) (g : Function) → slice_get p.functions f ≡ Some g → map (placed_variable p) (function_vars f (function_view g)) ≡ function_variables g
  one_function f g at =
      map-append (placed_variable p) (params_omitted f 0 (map sort_view g.params)) (omitted (OfResult f) (sort_view g.result))
      ∙ ap (λ xs. xs ++ map (placed_variable p) (omitted (OfResult f) (sort_view g.result)))
      (params f g 0 g.params at (λ j s e. let place : 0 + j ≡ j = omega arith in subst (λ n. slice_get g.params n ≡ Some s) (sym place) e))
      ∙ ap (λ xs. flat_map own_variable g.params ++ xs) (one (OfResult f) g.result (ap result_place at))

  functions : (f : ℕ) (gs : List Function) → ((j : ℕ) (g : Function) → slice_get gs j ≡ Some g → slice_get p.functions (f + j) ≡ Some g) → map (placed_variable p) (functions_vars f (map function_view gs)) ≡ flat_map function_variables gs
  functions f [] there = refl
  functions f (g ∷ gs) there =
      let here : f + 0 ≡ f = omega arith in
      map-append (placed_variable p) (function_vars f (function_view g)) (functions_vars (suc f) (map function_view gs))
      ∙ ap (λ xs. xs ++ map (placed_variable p) (functions_vars (suc f) (map function_view gs)))
      (one_function f g (subst (λ n. slice_get p.functions n ≡ Some g) here (there 0 g refl)))
      ∙ ap (λ xs. function_variables g ++ xs)
      (functions (suc f) gs (λ j h e. let next : f + suc j ≡ suc f + j = omega arith in subst (λ n. slice_get p.functions n ≡ Some h) next (there (suc j) h e)))

  pub signature_variables : flat_map function_variables p.functions ≡ map (placed_variable p) (signature_vars (program_view p))
  signature_variables =
      sym (functions 0 p.functions (λ j g e. let place : 0 + j ≡ j = omega arith in subst (λ n. slice_get p.functions n ≡ Some g) (sym place) e))
