use Rattle.std.proofs.Common.{◌≡◌, ◌∷◌, ◌++◌, drop, map}
use Rattle.std.specs.List.{flat_map}
use Rattle.pat_core.specs.Views.{program_view}
use Rattle.pat_types.specs.Views.{needs_view}
use Rattle.pat_derivation_text_spec.specs.DerivationText.{named_text}
use Rattle.pat_deriv.proofs.types.put_more_named.Given as goal

abbrev pub invariant-loop-variable : goal.invariant-loop-variable
invariant-loop-variable l = l.out.items ++ flat_map (λ y. 44 ∷ y) (map (λ f. 32 ∷ named_text (program_view l.program) f) (needs_view (drop l.variable-index l.needs))) ≡ l.initial.out.items ++ flat_map (λ y. 44 ∷ y) (map (λ f. 32 ∷ named_text (program_view l.program) f) (needs_view l.needs))
