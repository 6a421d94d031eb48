use Rattle.std.proofs.Common.{◌≡◌, map, option_map, drop}
use Rattle.pat_derivation_spec.specs.Derivations.{scope_of}
use Rattle.pat_core.specs.Views.{sort_view, program_view}
use Rattle.pat_types.specs.Views.{type_view}
use Rattle.pat_derivations.specs.Views.{derivation_view}
use Rattle.pat_judge.specs.shape.Words.{listed_have_words}
use Rattle.pat_judge.proofs.shape.words.params_have_words.Given as goal

abbrev pub invariant-loop-param : goal.invariant-loop-param
invariant-loop-param l =
    listed_have_words (scope_of (program_view l.program) (derivation_view l.derivation)) (map (option_map type_view) l.rest) (map sort_view (drop l._param-index l.params))
    ≡ listed_have_words (scope_of (program_view l.program) (derivation_view l.derivation)) (map (option_map type_view) l.types) (map sort_view l.params)
