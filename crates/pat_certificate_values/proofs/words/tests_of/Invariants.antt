use Rattle.std.proofs.Common.{◌≡◌, ◌++◌, true, drop, map}
use Rattle.std.specs.List.{list_all}
use Rattle.std.specs.Prelude.{slice_get}
use Rattle.pat_words_spec.specs.Patterns.{is_nullable, is_inhabited}
use Rattle.pat_inclusion_spec.specs.Values.{value_fits, value_pattern}
use Rattle.pat_derivation_spec.specs.Derivations.{tag_count}
use Rattle.pat_core.specs.Views.{program_view}
use Rattle.pat_derivations.specs.Views.{vars_view}
use Rattle.pat_certificate_values.proofs.words.tests_of.Given as goal

abbrev pub invariant-loop-interface : goal.invariant-loop-interface
invariant-loop-interface l =
    (list_all (λ v. value_fits (tag_count (slice_get (program_view l.program).interfaces v.interface)) v.value) (vars_view (drop l.interface-index l.derivation.vars)) ≡ true)
    × (l.tests.nullable ++ map (λ v. is_nullable (value_pattern (tag_count (slice_get (program_view l.program).interfaces v.interface)) v.value)) (vars_view (drop l.interface-index l.derivation.vars))
    ≡ map (λ v. is_nullable (value_pattern (tag_count (slice_get (program_view l.program).interfaces v.interface)) v.value)) (vars_view l.derivation.vars))
    × (l.tests.inhabited ++ map (λ v. is_inhabited (value_pattern (tag_count (slice_get (program_view l.program).interfaces v.interface)) v.value)) (vars_view (drop l.interface-index l.derivation.vars))
    ≡ map (λ v. is_inhabited (value_pattern (tag_count (slice_get (program_view l.program).interfaces v.interface)) v.value)) (vars_view l.derivation.vars))
