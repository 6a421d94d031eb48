use Rattle.std.proofs.Common.{ap, ◌∙◌}
use Rattle.std.specs.List.{list_all}
use Rattle.pat_derivation_spec.specs.Derivations.{scope_of}
use Rattle.pat_derivation_spec.specs.Rules.{has_a_word}
use Rattle.pat_core.specs.Views.{program_view}
use Rattle.pat_types.specs.Views.{needs_view}
use Rattle.pat_derivations.specs.Views.{derivation_view}
use Rattle.pat_judge.proofs.nodes.broken_in_place.Goals as goal

pub has_words-requires-clause-needs : goal.has_words-requires-clause-needs
has_words-requires-clause-needs c =
    c.tested_needs-needs.ensures.words
    ∙ ap (λ env. list_all (λ e. has_a_word (scope_of (program_view c.args.program.now) (derivation_view c.args.derivation.now)) e.1.polarity e.1.pattern) (needs_view env)) c.as_slice-env.ensures
