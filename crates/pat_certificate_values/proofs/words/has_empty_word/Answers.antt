use Rattle.std.proofs.Common.{ap, ◌∙◌}
use Rattle.pat_inclusion_spec.specs.Under.{nullable_under}
use Rattle.pat_patterns.specs.Views.{pattern_view}
use Rattle.pat_certificate_values.specs.Tested.{flag_at}
use Rattle.pat_certificate_values.proofs.Flags.{nullable_tested}
use Rattle.pat_certificate_values.proofs.words.has_empty_word.Goals as goal

pub returns : goal.returns
returns c s h =
    c.nullable_by.ensures
    ∙ ap (λ f. nullable_under (flag_at f) (pattern_view c.args.pattern.now)) c.as_slice.ensures
    ∙ nullable_tested c.args.tests.now s (pattern_view c.args.pattern.now) h
