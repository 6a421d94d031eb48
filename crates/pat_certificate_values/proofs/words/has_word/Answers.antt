use Rattle.std.proofs.Common.{ap, ◌∙◌}
use Rattle.pat_inclusion_spec.specs.Under.{inhabited_under}
use Rattle.pat_patterns.specs.Views.{pattern_view}
use Rattle.pat_certificate_values.specs.Tested.{flag_at}
use Rattle.pat_certificate_values.proofs.Flags.{inhabited_tested}
use Rattle.pat_certificate_values.proofs.words.has_word.Goals as goal

pub returns : goal.returns
returns c s h =
    c.inhabited_by.ensures
    ∙ ap (λ f. inhabited_under (flag_at f) (pattern_view c.args.pattern.now)) c.as_slice.ensures
    ∙ inhabited_tested c.args.tests.now s (pattern_view c.args.pattern.now) h
