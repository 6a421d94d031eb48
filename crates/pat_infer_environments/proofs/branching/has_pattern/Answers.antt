use Rattle.std.proofs.Common.{sym, ap, ◌∙◌}
use Rattle.pat_words_spec.specs.Patterns.{pat_eq}
use Rattle.pat_patterns.specs.Views.{pattern_view}
use Rattle.pat_infer_spec.specs.Branches.{pattern_or_one}
use Rattle.pat_infer_environments.specs.Combining.{need_ref}
use Rattle.pat_infer_environments.proofs.Putting.{same_test}
use Rattle.pat_infer_environments.proofs.branching.has_pattern.Goals as goal

pub returns-in-Some : goal.returns-in-Some
returns-in-Some c =
    same_test c.is_same.result (pattern_view c.args.pattern.now) (pattern_view c.in-Some.of.now.pattern) c.is_same.ensures
    ∙ ap (λ o. pat_eq (pattern_view c.args.pattern.now) (pattern_or_one (need_ref o))) (sym c.in-Some.is)
