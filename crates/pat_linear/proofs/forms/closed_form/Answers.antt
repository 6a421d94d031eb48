use Rattle.pat_patterns.specs.Views.{pattern_view}
use Rattle.pat_inclusion_spec.specs.Counts.{most_tags}
use Rattle.pat_inclusion_spec.specs.ClosedForms.{lists_are_short}
use Rattle.pat_linear.proofs.Meaning.{form_words}
use Rattle.pat_linear.proofs.forms.closed_form.Goals as goal

pub returns-clause-words : goal.returns-clause-words
returns-clause-words c =
    form_words (pattern_view c.args.p.now) (lists_are_short most_tags (pattern_view c.args.p.now)) c.form_of.result c.requires c.form_of.ensures
