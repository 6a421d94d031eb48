use Rattle.std.proofs.Common.{◌≡◌, true, subst, sym, ◌∙◌}
use Rattle.pat_words_spec.specs.Tags.{tags_below}
use Rattle.pat_patterns.specs.Views.{pattern_view}
use Rattle.pat_inclusion_laws.proofs.Exact.{tags_are}
use Rattle.test_patterns.proofs.inclusions.forms.form.Goals as goal

pub closed_form-requires : goal.closed_form-requires
closed_form-requires g c = subst (λ n. tags_below n (pattern_view c.args.p.now) ≡ true) (sym tags_are) (sym c.has_tags.ensures ∙ c.if-not-has_tags.false)
