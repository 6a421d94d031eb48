use Rattle.std.proofs.Common.{rules, ◌≡◌, Some, option_map, subst}
use Rattle.pat_words_spec.specs.Patterns.{subst_of}
use Rattle.pat_inclusion_spec.specs.Values.{pattern_of}
use Rattle.pat_derivation_spec.specs.Derivations.{scope_of}
use Rattle.pat_linear.specs.Views.{sets_view}
use Rattle.pat_patterns.specs.Views.{pattern_view}
use Rattle.pat_core.specs.Views.{program_view}
use Rattle.pat_certificate_values.specs.Views.{derivation_view}
use Rattle.pat_certificate_values.specs.forms.Limits.{Limits}
use Rattle.pat_certificate_values.proofs.FormTags.{few_in, form_in}
use Rattle.pat_certificate_values.proofs.forms.forms.form_of.Goals as goal

pub closed-requires : goal.closed-requires
closed-requires c =
    let s = scope_of (program_view c.args.program.now) (derivation_view c.args.derivation.now) in
    let some : c.in_ok-replaced.field-0 ≡ Some c.in-Some.built = search rules in
    let is = (subst (Limits (subst_of (pattern_of s) (pattern_view c.args.pattern.now))) some c.in_ok-replaced.ensures).0 in
    few_in s c.args.interface (pattern_view c.args.pattern.now) (pattern_view c.in-Some.built.pattern) c.tags_are_few.ensures c.requires.values c.requires.formed is

pub returns-in_ok-form-in-Some : goal.returns-in_ok-form-in-Some
returns-in_ok-form-in-Some c =
    let s = scope_of (program_view c.args.program.now) (derivation_view c.args.derivation.now) in
    let some : c.in_ok-replaced.field-0 ≡ Some c.in-Some.built = search rules in
    let is = (subst (Limits (subst_of (pattern_of s) (pattern_view c.args.pattern.now))) some c.in_ok-replaced.ensures).0 in
    form_in s c.args.interface (pattern_view c.args.pattern.now) (pattern_view c.in-Some.built.pattern) (option_map sets_view c.in_ok-form-in-Some.form) c.tags_are_few.ensures c.requires.values c.requires.formed is c.in_ok-form-in-Some.ensures
