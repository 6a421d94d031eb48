use Rattle.std.proofs.Common.{rules, ◌≡◌, Some, option_map, sym, ap, ◌∙◌}
use Rattle.pat_words_spec.specs.Patterns.{subst_of}
use Rattle.pat_inclusion_spec.specs.ClosedForms.{closed_form}
use Rattle.pat_inclusion_spec.specs.Values.{pattern_of}
use Rattle.pat_derivation_spec.specs.Derivations.{scope_of}
use Rattle.pat_linear.specs.Views.{sets_view}
use Rattle.pat_cover_certificates.specs.Views.{entries_view}
use Rattle.pat_patterns.specs.Views.{pattern_view}
use Rattle.pat_core.specs.Views.{program_view}
use Rattle.pat_derivations.specs.Views.{derivation_view}
use Rattle.pat_certificate_checks.proofs.CoverTags.{cover_shown}
use Rattle.pat_certificate_checks.proofs.covers.cover_shows.Goals as goal

pub returns : goal.returns
returns c =
    let s = scope_of (program_view c.args.program.now) (derivation_view c.args.derivation.now) in
    let some_left : c.in_ok-form_of.field-0 ≡ Some c.in-Some.lefts = search rules in
    let left : Some (sets_view c.in-Some.lefts) ≡ closed_form (s.tags c.args.interface) (subst_of (pattern_of s) (pattern_view c.args.left.now)) =
    sym (ap (option_map sets_view) some_left) ∙ c.in_ok-form_of.ensures in
    let left_slice : c.as_slice.result.now ≡ c.in-Some.lefts = search rules in
    let some_right : c.in_ok-form_of-in-Some.field-0 ≡ Some c.in-Some-2.rights = search rules in
    let right : Some (sets_view c.in-Some-2.rights) ≡ closed_form (s.tags c.args.interface) (subst_of (pattern_of s) (pattern_view c.args.right.now)) =
    sym (ap (option_map sets_view) some_right) ∙ c.in_ok-form_of-in-Some.ensures in
    let right_slice : c.as_slice-in-Some-2.result.now ≡ c.in-Some-2.rights = search rules in
    c.check_cover.ensures.value
    ∙ cover_shown s c.args.interface (pattern_view c.args.left.now) (pattern_view c.args.right.now) (sets_view c.as_slice.result.now) (sets_view c.as_slice-in-Some-2.result.now) (entries_view c.args.entries.now) c.tags_are_few.ensures c.requires.values c.requires.left c.requires.right
    (ap (λ sets. Some (sets_view sets)) left_slice ∙ left)
    (ap (λ sets. Some (sets_view sets)) right_slice ∙ right)
