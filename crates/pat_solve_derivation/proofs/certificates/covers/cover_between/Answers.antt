use Rattle.std.proofs.Common.{◌≡◌, ◌≤◌, Some, length, sym, ap, ◌∙◌, arith}
use Rattle.std.proofs.lemmas.List.{length-map}
use Rattle.pat_words_spec.specs.Patterns.{subst_of}
use Rattle.pat_inclusion_spec.specs.Values.{pattern_of}
use Rattle.pat_inclusion_spec.specs.ClosedForms.{closed_form}
use Rattle.pat_linear.specs.Views.{set_view, sets_view}
use Rattle.pat_cover_certificates.specs.Views.{entries_view}
use Rattle.pat_patterns.specs.Views.{pattern_view}
use Rattle.pat_certificate_checks.proofs.CoverTags.{cover_shown}
use Rattle.pat_solve_elimination.proofs.Forms.{form_short}
use Rattle.pat_solve_derivation.specs.certificates.Making.{scope_in}
use Rattle.pat_solve_derivation.proofs.certificates.covers.cover_between.Goals as goal
use Rattle.pat_limits.specs.Limits.{most_sets}

pub cover_of-requires-clause-few : goal.cover_of-requires-clause-few
cover_of-requires-clause-few c =
    let s = scope_in c.args.solved.now in
    let sets = c.as_slice-2.result.now in
    let f = subst_of (pattern_of s) (pattern_view c.args.right.now) in
    let form : Some (sets_view sets) ≡ closed_form (s.tags c.args.interface) f = ap (λ x. Some x) c.as_slice-2.ensures ∙ sym c.in_ok-right.ensures in
    let short : length (sets_view sets) ≤ most_sets = form_short (s.tags c.args.interface) f (sets_view sets) form in
    let as_many : length (sets_view sets) ≡ length sets = length-map sets set_view in
    omega (arith, short, as_many)

pub returns-clause-cover : goal.returns-clause-cover
returns-clause-cover c =
    let s = scope_in c.args.solved.now in
    let i = c.args.interface in
    let e = pattern_view c.args.left.now in
    let f = pattern_view c.args.right.now in
    let left = sets_view c.as_slice.result.now in
    let right = sets_view c.as_slice-2.result.now in
    let left_is : Some left ≡ closed_form (s.tags i) (subst_of (pattern_of s) e) = ap (λ x. Some x) c.as_slice.ensures ∙ sym c.in_ok-left.ensures in
    let right_is : Some right ≡ closed_form (s.tags i) (subst_of (pattern_of s) f) = ap (λ x. Some x) c.as_slice-2.ensures ∙ sym c.in_ok-right.ensures in
    sym (cover_shown s i e f left right (entries_view c.in_ok-cover.cover) c.tags_are_few.ensures c.requires.solved.values c.requires.left c.requires.right left_is right_is)
    ∙ c.in_ok-cover.ensures
