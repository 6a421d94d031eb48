use Rattle.std.proofs.Common.{rules, ◌≡◌, ◌≤◌, Some, option_map, length, sym, ap, ◌∙◌, arith}
use Rattle.std.proofs.lemmas.List.{length-map}
use Rattle.pat_words_spec.specs.Patterns.{subst_of}
use Rattle.pat_inclusion_spec.specs.Values.{pattern_of}
use Rattle.pat_inclusion_spec.specs.ClosedForms.{closed_form}
use Rattle.pat_linear.specs.Views.{set_view, sets_view}
use Rattle.pat_patterns.specs.Views.{pattern_view}
use Rattle.pat_solve_elimination.proofs.Forms.{form_short}
use Rattle.pat_checkpoint_certificates.specs.Searches.{scope_in}
use Rattle.pat_checkpoint_certificates.proofs.Covers.{search_is}
use Rattle.pat_checkpoint_certificates.proofs.showing.cover_between.Goals as goal
use Rattle.pat_limits.specs.Limits.{most_sets}

pub find_cover-requires : goal.find_cover-requires
find_cover-requires c =
    let s = scope_in c.args.search.now in
    let sets = c.as_slice-2.result.now in
    let f = subst_of (pattern_of s) (pattern_view c.args.right.now) in
    let some : c.in_ok-rights.field-0 ≡ Some c.in-Some-2.rights = search rules in
    let form : Some (sets_view sets) ≡ closed_form (s.tags c.args.interface) f = ap (λ x. Some (sets_view x)) c.as_slice-2.ensures ∙ sym (ap (option_map sets_view) some) ∙ c.in_ok-rights.ensures in
    let short : length (sets_view sets) ≤ most_sets = form_short (s.tags c.args.interface) f (sets_view sets) form in
    let as_many : length (sets_view sets) ≡ length sets = length-map sets set_view in
    omega (arith, short, as_many)

pub returns : goal.returns
returns c =
    let s = scope_in c.args.search.now in
    let i = c.args.interface in
    let e = pattern_view c.args.left.now in
    let f = pattern_view c.args.right.now in
    let left = c.as_slice.result.now in
    let right = c.as_slice-2.result.now in
    let left_some : c.in_ok-lefts.field-0 ≡ Some c.in-Some.lefts = search rules in
    let right_some : c.in_ok-rights.field-0 ≡ Some c.in-Some-2.rights = search rules in
    let left_is : Some (sets_view left) ≡ closed_form (s.tags i) (subst_of (pattern_of s) e) = ap (λ x. Some (sets_view x)) c.as_slice.ensures ∙ sym (ap (option_map sets_view) left_some) ∙ c.in_ok-lefts.ensures in
    let right_is : Some (sets_view right) ≡ closed_form (s.tags i) (subst_of (pattern_of s) f) = ap (λ x. Some (sets_view x)) c.as_slice-2.ensures ∙ sym (ap (option_map sets_view) right_some) ∙ c.in_ok-rights.ensures in
    search_is s i e f (sets_view left) (sets_view right) c.tags_are_few.ensures c.requires.search.values c.requires.left c.requires.right left_is right_is c.find_cover.result c.find_cover.ensures.exact c.find_cover.ensures.checks
