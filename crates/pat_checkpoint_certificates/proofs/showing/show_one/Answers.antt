use Rattle.std.proofs.Common.{◌≡◌, Some, false, sym, ◌∙◌, subst}
use Rattle.pat_words_spec.specs.Patterns.{subst_of}
use Rattle.pat_inclusion_spec.specs.Values.{pattern_of}
use Rattle.pat_inclusion_spec.specs.Certificates.{is_trivial}
use Rattle.pat_derivation_spec.specs.Demands.{inclusion}
use Rattle.pat_cover_certificates.specs.Views.{entries_view}
use Rattle.pat_checkpoint_certificates.specs.Searches.{bounds_in}
use Rattle.pat_checkpoint_certificates.specs.Found.{IsCover, IsGrid, IsShownBy}
use Rattle.pat_checkpoint_certificates.proofs.Singles.{trivially, covered, gridded, not_shown}
use Rattle.pat_checkpoint_certificates.proofs.Covers.{none_found}
use Rattle.pat_patterns.specs.Views.{pattern_view}
use Rattle.pat_certificate_checks.proofs.Plainly.{have_values}
use Rattle.pat_checkpoint_certificates.specs.Searches.{scope_in}
use Rattle.pat_checkpoint_certificates.proofs.showing.show_one.Goals as goal

pub is_trivial-requires-clause-left : goal.is_trivial-requires-clause-left
is_trivial-requires-clause-left c =
    have_values (scope_in c.args.search.now) c.args.interface (pattern_view c.args.left.now) c.args.search.now.plain.now c.requires.search.plain c.requires.left

pub is_trivial-requires-clause-right : goal.is_trivial-requires-clause-right
is_trivial-requires-clause-right c =
    have_values (scope_in c.args.search.now) c.args.interface (pattern_view c.args.right.now) c.args.search.now.plain.now c.requires.search.plain c.requires.right

pub returns-then-branch : goal.returns-then-branch
returns-then-branch c =
    let s = scope_in c.args.search.now in
    let e = pattern_view c.args.left.now in
    let f = pattern_view c.args.right.now in
    let r = trivially s (bounds_in c.args.search.now) c.args.interface e f c.requires.left c.requires.right
    (sym (c.in_ok-is_trivial.ensures s c.args.interface c.requires.search.plain c.requires.left c.requires.right) ∙ c.if-branch.true) in
    record { certified = r.0; showable = r.1 }

pub returns-in-Some : goal.returns-in-Some
returns-in-Some c =
    let s = scope_in c.args.search.now in
    let i = c.args.interface in
    let e = pattern_view c.args.left.now in
    let f = pattern_view c.args.right.now in
    let off : is_trivial s e f ≡ false = sym (c.in_ok-is_trivial.ensures s i c.requires.search.plain c.requires.left c.requires.right) ∙ c.if-branch.false in
    let r = covered s (bounds_in c.args.search.now) i e f c.requires.left c.requires.right (entries_view c.in-Some.cover) off
    (subst (IsCover (s.tags i) (subst_of (pattern_of s) e) (subst_of (pattern_of s) f)) c.in-Some.is c.in_ok-cover.ensures) in
    record { certified = r.0; showable = r.1 }

pub returns-in-Some-2 : goal.returns-in-Some-2
returns-in-Some-2 c =
    let s = scope_in c.args.search.now in
    let i = c.args.interface in
    let e = pattern_view c.args.left.now in
    let f = pattern_view c.args.right.now in
    let bound = bounds_in c.args.search.now in
    let off : is_trivial s e f ≡ false = sym (c.in_ok-is_trivial.ensures s i c.requires.search.plain c.requires.left c.requires.right) ∙ c.if-branch.false in
    let g = subst (IsGrid s bound i e f) c.in-Some-2.is c.in_ok-grid_between.ensures in
    let r = gridded s bound i e f c.requires.left c.requires.right g.0 off g.2 g.3 in
    subst (λ x. IsShownBy s bound (Some (inclusion (Some i) e f)) (Some x)) (sym g.1) (record { certified = r.0; showable = r.1 })

pub returns-in-None : goal.returns-in-None
returns-in-None c =
    let s = scope_in c.args.search.now in
    let i = c.args.interface in
    let e = pattern_view c.args.left.now in
    let f = pattern_view c.args.right.now in
    let bound = bounds_in c.args.search.now in
    let off : is_trivial s e f ≡ false = sym (c.in_ok-is_trivial.ensures s i c.requires.search.plain c.requires.left c.requires.right) ∙ c.if-branch.false in
    not_shown s bound i e f c.requires.left c.requires.right off
    (none_found (s.tags i) (subst_of (pattern_of s) e) (subst_of (pattern_of s) f) c.in_ok-cover.field-0 c.in_default.not-Some c.in_ok-cover.ensures)
    (subst (IsGrid s bound i e f) c.in-None.is c.in_ok-grid_between.ensures)
