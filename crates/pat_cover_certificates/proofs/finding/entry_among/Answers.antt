use Rattle.std.proofs.Common.{◌≡◌, arith, ap, ◌∙◌, subst, slice_index_or}
use Rattle.std.specs.Prelude.{slice_get, IfSome}
use Rattle.pat_inclusion_spec.specs.Counts.{most_tags}
use Rattle.pat_linear.specs.Views.{set_view}
use Rattle.pat_cover_certificates.specs.Views.{entry_if}
use Rattle.pat_cover_certificates.specs.Firsts.{FindsEntryIn}
use Rattle.pat_cover_certificates.proofs.Indexing.{got_item, got_number, so_far_to, so_far_all, so_far_more}
use Rattle.pat_cover_certificates.proofs.finding.entry_among.Goals as goal

pub returns-then-place-end : goal.returns-then-place-end
returns-then-place-end c =
    let os = c.args.others.now in
    let e = c.if-place-end.true in
    so_far_to c.args.set.now c.args.right.now os c.requires c.loop-place.place-index (slice_index_or os c.loop-place.place-index 0) c.args.end
    (got_number os c.loop-place.place-index c.loop-place-test.true) (omega arith) c.loop-place.invariant

pub bounds-right-place : goal.bounds-right-place
bounds-right-place c =
    let os = c.args.others.now in
    c.requires.0 c.loop-place.place-index (slice_index_or os c.loop-place.place-index 0) (got_number os c.loop-place.place-index c.loop-place-test.true)

pub returns-in-Some : goal.returns-in-Some
returns-in-Some c =
    let os = c.args.others.now in
    let right = c.args.right.now in
    let q = c.index-right-place.result in
    let place = slice_index_or os c.loop-place.place-index 0 in
    let at = got_number os c.loop-place.place-index c.loop-place-test.true in
    let below = c.requires.0 c.loop-place.place-index place at in
    let covers = subst (λ o. FindsEntryIn most_tags (set_view c.args.set.now) (set_view q) (entry_if o)) c.in-Some.is c.in_ok-entry_in.ensures.covers in
    let set = subst (λ o. IfSome o (λ e. e.set ≡ place)) c.in-Some.is c.in_ok-entry_in.ensures.place in
    let before = c.if-place-end.false in (
      q,
      ap (slice_get right) set ∙ got_item right place q q below c.index-right-place.is,
      covers,
      omega arith,
      so_far_to c.args.set.now right os c.requires c.loop-place.place-index place c.in-Some.entry.set at (omega arith) c.loop-place.invariant,
    )

pub loop-place-preserved : goal.loop-place-preserved
loop-place-preserved c =
    let os = c.args.others.now in
    let right = c.args.right.now in
    let q = c.index-right-place.result in
    let place = slice_index_or os c.loop-place.place-index 0 in
    let at = got_number os c.loop-place.place-index c.loop-place-test.true in
    let below = c.requires.0 c.loop-place.place-index place at in
    let outside = subst (λ o. FindsEntryIn most_tags (set_view c.args.set.now) (set_view q) (entry_if o)) c.in-None.is c.in_ok-entry_in.ensures.covers in
    so_far_more c.args.set.now right os c.requires c.loop-place.place-index place q at (got_item right place q q below c.index-right-place.is) outside c.loop-place.invariant

pub returns : goal.returns
returns c =
    let l = c.loop-place-test.false in
    so_far_all c.args.set.now c.args.right.now c.args.others.now c.requires c.loop-place.place-index (omega arith) c.loop-place.invariant c.args.end
