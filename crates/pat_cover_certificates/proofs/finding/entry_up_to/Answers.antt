use Rattle.std.proofs.Common.{◌≡◌, List, ℕ, length, subst}
use Rattle.std.specs.Prelude.{IfSome, Some, None}
use Rattle.pat_inclusion_spec.specs.Counts.{most_tags}
use Rattle.pat_linear.specs.Views.{set_view, sets_view}
use Rattle.pat_cover_certificates.specs.Views.{entry_if}
use Rattle.pat_cover_certificates.specs.Firsts.{FindsEntryIn, FindsEntry}
use Rattle.pat_cover_certificates.specs.Indexes.{FindsAmong}
use Rattle.pat_cover_certificates.proofs.Indexing.{got_item, if_ok, past_base, at_base, before_base}
use Rattle.pat_cover_certificates.proofs.finding.entry_up_to.Goals as goal

pub returns-in-None : goal.returns-in-None
returns-in-None c =
    let s = c.args.set.now in
    let right = c.args.right.now in
    let index = c.args.index.now in
    let q = c.index-right-place.result in
    let below = (c.requires.index.0 s.base.counts c.args.place c.requires.place).0 in
    let at = got_item right c.args.place q q below c.index-right-place.is in
    let outside = subst (λ o. FindsEntryIn most_tags (set_view s) (set_view q) (entry_if o)) c.in-None.is c.in_ok-entry_in.ensures.covers in
    if_ok (λ found. FindsAmong most_tags s right c.as_slice-others.result.now (length right) found)
    (λ found. FindsEntry most_tags (set_view s) (sets_view right) (entry_if found)) c.entry_among.result
    (λ found f. past_base s right index.by_base.entries index.others c.requires.index c.requires.counts c.args.place c.requires.place found q at outside
    (subst (λ (l : List ℕ). FindsAmong most_tags s right l (length right) found) c.as_slice-others.ensures f))
    c.entry_among.ensures

pub returns-in-None-2 : goal.returns-in-None-2
returns-in-None-2 c =
    let s = c.args.set.now in
    let right = c.args.right.now in
    let index = c.args.index.now in
    let q = c.index-right-place.result in
    let below = (c.requires.index.0 s.base.counts c.args.place c.requires.place).0 in
    let at = got_item right c.args.place q q below c.index-right-place.is in
    let covers = subst (λ o. FindsEntryIn most_tags (set_view s) (set_view q) (entry_if o)) c.in-Some.is c.in_ok-entry_in.ensures.covers in
    let set = subst (λ o. IfSome o (λ e. e.set ≡ c.args.place)) c.in-Some.is c.in_ok-entry_in.ensures.place in
    at_base s right index.by_base.entries index.others c.requires.index c.requires.counts c.args.place c.requires.place c.in-Some.entry q set at covers
    (subst (λ (l : List ℕ). FindsAmong most_tags s right l c.args.place None) c.as_slice-others.ensures
    (subst (FindsAmong most_tags s right c.as_slice-others.result.now c.args.place) c.in-None-2.is c.in_ok-entry_among-in-Some.ensures))

pub returns-in-Some-2 : goal.returns-in-Some-2
returns-in-Some-2 c =
    let s = c.args.set.now in
    let right = c.args.right.now in
    let index = c.args.index.now in
    before_base s right index.by_base.entries index.others c.requires.index c.requires.counts c.args.place c.requires.place c.in-Some-2.earlier
    (subst (λ (l : List ℕ). FindsAmong most_tags s right l c.args.place (Some c.in-Some-2.earlier)) c.as_slice-others.ensures
    (subst (FindsAmong most_tags s right c.as_slice-others.result.now c.args.place) c.in-Some-2.is c.in_ok-entry_among-in-Some.ensures))
