use Rattle.std.proofs.Common.{◌≡◌, List, ℕ, length, sym, ap, ◌∙◌, subst}
use Rattle.std.specs.Prelude.{None, option_copied}
use Rattle.pat_inclusion_spec.specs.Counts.{most_tags}
use Rattle.pat_linear.specs.Views.{set_view, sets_view}
use Rattle.pat_cover_certificates.specs.Views.{entry_if}
use Rattle.pat_cover_certificates.specs.Firsts.{FindsEntry}
use Rattle.pat_cover_certificates.specs.Indexes.{place_of, FindsAmong}
use Rattle.pat_cover_certificates.proofs.Indexing.{if_ok, without_base}
use Rattle.pat_cover_certificates.proofs.finding.entry_for.Goals as goal

pub returns-in-None : goal.returns-in-None
returns-in-None c =
    let s = c.args.set.now in
    let right = c.args.right.now in
    let index = c.args.index.now in
    let none : place_of index.by_base.entries s.base.counts ≡ None = ap (place_of index.by_base.entries) (sym c.as_slice.ensures) ∙ sym c.get.ensures.value ∙ ap option_copied c.in-None.is in
    if_ok (λ found. FindsAmong most_tags s right c.as_slice-in-None.result.now (length right) found)
    (λ found. FindsEntry most_tags (set_view s) (sets_view right) (entry_if found)) c.entry_among.result
    (λ found f. without_base s right index.by_base.entries index.others c.requires.index c.counts_are_all.ensures found none
    (subst (λ (l : List ℕ). FindsAmong most_tags s right l (length right) found) c.as_slice-in-None.ensures f))
    c.entry_among.ensures
