use Rattle.std.proofs.Common.{◌≡◌, ◌/◌, refl, sym, ap, ap₂, ◌∙◌, subst, get_or, length, set, take}
use Rattle.std.proofs.lemmas.List.{get_or-set_same}
use Rattle.std.proofs.Math.Seq.{take-append_seam}
use Rattle.pat_grid_points.specs.Sparse.{sparse, AreBlocks}
use Rattle.pat_grid_points.proofs.InBlocks.{grown, begun, begun_same, begun_there}
use Rattle.pat_grid_points.proofs.sparse.begin.Goals as goal

pub returns-in-Ok-clause-ok : goal.returns-in-Ok-clause-ok
returns-in-Ok-clause-ok g c = λ count common h.
    let starts = c.args.starts.now in
    let old = c.args.blocks.now in
    let new = c.repeat_first.new.blocks in
    let block = c.args.block in
    let none : get_or starts block 0 ≡ 0 = c.get-own.ensures 0 ∙ c.if-own-ne0.false in
    let more = grown common old new c.requires.first c.in_ok-repeat_first.ensures.ok in
    let there = begun_there count common starts old new block h c.requires.there none more in
    let at : get_or (set starts block (length old / 16)) block 0 ≡ length old / 16 = get_or-set_same starts block (length old / 16) 0 c.requires.there in
    let long : length old / 16 ≡ c.len-count.result / 16 = ap (λ n. n / 16) (sym c.len-count.ensures) in
    subst (λ xs. AreBlocks count common xs new × (sparse count common xs new ≡ sparse count common starts old) × (get_or xs block 0 ≡ c.len-count.result / 16) × (c.len-count.result / 16 ≡ 0 → ⊥))
    (ap (λ n. set starts block (n / 16)) (sym c.len-count.ensures) ∙ sym c.in-Ok.ensures.ok) (
      begun count common starts old new block h c.requires.there none more,
      begun_same count common starts old new block h c.requires.there none more,
      at ∙ long,
      λ e. there (at ∙ long ∙ e),
    )

pub returns-in-Err-clause-err : goal.returns-in-Err-clause-err
returns-in-Err-clause-err g c = (
  c.in-Err.ensures.err,
  c.truncate.ensures.items
      ∙ ap₂ (λ n xs. take n xs) c.len-count.ensures (c.blocks-2.view_is ∙ c.in_ok-repeat_first.ensures.ok)
      ∙ take-append_seam c.args.blocks.now (take 16 c.args.blocks.now),
)

pub returns-then-own-ne0-clause-ok : goal.returns-then-own-ne0-clause-ok
returns-then-own-ne0-clause-ok g c = λ count common h. (h, refl, c.get-own.ensures 0, c.if-own-ne0.true)
