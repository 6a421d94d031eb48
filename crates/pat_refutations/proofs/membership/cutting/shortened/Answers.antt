use Rattle.std.proofs.Common.{◌≡◌, ◌<◌, subst, sym, ◌∙◌}
use Rattle.pat_bags.specs.Views.{word_of}
use Rattle.pat_patterns.specs.Views.{pattern_view}
use Rattle.pat_refutations.proofs.membership.cutting.shortened.Goals as goal

pub returns : goal.returns
returns c =
    let cut = c.cut_above.ensures in
    c.cut_laws.ensures.flat (pattern_view c.args.p.now) cut.0 (word_of c.cut_above.result) (word_of c.args.word.now)
    (sym c.is_flat.ensures ∙ c.if-not-is_flat.false)
    (subst (λ k. k < cut.0) c.degree.ensures cut.1)
    cut.2
