use Rattle.std.proofs.Common.{◌&&◌, ap₂, ◌∙◌}
use Rattle.pat_judge.proofs.shape.words.has_words.Goals as goal

pub returns : goal.returns
returns c =
    c.all_three.ensures
    ∙ ap₂ (λ a b. a && b) c.type_has_word-of.ensures (ap₂ (λ a b. a && b) c.requires.needs c.first_has_words-first.ensures)
