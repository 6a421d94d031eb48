use Rattle.std.proofs.Common.{◌≡◌, ◌<◌, sym, subst}
use Rattle.pat_grid_sums.specs.Systems.{IsSumOf, set_at}
use Rattle.pat_grid_sums.proofs.Putting.{has_more}
use Rattle.pat_grid_sums.proofs.Splitting.{some_words}
use Rattle.pat_grid_sums.proofs.steps.star_of.Goals as goal

pub put-requires-clause-word : goal.put-requires-clause-word
put-requires-clause-word c =
    let s = c.args.shape in
    subst (λ m. 0 < m) (sym (c.in_ok-words.ensures c.requires.shape.0 c.requires.shape.1).as_many) (some_words s.k c.requires.shape.0 s c.requires.shape.1)

pub returns : goal.returns
returns c = λ n shape.
    let s = c.args.shape in
    let sets = c.args.sets.now in
    has_more (IsSumOf s n (set_at sets c.args.part) (set_at sets c.args.s)) (λ h q. (h ≡ 0) × (q ≡ 0)) s.words c.in_ok-words.words c.put.new.words (c.in_ok-words.ensures n shape) c.put.ensures
