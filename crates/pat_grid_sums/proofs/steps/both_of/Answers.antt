use Rattle.std.proofs.Common.{length, ap, ◌∙◌, sym, subst}
use Rattle.std.proofs.lemmas.List.{length-replicate}
use Rattle.pat_grid_sums.specs.Sets.{In, Puts}
use Rattle.pat_grid_sums.specs.Systems.{set_at, AreSets}
use Rattle.pat_grid_sums.proofs.Putting.{has_all, has_more}
use Rattle.pat_grid_sums.proofs.steps.both_of.Goals as goal

pub join_set-requires : goal.join_set-requires
join_set-requires c =
    let n = c.requires.0 in
    (n, subst (λ m. AreSets n m c.args.sets.now) (sym (ap length c.in_ok-words.ensures ∙ length-replicate c.args.shape.words 0)) c.requires.1)

pub join_set-requires-2 : goal.join_set-requires-2
join_set-requires-2 c =
    let n = c.requires.0 in
    (n, subst (λ m. AreSets n m c.args.sets.now) (sym (c.join_set.ensures.as_long ∙ ap length c.in_ok-words.ensures ∙ length-replicate c.args.shape.words 0)) c.requires.1)

pub returns : goal.returns
returns c =
    let left = In (set_at c.args.sets.now c.args.left) in
    let right = In (set_at c.args.sets.now c.args.right) in
    has_more left right c.args.shape.words c.join_set.new.words c.join_set-2.new.words
    (has_all left c.args.shape.words c.join_set.new.words (subst (λ z. Puts left z c.join_set.new.words) c.in_ok-words.ensures c.join_set.ensures))
    c.join_set-2.ensures
