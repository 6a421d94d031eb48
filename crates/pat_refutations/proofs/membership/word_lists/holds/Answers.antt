use Rattle.std.proofs.Common.{⊎_elim, refl}
use Rattle.pat_bags.specs.Views.{word_of}
use Rattle.pat_refutations.proofs.Rests.{has_at, has_more, nowhere}
use Rattle.pat_refutations.proofs.membership.word_lists.holds.Goals as goal

pub returns-then-is_same : goal.returns-then-is_same
returns-then-is_same c =
    let words = c.args.words.now in
    let at = c.loop-own.own-index in
    (λ h. has_at words at nowhere (word_of c.args.word.now) c.loop-own-test.true (c.is_same.ensures.0 c.if-is_same.true), λ h. refl)

pub loop-own-preserved : goal.loop-own-preserved
loop-own-preserved c h =
    ⊎_elim (λ e. let yes = c.is_same.ensures.1 e in let no = c.if-is_same.false in cc) (λ k. k)
    ((has_more c.args.words.now c.loop-own.own-index nowhere c.loop-own-test.true (word_of c.args.word.now)).0 (c.loop-own.invariant h))
