use Rattle.std.proofs.Common.{◌≡◌, true, false, refl, sym, subst}
use Rattle.pat_words_spec.specs.Words.{plus, LiesIn}
use Rattle.pat_bags.specs.Views.{word_of}
use Rattle.pat_refutations.specs.membership.Listings.{HasWord, Only, Reached, Within}
use Rattle.pat_words_spec.specs.Languages.{EitherOf}
use Rattle.pat_refutations.proofs.Rests.{Same, turn, done, reach_more, reach_none}
use Rattle.pat_refutations.proofs.Totals.{nearer}
use Rattle.pat_refutations.proofs.membership.word_lists.push_steps.Goals as goal

pub loop-next-smaller : goal.loop-next-smaller
loop-next-smaller c =
    let limit = word_of c.args.limit.now in
    let lies = subst (λ x. LiesIn x limit) (sym c.in-Some.ensures.sum) (c.in-Some.ensures.some.0 refl) in
    nearer c.args.step.now.counts limit (word_of c.loop-next.next) (word_of c.in-Some.sum) c.requires.step c.in-Some.ensures.sum lies

pub loop-next-preserved : goal.loop-next-preserved
loop-next-preserved c =
    let limit = word_of c.args.limit.now in
    let step = word_of c.args.step.now in
    let u = word_of c.loop-next.next in
    let s = word_of c.in-Some.sum in
    let all = EitherOf (HasWord c.args.words.now) (Within limit (Reached (Only (word_of c.args.start.now)) step)) in
    record {
      lies = subst (λ x. LiesIn x limit) (sym c.in-Some.ensures.sum) (c.in-Some.ensures.some.0 refl);
      same = subst (λ x. Same (EitherOf (HasWord c.push_new.new.words) (Within limit (Reached (Only x) step))) all) (sym c.in-Some.ensures.sum)
          (turn (HasWord c.loop-next.words) (HasWord c.push_new.new.words) (Only u) (Within limit (Reached (Only u) step)) (Within limit (Reached (Only (plus u step)) step)) all
          c.loop-next.invariant.same c.in_ok-push_new.ensures (reach_more limit u step c.loop-next.invariant.lies));
    }

pub returns-in-None : goal.returns-in-None
returns-in-None c =
    let limit = word_of c.args.limit.now in
    let step = word_of c.args.step.now in
    let u = word_of c.loop-next.next in
    let all = EitherOf (HasWord c.args.words.now) (Within limit (Reached (Only (word_of c.args.start.now)) step)) in
    let rest = Within limit (Reached (Only (plus u step)) step) in
    let out = λ (h : LiesIn (plus u step) limit). no_some (c.in-None.ensures.some.1 h) in
    done (HasWord c.push_new.new.words) rest all
    (turn (HasWord c.loop-next.words) (HasWord c.push_new.new.words) (Only u) (Within limit (Reached (Only u) step)) rest all
    c.loop-next.invariant.same c.in_ok-push_new.ensures (reach_more limit u step c.loop-next.invariant.lies))
    (reach_none limit u step out)
  where
    no_some : false ≡ true → ⊥
    no_some e = cc
