use Rattle.std.proofs.Common.{◌≡◌, ◌+◌, drop, get_or, true, false, refl, sym, subst}
use Rattle.pat_words_spec.specs.Words.{plus, LiesIn}
use Rattle.pat_bags.specs.Views.{word_of}
use Rattle.pat_refutations.specs.membership.Listings.{HasWord, Only, Within}
use Rattle.pat_words_spec.specs.Languages.{EitherOf, SumOf}
use Rattle.pat_refutations.proofs.Rests.{Same, turn, turn_none, through, none_first, has_more, sums_more, sum_inside, sum_outside, nowhere}
use Rattle.pat_refutations.proofs.membership.word_lists.push_sums.Goals as goal
use Rattle.pat_refutations.proofs.membership.word_lists.push_sums.Goals.{in-Some+in_ok-push_new-in-Some, in-None}

pub loop-other-preserved : goal.loop-other-preserved
loop-other-preserved c =
    let limit = word_of c.args.limit.now in
    let u = word_of c.args.word.now in
    let others = c.args.others.now in
    let i = c.loop-other.other-index in
    let v = word_of (get_or others i nowhere) in
    let one = Within limit (SumOf (Only u) (Only v)) in
    let here = Within limit (SumOf (Only u) (HasWord (drop i others))) in
    let next = Within limit (SumOf (Only u) (HasWord (drop (i + 1) others))) in
    let all = EitherOf (HasWord c.args.words.now) (Within limit (SumOf (Only u) (HasWord others))) in
    let split = sums_more limit u (Only v) (HasWord (drop i others)) (HasWord (drop (i + 1) others)) (has_more others i nowhere c.loop-other-test.true) in
    elim c.match-add_within.branch [
      | in-Some+in_ok-push_new-in-Some w ↦ let s = word_of w.in-Some.sum in
          let lies = subst (λ x. LiesIn x limit) (sym w.in-Some.ensures.sum) (w.in-Some.ensures.some.0 refl) in
          subst (λ l. Same (EitherOf (HasWord l) next) all) (sym w.words-is)
          (turn (HasWord c.loop-other.words) (HasWord w.push_new.new.words) (Only s) here next all c.loop-other.invariant w.in_ok-push_new-in-Some.ensures
          (through here one (Only s) next split (sum_inside limit u v s w.in-Some.ensures.sum lies)))
      | in-None w ↦ let out = λ (h : LiesIn (plus u v) limit). no_some (w.in-None.ensures.some.1 h) in
          subst (λ l. Same (EitherOf (HasWord l) next) all) (sym w.words-is)
          (turn_none (HasWord c.loop-other.words) here next all c.loop-other.invariant (none_first here one next split (sum_outside limit u v out)))
    ]
  where
    no_some : false ≡ true → ⊥
    no_some e = cc
