use Rattle.std.proofs.Common.{◌+◌, drop, get_or, sym, subst}
use Rattle.pat_bags.specs.Views.{word_of}
use Rattle.pat_refutations.specs.membership.Listings.{HasWord, Reached, Within}
use Rattle.pat_words_spec.specs.Languages.{StarOf}
use Rattle.pat_refutations.proofs.Rests.{Same, drop_more, nowhere}
use Rattle.pat_refutations.proofs.Spans.{Spanned, span_begun, turn_step, turn_empty, single, none_lies, spans_left}
use Rattle.pat_refutations.proofs.membership.word_lists.finite_sums.Goals as goal
use Rattle.pat_refutations.proofs.membership.word_lists.finite_sums.Goals.{then-not-is_empty+in_ok-words, else-not-is_empty}

pub loop-step-init : goal.loop-step-init
loop-step-init c =
    let limit = word_of c.args.limit.now in
    let steps = c.args.steps.now in
    let words = c.push.new.self in
    let first = single words c.new-words.result c.empty.result c.new-words.ensures c.in_ok-push.ensures.ok c.empty.ensures in
    record {
      lies = λ w h. none_lies w limit ((first w).0 h);
      same = span_begun limit words steps first;
    }

pub loop-step-preserved : goal.loop-step-preserved
loop-step-preserved c =
    let limit = word_of c.args.limit.now in
    let steps = c.args.steps.now in
    let i = c.loop-step.step-index in
    let b = get_or steps i nowhere in
    let rest = drop (i + 1) steps in
    let all = Within limit (StarOf (HasWord steps)) in
    let inv = subst (λ l. Same (Within limit (Spanned (HasWord c.loop-step.words) l)) all) (drop_more steps i nowhere c.loop-step-test.true) c.loop-step.invariant.same in
    elim c.if-not-is_empty.branch [
      | then-not-is_empty+in_ok-words w ↦ let new = subst (λ l. Same (HasWord w.in_ok-words.words) (Within limit (Reached (HasWord l) (word_of b)))) w.as_slice.ensures w.in_ok-words.ensures in
          record {
            lies = λ x h. ((new x).0 (subst (λ l. HasWord l x) w.words-is h)).0;
            same = subst (λ l. Same (Within limit (Spanned (HasWord l) rest)) all) (sym w.words-is)
                (turn_step limit c.loop-step.words w.in_ok-words.words b rest all inv new);
          }
      | else-not-is_empty w ↦ record {
        lies = λ x h. c.loop-step.invariant.lies x (subst (λ l. HasWord l x) w.words-is h);
        same = subst (λ l. Same (Within limit (Spanned (HasWord l) rest)) all) (sym w.words-is)
            (turn_empty limit c.loop-step.words b rest all (c.is_empty.ensures.0 w.if-not-is_empty.false) inv);
      }
    ]

pub returns : goal.returns
returns c = spans_left (word_of c.args.limit.now) c.loop-step.words c.args.steps.now c.loop-step.step-index (Within (word_of c.args.limit.now) (StarOf (HasWord c.args.steps.now))) c.loop-step-test.false c.loop-step.invariant.lies c.loop-step.invariant.same
