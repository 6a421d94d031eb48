use Rattle.std.proofs.Common.{arith, Some, get_or, append-nil, ◌≡◌, ◌++◌, ◌∷◌, ◌<◌, [], length, length-append, ap, ◌∙◌, sym, subst}
use Rattle.std.specs.Prelude.{slice_get}
use Rattle.std.proofs.lemmas.List.{length-map}
use Rattle.pat_bags.specs.Views.{word_of}
use Rattle.pat_inclusion_spec.specs.Counts.{most_tags}
use Rattle.pat_linear.specs.Views.{words_of}
use Rattle.pat_cover_certificates.specs.coefficients.Numbers.{NoNumbers}
use Rattle.pat_cover_certificates.specs.coefficients.Frames.{left_of, to_come, Stands, CameToNothing, lists_left}
use Rattle.pat_cover_certificates.proofs.Standing.{front_stands, last_within, next_stands, ends_here, left_last, period_at, nowhere, seam, stands_fits, none_from, last_before, last_whole, goes_ends}
use Rattle.pat_cover_certificates.proofs.Ending.{next_less}
use Rattle.pat_cover_certificates.proofs.coefficients.frames.advance.Goals as goal

pub goes_on-requires : goal.goes_on-requires
goes_on-requires c t =
    let ps = words_of c.args.periods.now in
    let w = word_of c.args.word.now in
    let whole = c.in-Some.ensures.some in
    let same = c.len-place.ensures in
    let few = c.loop-frame.invariant.few in
    let more = ap length whole ∙ length-append c.pop.new.self (c.in-Some.frame ∷ []) in
    let at : slice_get ps (length c.pop.new.self) ≡ Some (word_of (get_or c.args.periods.now c.len-place.result nowhere)) = ap (slice_get ps) (sym same) ∙ period_at c.args.periods.now c.len-place.result nowhere (omega arith) in
    let lies = last_within most_tags ps w c.pop.new.self c.in-Some.frame (word_of (get_or c.args.periods.now c.len-place.result nowhere)) (subst (Stands most_tags ps w) whole c.loop-frame.invariant.stands) at t in
    let fit = c.requires.fit t in
    omega arith

pub loop-frame-preserved : goal.loop-frame-preserved
loop-frame-preserved c =
    let ps = words_of c.args.periods.now in
    let w = word_of c.args.word.now in
    let whole = c.in-Some.ensures.some in
    let same = c.len-place.ensures in
    let few = c.loop-frame.invariant.few in
    let more = ap length whole ∙ length-append c.pop.new.self (c.in-Some.frame ∷ []) in
    let at : slice_get ps (length c.pop.new.self) ≡ Some (word_of (get_or c.args.periods.now c.len-place.result nowhere)) = ap (slice_get ps) (sym same) ∙ period_at c.args.periods.now c.len-place.result nowhere (omega arith) in
    let stands = subst (Stands most_tags ps w) whole c.loop-frame.invariant.stands in
    let front = c.loop-frame.invariant.front in
    let ended = ends_here most_tags ps w c.pop.new.self c.in-Some.frame (word_of (get_or c.args.periods.now c.len-place.result nowhere)) stands at
    (goes_ends c.args.periods.now c.pop.new.self c.in-Some.frame (word_of (get_or c.args.periods.now c.len-place.result nowhere)) c.len-place.result same
    (c.in-None.ensures ps (subst (CameToNothing most_tags ps) (sym c.as_slice.ensures) c.loop-frame.invariant.failed)))
    (subst (λ fs. NoNumbers most_tags (to_come ps fs) (left_of w fs)) whole c.loop-frame.invariant.none) in
    record {
      stands = front_stands most_tags ps w c.pop.new.self c.in-Some.frame stands;
      none = ended;
      few = omega arith;
      failed = c.note_each.ensures.came most_tags ps (period_at c.args.periods.now c.len-place.result nowhere (omega arith)) c.loop-frame.invariant.failed
          (none_from most_tags c.args.periods.now c.pop.new.self w (word_of c.in-Some.frame.before) c.len-place.result same (last_before most_tags ps w c.pop.new.self c.in-Some.frame stands) ended);
      room = subst (λ k. 0 < k) (sym c.note_each.ensures.room) c.loop-frame.invariant.room;
      front = (c.in-Some.frame ∷ front.0, front.1 ∙ ap (λ fs. fs ++ front.0) whole ∙ seam c.pop.new.self c.in-Some.frame front.0);
    }

pub returns-in-Some-goes_on-clause-next : goal.returns-in-Some-goes_on-clause-next
returns-in-Some-goes_on-clause-next c =
    let ps = words_of c.args.periods.now in
    let w = word_of c.args.word.now in
    let whole = c.in-Some.ensures.some in
    let same = c.len-place.ensures in
    let few = c.loop-frame.invariant.few in
    let front = c.loop-frame.invariant.front in
    let next = c.in-Some-goes_on.next in
    let made = c.in-Some-goes_on.ensures ps (subst (CameToNothing most_tags ps) (sym c.as_slice.ensures) c.loop-frame.invariant.failed) in
    let new = c.in_ok-push-in-Some-goes_on.ensures.ok in
    let more = ap length whole ∙ length-append c.pop.new.self (c.in-Some.frame ∷ []) in
    let at : slice_get ps (length c.pop.new.self) ≡ Some (word_of (get_or c.args.periods.now c.len-place.result nowhere)) = ap (slice_get ps) (sym same) ∙ period_at c.args.periods.now c.len-place.result nowhere (omega arith) in
    let stands = subst (Stands most_tags ps w) whole c.loop-frame.invariant.stands in
    let none = subst (λ fs. NoNumbers most_tags (to_come ps fs) (left_of w fs)) whole c.loop-frame.invariant.none in
    let old = front.1 ∙ ap (λ fs. fs ++ front.0) whole ∙ seam c.pop.new.self c.in-Some.frame front.0 in
    let many = length-map c.args.periods.now word_of in (
      subst (Stands most_tags ps w) (sym new) (next_stands most_tags ps w c.pop.new.self c.in-Some.frame next (word_of (get_or c.args.periods.now c.len-place.result nowhere)) stands at made.0 made.2 made.3 none),
      sym (ap (left_of w) new ∙ left_last w c.pop.new.self next),
      subst (λ fs. lists_left ps c.push.new.self < lists_left ps fs) (sym old)
          (subst (λ fs. lists_left ps fs < lists_left ps (c.pop.new.self ++ c.in-Some.frame ∷ front.0)) (sym new)
          (next_less ps c.pop.new.self c.in-Some.frame next front.0 (omega arith) made.0 made.1)),
    )

pub loop-frame-init : goal.loop-frame-init
loop-frame-init c =
    let fits = stands_fits most_tags (words_of c.args.periods.now) (word_of c.args.word.now) c.args.frames.now c.requires.stands in
    let many = length-map c.args.periods.now word_of in
    record {
      stands = c.requires.stands;
      none = c.requires.none;
      few = omega arith;
      failed = c.requires.failed;
      room = c.requires.room;
      front = ([], sym (append-nil c.args.frames.now));
    }

pub note_each-requires-clause-whole : goal.note_each-requires-clause-whole
note_each-requires-clause-whole c =
    let ps = words_of c.args.periods.now in
    let w = word_of c.args.word.now in
    let whole = c.in-Some.ensures.some in
    let same = c.len-place.ensures in
    let few = c.loop-frame.invariant.few in
    let more = ap length whole ∙ length-append c.pop.new.self (c.in-Some.frame ∷ []) in
    let at : slice_get ps (length c.pop.new.self) ≡ Some (word_of (get_or c.args.periods.now c.len-place.result nowhere)) = ap (slice_get ps) (sym same) ∙ period_at c.args.periods.now c.len-place.result nowhere (omega arith) in
    last_whole most_tags ps w c.pop.new.self c.in-Some.frame (word_of (get_or c.args.periods.now c.len-place.result nowhere)) (subst (Stands most_tags ps w) whole c.loop-frame.invariant.stands) at
