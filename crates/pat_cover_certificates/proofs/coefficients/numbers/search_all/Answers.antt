use Rattle.std.proofs.Common.{arith, ℕ, ◌≡◌, ◌<◌, ◌≤◌, length, sym, ap, ◌∙◌, subst, refl}
use Rattle.std.proofs.lemmas.List.{length-map}
use Rattle.std.proofs.lemmas.Bool.{eqb-true}
use Rattle.pat_words_spec.specs.Words.{Word}
use Rattle.pat_bags.specs.Views.{word_of}
use Rattle.pat_inclusion_spec.specs.Counts.{most_tags}
use Rattle.pat_linear.specs.Views.{words_of}
use Rattle.pat_cover_certificates.specs.declared.coefficients.frames.Frame.{Frame}
use Rattle.pat_cover_certificates.specs.coefficients.Numbers.{MakesFirst}
use Rattle.pat_cover_certificates.specs.coefficients.Frames.{left_of, Stands, CameToNothing, Advances, lists_left, numbers_of}
use Rattle.pat_cover_certificates.proofs.Standing.{stands_fits, left_last, push_stands, nothing_here, nothing_at_all, none_came}
use Rattle.pat_cover_certificates.proofs.Ending.{first_numbers, push_less}
use Rattle.pat_cover_certificates.proofs.coefficients.numbers.search_all.Goals as goal

pub returns-then-is_empty : goal.returns-then-is_empty
returns-then-is_empty c =
    nothing_at_all most_tags c.args.periods.now c.loop-left.frames (word_of c.args.word.now)
    (eqb-true (length c.loop-left.frames) 0 (sym c.is_empty.ensures ∙ c.if-is_empty.true))
    (nothing_here most_tags c.args.periods.now c.loop-left.frames (word_of c.args.word.now) (word_of c.loop-left.left) c.len.result c.len.ensures c.loop-left.invariant.left
    (c.comes_to_nothing.ensures.nothing c.if-comes_to_nothing.true))

pub advance-requires-clause-none : goal.advance-requires-clause-none
advance-requires-clause-none c =
    nothing_here most_tags c.args.periods.now c.loop-left.frames (word_of c.args.word.now) (word_of c.loop-left.left) c.len.result c.len.ensures c.loop-left.invariant.left
    (c.comes_to_nothing.ensures.nothing c.if-comes_to_nothing.true)

pub loop-left-preserved-in-Some : goal.loop-left-preserved-in-Some
loop-left-preserved-in-Some c =
    let ps = words_of c.args.periods.now in
    let w = word_of c.args.word.now in
    let new = subst (Advances most_tags ps w c.loop-left.frames c.advance.new.frames) c.in-Some.is c.in_ok-advance.ensures.next in
    let fits = stands_fits most_tags ps w c.advance.new.frames new.0 in
    let many = length-map c.args.periods.now word_of in
    record { stands = new.0; few = omega arith; failed = c.advance.ensures.failed; left = new.1 }

pub returns-then-len-periods : goal.returns-then-len-periods
returns-then-len-periods c =
    let ps = words_of c.args.periods.now in
    let w = word_of c.args.word.now in
    let fs = c.loop-left.frames in
    let many = length-map c.args.periods.now word_of in
    let same = c.len-else-comes_to_nothing.ensures in
    let whole = c.if-len-periods.true in
    let all : length fs ≡ length ps = omega arith in
    let none = subst (λ (x : Word). (t : ℕ) → t < most_tags → x t ≡ 0) c.loop-left.invariant.left (c.comes_to_nothing.ensures.end c.if-comes_to_nothing.false (omega arith)) in
    subst (λ cs. MakesFirst most_tags ps cs w) (sym (c.in_ok-numbers.ensures ∙ ap numbers_of c.as_slice-then-len-periods.ensures)) (first_numbers most_tags ps w fs c.loop-left.invariant.stands all none)

pub loop-left-smaller : goal.loop-left-smaller
loop-left-smaller c =
    let ps = words_of c.args.periods.now in
    let fs = c.loop-left.frames in
    let new : Frame = record { number = 0; before = c.loop-left.left; left = c.loop-left.left } in
    let many = length-map c.args.periods.now word_of in
    let same = c.len-else-comes_to_nothing.ensures in
    let more = c.if-len-periods.false in
    let few = c.loop-left.invariant.few in
    subst (λ l. lists_left ps l < lists_left ps fs) (sym c.in_ok-push.ensures.ok) (push_less ps fs new (omega arith) refl)

pub loop-left-preserved : goal.loop-left-preserved
loop-left-preserved c =
    let ps = words_of c.args.periods.now in
    let w = word_of c.args.word.now in
    let fs = c.loop-left.frames in
    let new : Frame = record { number = 0; before = c.loop-left.left; left = c.loop-left.left } in
    let many = length-map c.args.periods.now word_of in
    let same = c.len-else-comes_to_nothing.ensures in
    let more = c.if-len-periods.false in
    let few = c.loop-left.invariant.few in
    let stands = subst (Stands most_tags ps w) (sym c.in_ok-push.ensures.ok) (push_stands most_tags ps w fs new c.loop-left.invariant.stands (omega arith) refl c.loop-left.invariant.left c.loop-left.invariant.left) in
    let fits = stands_fits most_tags ps w c.push.new.self stands in
    record { stands = stands; few = omega arith; failed = c.loop-left.invariant.failed; left = sym (ap (left_of w) c.in_ok-push.ensures.ok ∙ left_last w fs new) }

pub loop-left-init : goal.loop-left-init
loop-left-init c =
    let ps = words_of c.args.periods.now in
    let w = word_of c.args.word.now in
    let none = c.reserve_exact.ensures.items ∙ c.frames.view_is ∙ c.new-frames.ensures in
    record {
      stands = subst (Stands most_tags ps w) (sym none) tt;
      few = subst (λ l. length l ≤ length c.args.periods.now) (sym none) (omega arith);
      failed = subst (CameToNothing most_tags ps) (sym c.new-failed.ensures) (none_came most_tags ps);
      left = subst (λ l. word_of c.args.word.now ≡ left_of w l) (sym none) refl;
    }

pub comes_to_nothing-requires-clause-failed : goal.comes_to_nothing-requires-clause-failed
comes_to_nothing-requires-clause-failed c =
    subst (CameToNothing most_tags (words_of c.args.periods.now)) (sym c.as_slice.ensures) c.loop-left.invariant.failed

pub advance-requires-clause-failed : goal.advance-requires-clause-failed
advance-requires-clause-failed c = c.in_ok-turns.ensures.came most_tags (words_of c.args.periods.now) c.loop-left.invariant.failed
