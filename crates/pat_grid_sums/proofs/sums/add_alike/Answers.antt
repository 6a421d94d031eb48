use Rattle.std.proofs.Common.{◌≡◌, ◌≤◌, [], ◌∙◌, length, get_or, ap, sym, subst, arith}
use Rattle.std.proofs.lemmas.List.{length-replicate}
use Rattle.pat_grid_sums.specs.Sets.{Puts, AnyBefore}
use Rattle.pat_grid_sums.specs.Shapes.{IsGathered, IsAlikeSum}
use Rattle.pat_grid_sums.proofs.Putting.{puts_more}
use Rattle.pat_grid_sums.proofs.Summing.{gathered_made}
use Rattle.pat_grid_sums.proofs.Alike.{are_first}
use Rattle.pat_grid_sums.proofs.sums.add_alike.Goals as goal

pub add_word-requires-clause-moved : goal.add_word-requires-clause-moved
add_word-requires-clause-moved c =
    let s = c.args.shape in
    λ l below. subst (λ n. length (get_or c.args.moved.now l []) ≤ n) (sym (ap length c.in_ok-words.ensures ∙ length-replicate s.words 0)) (c.requires.moved l below)

pub add_if_alike-requires-clause-gathered : goal.add_if_alike-requires-clause-gathered
add_if_alike-requires-clause-gathered c =
    ap length c.as_slice-gathered.ensures ∙ c.add_word.ensures.as_long ∙ ap length c.in_ok-words.ensures ∙ length-replicate c.args.shape.words 0

pub add_if_alike-requires-clause-bits : goal.add_if_alike-requires-clause-bits
add_if_alike-requires-clause-bits c = c.all_bits-bits.ensures

pub loop-other-preserved : goal.loop-other-preserved
loop-other-preserved c =
    let a = c.args in
    let s = a.shape in
    let made = gathered_made s a.ones.now a.moved.now c.in_ok-words.words c.add_word.new.words a.word c.requires.moved c.in_ok-words.ensures c.add_word.ensures in
    puts_more (IsAlikeSum a.ones.now a.moved.now s a.word) c.loop-other.other a.sums.now c.loop-other.sums c.add_if_alike.new.sums c.loop-other.invariant
    (c.in_ok-add_if_alike.ensures a.moved.now (subst (IsGathered a.moved.now s (get_or a.ones.now a.word 0)) (sym c.as_slice-gathered.ensures) made))

pub returns : goal.returns
returns c =
    let a = c.args in
    let e : c.loop-other.other ≡ length a.ones.now = (let past = c.loop-other-test.false in let end = c.loop-other.auto.other-end in omega arith) in
    are_first a.shape a.ones.now a.moved.now a.word a.sums.now c.loop-other.sums (c.has_before.ensures.no c.if-has_before.false)
    (subst (λ m. Puts (AnyBefore (IsAlikeSum a.ones.now a.moved.now a.shape a.word) m) a.sums.now c.loop-other.sums) e c.loop-other.invariant)
