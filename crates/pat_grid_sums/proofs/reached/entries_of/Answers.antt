use Rattle.std.proofs.Common.{◌≡◌, ◌*◌, [], length, get_or, subst, ap, ◌∙◌, arith}
use Rattle.std.proofs.lemmas.List.{get_or_default, length-replicate}
use Rattle.pat_grid_sums.specs.Systems.{EntriesTo}
use Rattle.pat_grid_sums.proofs.Splitting.{some_places}
use Rattle.pat_grid_sums.proofs.Writing.{entries_begun, entries_more, entries_room, few_points, few_entries, replicated}
use Rattle.pat_grid_sums.proofs.reached.entries_of.Goals as goal

pub overflow_mul-points : goal.overflow_mul-points
overflow_mul-points c =
    let few = few_points c.args.shape.k c.requires.shape.0 c.args.shape c.requires.shape.1 in
    omega arith

pub overflow_mul-sets : goal.overflow_mul-sets
overflow_mul-sets c =
    let few = few_points c.args.shape.k c.requires.shape.0 c.args.shape c.requires.shape.1 in
    let n = length c.args.sets.now in
    let l = few_entries n n (c.args.shape.words * c.args.shape.width) (omega arith) c.requires.few few in
    omega arith

pub loop-s-init : goal.loop-s-init
loop-s-init c =
    let points = c.args.shape.words * c.args.shape.width in
    let n = length c.args.sets.now in
    entries_begun c.args.sets.now c.args.shape.width points c.in_ok-entries.entries (ap length c.in_ok-entries.ensures ∙ length-replicate (n * points) 2) (λ i. ap (λ xs. get_or xs i 2) c.in_ok-entries.ensures ∙ replicated (n * points) i)

pub overflow_mul-s : goal.overflow_mul-s
overflow_mul-s c =
    let few = few_points c.args.shape.k c.requires.shape.0 c.args.shape c.requires.shape.1 in
    let test = c.loop-s-test.true in
    let l = few_entries c.loop-s.s (length c.args.sets.now) (c.args.shape.words * c.args.shape.width) (omega arith) c.requires.few few in
    omega arith

pub put_entries-requires-clause-some : goal.put_entries-requires-clause-some
put_entries-requires-clause-some c = some_places c.args.shape.k c.requires.shape.0 c.args.shape c.requires.shape.1

pub put_entries-requires-clause-room : goal.put_entries-requires-clause-room
put_entries-requires-clause-room c =
    let s = c.args.shape in
    let long : length c.as_slice.result.now ≡ s.words = ap length (c.as_slice.ensures ∙ c.index-sets-s.is ∙ get_or_default c.args.sets.now c.loop-s.s c.index-sets-s.result [] c.loop-s-test.true) ∙ c.requires.sets.as_long c.loop-s.s c.loop-s-test.true in
    let many = ap (λ i. i * s.width) long in
    let room = entries_room c.loop-s.s (length c.args.sets.now) (s.words * s.width) c.loop-s-test.true in
    let all = c.loop-s.invariant.as_long in
    omega arith

pub put_entries-requires-clause-fits : goal.put_entries-requires-clause-fits
put_entries-requires-clause-fits c =
    let s = c.args.shape in
    let few = few_points s.k c.requires.shape.0 s c.requires.shape.1 in
    let long : length c.as_slice.result.now ≡ s.words = ap length (c.as_slice.ensures ∙ c.index-sets-s.is ∙ get_or_default c.args.sets.now c.loop-s.s c.index-sets-s.result [] c.loop-s-test.true) ∙ c.requires.sets.as_long c.loop-s.s c.loop-s-test.true in
    let many = ap (λ i. i * s.width) long in
    let test = c.loop-s-test.true in
    let l = few_entries c.loop-s.s (length c.args.sets.now) (s.words * s.width) (omega arith) c.requires.few few in
    omega arith

pub put_entries-requires-clause-none : goal.put_entries-requires-clause-none
put_entries-requires-clause-none c = λ i from upto. c.loop-s.invariant.later i from

pub loop-s-preserved : goal.loop-s-preserved
loop-s-preserved c =
    let s = c.args.shape in
    let is = c.as_slice.ensures ∙ c.index-sets-s.is ∙ get_or_default c.args.sets.now c.loop-s.s c.index-sets-s.result [] c.loop-s-test.true in
    let long : length c.as_slice.result.now ≡ s.words = ap length is ∙ c.requires.sets.as_long c.loop-s.s c.loop-s-test.true in
    entries_more c.args.sets.now s.width (s.words * s.width) c.loop-s.s (length c.as_slice.result.now * s.width) c.as_slice.result.now c.loop-s.entries c.put_entries.new.entries is (ap (λ i. i * s.width) long) c.loop-s.invariant c.in_ok-put_entries.ensures

pub returns : goal.returns
returns c =
    let s = c.args.shape in
    let e : c.loop-s.s ≡ length c.args.sets.now = (let past = c.loop-s-test.false in let end = c.loop-s.auto.s-end in omega arith) in
    subst (λ m. EntriesTo c.args.sets.now s.width (s.words * s.width) m c.loop-s.entries) e c.loop-s.invariant
