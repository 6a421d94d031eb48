use Rattle.std.proofs.Common.{length, [], ap, subst, ◌∙◌, arith}
use Rattle.std.proofs.lemmas.List.{get_or_default}
use Rattle.pat_grid_sums.specs.Sets.{In, Puts}
use Rattle.pat_grid_sums.specs.Systems.{set_at}
use Rattle.pat_grid_sums.proofs.Putting.{puts_none, nothing_in}
use Rattle.pat_grid_sums.proofs.Stepping.{absent}
use Rattle.pat_grid_sums.proofs.steps.join_set.Goals as goal

pub join_all-requires : goal.join_all-requires
join_all-requires c =
    let sets = c.args.sets.now in
    let is = c.as_slice.ensures ∙ c.index-sets-s.is ∙ get_or_default sets c.args.s c.index-sets-s.result [] c.if-s-sets.true in
    let many = c.requires.1.as_many in
    let there = c.if-s-sets.true in
    let long = ap length is ∙ c.requires.1.as_long c.args.s (omega arith) in
    omega arith

pub returns-then-s-sets : goal.returns-then-s-sets
returns-then-s-sets c =
    let sets = c.args.sets.now in
    subst (λ xs. Puts (In xs) c.args.words.now c.join_all.new.words) (c.as_slice.ensures ∙ c.index-sets-s.is ∙ get_or_default sets c.args.s c.index-sets-s.result [] c.if-s-sets.true) c.join_all.ensures

pub returns-else-s-sets : goal.returns-else-s-sets
returns-else-s-sets c =
    let sets = c.args.sets.now in
    puts_none (In (set_at sets c.args.s)) c.args.words.now (λ h q i. nothing_in h q (subst (λ ws. In ws h q) (absent sets c.args.s (let l = c.if-s-sets.false in omega arith)) i))
