use Rattle.std.proofs.Common.{rules, ◌<◌, ◌^◌, length, arith}
use Rattle.pat_solve_bounds.proofs.Answered.{rights_below, count_within, some_right, none_right}
use Rattle.pat_solve_bounds.proofs.productive.entry.first_unusable.Goals as goal

pub usable_variables-requires : goal.usable_variables-requires
usable_variables-requires c =
    rights_below c.args.program.now c.args.problem.now c.as_slice-vars.result.now c.as_slice.result.now c.requires.problem c.requires.sides c.as_slice-vars.ensures c.as_slice.ensures

pub count_omitted-count-requires : goal.count_omitted-count-requires
count_omitted-count-requires c =
    let few = count_within c.args.program.now c.args.problem.now c.as_slice-vars.result.now c.as_slice-2.result.now c.requires.problem c.as_slice-vars.ensures c.as_slice-2.ensures in
    let small : length c.as_slice-vars.result.now < 2 ^ 64 = search rules in
    omega (arith, few, small)

pub first_open-requires : goal.first_open-requires
first_open-requires c =
    let few = count_within c.args.program.now c.args.problem.now c.as_slice-vars.result.now c.as_slice-2.result.now c.requires.problem c.as_slice-vars.ensures c.as_slice-2.ensures in
    let count = c.count_omitted-count.ensures in
    omega (arith, few, count)

pub returns-in-None-clause-none : goal.returns-in-None-clause-none
returns-in-None-clause-none c =
    none_right c.args.program.now c.args.problem.now c.requires.problem c.as_slice-vars.result.now c.as_slice.result.now c.as_slice-2.result.now c.in_ok-flags.flags c.as_slice-3.result.now c.count_omitted-count.result c.as_slice-vars.ensures c.as_slice.ensures c.as_slice-2.ensures c.as_slice-3.ensures c.in_ok-flags.ensures c.count_omitted-count.ensures c.in-None.ensures.none

pub returns-in-Ok-clause-some : goal.returns-in-Ok-clause-some
returns-in-Ok-clause-some c =
    some_right c.args.program.now c.args.problem.now c.requires.problem c.as_slice-vars.result.now c.as_slice.result.now c.as_slice-2.result.now c.in_ok-flags.flags c.as_slice-3.result.now c.count_omitted-count.result c.as_slice-vars.ensures c.as_slice.ensures c.as_slice-2.ensures c.as_slice-3.ensures c.in_ok-flags.ensures c.count_omitted-count.ensures c.in-Some.place c.in-Ok.number c.in-Some.ensures.some (search rules)
