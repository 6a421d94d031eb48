use Rattle.std.proofs.Common.{◌≡◌, ◌+◌, sym, ap, ◌∙◌, subst, arith}
use Rattle.pat_solve_elimination.specs.Weighing.{nodes_by, levels_by}
use Rattle.pat_solve_elimination.proofs.Growths.{if_some}
use Rattle.pat_solve_elimination.proofs.Weighed.{weight_there, no_weight}
use Rattle.pat_solve_elimination.proofs.weighing.weigh_variable.Goals as goal

pub returns-in-Some-clause-nodes : goal.returns-in-Some-clause-nodes
returns-in-Some-clause-nodes c =
    let ks = c.args.variables.now in
    let ws = c.args.weights.now in
    let w = weight_there ks ws c.in-Some.place c.weight_at-weight.result c.requires.ascending c.in-Some.ensures.some.0 c.weight_at-weight.ensures in
    let own : nodes_by ks ws c.args.variable ≡ c.weight_at-weight.result.nodes = subst (λ k. nodes_by ks ws k ≡ c.weight_at-weight.result.nodes) c.in-Some.ensures.some.1 w.0 in
    if_some c.with.result c.with.ensures (λ next h. (h.0 ∙ ap (λ n. c.args.growth.nodes + n) (sym own), h.1))

pub returns-in-Some-clause-levels : goal.returns-in-Some-clause-levels
returns-in-Some-clause-levels c =
    let ks = c.args.variables.now in
    let ws = c.args.weights.now in
    let w = weight_there ks ws c.in-Some.place c.weight_at-weight.result c.requires.ascending c.in-Some.ensures.some.0 c.weight_at-weight.ensures in
    let own : levels_by ks ws c.args.variable ≡ c.weight_at-weight.result.levels = subst (λ k. levels_by ks ws k ≡ c.weight_at-weight.result.levels) c.in-Some.ensures.some.1 w.1 in
    if_some c.with.result c.with.ensures (λ next h. (let l = h.2 in omega (arith, l), let l = h.2 in omega (arith, l, own)))

pub returns-in-None-clause-nodes : goal.returns-in-None-clause-nodes
returns-in-None-clause-nodes c =
    let w = no_weight c.args.variables.now c.args.weights.now c.args.variable c.in-None.ensures.none in
    if_some c.with-in-None.result c.with-in-None.ensures (λ next h. (h.0 ∙ ap (λ n. c.args.growth.nodes + n) (sym w.0), h.1))

pub returns-in-None-clause-levels : goal.returns-in-None-clause-levels
returns-in-None-clause-levels c =
    let w = no_weight c.args.variables.now c.args.weights.now c.args.variable c.in-None.ensures.none in
    let one = w.1 in
    if_some c.with-in-None.result c.with-in-None.ensures (λ next h. (let l = h.2 in omega (arith, l), let l = h.2 in omega (arith, l, one)))
