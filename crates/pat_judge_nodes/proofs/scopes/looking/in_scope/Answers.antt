use Rattle.std.proofs.Common.{◌≡◌, sym, ap, ◌∙◌, arith}
use Rattle.pat_core.specs.Views.{program_view}
use Rattle.pat_derivation_spec.specs.Scopes.{is_in_scope_within}
use Rattle.pat_judge_nodes.specs.declared.scopes.looking.Found.TheVariants as found
use Rattle.pat_judge_nodes.proofs.Walks.{whole_scope, whole_length, looked}
use Rattle.pat_judge_nodes.proofs.scopes.looking.in_scope.Goals as goal

pub returns-in-Here : goal.returns-in-Here
returns-in-Here c =
    looked c.args.program.now c.args.variable c.loop-left.left c.loop-left.at c.args.node found.Here c.loop-left-test.true c.loop-left.invariant.same c.in-Here.ensures.found
    ∙ whole_scope c.args.program.now c.args.node c.args.variable

pub returns-in-Nowhere : goal.returns-in-Nowhere
returns-in-Nowhere c =
    looked c.args.program.now c.args.variable c.loop-left.left c.loop-left.at c.args.node found.Nowhere c.loop-left-test.true c.loop-left.invariant.same c.in-Nowhere.ensures.found
    ∙ whole_scope c.args.program.now c.args.node c.args.variable

pub loop-left-preserved : goal.loop-left-preserved
loop-left-preserved c =
    let long = whole_length c.args.program.now in
    record {
      inside = let within = c.in-Above.ensures.inside in omega (arith, within, long);
      same = looked c.args.program.now c.args.variable c.loop-left.left c.loop-left.at c.args.node (found.Above c.in-Above.next) c.loop-left-test.true c.loop-left.invariant.same c.in-Above.ensures.found;
    }

pub returns : goal.returns
returns c =
    let none : c.loop-left.left ≡ 0 = omega (arith, c.loop-left-test.false) in
    c.is_parameter.ensures
    ∙ ap (λ k. is_in_scope_within k (program_view c.args.program.now) c.loop-left.at c.args.variable) (sym none)
    ∙ c.loop-left.invariant.same
    ∙ whole_scope c.args.program.now c.args.node c.args.variable
