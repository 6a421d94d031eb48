use Rattle.std.proofs.Common.{◌+◌, ◌<◌, length, sym, arith, subst}
use Rattle.std.proofs.lemmas.List.{length-map}
use Rattle.std.proofs.lemmas.Result.{err_from_is_err_and}
use Rattle.pat_infer_spec.specs.Walk.{walk_functions}
use Rattle.pat_core.specs.Views.{program_view, function_view}
use Rattle.pat_infer.proofs.WalkFunctions.{finds_exits}
use Rattle.pat_infer.proofs.Functions.{next_walked, next_refused}
use Rattle.pat_infer.proofs.making.walk_all.Goals as goal

pub returns-in_err-walk_at : goal.returns-in_err-walk_at
returns-in_err-walk_at c =
    let p = c.args.signed.now.program.now in
    let v = program_view p in
    let n = c.loop-number.number in
    let within : n < length p.functions = omega (arith, c.loop-number-test.true, c.len-number-end.ensures) in
    let e = c.in_err-walk_at.field-0.0 in
    let q = err_from_is_err_and c.from_residual.result c.from_residual.ensures.1 in
    finds_exits p c.from_residual.result q.0 e c.args.problem.now c.walk_at.new.problem (walk_functions v 0 (1 + length c.args.problem.now.vars) v.functions) q.1 q.2
    (next_refused p e c.args.problem.now c.loop-number.problem n (subst (λ k. n < k) (sym (length-map p.functions function_view)) within) c.loop-number.invariant c.in_err-walk_at.ensures)

pub loop-number-preserved : goal.loop-number-preserved
loop-number-preserved c =
    let p = c.args.signed.now.program.now in
    let n = c.loop-number.number in
    let within : n < length p.functions = omega (arith, c.loop-number-test.true, c.len-number-end.ensures) in
    next_walked p c.args.problem.now c.loop-number.problem c.walk_at.new.problem n (subst (λ k. n < k) (sym (length-map p.functions function_view)) within) c.loop-number.invariant c.in_ok-walk_at.ensures
