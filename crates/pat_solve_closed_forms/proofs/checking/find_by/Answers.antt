use Rattle.std.proofs.Common.{arith}
use Rattle.pat_solve_closed_forms.specs.Forms.{values_by}
use Rattle.pat_solve_closed_forms.proofs.Steps.{finds_next, finds_all}
use Rattle.pat_solve_closed_forms.proofs.checking.find_by.Goals as goal

pub loop-number-init : goal.loop-number-init
loop-number-init c = record { found = λ j l. absurd (omega arith); forms = c.requires.forms }

pub loop-number-preserved : goal.loop-number-preserved
loop-number-preserved c = record {
  found =
      finds_next (values_by c.args.by.now) c.args.constraints.now c.args.numbers.now c.loop-number.number-index c.loop-number.found c.in_ok-found.found c.loop-number.invariant.found
      c.in_ok-found.ensures.found;
  forms = c.in_ok-found.ensures.forms;
}

pub returns : goal.returns
returns c =
    finds_all (values_by c.args.by.now) c.args.constraints.now c.args.numbers.now c.loop-number.number-index c.loop-number.found
    (let a = c.loop-number-test.false in let b = c.loop-number.auto.number-index-end in omega arith)
    c.loop-number.invariant.found
