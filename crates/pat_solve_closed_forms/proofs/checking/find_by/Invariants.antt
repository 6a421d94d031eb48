use Rattle.pat_solve_closed_forms.specs.Forms.{values_by, AreKept}
use Rattle.pat_solve_closed_forms.specs.Findings.{Finds}
use Rattle.pat_solve_closed_forms.proofs.checking.find_by.Given as goal

-- what is found of the constraints before this one, and what is kept
abbrev pub invariant-loop-number : goal.invariant-loop-number
invariant-loop-number l = record {
  found : Finds (values_by l.by) l.constraints l.numbers l.number-index l.found;
  forms : AreKept l.by l.forms;
}
