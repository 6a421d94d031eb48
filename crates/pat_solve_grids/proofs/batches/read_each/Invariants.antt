use Rattle.std.proofs.Common.{ℕ, ◌+◌, List}
use Rattle.pat_words_spec.specs.Patterns.{Pat}
use Rattle.pat_inclusion_spec.specs.bounds.Assignments.{Constraint}
use Rattle.pat_solve_bounds.specs.renumbered.Systems.{picked}
use Rattle.pat_solve_grids.specs.Findings.{AreFound}
use Rattle.pat_solve_grids.specs.Laying.{AreReady}
use Rattle.pat_solve_grids.specs.Views.{findings_view}
use Rattle.pat_solve_grids.proofs.batches.read_each.Given as goal

abbrev pub invariant-loop-place : goal.invariant-loop-place
invariant-loop-place l =
    (lower : ℕ → Pat) (rename : Pat → Pat) (zs : List Constraint)
    → AreReady l.board l.entries lower rename zs l.numbers l.from l.sides
    → AreFound lower rename (picked zs l.numbers) l.numbers l.from (findings_view l.fn.findings)
    → AreFound lower rename (picked zs l.numbers) l.numbers (l.from + l.place) (findings_view l.found)
