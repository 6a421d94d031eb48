use Rattle.std.proofs.Common.{rules, ◌≡◌}
use Rattle.pat_words_spec.specs.Patterns.{Var}
use Rattle.pat_patterns.specs.Views.{pattern_view}
use Rattle.pat_solve_derivation.specs.certificates.Making.{scope_in}
use Rattle.pat_solve_derivation.proofs.Kept.{kept_side}
use Rattle.pat_solve_derivation.proofs.certificates.sides.kept_form.Goals as goal

pub returns-in-Var : goal.returns-in-Var
returns-in-Var c =
    let variable : Var c.in-Var.number ≡ pattern_view c.args.side.now = search rules in
    kept_side (scope_in c.args.solved.now) c.args.closed.now c.in-Var.number (pattern_view c.args.side.now) c.kept_at.result variable c.requires c.kept_at.ensures
