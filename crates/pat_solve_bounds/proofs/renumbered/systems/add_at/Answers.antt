use Rattle.pat_patterns.specs.Views.{pattern_view}
use Rattle.pat_solve_bounds.proofs.Systematic.{exchanged}
use Rattle.pat_solve_bounds.proofs.renumbered.systems.add_at.Goals as goal

pub returns : goal.returns
returns c =
    exchanged c.args.system.now c.replace-made.new.self c.replace.new.self c.args.place c.replace-made.result _ c.in_ok-whole.whole (pattern_view c.args.left) c.replace-made.ensures.before c.replace-made.ensures.after c.replace.ensures.after c.in_ok-whole.ensures
