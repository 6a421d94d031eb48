use Rattle.std.proofs.Common.{sym, ap, ◌∙◌}
use Rattle.std.proofs.lemmas.List.{length-map}
use Rattle.pat_patterns.specs.Views.{pattern_view, patterns_view}
use Rattle.pat_types.specs.Views.{right_view}
use Rattle.pat_solve_bounds.specs.lower_bounds.Sides.{form_side}
use Rattle.pat_solve_bounds.specs.renumbered.Renaming.{place_in, renamed}
use Rattle.pat_solve_bounds.specs.renumbered.Systems.{added}
use Rattle.pat_solve_bounds.proofs.Systematic.{nothing_added}
use Rattle.pat_solve_bounds.proofs.renumbered.systems.add_side.Goals as goal

pub returns-in-Pattern : goal.returns-in-Pattern
returns-in-Pattern c =
    let ks = c.args.variables.now in
    let old = c.args.system.now in
    let left = renamed (place_in ks) (pattern_view c.args.constraint.now.left) in
    sym (ap (λ r. added (record { left = left; right = form_side (right_view r) }) ks (patterns_view old)) c.in-Pattern.is
    ∙ nothing_added left (pattern_view c.in-Pattern.field-0) ks (patterns_view old) (length-map old pattern_view ∙ c.requires.as_many))
