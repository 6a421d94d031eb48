use Rattle.std.proofs.Common.{rules, ◌≡◌, ◌≤◌, length, None, sym, ap, ◌∙◌}
use Rattle.std.specs.Prelude.{slice_get}
use Rattle.std.proofs.lemmas.List.{length-map}
use Rattle.std.proofs.lemmas.Option.{slice_get_past}
use Rattle.pat_words_spec.specs.Patterns.{Zero}
use Rattle.pat_patterns.specs.Views.{pattern_view, patterns_view}
use Rattle.pat_solve_bounds.specs.renumbered.Renaming.{place_in}
use Rattle.pat_solve_bounds.specs.renumbered.Systems.{renamed_side, added}
use Rattle.pat_solve_bounds.proofs.Systematic.{nothing_added, no_side}
use Rattle.pat_solve_bounds.proofs.renumbered.systems.add_left.Goals as goal

pub returns-in-None : goal.returns-in-None
returns-in-None c =
    let ks = c.args.variables.now in
    let old = c.args.system.now in
    let past : length c.args.constraints.now ≤ c.args.number = search rules in
    let none : slice_get c.args.constraints.now c.args.number ≡ None = slice_get_past c.args.constraints.now c.args.number past in
    sym (ap (λ d. added (renamed_side (place_in ks) d) ks (patterns_view old)) (no_side c.args.constraints.now c.args.number none)
    ∙ nothing_added Zero Zero ks (patterns_view old) (length-map old pattern_view ∙ c.requires.as_many))
