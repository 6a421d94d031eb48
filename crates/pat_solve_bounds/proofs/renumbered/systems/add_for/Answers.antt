use Rattle.std.proofs.Common.{◌≡◌, sym, ap, ◌∙◌}
use Rattle.std.specs.Prelude.{get_or, set}
use Rattle.std.proofs.lemmas.List.{length-map}
use Rattle.pat_words_spec.specs.Patterns.{Zero, sum_of}
use Rattle.pat_inclusion_spec.specs.bounds.Assignments.{VarRight}
use Rattle.pat_patterns.specs.Views.{pattern_view, patterns_view}
use Rattle.pat_solve_bounds.specs.renumbered.Renaming.{place_in, renamed}
use Rattle.pat_solve_bounds.specs.renumbered.Systems.{added}
use Rattle.pat_solve_bounds.proofs.Systematic.{on_ok, missing_added, place_added}
use Rattle.pat_solve_bounds.proofs.renumbered.systems.add_for.Goals as goal

pub returns-in-None : goal.returns-in-None
returns-in-None c =
    let ks = c.args.variables.now in
    let old = c.args.system.now in
    sym (missing_added (renamed (place_in ks) (pattern_view c.args.left.now)) c.args.variable ks (patterns_view old) (length-map old pattern_view ∙ c.requires.as_many) c.in-None.ensures.none)

pub returns-in_ok-left-in-Some : goal.returns-in_ok-left-in-Some
returns-in_ok-left-in-Some c =
    let ks = c.args.variables.now in
    let old = c.args.system.now in
    let es = patterns_view old in
    let left = renamed (place_in ks) (pattern_view c.args.left.now) in
    let place = c.in-Some.place in
    on_ok c.add_at.result
    (patterns_view c.add_at.new.system ≡ set es place (sum_of (get_or es place Zero) (pattern_view c.in_ok-left-in-Some.left)))
    (patterns_view c.add_at.new.system ≡ added (record { left = left; right = VarRight c.args.variable }) ks es)
    (λ e.
    e
    ∙ ap (λ f. set es place (sum_of (get_or es place Zero) f)) c.in_ok-left-in-Some.ensures
    ∙ place_added left c.args.variable place ks es c.requires.ascending (length-map old pattern_view ∙ c.requires.as_many) c.in-Some.ensures.some.0 c.in-Some.ensures.some.1)
    c.add_at.ensures
