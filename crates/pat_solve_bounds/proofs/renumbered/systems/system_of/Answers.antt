use Rattle.std.proofs.Common.{length, map, replicate, drop}
use Rattle.std.specs.Prelude.{get_or}
use Rattle.pat_words_spec.specs.Patterns.{Zero}
use Rattle.pat_patterns.specs.Views.{patterns_view}
use Rattle.pat_solve_bounds.specs.lower_bounds.Sides.{sides_list}
use Rattle.pat_solve_bounds.specs.renumbered.Renaming.{place_in}
use Rattle.pat_solve_bounds.specs.renumbered.Systems.{side_at, picked, renamed_side, all_added}
use Rattle.pat_solve_bounds.proofs.Systematic.{added_turn, added_count}
use Rattle.pat_solve_bounds.proofs.renumbered.systems.system_of.Goals as goal

pub loop-number-preserved : goal.loop-number-preserved
loop-number-preserved c =
    let ks = c.args.variables.now in
    let zs = sides_list c.args.constraints.now in
    let ns = c.args.numbers.now in
    let i = c.loop-number.number-index in (
      added_count (renamed_side (place_in ks) (side_at zs (get_or ns i 0))) ks c.loop-number.system c.add_left.new.system c.loop-number.invariant.0 c.in_ok-add_left.ensures,
      added_turn ks zs ns (all_added (map (renamed_side (place_in ks)) (picked zs ns)) ks (replicate (length ks) Zero)) i (patterns_view c.loop-number.system) (patterns_view c.add_left.new.system) c.loop-number-test.true c.in_ok-add_left.ensures c.loop-number.invariant.1,
    )
