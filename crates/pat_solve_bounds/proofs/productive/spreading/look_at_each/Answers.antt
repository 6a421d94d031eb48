use Rattle.std.proofs.Common.{drop, ◌+◌, arith}
use Rattle.std.specs.Prelude.{get_or, slice_get}
use Rattle.std.proofs.lemmas.List.{drop_more}
use Rattle.pat_solve_bounds.specs.lower_bounds.Sides.{sides_list}
use Rattle.pat_solve_bounds.proofs.Turns.{looked_first, lighter}
use Rattle.pat_solve_bounds.proofs.productive.spreading.look_at_each.Goals as goal

pub loop-number-preserved : goal.loop-number-preserved
loop-number-preserved c =
    let cs = sides_list c.args.constraints.now in
    let numbers = c.args.numbers.now in
    let i = c.loop-number.number-index in
    let less = lighter (slice_get cs (get_or numbers i 0)) c.loop-number.flags c.look_at.new.flags c.loop-number.waiting c.look_at.new.waiting c.in_ok-look_at.ensures in
    let old = c.loop-number.invariant.1 in (
      looked_first cs c.derivable_laws.ensures.usable (get_or numbers i 0) (drop i numbers) (drop (i + 1) numbers) c.loop-number.flags c.loop-number.waiting c.look_at.new.flags c.look_at.new.waiting (drop_more numbers i 0 c.loop-number-test.true) c.loop-number.invariant.0 c.in_ok-look_at.ensures,
      omega (arith, less, old),
    )
