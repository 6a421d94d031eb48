use Rattle.std.proofs.Common.{◌<◌, length, map, arith}
use Rattle.pat_types.specs.Views.{needs_view}
use Rattle.pat_infer_environments.specs.Gathering.{column_at}
use Rattle.pat_infer_environments.proofs.LookUps.{at_index, moved_index, column_more}
use Rattle.pat_infer_environments.proofs.looking.column_of.Goals as goal

pub find_next-requires : goal.find_next-requires
find_next-requires c =
    let within : c.loop-place.place < length c.args.branches.now = omega (arith, c.loop-place-test.true) in
    at_index c.args.branches.now c.loop-place.cursors c.loop-place.place c.index-branches-place.result c.as_slice-in-loop-place.result.now c.as_slice.result.now (record { place = 0; last = 0 }) c.loop-place.invariant.at within c.index-branches-place.is c.as_slice-in-loop-place.ensures c.as_slice.ensures

pub loop-place-preserved : goal.loop-place-preserved
loop-place-preserved c =
    let within : c.loop-place.place < length c.args.branches.now = omega (arith, c.loop-place-test.true) in
    let needs = c.index-branches-place.result in
    record {
      column = column_more c.args.variable c.args.branches.now c.loop-place.place needs c.as_slice-in-loop-place.result.now c.loop-place.column.items c.push.new.self.items c.find_next.result (column_at c.args.variable (map needs_view c.args.branches.now)) within c.index-branches-place.is c.as_slice-in-loop-place.ensures c.in_ok-push.ensures.items c.find_next.ensures.found c.loop-place.invariant.column;
      at = moved_index c.args.branches.now c.loop-place.cursors c.replace.new.self c.loop-place.place needs c.as_slice-in-loop-place.result.now c.find_next.new.cursor c.loop-place.invariant.at within c.index-branches-place.is c.as_slice-in-loop-place.ensures c.find_next.ensures.at c.replace.ensures.after;
    }
