use Rattle.std.proofs.Common.{rules, arith, ◌-◌}
use Rattle.std.proofs.lemmas.Bool.Decides.{nat_tests}
use Rattle.pat_derivation_lines.proofs.Places.{empty_table, put_in_front, whole_table}
use Rattle.pat_derivation_lines.proofs.tables.places_of.Goals as goal

pub loop-place-init : goal.loop-place-init
loop-place-init c = record {
  within = search rules;
  known = empty_table c.args.interfaces.now _ _ (search rules) (search rules);
}

pub loop-place-preserved : goal.loop-place-preserved
loop-place-preserved c = record {
  within = omega (arith, c.loop-place.invariant.within);
  known = λ x.
      put_in_front x c.loop-place.place (c.loop-place.place - 1) c.args.interfaces.now _ c.loop-place.places.entries _ c.as_bytes.result (grind (arith, nat_tests)) (grind (arith, nat_tests)) c.as_bytes.ensures (search rules) (c.loop-place.invariant.known x);
}

pub returns : goal.returns
returns c = whole_table c.args.interfaces.now _ c.loop-place.place (grind (arith, nat_tests)) c.loop-place.invariant.known
