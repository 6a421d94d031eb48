use Rattle.std.proofs.Common.{◌≡◌, true, sym, subst, arith}
use Rattle.pat_semantics_spec.specs.Programs.{is_among}
use Rattle.pat_semantics_spec.specs.Orders.{AscendsFrom}
use Rattle.pat_machine_indexes.specs.ready_sets.Ascending.{StandsAt, FitsAt}
use Rattle.pat_machine_indexes.proofs.Sorted.{less_in_order, less_kept, less_only, less_gone, fits_absent}
use Rattle.pat_machine_indexes.proofs.ready_sets.ascending.Ascending.remove.Goals as goal

pub returns-in-Ok : goal.returns-in-Ok
returns-in-Ok c =
    let ns = c.args.self.now.numbers.items in
    let n = c.args.number in
    let i = c.in-Ok.place in
    let stands = subst (λ l. StandsAt l n i) c.as_slice.ensures.value c.in-Ok.ensures.found in
    let is = sym c.remove.ensures.items in
    let len = c.remove.ensures.len in
    let capacity = c.remove.ensures.capacity in
    record {
      order = subst (AscendsFrom 0) is (less_in_order ns i c.requires stands.0);
      own = λ on. less_gone ns n i c.requires stands (subst (λ l. is_among n l ≡ true) c.remove.ensures.items on);
      others = λ k other on. subst (λ l. is_among k l ≡ true) is (less_kept ns n i k stands other on);
      only = λ k on. less_only ns i k (subst (λ l. is_among k l ≡ true) c.remove.ensures.items on);
      len = omega arith;
      capacity = omega arith;
    }

pub returns-in-Err : goal.returns-in-Err
returns-in-Err c = record {
  order = c.requires;
  own = fits_absent c.args.self.now.numbers.items c.args.number c.in-Err.field-0 (subst (λ l. FitsAt l c.args.number c.in-Err.field-0) c.as_slice.ensures.value c.in-Err.ensures.absent);
  others = λ k other on. on;
  only = λ k on. on;
  len = omega arith;
  capacity = omega arith;
}
