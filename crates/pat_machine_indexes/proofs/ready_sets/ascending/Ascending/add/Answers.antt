use Rattle.std.proofs.Common.{◌≡◌, true, sym, subst, inl, arith}
use Rattle.pat_semantics_spec.specs.Programs.{is_among}
use Rattle.pat_semantics_spec.specs.Orders.{AscendsFrom}
use Rattle.pat_machine_indexes.specs.ready_sets.Ascending.{StandsAt, FitsAt}
use Rattle.pat_machine_indexes.proofs.Sorted.{more_in_order, more_own, more_kept, more_only, stands_among}
use Rattle.pat_machine_indexes.proofs.ready_sets.ascending.Ascending.add.Goals as goal

pub place_of-requires : goal.place_of-requires
place_of-requires c = subst (AscendsFrom 0) (sym c.as_slice.ensures.value) c.requires.order

pub insert_at-requires-clause-within : goal.insert_at-requires-clause-within
insert_at-requires-clause-within c = (subst (λ l. FitsAt l c.args.number c.in-Err.place) c.as_slice.ensures.value c.in-Err.ensures.absent).within

pub returns-in-Ok : goal.returns-in-Ok
returns-in-Ok c =
    let stands = subst (λ l. StandsAt l c.args.number c.in-Ok.field-0) c.as_slice.ensures.value c.in-Ok.ensures.found in
    record {
      order = c.requires.order;
      own = stands_among c.args.self.now.numbers.items c.args.number c.in-Ok.field-0 stands;
      others = λ k on. on;
      only = λ k on. inl on;
      len = omega arith;
      capacity = omega arith;
    }

pub returns-in-Err : goal.returns-in-Err
returns-in-Err c =
    let ns = c.args.self.now.numbers.items in
    let n = c.args.number in
    let i = c.in-Err.place in
    let fits = subst (λ l. FitsAt l n i) c.as_slice.ensures.value c.in-Err.ensures.absent in
    let is = sym c.insert_at.ensures.items in
    let len = c.insert_at.ensures.len in
    record {
      order = subst (AscendsFrom 0) is (more_in_order ns n i c.requires.order fits);
      own = subst (λ l. is_among n l ≡ true) is (more_own ns n i fits.within);
      others = λ k on. subst (λ l. is_among k l ≡ true) is (more_kept ns n i k fits.within on);
      only = λ k on. more_only ns n i k fits.within (subst (λ l. is_among k l ≡ true) c.insert_at.ensures.items on);
      len = omega arith;
      capacity = c.insert_at.ensures.capacity;
    }
