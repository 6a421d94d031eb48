use Rattle.std.proofs.Common.{length, refl, sym, subst, arith}
use Rattle.std.specs.Prelude.{IfSome}
use Rattle.pat_grid_sums.specs.Systems.{setting_in, AreSets, IsSettled}
use Rattle.pat_grid_sums.proofs.Writing.{entries_reached}
use Rattle.pat_grid_sums.proofs.reached.reached_entries.Goals as goal

pub entries_of-requires-clause-sets : goal.entries_of-requires-clause-sets
entries_of-requires-clause-sets c =
    let y = c.args.system.now in
    let sh = c.shape_of-shape.result in
    let Settled = IsSettled (setting_in y) sh.width sh.words (length y.symbols.now) in
    let settled : Settled c.as_slice.result.now = subst Settled (sym c.as_slice.ensures) (subst (λ o. IfSome o Settled) c.in-Some.is c.in_ok-sets.ensures) in
    subst (λ n. AreSets n sh.words c.as_slice.result.now) (sym settled.are.as_many) settled.are

pub entries_of-requires-clause-few : goal.entries_of-requires-clause-few
entries_of-requires-clause-few c =
    let y = c.args.system.now in
    let sh = c.shape_of-shape.result in
    let Settled = IsSettled (setting_in y) sh.width sh.words (length y.symbols.now) in
    let settled : Settled c.as_slice.result.now = subst Settled (sym c.as_slice.ensures) (subst (λ o. IfSome o Settled) c.in-Some.is c.in_ok-sets.ensures) in
    let many = settled.are.as_many in
    let few = settled.few in
    omega arith

pub returns-in_ok-entries-in-Some : goal.returns-in_ok-entries-in-Some
returns-in_ok-entries-in-Some c =
    let y = c.args.system.now in
    let sh = c.shape_of-shape.result in
    let Settled = IsSettled (setting_in y) sh.width sh.words (length y.symbols.now) in
    let settled : Settled c.as_slice.result.now = subst Settled (sym c.as_slice.ensures) (subst (λ o. IfSome o Settled) c.in-Some.is c.in_ok-sets.ensures) in
    entries_reached y sh c.as_slice.result.now _ c.in_ok-entries-in-Some.entries c.shape_of-shape.ensures refl settled c.in_ok-entries-in-Some.ensures
