use Rattle.std.proofs.Common.{slice_index_or, refl, sym, subst}
use Rattle.std.specs.Map.{keys_of}
use Rattle.std.proofs.lemmas.Option.{slice_get-get_or}
use Rattle.pat_semantics_spec.specs.Orders.{AscendsFrom}
use Rattle.pat_reduce.specs.Places.{IsPlace}
use Rattle.pat_reduce.specs.Views.{threads_view}
use Rattle.pat_reduce.proofs.Ascending.{Threads, stands_there}
use Rattle.pat_checkpoint_run.proofs.next.able_from.Goals as goal

pub act_at_place-requires : goal.act_at_place-requires
act_at_place-requires c =
    let items = c.as_slice-threads.result.now in
    let place = c.loop-place.place in
    let e = slice_index_or items place c.index-threads-place.result in
    subst (λ (l : Threads). IsPlace l e.0 place) c.as_slice-threads.ensures
    (stands_there items e.0 place e (subst (λ (l : Threads). AscendsFrom 0 (keys_of (threads_view l))) (sym c.as_slice-threads.ensures) c.requires.threads) c.loop-place-test.true
    (slice_get-get_or items place c.index-threads-place.result c.loop-place-test.true) refl)

pub returns-then-is_some-clause-place : goal.returns-then-is_some-clause-place
returns-then-is_some-clause-place c =
    let items = c.as_slice-threads.result.now in
    let place = c.loop-place.place in
    let e = slice_index_or items place c.index-threads-place.result in
    subst (λ (l : Threads). IsPlace l e.0 place) c.as_slice-threads.ensures
    (stands_there items e.0 place e (subst (λ (l : Threads). AscendsFrom 0 (keys_of (threads_view l))) (sym c.as_slice-threads.ensures) c.requires.threads) c.loop-place-test.true
    (slice_get-get_or items place c.index-threads-place.result c.loop-place-test.true) refl)
