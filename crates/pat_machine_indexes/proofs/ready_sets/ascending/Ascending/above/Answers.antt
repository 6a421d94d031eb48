use Rattle.std.proofs.Common.{sym, ap, ◌∙◌, subst, filter}
use Rattle.pat_semantics_spec.specs.Orders.{AscendsFrom}
use Rattle.pat_machine_spec.specs.Turns.{is_above}
use Rattle.pat_machine_indexes.proofs.Sorted.{piece_above, all_above}
use Rattle.pat_machine_indexes.proofs.ready_sets.ascending.Ascending.above.Goals as goal

pub place_above-requires : goal.place_above-requires
place_above-requires c = subst (AscendsFrom 0) (sym c.as_slice-numbers.ensures.value) c.requires

pub returns-in-Some : goal.returns-in-Some
returns-in-Some c =
    let all = c.as_slice-numbers.result.now in
    piece_above all c.in-Some.last c.place_above.result c.place_above.ensures
    ∙ ap (λ o. filter (is_above o) all) (sym c.in-Some.is)
    ∙ ap (filter (is_above c.args.last)) c.as_slice-numbers.ensures.value

pub returns-in-None : goal.returns-in-None
returns-in-None c =
    let all = c.args.self.now.numbers.items in
    c.as_slice-numbers.ensures.value ∙ sym (all_above all) ∙ ap (λ o. filter (is_above o) all) (sym c.in-None.is)
