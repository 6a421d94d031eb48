use Rattle.std.proofs.Common.{Bool, None, sym, ap, ◌∙◌}
use Rattle.std.specs.Prelude.{find, filter, if◌then◌else◌}
use Rattle.pat_core.specs.Views.{program_view}
use Rattle.pat_machine_spec.specs.Turns.{is_above, is_ready}
use Rattle.pat_machine_indexes.specs.ready_sets.Senders.{lesser}
use Rattle.pat_machine_indexes.proofs.Senders.{lesser_alone}
use Rattle.pat_machine_indexes.proofs.Noting.{first_ready}
use Rattle.pat_machine.proofs.parts.Parts.ready_above.Goals as goal

pub above-requires : goal.above-requires
above-requires c = c.requires.noted.order.0

pub above-requires-then-has_space : goal.above-requires-then-has_space
above-requires-then-has_space c = c.requires.noted.order.1

pub returns-then-has_space : goal.returns-then-has_space
returns-then-has_space c =
    let m = c.args.self.now in
    let p = program_view m.code.program in
    let test = is_ready p m.state.config m.limit m.out.items in
    let awake = filter (is_above c.args.last) m.waits.awake.numbers.items in
    let senders = filter (is_above c.args.last) m.waits.senders.numbers.items in
    c.lesser.ensures
    ∙ ap (λ o. lesser o c.first_ready.result) (c.first_ready-other.ensures ∙ ap (find test) c.above.ensures)
    ∙ ap (lesser (find test awake)) (c.first_ready.ensures ∙ ap (find test) c.above-then-has_space.ensures)
    ∙ sym (ap (λ (b : Bool). lesser (find test awake) (if b then find test senders else None)) (sym c.has_space.ensures ∙ c.if-has_space.true))
    ∙ first_ready p m.state.config m.limit m.out.items c.args.last m.waits c.requires.stands.facts.typed.typed.numbers.ordered c.requires.noted

pub returns-else-has_space : goal.returns-else-has_space
returns-else-has_space c =
    let m = c.args.self.now in
    let p = program_view m.code.program in
    let test = is_ready p m.state.config m.limit m.out.items in
    let awake = filter (is_above c.args.last) m.waits.awake.numbers.items in
    let senders = filter (is_above c.args.last) m.waits.senders.numbers.items in
    c.first_ready-other.ensures
    ∙ ap (find test) c.above.ensures
    ∙ sym (lesser_alone (find test awake))
    ∙ sym (ap (λ (b : Bool). lesser (find test awake) (if b then find test senders else None)) (sym c.has_space.ensures ∙ c.if-has_space.false))
    ∙ first_ready p m.state.config m.limit m.out.items c.args.last m.waits c.requires.stands.facts.typed.typed.numbers.ordered c.requires.noted
