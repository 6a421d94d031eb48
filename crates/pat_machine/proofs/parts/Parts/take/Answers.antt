use Rattle.std.proofs.Common.{◌≡◌, Some, None, inr, refl, sym, ◌∙◌, subst}
use Rattle.pat_core.specs.Views.{program_view}
use Rattle.pat_machine_spec.specs.Turns.{turn, IsTurn}
use Rattle.pat_machine_laws.proofs.Ready.{turn_ready, turn_none}
use Rattle.pat_machine_laws.proofs.Firsts.{turn_is}
use Rattle.pat_machine.proofs.parts.Parts.take.Goals as goal

pub lend-requires-clause-ready : goal.lend-requires-clause-ready
lend-requires-clause-ready c =
    let m = c.args.self.now in
    let p = program_view m.code.program in
    let is : turn p m.state.config m.limit m.out.items m.last ≡ Some c.in-Some.thread = sym c.next_ready.ensures ∙ c.in-Some.is in
    (turn_ready p m.state.config m.limit m.out.items m.last c.in-Some.thread is).0

pub returns-in-Some-clause-taken : goal.returns-in-Some-clause-taken
returns-in-Some-clause-taken c =
    let m = c.args.self.now in
    let p = program_view m.code.program in
    let t = c.in-Some.thread in
    let is : turn p m.state.config m.limit m.out.items m.last ≡ Some t = sym c.next_ready.ensures ∙ c.in-Some.is in (
      subst (IsTurn p m.state.config m.limit m.out.items m.last) (sym c.lend.ensures.thread) (turn_is p m.state.config m.limit m.out.items c.requires.stands.facts.typed.typed.numbers.ordered m.last t is),
      c.lend.ensures.lent,
    )

pub returns-in-None-clause-taken : goal.returns-in-None-clause-taken
returns-in-None-clause-taken c =
    let m = c.args.self.now in
    let p = program_view m.code.program in
    let is : turn p m.state.config m.limit m.out.items m.last ≡ None = sym c.next_ready.ensures ∙ c.in-None.is in
    (inr (turn_none p m.state.config m.limit m.out.items m.last is), refl)
