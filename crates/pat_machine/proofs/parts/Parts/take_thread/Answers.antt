use Rattle.std.proofs.Common.{◌≡◌, true, false, refl, ap, sym, ◌∙◌}
use Rattle.pat_core.specs.Views.{program_view}
use Rattle.pat_semantics_laws.proofs.Lists.{clash}
use Rattle.pat_machine_spec.specs.Turns.{is_ready}
use Rattle.pat_machine_laws.proofs.Ready.{ready_passes, passes_ready}
use Rattle.pat_machine.proofs.Naming.{told}
use Rattle.pat_machine.proofs.parts.Parts.take_thread.Goals as goal

pub is_ready-requires : goal.is_ready-requires
is_ready-requires c = record { told = told c.args.self.now c.requires }

pub returns-then-not-is_ready-clause-taken : goal.returns-then-not-is_ready-clause-taken
returns-then-not-is_ready-clause-taken c =
    let m = c.args.self.now in
    let p = program_view m.code.program in
    let is : is_ready p m.state.config m.limit m.out.items c.args.thread ≡ false = ap (λ o. is_ready p m.state.config m.limit o c.args.thread) (sym c.as_slice.ensures.value) ∙ sym c.is_ready.ensures ∙ c.if-not-is_ready.true in
    (λ may. clash (passes_ready p m.state.config m.limit m.out.items c.args.thread may) is, refl)

pub returns-then-self-eq0-clause-taken : goal.returns-then-self-eq0-clause-taken
returns-then-self-eq0-clause-taken c =
    let m = c.args.self.now in
    let p = program_view m.code.program in
    let is : is_ready p m.state.config m.limit m.out.items c.args.thread ≡ true = ap (λ o. is_ready p m.state.config m.limit o c.args.thread) (sym c.as_slice.ensures.value) ∙ sym c.is_ready.ensures ∙ c.if-not-is_ready.false in
    (ready_passes p m.state.config m.limit m.out.items c.args.thread is, c.if-self-eq0.true, refl)

pub lend-requires-clause-ready : goal.lend-requires-clause-ready
lend-requires-clause-ready c =
    let m = c.args.self.now in
    let p = program_view m.code.program in
    let is : is_ready p m.state.config m.limit m.out.items c.args.thread ≡ true = ap (λ o. is_ready p m.state.config m.limit o c.args.thread) (sym c.as_slice.ensures.value) ∙ sym c.is_ready.ensures ∙ c.if-not-is_ready.false in
    ready_passes p m.state.config m.limit m.out.items c.args.thread is
