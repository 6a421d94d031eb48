use Rattle.std.proofs.Common.{ap, ◌∙◌}
use Rattle.std.specs.Prelude.{find}
use Rattle.pat_core.specs.Views.{program_view}
use Rattle.pat_machine_spec.specs.Turns.{is_ready}
use Rattle.pat_machine.proofs.Naming.{told}
use Rattle.pat_machine.proofs.parts.Parts.first_ready.Goals as goal

pub first_ready-requires : goal.first_ready-requires
first_ready-requires c = record { told = told c.args.self.now c.requires }

pub returns : goal.returns
returns c =
    let m = c.args.self.now in
    c.first_ready.ensures ∙ ap (λ o. find (is_ready (program_view m.code.program) m.state.config m.limit o) c.args.threads.now) c.as_slice.ensures.value
