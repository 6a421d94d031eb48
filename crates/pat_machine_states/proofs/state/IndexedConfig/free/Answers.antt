use Rattle.std.proofs.Common.{refl, Err, ◌≡◌, Some, sym, ap, subst}
use Rattle.pat_semantics_spec.specs.Steps.{ActFree, step}
use Rattle.pat_semantics_laws.specs.Laws.{IsEnabled}
use Rattle.pat_core.specs.Views.{program_view}
use Rattle.pat_reduce_values.specs.Results.{StepGives}
use Rattle.pat_machine_indexes.specs.messages.Mailboxes.{Contents}
use Rattle.pat_machine_states.specs.Boxes.{state_view}
use Rattle.pat_machine_states.proofs.Keeping.{freed_live, freed_empty, free_done, free_refused}
use Rattle.pat_machine_states.proofs.Seen.{config_of}
use Rattle.pat_machine_states.proofs.state.IndexedConfig.free.Goals as goal

pub free-requires-in-Ok-clause-live : goal.free-requires-in-Ok-clause-live
free-requires-in-Ok-clause-live c =
    let i = c.self.inside in
    let p = program_view c.args.code.now.program in
    let t = c.args.thread in
    let enabled = subst (λ d. IsEnabled p d (record { thread = t; act = ActFree })) (sym (config_of c.self.view_is)) c.requires in
    freed_live p i.placed i.latest i.mailboxes.mailboxes c.self.invariant t enabled c.in-Ok.mailbox c.free.new.self c.in-Ok.ensures

pub free-requires-in-Ok-clause-empty : goal.free-requires-in-Ok-clause-empty
free-requires-in-Ok-clause-empty c =
    let i = c.self.inside in
    let p = program_view c.args.code.now.program in
    let t = c.args.thread in
    let enabled = subst (λ d. IsEnabled p d (record { thread = t; act = ActFree })) (sym (config_of c.self.view_is)) c.requires in
    freed_empty p i.placed i.latest i.mailboxes.mailboxes c.self.invariant t enabled c.in-Ok.mailbox c.free.new.self c.in-Ok.ensures

pub invariant_of-self : goal.invariant_of-self
invariant_of-self c =
    let i = c.self.inside in
    let p = program_view c.args.code.now.program in
    let t = c.args.thread in
    let enabled = subst (λ d. IsEnabled p d (record { thread = t; act = ActFree })) (sym (config_of c.self.view_is)) c.requires in
    (free_done p i.placed i.latest i.mailboxes.mailboxes c.self.invariant t enabled c.in-Ok.mailbox c.free.new.self c.in-Ok.ensures c.free-in-Ok.new.self.mailboxes (ap (λ (m : Contents). m.mailboxes) c.free-in-Ok.ensures)).1

pub returns-in-Ok-clause-step : goal.returns-in-Ok-clause-step
returns-in-Ok-clause-step c =
    let i = c.self.inside in
    let p = program_view c.args.code.now.program in
    let t = c.args.thread in
    let enabled = subst (λ d. IsEnabled p d (record { thread = t; act = ActFree })) (sym (config_of c.self.view_is)) c.requires in
    subst (λ d. step p d (record { thread = t; act = ActFree }) ≡ Some (state_view c.free.new.self c.free-in-Ok.new.self.mailboxes)) (config_of c.self.view_is)
    (free_done p i.placed i.latest i.mailboxes.mailboxes c.self.invariant t enabled c.in-Ok.mailbox c.free.new.self c.in-Ok.ensures c.free-in-Ok.new.self.mailboxes (ap (λ (m : Contents). m.mailboxes) c.free-in-Ok.ensures)).0

pub returns-in-Err-clause-step : goal.returns-in-Err-clause-step
returns-in-Err-clause-step c =
    let i = c.self.inside in
    let p = program_view c.args.code.now.program in
    let t = c.args.thread in
    let enabled = subst (λ d. IsEnabled p d (record { thread = t; act = ActFree })) (sym (config_of c.self.view_is)) c.requires in
    subst (λ d. StepGives (λ x. x) (step p d (record { thread = t; act = ActFree })) d (state_view c.free.new.self i.mailboxes.mailboxes) (Err c.in-Err.error)) (config_of c.self.view_is)
    (free_refused p i.placed i.latest i.mailboxes.mailboxes c.self.invariant t enabled c.free.new.self i.mailboxes.mailboxes refl c.in-Err.error c.in-Err.ensures).0
