use Rattle.std.proofs.Common.{Err, ◌≡◌, [], ◌∷◌, ◌++◌, Some, ap, ◌∙◌, subst}
use Rattle.pat_semantics_spec.specs.Steps.{ActNew, step}
use Rattle.pat_core.specs.Views.{program_view}
use Rattle.pat_reduce_values.specs.Results.{StepGives}
use Rattle.pat_machine_indexes.specs.messages.Mailboxes.{Contents}
use Rattle.pat_machine_states.specs.Boxes.{state_view}
use Rattle.pat_machine_states.proofs.Keeping.{new_done, new_refused}
use Rattle.pat_machine_states.proofs.Seen.{config_of}
use Rattle.pat_machine_states.proofs.state.IndexedConfig.make_mailbox.Goals as goal

pub invariant_of-self-in-Ok : goal.invariant_of-self-in-Ok
invariant_of-self-in-Ok c =
    let i = c.self.inside in
    let grown = ap (λ (m : Contents). m.mailboxes) c.create.ensures ∙ ap (λ l. l ++ Some (record { pending = [] }) ∷ []) c.in_ok-reserve.ensures.same.0 in
    (new_done (program_view c.args.code.now.program) i.placed i.latest i.mailboxes.mailboxes c.self.invariant c.args.thread c.make_mailbox.new.self c.in-Ok.ensures c.create.new.self.mailboxes grown).1

pub returns-in-Ok-clause-step : goal.returns-in-Ok-clause-step
returns-in-Ok-clause-step c =
    let i = c.self.inside in
    let p = program_view c.args.code.now.program in
    let grown = ap (λ (m : Contents). m.mailboxes) c.create.ensures ∙ ap (λ l. l ++ Some (record { pending = [] }) ∷ []) c.in_ok-reserve.ensures.same.0 in
    subst (λ d. step p d (record { thread = c.args.thread; act = ActNew }) ≡ Some (state_view c.make_mailbox.new.self c.create.new.self.mailboxes)) (config_of c.self.view_is)
    (new_done p i.placed i.latest i.mailboxes.mailboxes c.self.invariant c.args.thread c.make_mailbox.new.self c.in-Ok.ensures c.create.new.self.mailboxes grown).0

pub returns-in-Err-clause-step : goal.returns-in-Err-clause-step
returns-in-Err-clause-step c =
    let i = c.self.inside in
    let p = program_view c.args.code.now.program in
    subst (λ d. StepGives (λ x. x) (step p d (record { thread = c.args.thread; act = ActNew })) d (state_view c.make_mailbox.new.self c.reserve.new.self.mailboxes) (Err c.in-Err.error)) (config_of c.self.view_is)
    (new_refused p i.placed i.latest i.mailboxes.mailboxes c.self.invariant c.args.thread c.make_mailbox.new.self c.reserve.new.self.mailboxes c.in_ok-reserve.ensures.same.0 c.in-Err.error c.in-Err.ensures).0
