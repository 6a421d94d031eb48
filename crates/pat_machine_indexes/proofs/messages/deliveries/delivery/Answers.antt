use Rattle.std.proofs.Common.{◌≡◌, Some, Err, refl, sym, subst}
use Rattle.pat_semantics_spec.specs.Steps.{redex}
use Rattle.pat_core.specs.Views.{program_view}
use Rattle.pat_reduce_values.specs.declared.error.StepError.TheVariants.{Disabled}
use Rattle.pat_reduce_values.specs.Results.{Gives}
use Rattle.pat_reduce.specs.threads.ThreadViews.{control_view, message_view}
use Rattle.pat_reduce.specs.threads.GuardViews.{guard_view}
use Rattle.pat_reduce.specs.threads.ThreadActs.{received_of}
use Rattle.pat_machine_indexes.proofs.Delivering.{delivers, undelivered, missing}
use Rattle.pat_machine_indexes.proofs.messages.deliveries.delivery.Goals as goal

pub returns-in-Ok-clause-ok : goal.returns-in-Ok-clause-ok
returns-in-Ok-clause-ok c =
    let p = program_view c.args.code.now.program in
    let own = c.in-Some-find_numbered.ensures.there in
    (own.0, delivers c.args.mailboxes.now.mailboxes c.requires p (redex p (control_view c.args.control.now)) (guard_view c.in-Some.guard) (sym c.in-Some.ensures) c.args.number own.0 c.in-Some-find_numbered.message.now (control_view c.in-Ok.control) own.1 own.2 c.in-Ok.ensures, (c.in-Some-find_numbered.message.now, own.1, refl, own.2))

pub returns-in-Err-clause-disabled : goal.returns-in-Err-clause-disabled
returns-in-Err-clause-disabled c is =
    let p = program_view c.args.code.now.program in
    let m = c.in-Some-find_numbered.message.now in
    let own = c.in-Some-find_numbered.ensures.there in
    let error : c.in-Err.error ≡ Disabled = cc in
    let none = subst (λ e. Gives control_view (received_of p (guard_view c.in-Some.guard) (Some (message_view m))) (Err e)) error c.in-Err.ensures in
    undelivered c.args.mailboxes.now.mailboxes c.requires p (redex p (control_view c.args.control.now)) (guard_view c.in-Some.guard) (sym c.in-Some.ensures) c.args.number own.0 m own.1 own.2 none

pub returns-in-None-find_numbered-clause-disabled : goal.returns-in-None-find_numbered-clause-disabled
returns-in-None-find_numbered-clause-disabled c is =
    let p = program_view c.args.code.now.program in
    missing c.args.mailboxes.now.mailboxes c.requires p (redex p (control_view c.args.control.now)) (guard_view c.in-Some.guard) (sym c.in-Some.ensures) c.args.number c.in-None-find_numbered.ensures.none
