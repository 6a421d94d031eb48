use Rattle.std.proofs.Common.{map, sym, ap, ◌∙◌, inl, inr, ⊎_elim}
use Rattle.std.specs.Prelude.{option_map, option_copied}
use Rattle.std.specs.List.{list_any}
use Rattle.pat_semantics_spec.specs.Configs.{is_mailbox}
use Rattle.pat_core.specs.Views.{program_view}
use Rattle.pat_reduce_values.specs.ValueViews.{value_view}
use Rattle.pat_reduce.specs.threads.ThreadViews.{message_view}
use Rattle.pat_machine_indexes.specs.ready_sets.Wakings.{is_brought_by}
use Rattle.pat_machine_indexes.specs.ready_sets.Noted.{FreesListed}
use Rattle.pat_machine_indexes.proofs.Waking.{both_woken}
use Rattle.pat_machine_steps.specs.wakeups.Sleepers.{FreesNamed, FreesBrought}
use Rattle.pat_machine_steps.proofs.wakeups.waking.wake_freeing.Goals as goal

pub returns-in-Some : goal.returns-in-Some
returns-in-Some c =
    let p = program_view c.args.code.now.program in
    let d = c.args.state.now.config in
    let values = c.as_slice.result.now in
    let received = option_map message_view (option_copied c.args.received) in
    both_woken (FreesNamed p d c.args.named.now) (FreesBrought p d (map value_view values)) (FreesListed p d c.args.named.now received)
    c.args.waits.now c.wake_named.new.waits c.wake_brought.new.waits
    (λ a u all. ⊎_elim
    (λ listed. inl (listed, all.1))
    (λ brought. inr (
      ap (λ l. list_any (is_mailbox a) (map value_view l)) c.as_slice.ensures ∙ sym (ap (λ o. is_brought_by a (option_map message_view (option_copied o))) c.in-Some.is) ∙ brought,
      all.1,
    ))
    all.0)
    c.wake_named.ensures c.wake_brought.ensures
