use Rattle.std.proofs.Common.{Ok as Done, sym, ap, ◌∙◌, subst}
use Rattle.pat_semantics_spec.specs.Orders.{AscendsFrom, IsOrdered}
use Rattle.pat_core.specs.Views.{program_view}
use Rattle.pat_reduce.specs.declared.config.Config.{Config as CodeConfig}
use Rattle.pat_reduce.specs.Views.{config_view}
use Rattle.pat_checkpoint_data.specs.Views.{checkpoint_view}
use Rattle.pat_input.specs.Inputs.{whole_limit}
use Rattle.pat_replay.specs.Replays.{HasRoom}
use Rattle.pat_replay_input.specs.Gives.{TextGives, Makes}
use Rattle.pat_checkpoint_input.proofs.Leading.{checked_in_order, room_of, led_all}
use Rattle.pat_checkpoint_input.proofs.pieces.replay_on.Goals as goal

pub replay_behind-requires-clause-ordered : goal.replay_behind-requires-clause-ordered
replay_behind-requires-clause-ordered c =
    subst (λ (k : CodeConfig). IsOrdered (config_view k)) (sym c.into_parts-config.ensures.config)
    (checked_in_order (program_view c.args.code.program) (checkpoint_view c.args.checkpoint) c.checked_laws.ensures.typed c.requires.well_formed c.requires.checked)

pub replay_behind-requires-clause-numbers : goal.replay_behind-requires-clause-numbers
replay_behind-requires-clause-numbers c =
    subst (λ (k : CodeConfig). HasRoom (config_view k) whole_limit) (sym c.into_parts-config.ensures.config) (room_of (checkpoint_view c.args.checkpoint).config c.requires.room)

pub with_interfaces-requires : goal.with_interfaces-requires
with_interfaces-requires c =
    subst (AscendsFrom 0) (sym (c.in-Ok.ensures.live ∙ ap (λ (k : CodeConfig). k.live) c.into_parts-config.ensures.config))
    (checked_in_order (program_view c.args.code.program) (checkpoint_view c.args.checkpoint) c.checked_laws.ensures.typed c.requires.well_formed c.requires.checked).live

pub returns-in-Ok-replay_behind-clause-gives : goal.returns-in-Ok-replay_behind-clause-gives
returns-in-Ok-replay_behind-clause-gives c =
    let p = program_view c.args.code.program in
    let x = checkpoint_view c.args.checkpoint in
    let parts = c.into_parts-config.ensures in
    let first = c.in-Ok.ensures in
    let made = c.with_interfaces.ensures in
    let r = c.in-Ok-replay_behind.replayed in
    led_all p x c.args.from c.args.text.now c.made_laws.ensures.interfaces r _ _ _ c.with_interfaces.result
    (first.live ∙ ap (λ (k : CodeConfig). k.live) parts.config) (first.interfaces ∙ parts.interfaces) (first.next ∙ ap (λ (k : CodeConfig). k.next_mailbox) parts.config)
    made.replayed made.interfaces made.refused
    (subst (λ (k : CodeConfig). TextGives p (config_view k) c.args.from c.args.text.now (Done r)) parts.config c.in-Ok-replay_behind.ensures.gives)
    (subst (λ (k : CodeConfig). Makes p (config_view k) r) parts.config c.in-Ok-replay_behind.ensures.made)
