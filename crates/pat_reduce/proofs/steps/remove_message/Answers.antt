use Rattle.std.proofs.Common.{rules, ap, ◌∙◌, not, nat_eq, map}
use Rattle.std.specs.Prelude.{filter}
use Rattle.std.proofs.lemmas.Fn.{filter_same}
use Rattle.pat_reduce.specs.declared.threads.state.Message.{Message}
use Rattle.pat_reduce.specs.threads.ThreadViews.{message_view}
use Rattle.pat_reduce_values.proofs.Finds.{filter_map_same}
use Rattle.pat_reduce.proofs.steps.remove_message.Goals as goal

pub returns : goal.returns
returns c =
    ap (map message_view) (filter_same _ (λ (m : Message). not (nat_eq m.number c.args.number)) _ (λ x b f' k. search rules) _ _ c.retain.ensures.filtered ∙ ap (filter (λ (m : Message). not (nat_eq m.number c.args.number))) c.messages.view_is)
    ∙ filter_map_same (λ m. not (nat_eq m.number c.args.number)) message_view c.args.messages.now
