use Rattle.std.proofs.Common.{◌≡◌, List, Some, map, sym, ap, ◌∙◌, subst}
use Rattle.std.specs.Prelude.{option_map, option_copied}
use Rattle.pat_reduce.specs.threads.ThreadViews.{message_view}
use Rattle.pat_reduce_values.specs.ValueViews.{value_view}
use Rattle.pat_reduce_values.specs.declared.values.Value.{Value}
use Rattle.pat_machine_laws.specs.refcounts.Naming.{times_in_values}
use Rattle.pat_machine_laws.specs.refcounts.Counting.{last_message, times_if_message}
use Rattle.pat_replay.specs.declared.names.Change.TheVariants.{Come}
use Rattle.pat_replay.specs.Naming.{Changes}
use Rattle.pat_replay.proofs.Walks.{last_of}
use Rattle.pat_replay.proofs.counting.count_sent.Goals as goal

pub returns-in-Some : goal.returns-in-Some
returns-in-Some c = λ yes.
    let q = c.requires in
    let last : last_message c.args.state.now.config.messages ≡ Some (message_view c.in-Some.message.now) =
    ap last_message q.last ∙ last_of q.before q.message ∙ sym (c.last_message.ensures q.before q.message q.last q.next) ∙ ap (λ o. option_map message_view (option_copied o)) c.in-Some.is
    in
    subst (λ o. Changes Come c.args.times.now.items (λ a. times_if_message a o) c.change_values.new.times.items) (sym last)
    (subst (λ (l : List Value). Changes Come c.args.times.now.items (λ a. times_in_values a (map value_view l)) c.change_values.new.times.items) c.as_slice.ensures (c.change_values.ensures yes))
