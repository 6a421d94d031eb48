use Rattle.std.proofs.Common.{◌≡◌, Some, sym, ap, ◌∙◌, subst}
use Rattle.std.specs.Prelude.{option_map, option_copied}
use Rattle.pat_reduce.specs.threads.ThreadViews.{message_view}
use Rattle.pat_machine_laws.specs.refcounts.Counting.{last_message, times_if_message}
use Rattle.pat_machine_states.specs.Changes.{HasPlaces, Counts}
use Rattle.pat_machine_steps.proofs.Acts.{last_of}
use Rattle.pat_machine_steps.proofs.shared_steps.counting.count_sent.Goals as goal

pub count_message-requires : goal.count_message-requires
count_message-requires c =
    let q = c.requires.last in
    let last : last_message c.args.state.now.config.messages ≡ Some (message_view c.in-Some.message.now) =
    ap last_message q.last ∙ last_of q.before q.message ∙ sym (c.last_message.ensures q.before q.message q.last q.next) ∙ ap (λ o. option_map message_view (option_copied o)) c.in-Some.is
    in
    subst (λ o. HasPlaces c.args.names.now (λ a. times_if_message a o)) last c.requires.places

pub returns : goal.returns
returns c =
    let q = c.requires.last in
    let last : last_message c.args.state.now.config.messages ≡ Some (message_view c.in-Some.message.now) =
    ap last_message q.last ∙ last_of q.before q.message ∙ sym (c.last_message.ensures q.before q.message q.last q.next) ∙ ap (λ o. option_map message_view (option_copied o)) c.in-Some.is
    in
    subst (λ o. Counts c.args.names.now (λ a. times_if_message a o) c.count_message.new.self) (sym last) c.count_message.ensures
