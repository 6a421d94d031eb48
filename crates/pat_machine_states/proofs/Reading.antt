-- Messages that are kept by mailbox, as they are read.
use Rattle.std.proofs.Common.{ℕ, List, Option, sym, ◌∙◌}
use Rattle.pat_semantics_spec.specs.Configs.{Config}
use Rattle.pat_machine_laws.proofs.MailboxIndexLookUps.{own_are_pending, live_is_listed, all_are_counted}
use Rattle.pat_machine_indexes.specs.messages.Mailboxes.{Mailbox}
use Rattle.pat_machine_indexes.specs.messages.Boxes.{boxes_view}
use Rattle.pat_machine_indexes.proofs.Boxed.{pending_view, live_view, count_view}
use Rattle.pat_machine_states.specs.Boxes.{state_view, IsState, AreMailboxesOf}

pub mailboxes_of : (c : Config) (latest : Option ℕ) (ms : List (Option Mailbox)) → IsState c latest ms → AreMailboxesOf (state_view c ms) ms
mailboxes_of c latest ms s = record {
  live = λ b. sym (live_view ms b) ∙ sym (live_is_listed (boxes_view ms) b);
  pending = λ b. sym (pending_view ms b) ∙ sym (own_are_pending (boxes_view ms) b s.boxes.kept.own);
  all = sym (count_view ms) ∙ sym (all_are_counted (boxes_view ms));
}
