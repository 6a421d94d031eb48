-- Mailboxes as code keeps them, as lists of messages.
use Rattle.std.specs.Prelude.{List, map, Option, Some, None}
use Rattle.pat_semantics_spec.specs.Configs.{Message}
use Rattle.pat_reduce.specs.threads.ThreadViews.{message_view}
use Rattle.pat_mailboxes.specs.Mailboxes.{Mailbox}

-- what is pending in a mailbox, if it is live
abbrev pub box_view : Option Mailbox → Option (List Message)
box_view None = None
box_view (Some m) = Some (map message_view m.pending)

abbrev pub boxes_view : List (Option Mailbox) → List (Option (List Message))
boxes_view ms = map box_view ms
