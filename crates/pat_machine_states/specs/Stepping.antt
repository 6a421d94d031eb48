-- Steps of a configuration whose messages are kept by mailbox.
use Rattle.std.specs.Prelude.{◌≡◌, ℕ, true, Some}
use Rattle.pat_semantics_spec.specs.Programs.{Program, is_among}
use Rattle.pat_semantics_spec.specs.Configs.{Thread, Message, Config, some_thread_refers, thread_at}
use Rattle.pat_semantics_spec.specs.Steps.{redex}
use Rattle.pat_reduce.specs.threads.ThreadActs.{Guarding, redex_message}

-- what threads refer to is live
abbrev pub ReferToLive : Config → Type 0
ReferToLive c = (a : ℕ) → some_thread_refers c a ≡ true → is_among a c.live ≡ true

-- what the thread sends next, if it does, goes to a live mailbox
abbrev pub SendsToLive : Program → Config → (t : ℕ) → Type 0
SendsToLive p c t = (s : Thread) (m : Message) → thread_at c t ≡ Some s → redex_message c.next_message (redex p s.control) ≡ Some m → is_among m.mailbox c.live ≡ true

abbrev pub mailbox_of : Guarding → ℕ
mailbox_of g = g.mailbox
