-- Next numbers from which a run goes on.
use Rattle.std.specs.Prelude.{ℕ}

-- the greatest next number of threads, of mailboxes or of messages
abbrev pub most_next_number : ℕ
most_next_number = 4000000000
