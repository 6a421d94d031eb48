-- Sleepers that may go on: those that may free a mailbox, or receive the last message.
use Rattle.std.specs.Prelude.{◌≡◌, ℕ, List, IsTrue}
use Rattle.std.specs.List.{list_any}
use Rattle.pat_semantics_spec.specs.Values.{Value}
use Rattle.pat_semantics_spec.specs.Programs.{Program, is_among}
use Rattle.pat_semantics_spec.specs.Configs.{Config, is_mailbox}
use Rattle.pat_machine_indexes.specs.ready_sets.Noted.{Frees, IsReady}

-- thread u may free this mailbox
abbrev pub FreesAt : Program → Config → ℕ → (a u : ℕ) → Type 0
FreesAt p d b a u = (a ≡ b) × Frees p d u

-- thread u may receive the last message, which is in this mailbox
abbrev pub ReceivesAt : Program → Config → ℕ → (a u : ℕ) → Type 0
ReceivesAt p d b a u = (a ≡ b) × IsReady p d a u

-- thread u may free mailbox a, which is listed
abbrev pub FreesNamed : Program → Config → List ℕ → (a u : ℕ) → Type 0
FreesNamed p d named a u = IsTrue (is_among a named) × Frees p d u

-- thread u may free mailbox a, which is the value
abbrev pub FreesValue : Program → Config → Value → (a u : ℕ) → Type 0
FreesValue p d v a u = IsTrue (is_mailbox a v) × Frees p d u

-- thread u may free mailbox a, which is one of the values
abbrev pub FreesBrought : Program → Config → List Value → (a u : ℕ) → Type 0
FreesBrought p d values a u = IsTrue (list_any (is_mailbox a) values) × Frees p d u
