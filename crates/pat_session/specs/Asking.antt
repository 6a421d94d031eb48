-- What there is to answer, once a command's input is read.
use Rattle.std.specs.Prelude.{◌≡◌, ◌≤◌, ℕ, List, length}
use Rattle.std.specs.declared.option.Option.{Option}
use Rattle.pat_ports.specs.Ends.{EndsThere}
use Rattle.pat_ports.specs.declared.reach.Reach.{Reach}
use Rattle.pat_run.specs.options.Options.{IsWithin}
use Rattle.pat_limits.specs.Limits.{most_steps}
use Rattle.pat_input.specs.Inputs.{IsRead, IsInputWithin}
use Rattle.pat_session.specs.declared.commands.Asked.{Asked}
use Rattle.pat_session.specs.declared.commands.Asked.TheVariants as asked
use Rattle.pat_session.specs.declared.words.Command.{Command}
use Rattle.pat_session.specs.declared.words.Command.TheVariants.{Check, Derive, Print, Run, Replay, Order, Verify, Checkpoint, Resume, Load, Help}
use Rattle.pat_session.specs.Allowed.{HasInput, Takes, limit_of}

-- it is what the command asks of these bytes
abbrev pub Asks : Command → List ℕ → Asked → Type 0
Asks Check bytes (asked.Check input) = IsRead bytes input
Asks Derive bytes (asked.Derive input) = IsRead bytes input
Asks Print bytes (asked.Print input) = IsRead bytes input
Asks (Run o) bytes (asked.Run options input) = (o ≡ options) × IsWithin options × IsRead bytes input
Asks Replay bytes (asked.Replay read) = read.items ≡ bytes
Asks Order bytes (asked.Order read) = read.items ≡ bytes
Asks Verify bytes (asked.Verify read) = read.items ≡ bytes
Asks (Checkpoint n) bytes (asked.Checkpoint steps read) = (n ≡ steps) × (steps ≤ most_steps) × (read.items ≡ bytes)
Asks (Resume n) bytes (asked.Resume steps read) = (n ≡ steps) × (steps ≤ most_steps) × (read.items ≡ bytes)
Asks (Load n o) bytes (asked.Load size options) = (n ≡ size) × (o ≡ options) × (size ≤ 1000) × IsWithin options
Asks c bytes a = ⊥

-- it is what some command asks of some bytes
abbrev pub IsAsked : Asked → Type 0
IsAsked a = (c : Command) × (bytes : List ℕ) × Asks c bytes a

-- what was read for the command is asked, and the source was read to its end, unless there are too many bytes
abbrev pub GivesAsked : Command → (had left : Option (List ℕ)) → (from to : Option Reach) → Asked → Type 0
GivesAsked command had left from to asked =
    (bytes : List ℕ) × Takes command had left bytes × Asks command bytes asked × (HasInput command → length bytes ≤ limit_of command → EndsThere from to)

-- so where it has an input
abbrev pub GivesAskedInput : Command → (had left : Option (List ℕ)) → (from to : Option Reach) → Asked → Type 0
GivesAskedInput command had left from to asked =
    (bytes : List ℕ) × IsInputWithin (limit_of command) had left bytes × Asks command bytes asked × (length bytes ≤ limit_of command → EndsThere from to)

-- whether there is anything to find out for the command
abbrev pub IsAsking : Command → Type 0
IsAsking Help = ⊥
IsAsking _ = Unit {0}

-- whether the command reads a program alone
abbrev pub IsOfProgram : Command → Type 0
IsOfProgram Check = Unit {0}
IsOfProgram Derive = Unit {0}
IsOfProgram Print = Unit {0}
IsOfProgram (Run o) = Unit {0}
IsOfProgram Replay = ⊥
IsOfProgram Order = ⊥
IsOfProgram Verify = ⊥
IsOfProgram (Checkpoint steps) = ⊥
IsOfProgram (Resume steps) = ⊥
IsOfProgram (Load n o) = ⊥
IsOfProgram Help = ⊥

-- or a program, and texts behind it if there are any
abbrev pub IsOfParts : Command → Type 0
IsOfParts Replay = Unit {0}
IsOfParts Order = Unit {0}
IsOfParts Verify = Unit {0}
IsOfParts (Checkpoint steps) = Unit {0}
IsOfParts (Resume steps) = Unit {0}
IsOfParts _ = ⊥
