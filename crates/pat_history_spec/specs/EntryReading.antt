-- How the line of an entry is read, without its newline.
use Rattle.std.specs.Prelude.{ℕ, bytes_eq, if◌then◌else◌, List, Option, Some, None, option_map, option_and_then, codes}
use Rattle.pat_semantics_spec.specs.Steps.{Act, ActNew, ActSend, ActSpawn, ActPrint, ActEnd, ActFree, ActReceive}
use Rattle.pat_semantics_spec.specs.Runs.{Entry}
use Rattle.pat_texts_spec.specs.Numbers.{read_number}
use Rattle.pat_texts_spec.specs.Fronts.{behind}
use Rattle.pat_texts_spec.specs.Joined.{cut}

-- the number of the message that is received
abbrev pub read_message : List ℕ → Option (Option Act)
read_message bytes = option_map (λ m. Some (ActReceive m)) (read_number bytes)

-- the receive of a message
abbrev pub read_receive : List ℕ → Option (Option Act)
read_receive bytes = option_and_then read_message (behind (codes "receive ") bytes)

-- a shared act, or none. A local step is no word of a text
abbrev pub read_shared : List ℕ → Option (Option Act)
read_shared bytes =
    if bytes_eq bytes (codes "-") then Some None
    else if bytes_eq bytes (codes "new") then Some (Some ActNew)
    else if bytes_eq bytes (codes "send") then Some (Some ActSend)
    else if bytes_eq bytes (codes "spawn") then Some (Some ActSpawn)
    else if bytes_eq bytes (codes "print") then Some (Some ActPrint)
    else if bytes_eq bytes (codes "end") then Some (Some ActEnd)
    else if bytes_eq bytes (codes "free") then Some (Some ActFree)
    else read_receive bytes

-- the entry with the shared act
abbrev pub entry_with : (worker thread local_steps : ℕ) → Option Act → Entry
entry_with w t k a = record { worker = w; thread = t; local_steps = k; shared = a }

-- the count of local steps before a space, and the shared act behind it
abbrev pub read_steps : (worker thread : ℕ) → List ℕ × List ℕ → Option Entry
read_steps w t r = option_and_then (λ k. option_map (entry_with w t k) (read_shared r.1)) (read_number r.0)

-- the thread before a space, and the rest behind it
abbrev pub read_thread : (worker : ℕ) → List ℕ × List ℕ → Option Entry
read_thread w r = option_and_then (λ t. option_and_then (read_steps w t) (cut 32 r.1)) (read_number r.0)

-- the worker before a space, and the rest behind it
abbrev pub read_worker : List ℕ × List ℕ → Option Entry
read_worker r = option_and_then (λ w. option_and_then (read_thread w) (cut 32 r.1)) (read_number r.0)

abbrev pub read_entry : List ℕ → Option Entry
read_entry bytes = option_and_then read_worker (cut 32 bytes)
