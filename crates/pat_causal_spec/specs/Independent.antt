-- Independent commits: neighbours in a history that may be exchanged.
use Rattle.std.specs.Prelude.{ℕ, suc, ◌+◌, Bool, true, false, ◌&&◌, not, nat_eq, nat_lt, List, [], ◌∷◌, Option, Some, take, slice_get}
use Rattle.pat_semantics_spec.specs.Steps.{Act, ActNew, ActSend, ActSpawn, ActPrint, ActFree, ActReceive}
use Rattle.pat_semantics_spec.specs.Runs.{Entry}

-- ---- shared acts

-- whether the act, if there is one, is a free
abbrev pub is_free : Option Act → Bool
is_free (Some ActFree) = true
is_free _ = false

-- whether both make a mailbox, both send, both spawn or both print: they take numbers of one kind, or lines, in turn
abbrev pub take_turns : Option Act → Option Act → Bool
take_turns (Some ActNew) (Some ActNew) = true
take_turns (Some ActSend) (Some ActSend) = true
take_turns (Some ActSpawn) (Some ActSpawn) = true
take_turns (Some ActPrint) (Some ActPrint) = true
take_turns _ _ = false

-- whether the first act makes thread n, where n is the next number of a thread, and the second is a step of it
abbrev pub makes_thread : (next : ℕ) → Option Act → (thread : ℕ) → Bool
makes_thread next (Some ActSpawn) t = nat_eq t next
makes_thread next _ t = false

-- whether the first act sends the message that the second receives, where its number is the next one
abbrev pub makes_message : (next : ℕ) → Option Act → Option Act → Bool
makes_message next (Some ActSend) (Some (ActReceive k)) = nat_eq k next
makes_message next _ _ = false

-- ---- entries

-- how many threads the act, if there is one, makes
abbrev pub spawned_by : Option Act → ℕ
spawned_by (Some ActSpawn) = 1
spawned_by _ = 0

-- how many messages it sends
abbrev pub sent_by : Option Act → ℕ
sent_by (Some ActSend) = 1
sent_by _ = 0

-- how many threads the entries make; one more is there at the start, so the next one has 1 plus this number
abbrev pub spawns : List Entry → ℕ
spawns [] = 0
spawns (e ∷ es) = spawned_by e.shared + spawns es

-- how many messages they send; the next one has this number
abbrev pub sends : List Entry → ℕ
sends [] = 0
sends (e ∷ es) = sent_by e.shared + sends es

-- whether e and the entry f behind it are independent, where so many spawns and sends stand before them: they are of two threads,
-- neither frees a mailbox, they don't take turns, and f is no step of the thread, and receives not the message, that e makes
abbrev pub are_independent : (spawned sent : ℕ) → Entry → Entry → Bool
are_independent spawned sent e f =
    not (nat_eq e.thread f.thread)
    && (not (is_free e.shared)
    && (not (is_free f.shared)
    && (not (take_turns e.shared f.shared)
    && (not (makes_thread (1 + spawned) e.shared f.thread)
    && not (makes_message sent e.shared f.shared)))))

-- whether two entries are there, and independent
abbrev pub both_independent : (spawned sent : ℕ) → Option Entry → Option Entry → Bool
both_independent spawned sent (Some e) (Some f) = are_independent spawned sent e f
both_independent spawned sent _ _ = false

-- whether the entry at place i and the one behind it are independent
abbrev pub independent_at : List Entry → ℕ → Bool
independent_at es i = both_independent (spawns (take i es)) (sends (take i es)) (slice_get es i) (slice_get es (suc i))

-- whether two entries are there, and the first is of a greater thread
abbrev pub is_greater : Option Entry → Option Entry → Bool
is_greater (Some e) (Some f) = nat_lt f.thread e.thread
is_greater _ _ = false

-- whether the entry at place i and the one behind it are independent, with the greater thread first
abbrev pub is_out_of_order : List Entry → ℕ → Bool
is_out_of_order es i = is_greater (slice_get es i) (slice_get es (suc i)) && independent_at es i
