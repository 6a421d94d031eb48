-- The eight lanes of a queue, each with the messages of some tags, and the queue that they make together.
use Rattle.std.specs.Prelude.{◌≡◌, ℕ, zero, suc, ◌+◌, ◌*◌, ◌%◌, ◌<◌, ◌≤◌, cond, nat_lt, List, [], ◌∷◌, get_or, slice_get, Option, Some, None}
use Rattle.std.specs.List.{AllByRecursion}
use Rattle.pat_reduce.specs.declared.threads.state.Message.{Message}

-- the lane of a tag
abbrev pub lane_of : ℕ → ℕ
lane_of tag = tag % 8

-- a message put in front of the first one whose number isn't less
abbrev pub insert : Message → List Message → List Message
insert m [] = m ∷ []
insert m (n ∷ ns) = cond (nat_lt n.number m.number) (n ∷ insert m ns) (m ∷ n ∷ ns)

-- lists that are in order of number put together
abbrev pub join : List Message → List Message → List Message
join [] ns = ns
join (m ∷ ms) ns = insert m (join ms ns)

abbrev pub merged : List (List Message) → List Message
merged [] = []
merged (l ∷ ls) = join l (merged ls)

-- in order of number
abbrev pub Rise : List Message → Type 0
Rise [] = Unit {0}
Rise (m ∷ ms) = AllByRecursion (λ n. m.number ≤ n.number) ms × Rise ms

-- the messages of a lane are in order, and their tags have this lane
pub record IsLane (lane : ℕ) (messages : List Message) : Type 0 where
  pub rise : Rise messages
  pub own : AllByRecursion (λ m. lane_of m.tag ≡ lane) messages

-- n chains from one on
abbrev pub chains_from : List (List Message) → (at n : ℕ) → List (List Message)
chains_from chains at zero = []
chains_from chains at (suc n) = get_or chains at [] ∷ chains_from chains (suc at) n

-- n lanes of a queue from one on
abbrev pub lanes_from : List (List Message) → (queue lane n : ℕ) → List (List Message)
lanes_from chains queue lane n = chains_from chains (queue * 8 + lane) n

-- the messages of a queue, in order of number
abbrev pub queue_in : List (List Message) → (queue : ℕ) → List Message
queue_in chains queue = merged (lanes_from chains queue 0 8)

-- each chain is a lane of a queue
abbrev pub AreLanes : List (List Message) → Type 0
AreLanes chains = (queue lane : ℕ) → lane < 8 → IsLane lane (get_or chains (queue * 8 + lane) [])

-- the earlier one of two messages, the first where neither is
abbrev pub earlier : Option Message → Option Message → Option Message
earlier None o = o
earlier (Some m) None = Some m
earlier (Some m) (Some n) = cond (nat_lt n.number m.number) (Some n) (Some m)

-- and the later one, the second where neither is
abbrev pub later : Option Message → Option Message → Option Message
later None o = o
later (Some m) None = Some m
later (Some m) (Some n) = cond (nat_lt n.number m.number) (Some m) (Some n)

-- the last message of a list
abbrev pub last_of : List Message → Option Message
last_of [] = None
last_of (m ∷ []) = Some m
last_of (m ∷ n ∷ ns) = last_of (n ∷ ns)

-- the message at a place has the number
abbrev pub IsNumberedAt : (number : ℕ) → List Message → (place : ℕ) → Type 0
IsNumberedAt number ms place = (m : Message) × (slice_get ms place ≡ Some m) × (m.number ≡ number)

-- a message of the list has the number
abbrev pub HasNumber : (number : ℕ) → List Message → Type 0
HasNumber number ms = (place : ℕ) × IsNumberedAt number ms place

-- the message at a place has this tag and this number
abbrev pub IsMessageAt : (tag number : ℕ) → List Message → (place : ℕ) → Type 0
IsMessageAt tag number ms place = (m : Message) × (slice_get ms place ≡ Some m) × (m.tag ≡ tag) × (m.number ≡ number)
