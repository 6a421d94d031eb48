-- How often a mailbox is named: by the values of threads, and by the payloads of pending messages.
use Rattle.std.specs.Prelude.{ℕ, suc, ◌+◌, List, [], ◌∷◌, length}
use Rattle.pat_semantics_spec.specs.Values.{Value, Env}
use Rattle.pat_semantics_spec.specs.WellFormed.{count_if}
use Rattle.pat_semantics_spec.specs.Configs.{Control, Running, Returned, Frame, Thread, Message, Config, is_mailbox}

-- how often the mailbox is among the values
abbrev pub times_in_values : ℕ → List Value → ℕ
times_in_values a [] = 0
times_in_values a (v ∷ vs) = count_if (is_mailbox a v) + times_in_values a vs

-- how often it is among the values of an environment
abbrev pub times_in_env : ℕ → Env → ℕ
times_in_env a [] = 0
times_in_env a (b ∷ env) = count_if (is_mailbox a b.1) + times_in_env a env

-- how often it is among a control's values
abbrev pub times_in_control : ℕ → Control → ℕ
times_in_control a (Running n env) = times_in_env a env
times_in_control a (Returned v) = count_if (is_mailbox a v)

-- how often it is among what the frames keep
abbrev pub times_in_frames : ℕ → List Frame → ℕ
times_in_frames a [] = 0
times_in_frames a (f ∷ fs) = times_in_env a f.env + times_in_frames a fs

-- how often a thread names it
abbrev pub times_in_thread : ℕ → Thread → ℕ
times_in_thread a s = times_in_control a s.control + times_in_frames a s.frames

-- how often a message names it: the mailbox that the message is pending in doesn't count
abbrev pub times_in_message : ℕ → Message → ℕ
times_in_message a m = times_in_values a m.values

-- the sum of what each thread has
abbrev pub sum_of_threads : (Thread → ℕ) → List (ℕ × Thread) → ℕ
sum_of_threads f [] = 0
sum_of_threads f (e ∷ es) = f e.1 + sum_of_threads f es

-- how often threads name it
abbrev pub times_in_threads : ℕ → List (ℕ × Thread) → ℕ
times_in_threads a ts = sum_of_threads (times_in_thread a) ts

-- how often messages name it
abbrev pub times_in_messages : ℕ → List Message → ℕ
times_in_messages a [] = 0
times_in_messages a (m ∷ ms) = times_in_message a m + times_in_messages a ms

-- how often the threads and the pending messages of a configuration name it
abbrev pub times_in : ℕ → Config → ℕ
times_in a c = times_in_threads a c.threads + times_in_messages a c.messages

-- the parts of a thread that keep values: its control and its frames
abbrev pub parts_of : Thread → ℕ
parts_of s = suc (length s.frames)

-- the parts of all threads, and the pending messages
abbrev pub parts_in : Config → ℕ
parts_in c = sum_of_threads parts_of c.threads + length c.messages
