-- The top of a thread: what a few local steps of it can see.
use Rattle.std.specs.Prelude.{ℕ, List, ◌++◌, take, drop, Option, Some, None}
use Rattle.pat_semantics_spec.specs.Configs.{Frame, Thread, Config, thread_at, with_thread}

-- its control and at most so many frames, those on top
abbrev pub top_of : ℕ → Thread → Thread
top_of n s = record { control = s.control; frames = take n s.frames }

-- the frames below these
abbrev pub below : ℕ → Thread → List Frame
below n s = drop n s.frames

-- the thread with these frames below its own
abbrev pub over : Thread → List Frame → Thread
over s rest = record { control = s.control; frames = s.frames ++ rest }

abbrev pub set_over : Config → ℕ → List Frame → Option Thread → Config
set_over c t rest None = c
set_over c t rest (Some s) = with_thread c t (over s rest)

-- the configuration where thread t, if it is there, has these frames below its own
abbrev pub with_below : Config → ℕ → List Frame → Config
with_below c t rest = set_over c t rest (thread_at c t)
