-- How often a mailbox is named in lists that are joined, and in a thread with further frames below.
use Rattle.std.proofs.Common.{◌≡◌, ℕ, ◌+◌, List, [], ◌∷◌, ◌++◌, sym, ap, ◌∙◌, arith}
use Rattle.std.proofs.lemmas.List.{take-append-drop}
use Rattle.pat_semantics_spec.specs.Values.{Value, Env}
use Rattle.pat_semantics_spec.specs.Configs.{Frame, Thread, Message}
use Rattle.pat_semantics_spec.specs.Steps.{thread_of}
use Rattle.pat_machine_spec.specs.Tops.{top_of, below, over}
use Rattle.pat_machine_laws.specs.refcounts.Naming.{times_in_values, times_in_env, times_in_frames, times_in_thread, times_in_messages}

pub values_join : (a : ℕ) (vs ws : List Value) → times_in_values a (vs ++ ws) ≡ times_in_values a vs + times_in_values a ws
values_join a [] ws = omega arith
values_join a (v ∷ vs) ws = let rest = values_join a vs ws in omega arith

pub envs_join : (a : ℕ) (env more : Env) → times_in_env a (env ++ more) ≡ times_in_env a env + times_in_env a more
envs_join a [] more = omega arith
envs_join a (b ∷ env) more = let rest = envs_join a env more in omega arith

pub frames_join : (a : ℕ) (fs gs : List Frame) → times_in_frames a (fs ++ gs) ≡ times_in_frames a fs + times_in_frames a gs
frames_join a [] gs = omega arith
frames_join a (f ∷ fs) gs = let rest = frames_join a fs gs in omega arith

pub messages_join : (a : ℕ) (ms ns : List Message) → times_in_messages a (ms ++ ns) ≡ times_in_messages a ms + times_in_messages a ns
messages_join a [] ns = omega arith
messages_join a (m ∷ ms) ns = let rest = messages_join a ms ns in omega arith

pub over_counts : (a : ℕ) (r : Thread) (rest : List Frame) → times_in_thread a (over r rest) ≡ times_in_thread a r + times_in_frames a rest
over_counts a r rest = let both = frames_join a r.frames rest in omega arith

pub top_counts : (a n : ℕ) (s : Thread) → times_in_thread a s ≡ times_in_thread a (top_of n s) + times_in_frames a (below n s)
top_counts a n s =
    ap (λ fs. times_in_thread a (thread_of s.control fs)) (sym (take-append-drop n s.frames)) ∙ over_counts a (top_of n s) (below n s)
