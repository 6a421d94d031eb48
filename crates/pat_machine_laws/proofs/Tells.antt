-- Whether a mailbox is referred to, and how often it is named: one tells the other.
use Rattle.std.proofs.Common.{◌≡◌, ℕ, ◌+◌, ◌<◌, Bool, true, false, ◌||◌, List, [], ◌∷◌, refl, arith, ◌↔◌}
use Rattle.std.specs.List.{list_any}
use Rattle.pat_semantics_spec.specs.Values.{Value, Env}
use Rattle.pat_semantics_spec.specs.WellFormed.{count_if}
use Rattle.pat_semantics_spec.specs.Configs.{Control, Running, Returned, Frame, Thread, Message, is_mailbox, env_refers, control_refers, thread_refers, message_refers}
use Rattle.pat_machine_laws.specs.refcounts.Naming.{times_in_values, times_in_env, times_in_control, times_in_frames, times_in_thread, times_in_message, times_in_threads, times_in_messages}

-- a test passes where a number isn't 0, and nowhere else
pub record Tells (test : Bool) (n : ℕ) : Type 0 where
  pub some : test ≡ true → 0 < n
  pub none : test ≡ false → n ≡ 0

pub tells_true : {test : Bool} {n : ℕ} → Tells test n → 0 < n → test ≡ true
tells_true {test = true} w h = refl
tells_true {test = false} w h = let zero = w.none refl in absurd (omega arith)

pub tells_false : {test : Bool} {n : ℕ} → Tells test n → n ≡ 0 → test ≡ false
tells_false {test = true} w h = let more = w.some refl in absurd (omega arith)
tells_false {test = false} w h = refl

-- both ways at once
pub tells_both : {test : Bool} {n : ℕ} → Tells test n → (test ≡ true) ↔ (0 < n)
tells_both w = (w.some, tells_true w)

pub tells_nothing : Tells false 0
tells_nothing = record { some = λ h. cc; none = λ h. refl }

tells_if : (test : Bool) → Tells test (count_if test)
tells_if true = record { some = λ h. omega arith; none = λ h. cc }
tells_if false = record { some = λ h. cc; none = λ h. refl }

-- one test or another, and the sum
pub tells_or : {test other : Bool} {m n : ℕ} → Tells test m → Tells other n → Tells (test || other) (m + n)
tells_or {test = true} v w = record { some = λ h. let more = v.some refl in omega arith; none = λ h. cc }
tells_or {test = false} v w = record { some = λ h. let more = w.some h in omega arith; none = λ h. let left = v.none refl in let right = w.none h in omega arith }

pub values_tell : (a : ℕ) (vs : List Value) → Tells (list_any (is_mailbox a) vs) (times_in_values a vs)
values_tell a [] = tells_nothing
values_tell a (v ∷ vs) = tells_or (tells_if (is_mailbox a v)) (values_tell a vs)

pub env_tells : (a : ℕ) (env : Env) → Tells (env_refers a env) (times_in_env a env)
env_tells a [] = tells_nothing
env_tells a (b ∷ env) = tells_or (tells_if (is_mailbox a b.1)) (env_tells a env)

control_tells : (a : ℕ) (k : Control) → Tells (control_refers a k) (times_in_control a k)
control_tells a (Running n env) = env_tells a env
control_tells a (Returned v) = tells_if (is_mailbox a v)

frames_tell : (a : ℕ) (fs : List Frame) → Tells (list_any (λ f. env_refers a f.env) fs) (times_in_frames a fs)
frames_tell a [] = tells_nothing
frames_tell a (f ∷ fs) = tells_or (env_tells a f.env) (frames_tell a fs)

pub thread_tells : (a : ℕ) (s : Thread) → Tells (thread_refers a s) (times_in_thread a s)
thread_tells a s = tells_or (control_tells a s.control) (frames_tell a s.frames)

pub message_tells : (a : ℕ) (m : Message) → Tells (message_refers a m) (times_in_message a m)
message_tells a m = values_tell a m.values

pub threads_tell : (a : ℕ) (ts : List (ℕ × Thread)) → Tells (list_any (λ e. thread_refers a e.1) ts) (times_in_threads a ts)
threads_tell a [] = tells_nothing
threads_tell a (e ∷ es) = tells_or (thread_tells a e.1) (threads_tell a es)

pub messages_tell : (a : ℕ) (ms : List Message) → Tells (list_any (message_refers a) ms) (times_in_messages a ms)
messages_tell a [] = tells_nothing
messages_tell a (m ∷ ms) = tells_or (message_tells a m) (messages_tell a ms)
