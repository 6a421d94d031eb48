-- Configurations in order: numbers ascend, and lie below the next free ones.
use Rattle.std.specs.Prelude.{ℕ, suc, ◌≤◌, ◌<◌, List, [], ◌∷◌, map}
use Rattle.std.specs.List.{AllByRecursion}
use Rattle.std.specs.Map.{keys_of}
use Rattle.pat_semantics_spec.specs.Configs.{Control, Running, Returned, Thread, Config}

-- the numbers are in ascending order, from n on; so none of them stands twice
abbrev pub AscendsFrom : ℕ → List ℕ → Type 0
AscendsFrom n [] = Unit {0}
AscendsFrom n (k ∷ ks) = (n ≤ k) × AscendsFrom (suc k) ks

-- the variables of a control's values are in ascending order
abbrev pub ControlIsOrdered : Control → Type 0
ControlIsOrdered (Running n env) = AscendsFrom 0 (keys_of env)
ControlIsOrdered (Returned v) = Unit {0}

-- the variables of each of a thread's environments are in ascending order
abbrev pub ThreadIsOrdered : Thread → Type 0
ThreadIsOrdered s = ControlIsOrdered s.control × AllByRecursion (λ f. AscendsFrom 0 (keys_of f.env)) s.frames

-- threads, pending messages, live mailboxes, and the variables of each environment stand in ascending order of number, none twice,
-- and numbers of threads, messages and mailboxes are below the next free ones
pub record IsOrdered (c : Config) : Type 0 where
  pub threads : AscendsFrom 0 (keys_of c.threads)
  pub messages : AscendsFrom 0 (map (λ m. m.number) c.messages)
  pub live : AscendsFrom 0 c.live
  pub threads_below : AllByRecursion (λ e. e.0 < c.next_thread) c.threads
  pub messages_below : AllByRecursion (λ m. m.number < c.next_message) c.messages
  pub live_below : AllByRecursion (λ a. a < c.next_mailbox) c.live
  pub environments : AllByRecursion (λ e. ThreadIsOrdered e.1) c.threads
