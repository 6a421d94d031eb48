-- The first rule: numbers ascend and are below the next ones, and what is referred to is live.
use Rattle.std.specs.Prelude.{ℕ, suc, Bool, true, ◌&&◌, nat_lt, nat_le, List, [], ◌∷◌, map}
use Rattle.std.specs.List.{list_all}
use Rattle.std.specs.Map.{keys_of}
use Rattle.pat_semantics_spec.specs.Values.{Value, Const, Mailbox, Env}
use Rattle.pat_semantics_spec.specs.Programs.{is_among}
use Rattle.pat_semantics_spec.specs.Configs.{Control, Running, Returned, Thread, Message, Config}

-- whether the numbers are in ascending order, from n on
abbrev pub ascends : ℕ → List ℕ → Bool
ascends n [] = true
ascends n (k ∷ ks) = nat_le n k && ascends (suc k) ks

-- whether the variables of a control's values are in ascending order
abbrev pub control_ascends : Control → Bool
control_ascends (Running n env) = ascends 0 (keys_of env)
control_ascends (Returned v) = true

-- whether the variables of each of a thread's environments are in ascending order
abbrev pub thread_ascends : Thread → Bool
thread_ascends s = control_ascends s.control && list_all (λ f. ascends 0 (keys_of f.env)) s.frames

-- whether the value is no mailbox that isn't live
abbrev pub value_lives : List ℕ → Value → Bool
value_lives live (Const c) = true
value_lives live (Mailbox a) = is_among a live

abbrev pub env_lives : List ℕ → Env → Bool
env_lives live env = list_all (λ e. value_lives live e.1) env

abbrev pub control_lives : List ℕ → Control → Bool
control_lives live (Running n env) = env_lives live env
control_lives live (Returned v) = value_lives live v

abbrev pub thread_lives : List ℕ → Thread → Bool
thread_lives live s = control_lives live s.control && list_all (λ f. env_lives live f.env) s.frames

abbrev pub message_lives : List ℕ → Message → Bool
message_lives live m = is_among m.mailbox live && list_all (value_lives live) m.values

-- whether threads, messages, live mailboxes and the variables of each environment are in ascending order, none twice, and below the next
-- numbers
abbrev pub is_in_order : Config → Bool
is_in_order c =
    ascends 0 (keys_of c.threads)
    && (ascends 0 (map (λ m. m.number) c.messages)
    && (ascends 0 c.live
    && (list_all (λ e. nat_lt e.0 c.next_thread) c.threads
    && (list_all (λ m. nat_lt m.number c.next_message) c.messages
    && (list_all (λ a. nat_lt a c.next_mailbox) c.live && list_all (λ e. thread_ascends e.1) c.threads)))))

-- whether what is referred to, or has a message, is live
abbrev pub refers_to_live : Config → Bool
refers_to_live c = list_all (λ e. thread_lives c.live e.1) c.threads && list_all (message_lives c.live) c.messages

-- Numbers
abbrev pub numbers_hold : Config → Bool
numbers_hold c = is_in_order c && refers_to_live c
