-- What a typed configuration names is live.
use Rattle.std.proofs.Common.{◌≡◌, ℕ, ◌<◌, ◌≤◌, true, Option, Some, None, refl, arith, ⊎_elim}
use Rattle.std.proofs.Math.Nat.{eq-zero-or-pos}
use Rattle.std.proofs.lemmas.Bool.{or_left}
use Rattle.pat_semantics_spec.specs.Programs.{Program, Function, is_among, function_at}
use Rattle.pat_semantics_spec.specs.Configs.{Config, start, start_of, has_pending, some_message_refers}
use Rattle.pat_semantics_laws.proofs.Lists.{among_below}
use Rattle.pat_type_system_spec.specs.Typed.{NumbersFit}
use Rattle.pat_machine_spec.specs.Machines.{IsTypedBySome}
use Rattle.pat_machine_laws.specs.refcounts.Naming.{times_in_threads, times_in}
use Rattle.pat_machine_laws.proofs.Tells.{tells_true, threads_tell, messages_tell}

started_names : (o : Option Function) (a : ℕ) → times_in a (start_of o) ≡ 0
started_names None a = refl
started_names (Some f) a = refl

pub start_names : (p : Program) (a : ℕ) → times_in a (start p) ≡ 0
start_names p a = started_names (function_at p p.main) a

numbers_live : (c : Config) (a : ℕ) → NumbersFit c → 0 < times_in a c → is_among a c.live ≡ true
numbers_live c a fit h =
    ⊎_elim
    (λ none. fit.messages_live a (or_left (some_message_refers c a) (has_pending a c.messages) (tells_true (messages_tell a c.messages) (omega arith))))
    (λ some. fit.threads_live a (tells_true (threads_tell a c.threads) some))
    (eq-zero-or-pos (times_in_threads a c.threads))

pub named_live : (p : Program) (c : Config) (a : ℕ) → IsTypedBySome p c → 0 < times_in a c → is_among a c.live ≡ true
named_live p c a w h = numbers_live c a w.typed.numbers h

pub next_not_named : (p : Program) (c : Config) (a : ℕ) → IsTypedBySome p c → c.next_mailbox ≤ a → times_in a c ≡ 0
next_not_named p c a w h =
    ⊎_elim
    (λ none. none)
    (λ some. let low = among_below c.next_mailbox a c.live w.typed.numbers.ordered.live_below (named_live p c a w some) in absurd (omega arith))
    (eq-zero-or-pos (times_in a c))
