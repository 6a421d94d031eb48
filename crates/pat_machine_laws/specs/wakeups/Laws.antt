-- Laws of what a thread's next step looks at, of the threads that a step of another wakes, and of turns among some of the threads.
use Rattle.std.specs.Prelude.{◌≡◌, ℕ, Bool, ◌&&◌, ◌||◌, if◌then◌else◌, List, Option, Some, None, option_map, find, IsTrue, IsFalse, ◌⊎◌}
use Rattle.std.specs.List.{list_any}
use Rattle.pat_semantics_spec.specs.Programs.{Program, is_among}
use Rattle.pat_semantics_spec.specs.Configs.{Thread, Config, thread_at, with_thread, thread_refers}
use Rattle.pat_semantics_spec.specs.Orders.{AscendsFrom, IsOrdered}
use Rattle.pat_semantics_spec.specs.Steps.{Act, ActSpawn}
use Rattle.pat_semantics_spec.specs.Runs.{IsSharedOrNone, run_from, shared_step, can_step_thread}
use Rattle.pat_machine_spec.specs.Opens.{has_space, can_go_on}
use Rattle.pat_machine_spec.specs.Commits.{locally}
use Rattle.pat_machine_spec.specs.Tops.{top_of, below, over}
use Rattle.pat_machine_spec.specs.Lendings.{Out}
use Rattle.pat_machine_spec.specs.Turns.{is_above, is_ready, ready_above}
use Rattle.pat_machine_laws.specs.wakeups.Senders.{IsAboutToSend, AreCandidates, lesser}
use Rattle.pat_machine_laws.specs.wakeups.Wakings.{guarded, OffersNoMore, is_named_by, IsWoken, GotSpace, SendsTo, LetsGo}

-- a thread that stands alike in two configurations can step in the first wherever it can in the second, where the second offers its guard no more
abbrev pub GuardDecides : Type 0
GuardDecides =
    (p : Program) (c d : Config) (u : ℕ) (s : Thread) → thread_at c u ≡ Some s → thread_at d u ≡ Some s → ((a : ℕ) → guarded p s ≡ Some a → OffersNoMore c d u a)
    → IsTrue (can_step_thread p d u) → IsTrue (can_step_thread p c u)

-- and it has an open step, where the second has no space that the first lacks
abbrev pub SpaceDecides : Type 0
SpaceDecides =
    (p : Program) (c d : Config) (limit u : ℕ) (s : Thread) → thread_at c u ≡ Some s → thread_at d u ≡ Some s → ((a : ℕ) → guarded p s ≡ Some a → OffersNoMore c d u a)
    → (IsTrue (has_space d limit) → IsTrue (has_space c limit)) → IsTrue (can_go_on p d limit u) → IsTrue (can_go_on p c limit u)

-- where thread t came to be s by itself and then took a shared act, another thread that can step could step before, or is woken
abbrev pub OthersWake : Type 0
OthersWake =
    (p : Program) (c d : Config) (t u : ℕ) (r s : Thread) (act : Option Act) → IsOrdered c → thread_at c t ≡ Some r → run_from p (with_thread c t s) (shared_step t act) ≡ Some d → (t ≡ u → ⊥)
    → IsTrue (can_step_thread p d u) → IsTrue (can_step_thread p c u) ⊎ IsWoken p c t r s act d u

-- and one that has an open step had one before, or is woken, or got space for its send
abbrev pub OthersOpen : Type 0
OthersOpen =
    (p : Program) (c d : Config) (limit t u : ℕ) (r s : Thread) (act : Option Act) → IsOrdered c → thread_at c t ≡ Some r → run_from p (with_thread c t s) (shared_step t act) ≡ Some d → (t ≡ u → ⊥)
    → IsTrue (can_go_on p d limit u) → IsTrue (can_go_on p c limit u) ⊎ IsWoken p c t r s act d u ⊎ GotSpace p limit c act d u

-- a thread that goes on alone refers to no mailbox that it didn't refer to
abbrev pub LocalsNameNoMore : Type 0
LocalsNameNoMore =
    (p : Program) (k : ℕ) (s r : Thread) (a : ℕ) → locally p k s ≡ Some r → IsTrue (thread_refers a r) → IsTrue (thread_refers a s)

-- the first ready thread above another one is found among those that may be ready
abbrev pub FoundAmongThose : Type 0
FoundAmongThose =
    (p : Program) (c : Config) (limit : ℕ) (out : Out) (last : Option ℕ) (may : ℕ → Bool) → ((t : ℕ) → IsTrue (is_ready p c limit out t) → IsTrue (may t))
    → ready_above p c limit out last ≡ option_map (λ e. e.0) (find (λ e. may e.0 && (is_above last e.0 && is_ready p c limit out e.0)) c.threads)

-- or in an ascending list of them
abbrev pub FoundInList : Type 0
FoundInList =
    (p : Program) (c : Config) (limit : ℕ) (out : Out) (last : Option ℕ) (ts : List ℕ) → IsOrdered c → AscendsFrom 0 ts → ((t : ℕ) → IsTrue (is_ready p c limit out t) → IsTrue (is_among t ts))
    → ready_above p c limit out last ≡ find (λ t. is_above last t && is_ready p c limit out t) ts

-- and a thread has an open step where one of those that may have one has
abbrev pub OpenInList : Type 0
OpenInList =
    (p : Program) (c : Config) (limit : ℕ) (ts : List ℕ) → ((t : ℕ) → IsTrue (can_go_on p c limit t) → IsTrue (is_among t ts))
    → list_any (λ e. can_go_on p c limit e.0) c.threads ≡ list_any (can_go_on p c limit) ts

-- and a thread has an enabled step where one of those that may have one has
abbrev pub EnabledInList : Type 0
EnabledInList =
    (p : Program) (c : Config) (ts : List ℕ) → ((t : ℕ) → IsTrue (can_step_thread p c t) → IsTrue (is_among t ts))
    → list_any (λ e. can_step_thread p c e.0) c.threads ≡ list_any (can_step_thread p c) ts

-- a thread that is about to send has no open step where there is no space
abbrev pub SendersAreHeldBack : Type 0
SendersAreHeldBack =
    (p : Program) (c : Config) (limit u : ℕ) → IsAboutToSend p c u → IsFalse (has_space c limit) → IsFalse (can_go_on p c limit u)

-- so where two ascending lists have the threads that can step, and the second those about to send, the second is looked at only where there is space:
-- for the first ready thread above another one
abbrev pub FoundInBoth : Type 0
FoundInBoth =
    (p : Program) (c : Config) (limit : ℕ) (out : Out) (last : Option ℕ) (ts us : List ℕ) → IsOrdered c → AscendsFrom 0 ts → AscendsFrom 0 us → AreCandidates p c ts us
    → ready_above p c limit out last
    ≡ lesser (find (λ t. is_above last t && is_ready p c limit out t) ts) (if has_space c limit then find (λ t. is_above last t && is_ready p c limit out t) us else None)

-- and for whether a thread has an open step
abbrev pub OpenInBoth : Type 0
OpenInBoth =
    (p : Program) (c : Config) (limit : ℕ) (ts us : List ℕ) → AreCandidates p c ts us
    → list_any (λ e. can_go_on p c limit e.0) c.threads ≡ (list_any (can_go_on p c limit) ts || (has_space c limit && list_any (can_go_on p c limit) us))

-- a thread has an enabled step where one of either list has
abbrev pub EnabledInBoth : Type 0
EnabledInBoth =
    (p : Program) (c : Config) (ts us : List ℕ) → AreCandidates p c ts us
    → list_any (λ e. can_step_thread p c e.0) c.threads ≡ (list_any (can_step_thread p c) ts || list_any (can_step_thread p c) us)

-- another thread than t is what it was, or was spawned
abbrev pub OthersStay : Type 0
OthersStay =
    (p : Program) (c d : Config) (t u : ℕ) (r s q : Thread) (act : Option Act) → IsOrdered c → thread_at c t ≡ Some r → run_from p (with_thread c t s) (shared_step t act) ≡ Some d → (t ≡ u → ⊥)
    → thread_at d u ≡ Some q → (thread_at c u ≡ Some q) ⊎ ((act ≡ Some ActSpawn) × (u ≡ c.next_thread))

-- and one that waited at a mailbox can't step, or it may receive a message that was sent there, or it may free the mailbox, whose name thread t let go
abbrev pub SleepersAreCalled : Type 0
SleepersAreCalled =
    (p : Program) (c d : Config) (t u k : ℕ) (r s q : Thread) (act : Option Act) (a : ℕ) → IsOrdered c → thread_at c t ≡ Some r → locally p k r ≡ Some s
    → run_from p (with_thread c t s) (shared_step t act) ≡ Some d → (t ≡ u → ⊥) → thread_at c u ≡ Some q → thread_at d u ≡ Some q → guarded p q ≡ Some a → IsFalse (can_step_thread p c u)
    → IsFalse (can_step_thread p d u) ⊎ SendsTo p c act d u a ⊎ LetsGo p c t r act d u a

-- where the top of a thread was exchanged before its shared act, a name that it let go was in that top
abbrev pub TopLetsGo : Type 0
TopLetsGo =
    (p : Program) (c d : Config) (t n : ℕ) (kept end : Thread) (act : Option Act) (a : ℕ) → thread_at c t ≡ Some kept → IsSharedOrNone act
    → run_from p (with_thread c t (over end (below n kept))) (shared_step t act) ≡ Some d
    → IsTrue (thread_refers a kept) → IsFalse (is_named_by a (thread_at d t)) → IsTrue (thread_refers a (top_of n kept))
