-- Threads that are noted, after one of them changed.
use Rattle.std.proofs.Common.{◌≡◌, ℕ, true, false, cond, ◌||◌, ◌&&◌, nat_eq, List, [], ◌∷◌, Option, Some, None, refl, sym, ap, ◌∙◌, subst, ◌⊎◌, inl, inr, ⊎_elim, arith}
use Rattle.std.specs.Prelude.{find, filter, if◌then◌else◌}
use Rattle.std.proofs.lemmas.Bool.{cases_Bool, eqb-true, eqb-false}
use Rattle.pat_semantics_spec.specs.Programs.{Program, Function, function_at, is_among}
use Rattle.pat_semantics_spec.specs.Configs.{Thread, Message, Config, thread_at, start, start_of}
use Rattle.pat_semantics_spec.specs.Orders.{AscendsFrom, IsOrdered}
use Rattle.pat_semantics_spec.specs.Steps.{Act, ActNew, ActSend, ActSpawn, ActReceive}
use Rattle.pat_semantics_spec.specs.Runs.{can_step_thread}
use Rattle.pat_semantics_laws.proofs.Lists.{clash}
use Rattle.pat_machine_spec.specs.Opens.{has_space}
use Rattle.pat_machine_spec.specs.Lendings.{Out}
use Rattle.pat_machine_spec.specs.Turns.{is_above, is_ready, ready_above}
use Rattle.pat_machine_laws.specs.wakeups.Wakings.{IsWaiting, SendsTo, LetsGo, brings, is_brought_by}
use Rattle.pat_machine_laws.proofs.Calls.{others_stay, sleepers_called}
use Rattle.pat_machine_laws.proofs.Supersets.{enabled_there}
use Rattle.pat_machine_laws.proofs.Senders.{found_in_both}
use Rattle.pat_machine_laws.specs.wakeups.Senders.{is_about_to_send, IsAboutToSend, AreCandidates, lesser}
use Rattle.pat_machine_indexes.specs.declared.ready_sets.waits.ReadySets.{ReadySets}
use Rattle.pat_machine_indexes.specs.ready_sets.ReadySets.{sleeper_at, IsAwake, IsHeld, SleepsAt, Adds, Holds, Removes, WakesThose, PutsToSleep, AddsMailbox}
use Rattle.pat_machine_indexes.specs.ready_sets.Ascending.{Has}
use Rattle.pat_machine_indexes.specs.ready_sets.Noted.{IsAsleep, IsSender, IsNoted, AreNoted, WentOn, WereNoted, WereWoken, FreesListed, IsReady, Settles}
use Rattle.pat_machine_indexes.proofs.Sorted.{find_filtered}
use Rattle.pat_machine_indexes.proofs.Slept.{appended}

-- ---- one thread, as it stands now

noted_on : (p : Program) (d : Config) (w v : ReadySets) (u : ℕ) → (IsAwake w u → IsAwake v u) → (IsHeld w u → IsHeld v u) → ((a : ℕ) → SleepsAt w a u → SleepsAt v a u) → IsNoted p d w u → IsNoted p d v u
noted_on p d w v u awake held asleep noted q there = ⊎_elim
    (λ on. inl (awake on))
    (λ rest. ⊎_elim
    (λ (s : IsSender p w.senders.numbers.items u q). inr (inl (record { held = held s.held; sends = s.sends })))
    (λ (s : IsAsleep p d w.sleepers.items u). inr (inr (record { mailbox = s.mailbox; waiting = s.waiting; asleep = asleep s.mailbox s.asleep })))
    rest)
    (noted q there)

-- who sleeps is as it was
slept_on : (w v : ReadySets) (u : ℕ) → v.sleepers.items ≡ w.sleepers.items → (a : ℕ) → SleepsAt w a u → SleepsAt v a u
slept_on w v u same a = subst (λ l. sleeper_at l a ≡ Some u) (sym same)

module _ (p : Program) (d : Config) (w v : ReadySets) (t : ℕ) where
  pub settled_asleep : (a : ℕ) → IsWaiting p d t a → PutsToSleep w t a v → Settles p d w t v
  settled_asleep a waits s = record {
    order = s.order;
    own = λ q there. inr (inr (record { mailbox = a; waiting = waits; asleep = s.own }));
    others = λ u other. noted_on p d w v u (s.others u other) (s.held u other) (λ b. s.asleep b u);
    space = s.space;
  }

  pub settled_awake : Adds w t v → Settles p d w t v
  settled_awake s = record {
    order = s.order;
    own = λ q there. inl s.own;
    others = λ u other. noted_on p d w v u (s.others u) (s.held u other) (slept_on w v u s.asleep);
    space = s.space;
  }

  pub settled_held : IsAboutToSend p d t → Holds w t v → Settles p d w t v
  settled_held (r, at, sends) s = record {
    order = s.order;
    own = λ q there.
        let both : Some r ≡ Some q = sym at ∙ there in
        let same : r ≡ q = cc in
        inr (inl (record { held = s.own; sends = ap (is_about_to_send p) (sym same) ∙ sends }));
    others = λ u other. noted_on p d w v u (s.others u other) (s.held u) (slept_on w v u s.asleep);
    space = s.space;
  }

  pub settled_gone : thread_at d t ≡ None → Removes w t v → Settles p d w t v
  settled_gone none s = record {
    order = s.order;
    own = λ q there. let no = none in cc;
    others = λ u other. noted_on p d w v u (s.others u other) (s.held u other) (slept_on w v u s.asleep);
    space = let len = s.space.len in let held = s.space.held in record { len = omega arith; capacity = s.space.capacity; held = omega arith; hold = s.space.hold };
  }

-- ---- those that may free a mailbox since thread t let its name go

module _ (p : Program) (w v : ReadySets) (t n : ℕ) (act : Option Act) (d : Config) (named : List ℕ) (received : Option Message) where
  brought : (were : WereNoted p w t act n d named received) (b : Option Act) (a : ℕ) → act ≡ b → brings were.went.before b a ≡ true → is_brought_by a received ≡ true
  brought were (Some (ActReceive k)) a is h = ap (is_brought_by a) (were.brought k is) ∙ h
  brought were _ a is h = cc

  -- once these are woken
  pub frees_woken : WereNoted p w t act n d named received → WakesThose (FreesListed p d named received) w v → WereWoken p v t act n d
  frees_woken were woken = record {
    went = were.went;
    noted = record {
      order = woken.order;
      all = λ u q there. ⊎_elim
          (λ on. inl (woken.others u on))
          (λ rest. ⊎_elim
          (λ (s : IsSender p w.senders.numbers.items u q). inr (inl (record { held = subst (λ l. Has l u) (sym woken.senders) s.held; sends = s.sends })))
          (λ s. ⊎_elim (λ on. inl on) (λ stays. inr (inr stays)) (slept u s))
          rest)
          (were.noted.all u q there);
    };
    woken = λ a u free s. woken.woken a u (listed a u free, free.free) (woken.slept a u s);
  }
    where
      slept : (u : ℕ) → IsAsleep p were.went.before w.sleepers.items u → IsAwake v u ⊎ IsAsleep p were.went.before v.sleepers.items u
      slept u s = ⊎_elim (λ stays. inr (record { mailbox = s.mailbox; waiting = s.waiting; asleep = stays })) (λ on. inl on) (woken.asleep s.mailbox u s.asleep)

      listed : (a u : ℕ) → LetsGo p were.went.before t were.went.kept act d u a → (is_among a named ≡ true) ⊎ (is_brought_by a received ≡ true)
      listed a u free = ⊎_elim (λ own. inl (were.listed a own free.gone)) (λ message. inr (brought were act a refl message)) free.had

-- ---- the others, after thread t took its steps

-- as it is with those that were noted
pub record Keeps (p : Program) (c : Config) (act : Option Act) (d : Config) (w v : ReadySets) : Type 0 where
  pub awake : (u : ℕ) → IsAwake w u → IsAwake v u
  pub held : v.senders ≡ w.senders
  pub asleep : (a u : ℕ) → SleepsAt w a u → SleepsAt v a u ⊎ IsAwake v u
  pub called : (a u : ℕ) → SendsTo p c act d u a → SleepsAt w a u → IsAwake v u

module _ (p : Program) (w v : ReadySets) (t n : ℕ) (act : Option Act) (d : Config) (were : WereWoken p w t act n d) where
  abbrev went : WentOn p t act n d
  went = were.went

  pub others_noted : Keeps p were.went.before act d w v → (u : ℕ) → (t ≡ u → ⊥) → (act ≡ Some ActSpawn → u ≡ n → ⊥) → IsNoted p d v u
  others_noted keeps u other known q there = ⊎_elim
      (λ before. ⊎_elim
      (λ on. inl (keeps.awake u on))
      (λ rest. ⊎_elim
      (λ (s : IsSender p w.senders.numbers.items u q). inr (inl (record { held = subst (λ l. Has l u) (sym keeps.held) s.held; sends = s.sends })))
      (λ s. ⊎_elim (λ on. inl on) (λ stays. inr (inr stays)) (slept before s))
      rest)
      (were.noted.all u q before))
      (λ new. absurd (known new.0 (new.1 ∙ sym went.next)))
      (others_stay p went.before d t u went.kept went.middle q act went.ordered went.there went.run other there)
    where
      slept : thread_at were.went.before u ≡ Some q → IsAsleep p were.went.before w.sleepers.items u → IsAwake v u ⊎ IsAsleep p d v.sleepers.items u
      slept before s = ⊎_elim
          still_there
          (λ called. ⊎_elim
          (λ sent. inl (keeps.called s.mailbox u sent s.asleep))
          (λ free. inl (keeps.awake u (were.woken s.mailbox u free s.asleep)))
          called)
          (sleepers_called p went.before d t u went.steps went.kept went.middle s.waiting.thread act s.mailbox went.ordered went.there went.local went.run other s.waiting.there now s.waiting.awaits s.waiting.still)
        where
          now : thread_at d u ≡ Some s.waiting.thread
          now =
              let both : Some s.waiting.thread ≡ Some q = sym s.waiting.there ∙ before in
              let same : s.waiting.thread ≡ q = cc in
              there ∙ ap (λ (x : Thread). Some x) (sym same)

          still_there : can_step_thread p d u ≡ false → IsAwake v u ⊎ IsAsleep p d v.sleepers.items u
          still_there still = ⊎_elim
              (λ stays. inr (record { mailbox = s.mailbox; waiting = record { thread = s.waiting.thread; there = now; awaits = s.waiting.awaits; still = still }; asleep = stays }))
              (λ on. inl on)
              (keeps.asleep s.mailbox u s.asleep)

-- no message was sent
pub kept_as_is : (p : Program) (c d : Config) (act : Option Act) (w : ReadySets) → (act ≡ Some ActSend → ⊥) → Keeps p c act d w w
kept_as_is p c d act w none = record {
  awake = λ u on. on;
  held = refl;
  asleep = λ a u s. inl s;
  called = λ a u sent s. absurd (none sent.sent);
}

-- a mailbox was made
pub kept_with_more : (p : Program) (c d : Config) (w v : ReadySets) → AddsMailbox w v → Keeps p c (Some ActNew) d w v
kept_with_more p c d w v more = record {
  awake = λ u on. subst (λ l. Has l u) (sym more.awake) on;
  held = more.senders;
  asleep = λ a u s. inl (subst (λ l. sleeper_at l a ≡ Some u) (sym more.asleep) (appended w.sleepers.items a u s));
  called = λ a u sent s. let no = sent.sent in cc;
}

-- the thread that slept where the message came was woken, if it may receive that
pub kept_with_woken : (p : Program) (c d : Config) (w v : ReadySets) → WakesThose (IsReady p d) w v → Keeps p c (Some ActSend) d w v
kept_with_woken p c d w v woken = record {
  awake = woken.others;
  held = woken.senders;
  asleep = woken.asleep;
  called = λ a u sent s. woken.woken a u (record { front = c.messages; message = sent.message; last = sent.last; next = sent.next; mailbox = sent.mailbox; receives = sent.receives }) s;
}

module _ (p : Program) (w v : ReadySets) (t n : ℕ) (d : Config) (were : WereWoken p w t (Some ActSpawn) n d) where
  -- the thread that was spawned was settled
  pub others_with_newcomer : Settles p d w n v → (u : ℕ) → (t ≡ u → ⊥) → IsNoted p d v u
  others_with_newcomer s u other = ⊎_elim
      (λ on. subst (IsNoted p d v) (sym (eqb-true u n on)) s.own)
      (λ off.
      let apart = eqb-false u n off in
      s.others u apart (others_noted p w w t n (Some ActSpawn) d were (kept_as_is p were.went.before d (Some ActSpawn) w (λ no. cc)) u other (λ spawned same. apart same)))
      (cases_Bool (nat_eq u n))

-- and thread t itself
pub all_noted : (p : Program) (w v : ReadySets) (t : ℕ) (d : Config) → ((u : ℕ) → (t ≡ u → ⊥) → IsNoted p d w u) → Settles p d w t v → AreNoted p d v.awake.numbers.items v.senders.numbers.items v.sleepers.items
all_noted p w v t d others s = record {
  order = s.order;
  all = λ u. ⊎_elim
      (λ on. subst (IsNoted p d v) (sym (eqb-true u t on)) s.own)
      (λ off. let apart = eqb-false u t off in s.others u apart (others u (λ same. apart (sym same))))
      (cases_Bool (nat_eq u t));
}

-- ---- the start

start_first : (o : Option Function) (u : ℕ) (q : Thread) → thread_at (start_of o) u ≡ Some q → is_among u (0 ∷ []) ≡ true
start_first None u q h = cc
start_first (Some f) u q h =
    (elim (nat_eq u 0) as (λ b. cond b (Some (record { control = Rattle.pat_semantics_spec.specs.Configs.Running f.body []; frames = [] })) None ≡ Some q → (b || false) ≡ true) [ true ↦ λ k. refl | false ↦ λ k. cc ]) h

pub start_noted : (p : Program) (w : ReadySets) → w.awake.numbers.items ≡ 0 ∷ [] → w.senders.numbers.items ≡ [] → AreNoted p (start p) w.awake.numbers.items w.senders.numbers.items w.sleepers.items
start_noted p w first none = record {
  order = (subst (AscendsFrom 0) (sym first) (omega arith, tt), subst (AscendsFrom 0) (sym none) tt);
  all = λ u q there. inl (subst (λ l. is_among u l ≡ true) (sym first) (start_first (function_at p p.main) u q there));
}

-- ---- what may go on

-- whoever has an enabled step may go on, or is about to send
pub candidates : (p : Program) (c : Config) (w : ReadySets) → AreNoted p c w.awake.numbers.items w.senders.numbers.items w.sleepers.items → AreCandidates p c w.awake.numbers.items w.senders.numbers.items
candidates p c w noted t can =
    let s = enabled_there p c t can in
    ⊎_elim
    (λ on. inl on)
    (λ rest. ⊎_elim
    (λ (held : IsSender p w.senders.numbers.items t s.0). inr (held.held, (s.0, s.1, held.sends)))
    (λ (a : IsAsleep p c w.sleepers.items t). absurd (clash can a.waiting.still))
    rest)
    (noted.all t s.0 s.1)

-- so the first ready thread above another one is found among those, and among the senders where there is space
pub first_ready : (p : Program) (c : Config) (limit : ℕ) (out : Out) (last : Option ℕ) (w : ReadySets) → IsOrdered c → AreNoted p c w.awake.numbers.items w.senders.numbers.items w.sleepers.items
    → lesser (find (is_ready p c limit out) (filter (is_above last) w.awake.numbers.items)) (if has_space c limit then find (is_ready p c limit out) (filter (is_above last) w.senders.numbers.items) else None) ≡ ready_above p c limit out last
first_ready p c limit out last w order noted =
    let test = is_ready p c limit out in
    let awake = w.awake.numbers.items in
    let senders = w.senders.numbers.items in
    ap (λ o. lesser o (if has_space c limit then find test (filter (is_above last) senders) else None)) (find_filtered (is_above last) test awake)
    ∙ ap (λ o. lesser (find (λ t. is_above last t && test t) awake) (if has_space c limit then o else None)) (find_filtered (is_above last) test senders)
    ∙ sym (found_in_both p c limit out last awake senders order noted.order.0 noted.order.1 (candidates p c w noted))
