-- Sleepers that are woken, one after another.
use Rattle.std.proofs.Common.{◌≡◌, ℕ, ◌+◌, refl, ◌∙◌, subst, ◌⊎◌, inl, inr, ⊎_elim, arith}
use Rattle.pat_machine_indexes.specs.declared.ready_sets.waits.ReadySets.{ReadySets}
use Rattle.pat_machine_indexes.specs.ready_sets.ReadySets.{IsInOrder, IsAwake, SleepsAt, Takes, Wakes, WakesThose}

-- what is taken one after another
takes_both : (n m : ℕ) (w x v : ReadySets) → Takes n w x → Takes m x v → Takes (n + m) w v
takes_both n m w x v first rest =
    let len = first.len in
    let more = rest.len in
    let low = first.capacity in
    let high = rest.capacity in
    let held = first.held in
    let further = rest.held in
    let hold = first.hold in
    let holds = rest.hold in
    record { len = omega arith; capacity = omega arith; held = omega arith; hold = omega arith }

-- none of these sleeps
pub none_woken : (Those : (a u : ℕ) → Type 0) (w : ReadySets) → IsInOrder w → ((a u : ℕ) → Those a u → SleepsAt w a u → IsAwake w u) → WakesThose Those w w
none_woken Those w order none = record {
  order = order;
  others = λ u on. on;
  woken = none;
  asleep = λ a u s. inl s;
  slept = λ a u s. s;
  senders = refl;
  space = record { len = omega arith; capacity = omega arith; held = omega arith; hold = omega arith };
  room = λ had. had;
}

-- they sleep at one mailbox
pub one_woken : (Those : (a u : ℕ) → Type 0) (w v : ReadySets) (b : ℕ) → ((a u : ℕ) → Those a u → a ≡ b) → Wakes w b v → WakesThose Those w v
one_woken Those w v b here woken = record {
  order = woken.order;
  others = woken.others;
  woken = λ a u those s. woken.woken u (subst (λ x. SleepsAt w x u) (here a u those) s);
  asleep = woken.asleep;
  slept = woken.slept;
  senders = woken.senders;
  space = woken.space;
  room = woken.room;
}

-- those of fewer
pub fewer_woken : (Those These : (a u : ℕ) → Type 0) (w v : ReadySets) → ((a u : ℕ) → These a u → Those a u) → WakesThose Those w v → WakesThose These w v
fewer_woken Those These w v fewer woken = record {
  order = woken.order;
  others = woken.others;
  woken = λ a u these s. woken.woken a u (fewer a u these) s;
  asleep = woken.asleep;
  slept = woken.slept;
  senders = woken.senders;
  space = woken.space;
  room = woken.room;
}

-- first some, and then the rest
pub both_woken : (First Then All : (a u : ℕ) → Type 0) (w x v : ReadySets) → ((a u : ℕ) → All a u → First a u ⊎ Then a u) → WakesThose First w x → WakesThose Then x v → WakesThose All w v
both_woken First Then All w x v parts one two = record {
  order = two.order;
  others = λ u on. two.others u (one.others u on);
  woken = λ a u all s. ⊎_elim
      (λ first. two.others u (one.woken a u first s))
      (λ rest. ⊎_elim (λ stays. two.woken a u rest stays) (λ on. two.others u on) (one.asleep a u s))
      (parts a u all);
  asleep = λ a u s. ⊎_elim (λ stays. two.asleep a u stays) (λ on. inr (two.others u on)) (one.asleep a u s);
  slept = λ a u s. one.slept a u (two.slept a u s);
  senders = two.senders ∙ one.senders;
  space = takes_both 0 0 w x v one.space two.space;
  room = λ had. two.room (one.room had);
}
