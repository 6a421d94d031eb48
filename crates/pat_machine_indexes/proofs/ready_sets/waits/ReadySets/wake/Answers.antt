use Rattle.std.proofs.Common.{◌≡◌, ℕ, Some, None, refl, sym, ap, ◌∙◌, subst, inl, inr, ⊎_elim, arith}
use Rattle.pat_machine_laws.proofs.Tables.{set_here}
use Rattle.pat_machine_indexes.specs.ready_sets.ReadySets.{sleeper_at}
use Rattle.pat_machine_indexes.specs.ready_sets.Ascending.{Has}
use Rattle.pat_machine_indexes.proofs.Slept.{cleared, cleared_count, slept_there, uncleared, within}
use Rattle.pat_machine_indexes.proofs.ready_sets.waits.ReadySets.wake.Goals as goal

pub returns-in-Some : goal.returns-in-Some
returns-in-Some c =
    let w = c.args.self.now in
    let a = c.args.mailbox in
    let own : sleeper_at w.sleepers.items a ≡ Some c.in-Some.thread = sym c.sleeper.ensures ∙ c.in-Some.is in
    let k = c.add.ensures in
    let there = slept_there w.sleepers.items a c.in-Some.thread own in
    let one = cleared_count w.sleepers.items a c.in-Some.thread there in
    let len = k.len in
    record {
      order = (k.order, c.requires.order.1);
      others = k.others;
      only = λ u on. ⊎_elim (λ was. inl was) (λ same. inr (own ∙ ap (λ (x : ℕ). Some x) (sym same))) (k.only u on);
      empty = set_here w.sleepers.items a None (within w.sleepers.items a _ there);
      woken = λ u s.
          let both : Some c.in-Some.thread ≡ Some u = sym own ∙ s in
          let same : c.in-Some.thread ≡ u = cc in
          subst (Has c.add.new.self) same k.own;
      asleep = λ b u s. ⊎_elim
          (λ stays. inl stays)
          (λ same. inr (subst (Has c.add.new.self) (sym same) k.own))
          (cleared w.sleepers.items a c.in-Some.thread b u own s);
      slept = λ b u s. uncleared w.sleepers.items a b u (within w.sleepers.items a _ there) s;
      senders = refl;
      space = record { len = omega arith; capacity = k.capacity; held = omega arith; hold = omega arith };
      room = λ had. had;
    }

pub returns-in-None : goal.returns-in-None
returns-in-None c = record {
  order = c.requires.order;
  others = λ u on. on;
  only = λ u on. inl on;
  empty = sym c.sleeper.ensures ∙ c.in-None.is;
  woken = λ u s. let none = sym c.sleeper.ensures ∙ c.in-None.is in cc;
  asleep = λ b u s. inl s;
  slept = λ b u s. s;
  senders = refl;
  space = record { len = omega arith; capacity = omega arith; held = omega arith; hold = omega arith };
  room = λ had. had;
}

pub add-requires-clause-space : goal.add-requires-clause-space
add-requires-clause-space c =
    let w = c.args.self.now in
    let a = c.args.mailbox in
    let own : sleeper_at w.sleepers.items a ≡ Some c.in-Some.thread = sym c.sleeper.ensures ∙ c.in-Some.is in
    let one = cleared_count w.sleepers.items a c.in-Some.thread (slept_there w.sleepers.items a c.in-Some.thread own) in
    let had = c.requires.space in
    omega arith
