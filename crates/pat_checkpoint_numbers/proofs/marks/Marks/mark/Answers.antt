use Rattle.std.proofs.Common.{◌≡◌, ◌≤◌, ℕ, nat_eq, length, ap, sym, ◌∙◌, subst}
use Rattle.std.specs.Prelude.{if◌then◌else◌}
use Rattle.std.proofs.lemmas.List.{length-set}
use Rattle.pat_checkpoint_spec.specs.Checkpoints.{interface_at}
use Rattle.pat_checkpoint_numbers.proofs.Changed.{changed, or_turn, not_above}
use Rattle.pat_checkpoint_numbers.proofs.marks.Marks.mark.Goals as goal

pub invariant_of-self : goal.invariant_of-self
invariant_of-self c =
    let m = c.args.self.now in
    let i = c.in-Some.place in
    let is : (b : ℕ) → interface_at m.live.now c.replace.new.self b ≡ (if nat_eq b c.args.mailbox then m.turn else interface_at m.live.now m.turns b) = λ b.
    ap (λ ts. interface_at m.live.now ts b) c.replace.ensures.after ∙ changed 0 m.live.now m.turns i c.args.mailbox m.turn b m.ascends c.in-Some.ensures.some m.each in
    record {
      ascends = m.ascends;
      each = ap length c.replace.ensures.after ∙ length-set m.turns i m.turn ∙ m.each;
      below = λ b. subst (λ k. k ≤ m.turn) (sym (is b)) (not_above (nat_eq b c.args.mailbox) (interface_at m.live.now m.turns b) m.turn (m.below b));
    }

pub returns-in-Some-clause-marked : goal.returns-in-Some-clause-marked
returns-in-Some-clause-marked c = λ b.
    let m = c.args.self.now in
    let i = c.in-Some.place in
    ap (λ ts. nat_eq (interface_at m.live.now ts b) m.turn) c.replace.ensures.after
    ∙ ap (λ k. nat_eq k m.turn) (changed 0 m.live.now m.turns i c.args.mailbox m.turn b m.ascends c.in-Some.ensures.some m.each)
    ∙ or_turn (nat_eq b c.args.mailbox) (interface_at m.live.now m.turns b) m.turn
