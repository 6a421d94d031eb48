use Rattle.std.proofs.Common.{ℕ, ◌||◌, not, sym, ap, ◌∙◌}
use Rattle.pat_semantics_spec.specs.Values.{Value}
use Rattle.pat_type_schemes_spec.specs.NodeTypes.{need_of}
use Rattle.pat_types.specs.Views.{needs_view}
use Rattle.pat_reduce_values.specs.declared.values.Value.{Value as CodeValue}
use Rattle.pat_reduce_values.specs.ValueViews.{value_view}
use Rattle.pat_checkpoint_spec.specs.Numbers.{value_lives}
use Rattle.pat_checkpoint_spec.specs.Mailboxes.{is_returnable}
use Rattle.pat_checkpoint_numbers.specs.Marked.{is_marked}
use Rattle.pat_checkpoint_parts.specs.Typed.{typing_in}
use Rattle.pat_checkpoint_parts.proofs.Keeps.{passed_by, stops, goes_on}
use Rattle.pat_checkpoint_parts.proofs.Turns.{others_pass}
use Rattle.pat_checkpoint_parts.proofs.order.part_keeps.Goals as goal
use Rattle.pat_checkpoint_parts.proofs.order.part_keeps.Goals.{in-Mailbox+else-not-may_stay, in_default}

pub returns-then-not-may_stay : goal.returns-then-not-may_stay
returns-then-not-may_stay c =
    let m = is_marked c.args.marks.now in
    let g = (typing_in c.args.typing.now).envs c.args.node in
    let e = c.loop-variable-item.result in
    stops m g c.args.env.now c.loop-variable.variable-index e c.loop-variable-test.true c.loop-variable-item.is _ c.in-Mailbox.mailbox c.in-Mailbox.is c.requires.differ c.loop-variable.invariant.same
    (ap (λ h. not (is_returnable h) || not (m c.in-Mailbox.mailbox)) (sym (c.find.ensures ∙ ap (λ l. need_of (needs_view l) e.0) c.new-types.ensures ∙ ap (λ f. f e.0) c.needs_of.ensures))
    ∙ sym c.may_stay.ensures ∙ c.if-not-may_stay.true)

pub loop-variable-preserved : goal.loop-variable-preserved
loop-variable-preserved c =
    let m = is_marked c.args.marks.now in
    let g = (typing_in c.args.typing.now).envs c.args.node in
    let e = c.loop-variable-item.result in
    let i = c.loop-variable.variable-index in
    record {
      lives = others_pass (λ (b : ℕ × Value). value_lives c.args.marks.now.live.now b.1) (λ (b : ℕ × CodeValue). (b.0, value_view b.1)) c.args.env.now i e c.loop-variable-test.true c.loop-variable-item.is c.loop-variable.invariant.lives;
      same =
          elim c.match-value.branch [
            | in-Mailbox+else-not-may_stay w ↦
                goes_on m g c.args.env.now i e c.loop-variable-test.true c.loop-variable-item.is _ w.in-Mailbox.mailbox w.in-Mailbox.is c.requires.differ c.loop-variable.invariant.same
                (ap (λ h. not (is_returnable h) || not (m w.in-Mailbox.mailbox)) (sym (w.find.ensures ∙ ap (λ l. need_of (needs_view l) e.0) c.new-types.ensures ∙ ap (λ f. f e.0) c.needs_of.ensures))
                ∙ sym w.may_stay.ensures ∙ w.if-not-may_stay.false)
            | in_default w ↦ passed_by m g c.args.env.now i e c.loop-variable-test.true c.loop-variable-item.is _ c.loop-variable.invariant.same w.in_default.not-Mailbox
          ];
    }
