use Rattle.std.proofs.Common.{◌≡◌, ◌+◌, ◌≤◌, length, drop, sym, ap, ◌∙◌, arith}
use Rattle.std.proofs.lemmas.List.{drop_all}
use Rattle.pat_checkpoint_parts.specs.Lists.{all_but, are_same}
use Rattle.pat_checkpoint_parts.proofs.Just.{keys_from, left_out, not_there, is_there, at_end}
use Rattle.pat_checkpoint_parts.proofs.fitting.has_just.Goals as goal
use Rattle.pat_checkpoint_parts.proofs.fitting.has_just.Goals.{then-not-is_left_out+else-not-stands_at, else-not-is_left_out}

pub returns-then-not-stands_at : goal.returns-then-not-stands_at
returns-then-not-stands_at c =
    not_there c.args.variables.now c.loop-variable.variable-index _ c.loop-variable-test.true c.args.but c.args.env.now c.loop-variable.place _ c.loop-variable.invariant.same
    (sym c.is_left_out.ensures ∙ c.if-not-is_left_out.true) (sym c.stands_at.ensures ∙ c.if-not-stands_at.true)

pub loop-variable-preserved : goal.loop-variable-preserved
loop-variable-preserved c =
    elim c.if-not-is_left_out.branch [
      | then-not-is_left_out+else-not-stands_at w ↦
          let next = is_there c.args.variables.now c.loop-variable.variable-index _ c.loop-variable-test.true c.args.but c.args.env.now c.loop-variable.place _ c.loop-variable.invariant.same
          (sym c.is_left_out.ensures ∙ w.if-not-is_left_out.true) (sym w.stands_at.ensures ∙ w.if-not-stands_at.false) in
          let within : c.loop-variable.place + 1 ≤ length c.args.env.now = next.0 in
          let is : c.if-not-is_left_out.place ≡ c.loop-variable.place + 1 = w.place-is in
          record {
            within = omega arith;
            same = ap (λ n. are_same (all_but c.args.but (drop (c.loop-variable.variable-index + 1) c.args.variables.now)) (keys_from c.args.env.now n)) is ∙ next.1;
          }
      | else-not-is_left_out w ↦
          let within : c.loop-variable.place ≤ length c.args.env.now = c.loop-variable.invariant.within in
          let is : c.if-not-is_left_out.place ≡ c.loop-variable.place = w.place-is in
          record {
            within = omega arith;
            same =
                ap (λ n. are_same (all_but c.args.but (drop (c.loop-variable.variable-index + 1) c.args.variables.now)) (keys_from c.args.env.now n)) is
                ∙ left_out c.args.variables.now c.loop-variable.variable-index _ c.loop-variable-test.true c.args.but c.args.env.now c.loop-variable.place _ c.loop-variable.invariant.same
                (sym c.is_left_out.ensures ∙ w.if-not-is_left_out.false);
          }
    ]

pub returns : goal.returns
returns c =
    at_end c.args.env.now c.loop-variable.place c.loop-variable.invariant.within
    ∙ sym (ap (λ l. are_same (all_but c.args.but l) (keys_from c.args.env.now c.loop-variable.place)) (drop_all c.loop-variable.variable-index c.args.variables.now c.loop-variable-test.false))
    ∙ c.loop-variable.invariant.same
