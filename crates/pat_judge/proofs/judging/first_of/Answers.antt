use Rattle.std.proofs.Common.{rules, ◌≡◌, suc, ◌+◌, ◌<◌, max, length, Some, None, option_map, sym, ap, ◌∙◌, arith}
use Rattle.pat_core.specs.Views.{program_view}
use Rattle.pat_derivations.specs.Views.{derivation_view}
use Rattle.pat_judge.specs.Views.{rule_view}
use Rattle.pat_judge.proofs.FirstBad.{found_from, found_here, found_later, within_both}
use Rattle.pat_judge.proofs.Scoped.{scoped_next}
use Rattle.pat_judge.proofs.judging.first_of.Goals as goal

pub returns-in-Some : goal.returns-in-Some
returns-in-Some c =
    let some : c.in_ok-broken_rule.field-0 ≡ Some c.in-Some.rule = search rules in
    let within = within_both c.args.program.now c.args.derivation.now c.loop-number.number c.max-number-end.result (search rules) c.loop-number-test.true in
    found_here (program_view c.args.program.now) (derivation_view c.args.derivation.now) c.loop-number.number (rule_view c.in-Some.rule) within (sym (ap (option_map rule_view) some) ∙ c.in_ok-broken_rule.ensures)
    ∙ c.loop-number.invariant.found

pub loop-number-preserved : goal.loop-number-preserved
loop-number-preserved c =
    let none : c.in_ok-broken_rule.field-0 ≡ None = search rules in
    let within = within_both c.args.program.now c.args.derivation.now c.loop-number.number c.max-number-end.result (search rules) c.loop-number-test.true in
    let next : c.loop-number.number + 1 ≡ suc c.loop-number.number = omega arith in
    let unbroken = sym (ap (option_map rule_view) none) ∙ c.in_ok-broken_rule.ensures in
    record {
      found =
          ap (found_from (program_view c.args.program.now) (derivation_view c.args.derivation.now)) next
          ∙ found_later (program_view c.args.program.now) (derivation_view c.args.derivation.now) c.loop-number.number within unbroken
          ∙ c.loop-number.invariant.found;
      before = scoped_next (program_view c.args.program.now) (derivation_view c.args.derivation.now) c.loop-number.number c.loop-number.invariant.before unbroken;
    }
