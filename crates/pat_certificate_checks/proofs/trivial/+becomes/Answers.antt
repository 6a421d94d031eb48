use Rattle.std.proofs.Common.{sym, ◌∙◌}
use Rattle.pat_patterns.specs.Views.{pattern_view}
use Rattle.pat_certificate_checks.proofs.Becoming.{var_becomes}
use Rattle.pat_certificate_checks.proofs.trivial.+becomes.Goals as goal

pub returns-in-Var-default : goal.returns-in-Var-default
returns-in-Var-default t c same =
    rw c.in-Var-default.is-0
    (var_becomes c.args.values.now c.in-Var-default.number c.index-values-number.result (pattern_view c.args.whole.now)
    (rw c.in-Var-default.is-0 at c.requires) c.index-values-number.is (sym c.same_pattern.ensures ∙ same))
