use Rattle.std.proofs.Common.{◌≡◌, ◌++◌, suc, drop}
use Rattle.pat_patterns.specs.Views.{patterns_view}
use Rattle.pat_derivations.specs.Views.{vars_view}
use Rattle.pat_certificate_checks.specs.Plain.{plain_from, all_plain}
use Rattle.pat_certificate_checks.proofs.trivial.plain_values.Given as goal

abbrev pub invariant-loop-value : goal.invariant-loop-value
invariant-loop-value l =
    patterns_view l.plain ++ plain_from (suc l.number) (vars_view (drop l.value-index l.derivation.vars)) ≡ all_plain (vars_view l.derivation.vars)
