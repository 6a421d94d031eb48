use Rattle.std.proofs.Common.{rules, ◌≡◌, None, subst}
use Rattle.pat_certificate_values.specs.forms.Limits.{Limits}
use Rattle.pat_certificate_values.proofs.Large.{large_right}
use Rattle.pat_certificate_values.proofs.forms.building.sum_within.Goals as goal

pub returns-in-None-right : goal.returns-in-None-right
returns-in-None-right c e f le lf = let q : c.args.right ≡ None = search rules in large_right e f (subst (Limits f) q lf)
