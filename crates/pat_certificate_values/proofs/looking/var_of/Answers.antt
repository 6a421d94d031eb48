use Rattle.std.proofs.Common.{sym, ◌∙◌}
use Rattle.pat_derivations.specs.Views.{vars_view}
use Rattle.pat_certificate_values.proofs.LookUps.{var_before}
use Rattle.pat_certificate_values.proofs.looking.var_of.Goals as goal

pub returns : goal.returns
returns c = c.var_at_place.ensures ∙ sym (var_before (vars_view c.args.vars.now) c.args.number c.if-number-eq0.false)
