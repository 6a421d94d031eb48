use Rattle.std.proofs.Common.{rules, ◌≡◌, true}
use Rattle.pat_words_spec.specs.Patterns.{pat_eq}
use Rattle.pat_types.specs.Views.{type_view}
use Rattle.pat_certificate_checks.proofs.Alike.{fit_alike}
use Rattle.pat_certificate_checks.proofs.inclusions.alike.Goals as goal

pub returns-then-is_alike : goal.returns-then-is_alike
returns-then-is_alike c =
    let g = type_view c.args.given.now in
    let a = type_view c.args.asked.now in
    let alike : pat_eq g.pattern a.pattern ≡ true = search rules in
    fit_alike a.polarity g.interface a.interface g.pattern a.pattern c.if-given-asked.true alike
