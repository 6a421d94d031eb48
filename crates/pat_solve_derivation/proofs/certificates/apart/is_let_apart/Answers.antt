use Rattle.std.proofs.Common.{rules, ap, subst}
use Rattle.pat_types.specs.Views.{needs_view}
use Rattle.pat_derivation_spec.specs.Derivations.{line_at}
use Rattle.pat_core.specs.Views.{node_view, function_view, core_view}
use Rattle.pat_derivations.specs.Views.{derivation_view}
use Rattle.pat_solve_derivation.specs.certificates.Apart.{needs_of, AreApart}
use Rattle.pat_solve_derivation.proofs.Apart.{let_needs_none}
use Rattle.pat_solve_derivation.proofs.certificates.apart.is_let_apart.Goals as goal

pub returns-then-function-number : goal.returns-then-function-number
returns-then-function-number c h p l =
    let d = derivation_view c.args.derivation.now in
    let_needs_none p d c.args.number (node_view c.args.node.now) (function_view c.args.function.now) l c.in-Let.var c.in-Let.bound c.in-Let.body
    (ap core_view c.in-Let.is) (search rules)
    (subst (λ ms. AreApart ms (needs_of (line_at d c.in-Let.body))) c.env_of.ensures
    (subst (AreApart (needs_view c.env_of.result.now)) c.env_of-then-function-number.ensures (c.are_apart.ensures h)))
