use Rattle.std.proofs.Common.{◌≡◌, drop, map}
use Rattle.pat_semantics_spec.specs.Programs.{kind_of}
use Rattle.pat_resolver_spec.specs.Findings.{args_findings}
use Rattle.pat_core.specs.Views.{sort_view}
use Rattle.pat_resolver_heads.specs.tables.Views.{scope_view}
use Rattle.pat_tree.specs.Views.{expr_view}
use Rattle.pat_resolver_heads.specs.results.Results.{first_of}
use Rattle.pat_resolver_bodies.proofs.expressions.check_args.Given as goal

-- what is found in the arguments that are left is what is found in all
abbrev pub invariant-loop-place : goal.invariant-loop-place
invariant-loop-place l = first_of (args_findings (scope_view l.scope) (map kind_of (map sort_view (drop l.place l.sorts))) (map expr_view (drop l.place l.args))) ≡ first_of (args_findings (scope_view l.scope) (map kind_of (map sort_view l.sorts)) (map expr_view l.args))
