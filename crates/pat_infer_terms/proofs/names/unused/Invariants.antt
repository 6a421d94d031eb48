use Rattle.std.proofs.Common.{◌≡◌, map, drop}
use Rattle.pat_infer_spec.specs.Constraints.{AtName, each_unless, UnusedRule}
use Rattle.pat_infer_spec.specs.Binders.{used_as}
use Rattle.pat_infer_problems.specs.Results.{first_of}
use Rattle.pat_infer_terms.specs.Views.{binder_view}
use Rattle.pat_infer_terms.proofs.names.unused.Given as goal

-- what is found first is found of those that are left
abbrev pub invariant-loop-binder : goal.invariant-loop-binder
invariant-loop-binder l = first_of (each_unless (λ b. used_as b.type.polarity b.need) UnusedRule (λ b. AtName l.fn.function b.name) (map binder_view (drop l.binder-index l.binders))) ≡ first_of (each_unless (λ b. used_as b.type.polarity b.need) UnusedRule (λ b. AtName l.fn.function b.name) (map binder_view l.binders))
