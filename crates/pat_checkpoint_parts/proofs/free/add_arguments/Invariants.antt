use Rattle.std.proofs.Common.{◌≡◌, ℕ, ◌||◌, drop, map}
use Rattle.std.specs.List.{list_any}
use Rattle.pat_semantics_spec.specs.Values.{occurs}
use Rattle.pat_semantics_spec.specs.Programs.{is_among}
use Rattle.pat_core.specs.Views.{expr_view}
use Rattle.pat_checkpoint_parts.proofs.free.add_arguments.Given as goal

-- what is in the list, and what is still to be added, is all of it
abbrev pub invariant-loop-e : goal.invariant-loop-e
invariant-loop-e l =
    (x : ℕ) → (is_among x l.own || list_any (occurs x) (map expr_view (drop l.e-index l.args))) ≡ (is_among x l.fn.own || list_any (occurs x) (map expr_view l.args))
