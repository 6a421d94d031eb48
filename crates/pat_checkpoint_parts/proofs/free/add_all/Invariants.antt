use Rattle.std.proofs.Common.{◌≡◌, ℕ, ◌||◌, ◌&&◌, not, drop, ◌++◌}
use Rattle.pat_semantics_spec.specs.Programs.{is_among, option_list}
use Rattle.pat_checkpoint_parts.proofs.free.add_all.Given as goal

-- what is in the list, and what is still to be added, is all of it
abbrev pub invariant-loop-variable : goal.invariant-loop-variable
invariant-loop-variable l =
    (x : ℕ) → (is_among x l.own || (is_among x (drop l.variable-index l.variable-items) && not (is_among x (l.bound ++ option_list l.last)))) ≡ (is_among x l.fn.own || (is_among x l.variable-items && not (is_among x (l.bound ++ option_list l.last))))
