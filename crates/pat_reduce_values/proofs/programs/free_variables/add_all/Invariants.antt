use Rattle.std.proofs.Common.{◌≡◌, ℕ, ◌||◌, ◌&&◌, not, drop, ◌++◌}
use Rattle.pat_semantics_laws.specs.Programs.{is_among, option_list}
use Rattle.pat_reduce_values.proofs.programs.free_variables.add_all.Given as goal

-- what is in the list, and what is still to be added, is all of it
abbrev pub invariant-loop-variable : goal.invariant-loop-variable
invariant-loop-variable l =
    (x : ℕ) → (is_among x l.own.listed || (is_among x (drop l.variable-index l.variable-items) && not (is_among x (l.bound ++ option_list l.last)))) ≡ (is_among x l.fn.own.listed || (is_among x l.variable-items && not (is_among x (l.bound ++ option_list l.last))))
