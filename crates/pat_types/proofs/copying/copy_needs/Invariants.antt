use Rattle.std.proofs.Common.{◌≡◌, ◌++◌, map, drop}
use Rattle.pat_types.specs.Views.{need_view}
use Rattle.pat_types.proofs.copying.copy_needs.Given as goal

-- the copies and the needs that are left make all needs
abbrev pub invariant-loop-variable : goal.invariant-loop-variable
invariant-loop-variable l = map need_view l.copies ++ map need_view (drop l.variable-index l.needs) ≡ map need_view l.needs
