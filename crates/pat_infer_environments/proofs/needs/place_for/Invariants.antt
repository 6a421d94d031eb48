use Rattle.std.proofs.Common.{◌≡◌, ◌<◌, take}
use Rattle.std.specs.List.{AllByRecursion}
use Rattle.pat_infer_environments.proofs.needs.place_for.Given as goal

-- those before the place are of lesser variables
abbrev pub invariant-loop-other : goal.invariant-loop-other
invariant-loop-other l = record {
  place : l.place ≡ l.other-index;
  front : AllByRecursion (λ e. e.0 < l.variable) (take l.other-index l.needs);
}
