use Rattle.std.proofs.Common.{◌≡◌, ℕ, ◌+◌, length}
use Rattle.pat_type_system_spec.specs.Types.{TypeOf}
use Rattle.pat_infer_spec.specs.Walk.{walk}
use Rattle.pat_core.specs.Views.{program_view}
use Rattle.pat_infer.specs.walk.Chains.{climbed}
use Rattle.pat_infer.proofs.walk.walk.chain_of.Given as goal

-- what is found of the last body, with the lets around it, is what is found of the whole
abbrev pub invariant-loop-body : goal.invariant-loop-body
invariant-loop-body l = record {
  climbs : (t : TypeOf) (k : ℕ) → climbed (program_view l.program) t k l.level l.lets (walk l.level (program_view l.program) l.last t k) ≡ walk l.levels (program_view l.program) l.node t k;
  count : length l.lets + l.level ≡ l.levels;
}

abbrev pub decreases-loop-body : goal.decreases-loop-body
decreases-loop-body l = l.level
