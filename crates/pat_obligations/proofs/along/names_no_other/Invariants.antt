use Rattle.std.proofs.Common.{◌≡◌, ◌-◌, drop, length}
use Rattle.std.specs.List.{list_all}
use Rattle.std.specs.Map.{keys_of}
use Rattle.pat_types.specs.Views.{needs_view}
use Rattle.pat_obligations.specs.Ordered.{is_name}
use Rattle.pat_obligations.proofs.along.names_no_other.Given as goal

abbrev pub decreases-loop-rest : goal.decreases-loop-rest
decreases-loop-rest l = length l.part - l.rest

-- all names are the let's own just where those that are left are
abbrev pub invariant-loop-rest : goal.invariant-loop-rest
invariant-loop-rest l = list_all (is_name l.but) (keys_of (needs_view (drop l.rest l.part))) ≡ list_all (is_name l.but) (keys_of (needs_view (drop l.place l.part)))
