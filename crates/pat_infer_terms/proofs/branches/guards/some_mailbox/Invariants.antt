use Rattle.std.proofs.Common.{◌≡◌, map, drop}
use Rattle.pat_infer_spec.specs.Walk.{has_mailbox}
use Rattle.pat_core.specs.Views.{sort_view}
use Rattle.pat_infer_terms.proofs.branches.guards.some_mailbox.Given as goal

-- a payload is a mailbox just where one of those that are left is
abbrev pub invariant-loop-sort : goal.invariant-loop-sort
invariant-loop-sort l = has_mailbox (map sort_view (drop l.sort-index l.payloads)) ≡ has_mailbox (map sort_view l.payloads)
