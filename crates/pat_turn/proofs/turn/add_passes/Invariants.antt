use Rattle.std.proofs.Common.{◌≡◌, ◌-◌, ◌≤◌, []}
use Rattle.pat_turn.specs.Rule.{opened}
use Rattle.pat_turn.specs.Shown.{newcomers, turn_of}
use Rattle.pat_turn.proofs.turn.add_passes.Given as goal

-- the first pass has counted those that are there
abbrev pub invariant-loop-number : goal.invariant-loop-number
invariant-loop-number g l =
    let name = g.V.Kept.name l.top.key.first.value in
    (1 ≤ l.number) × (l.number ≤ l.passes) × (l.first.table_id ≡ l.top.table_id) × (l.first.me ≡ (record (opened name) { made = l.number }, []))
    × (l.others.items ≡ newcomers (turn_of l.top.table_id name l.passes) 1 (l.number - 1))
