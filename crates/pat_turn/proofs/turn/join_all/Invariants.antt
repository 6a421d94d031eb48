use Rattle.std.proofs.Common.{◌≡◌, ◌++◌, map}
use Rattle.pat_turn.specs.Shown.{as_part}
use Rattle.pat_turn.proofs.turn.join_all.Given as goal

-- those that were taken are joined
abbrev pub invariant-loop-pass : goal.invariant-loop-pass
invariant-loop-pass g l =
    (l.first.table_id ≡ l.initial.first.table_id) × (l.first.id ≡ l.initial.first.id)
    × (l.first.me.0 ≡ record l.initial.first.me.0 { joined = l.initial.first.me.0.joined ++ map as_part l.yielded })
    × (l.yielded ++ l.pass-iterator.rest.items ≡ l.fn.others.items)
