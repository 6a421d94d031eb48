use Rattle.std.proofs.Common.{◌≡◌, ◌+◌, ◌≤◌, ◌++◌, length, vec_len, vec_capacity}
use Rattle.pat_sequences.proofs.base.append.Given as goal

abbrev pub invariant-loop-item : goal.invariant-loop-item
invariant-loop-item g l =
    (l.items.items ++ l.item-iterator.rest.items ≡ l.fn.items.items ++ l.fn.more.items)
    × (vec_len l.items + length l.item-iterator.rest.items ≤ vec_capacity l.items)
