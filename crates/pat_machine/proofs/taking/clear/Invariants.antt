use Rattle.std.proofs.Common.{◌≡◌, ◌++◌, drop, length}
use Rattle.pat_machine_spec.specs.Lendings.{all_in}
use Rattle.pat_machine.proofs.taking.clear.Given as goal

-- up to here nobody is out
abbrev pub invariant-loop-i : goal.invariant-loop-i
invariant-loop-i l = (length l.out.items ≡ length l.initial.out.items) × (l.out.items ≡ all_in l.i ++ drop l.i l.initial.out.items)
