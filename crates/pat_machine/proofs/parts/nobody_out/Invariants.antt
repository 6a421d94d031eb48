use Rattle.std.proofs.Common.{◌≡◌}
use Rattle.pat_machine_spec.specs.Lendings.{all_in}
use Rattle.pat_machine.proofs.parts.nobody_out.Given as goal

-- nobody is out so far
abbrev pub invariant-loop : goal.invariant-loop
invariant-loop l = l.out.items ≡ all_in l.counter
