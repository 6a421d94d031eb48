use Rattle.std.proofs.Common.{◌≡◌, ◌≤◌, length, map}
use Rattle.pat_derivations.specs.Views.{certs_view, lines_view}
use Rattle.pat_solve_derivation.specs.Lines.{with_certs}
use Rattle.pat_solve_derivation.proofs.lines.put_certs.Given as goal

-- with the certificates that are left the lines are those that are to come
abbrev pub invariant-loop-own : goal.invariant-loop-own
invariant-loop-own l = record {
  enough : length l.left ≤ length l.lines;
  same : with_certs (lines_view l.lines) (map certs_view l.left) ≡ with_certs (lines_view l.initial.lines) (map certs_view l.initial.left);
}

abbrev pub decreases-loop-own : goal.decreases-loop-own
decreases-loop-own l = length l.left
