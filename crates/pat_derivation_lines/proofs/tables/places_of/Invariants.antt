use Rattle.std.proofs.Common.{◌≡◌, ◌≤◌, ℕ, List, drop, length}
use Rattle.pat_derivation_lines.specs.Places.{known_place}
use Rattle.pat_derivation_lines.proofs.Places.{place_from}
use Rattle.pat_derivation_lines.proofs.tables.places_of.Given as goal

abbrev pub invariant-loop-place : goal.invariant-loop-place
invariant-loop-place l = record {
  within : l.place ≤ length l.interfaces;
  known : (x : List ℕ) → known_place x l.places.entries ≡ place_from l.place x (drop l.place l.interfaces);
}

abbrev pub decreases-loop-place : goal.decreases-loop-place
decreases-loop-place l = l.place
