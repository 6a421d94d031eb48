use Rattle.std.proofs.Common.{◌≡◌, ◌++◌, List, ℕ, length}
use Rattle.pat_input_split.specs.Marked.{Precedes}
use Rattle.pat_input_split.proofs.splitting.place_of_mark.Given as goal

abbrev pub decreases-loop-line : goal.decreases-loop-line
decreases-loop-line l = length l.rest

-- what lies behind is whole lines, none of them the mark
abbrev pub invariant-loop-line : goal.invariant-loop-line
invariant-loop-line l = (front : List ℕ) × Precedes l.mark l.bytes front l.rest × (l.bytes ≡ front ++ l.rest)
