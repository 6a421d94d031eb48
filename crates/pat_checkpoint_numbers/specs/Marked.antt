-- Which mailboxes are marked, and which are new.
use Rattle.std.specs.Prelude.{ℕ, Bool, not, ◌&&◌, nat_eq, List}
use Rattle.std.specs.List.{list_all}
use Rattle.pat_derivation_spec.specs.Same.{all_differ}
use Rattle.pat_checkpoint_spec.specs.Checkpoints.{interface_at}
use Rattle.pat_checkpoint_numbers.specs.declared.marks.Marks.{Marks}

-- whether the number of the mailbox is that of the turn
abbrev pub is_marked : Marks → ℕ → Bool
is_marked m b = nat_eq (interface_at m.live.now m.turns b) m.turn

-- whether none of the mailboxes is marked, and all differ
abbrev pub are_new : (ℕ → Bool) → List ℕ → Bool
are_new marked bs = list_all (λ b. not (marked b)) bs && all_differ bs
