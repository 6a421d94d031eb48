-- What is held as returnable and is marked.
use Rattle.std.specs.Prelude.{ℕ, Bool, not, ◌||◌, List}
use Rattle.std.specs.List.{list_all}
use Rattle.pat_type_system_spec.specs.Holdings.{Holding}
use Rattle.pat_checkpoint_spec.specs.Mailboxes.{is_returnable}

-- those of the mailboxes that are held as returnable are not marked
abbrev pub keeps_marked : (ℕ → Bool) → (ℕ → Holding) → List ℕ → Bool
keeps_marked marked holds bs = list_all (λ b. not (is_returnable (holds b)) || not (marked b)) bs
