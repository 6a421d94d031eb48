-- Demands that ask nothing, since what is there is passed on as it is.
use Rattle.std.specs.Prelude.{◌≡◌, true, List, ◌∷◌, Some, None}
use Rattle.pat_type_system_spec.specs.Types.{MailboxType}
use Rattle.pat_type_schemes_spec.specs.Values.{Scope, is_formed}
use Rattle.pat_derivation_spec.specs.Demands.{Demand, Pass, Divide, uses_fit}

-- b is a but for a usage that fits, and the pattern is one of the interface
pub record IsKept (s : Scope) (a b : MailboxType) : Type 0 where
  pub fits : uses_fit a b ≡ true
  pub interface : a.interface ≡ b.interface
  pub pattern : a.pattern ≡ b.pattern
  pub formed : is_formed s a.interface a.pattern ≡ true

-- one part alone has what is there, and has it as it is
abbrev pub IsSettled : Scope → Demand → Type 0
IsSettled s (Pass (Some a) (Some b)) = IsKept s a b
IsSettled s (Divide (Some a) (Some b) None) = IsKept s a b
IsSettled s (Divide (Some a) None (Some c)) = IsKept s a c
IsSettled s _ = ⊥

-- the rest stands behind demands that are settled
pub data FollowSettled (s : Scope) (rest : List Demand) : List Demand → Type 0 where
  none_before : FollowSettled s rest rest
  settled_before : {d : Demand} {ds : List Demand} → IsSettled s d → FollowSettled s rest ds → FollowSettled s rest (d ∷ ds)
