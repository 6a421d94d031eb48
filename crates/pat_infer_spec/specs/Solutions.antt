-- What meets the constraints, and how a typing and a solution give one another.
use Rattle.std.specs.Prelude.{◌≡◌, ℕ, suc, List, [], ◌∷◌, Option, Some, None, nat_eq}
use Rattle.std.specs.Map.{lookup}
use Rattle.std.specs.List.{AllByRecursion}
use Rattle.pat_words_spec.specs.Words.{Word}
use Rattle.pat_words_spec.specs.Patterns.{Pat, Zero, Language, InUnder, In}
use Rattle.pat_semantics_spec.specs.Programs.{Program}
use Rattle.pat_type_system_spec.specs.Types.{MailboxType}
use Rattle.pat_type_system_spec.specs.Typings.{Typing, HasWord}
use Rattle.pat_type_schemes_spec.specs.Typings.{typing_with, typing_under}
use Rattle.pat_type_schemes_spec.specs.Signatures.{Origin, OfParameter, OfResult, OfNeed, Variable}
use Rattle.pat_infer_spec.specs.Constraints.{Constraint}
use Rattle.pat_infer_spec.specs.Walk.{inferred}

-- the constraint holds where the variables have these words
abbrev pub MeetsUnder : (ℕ → Language) → Constraint → Type 0
MeetsUnder values c = (w : Word) → InUnder values c.left w → InUnder values c.right w

-- an assignment of words meets all constraints of the program
abbrev pub IsSolution : Program → (ℕ → Language) → Type 0
IsSolution p values = AllByRecursion (MeetsUnder values) (inferred p).constraints

-- an assignment of patterns does
abbrev pub IsPatternSolution : Program → (ℕ → Pat) → Type 0
IsPatternSolution p s = IsSolution p (λ k. In (s k))

-- each sending variable of a signature, numbered from k, has a word
abbrev pub SendersHaveWords : (ℕ → Pat) → ℕ → List Variable → Type 0
SendersHaveWords s k [] = Unit {0}
SendersHaveWords s k (v ∷ vs) = HasWord v.polarity (s k) × SendersHaveWords s (suc k) vs

-- the pattern of a type, if there is one
abbrev pub type_pattern : Option MailboxType → Pat
type_pattern None = Zero
type_pattern (Some a) = a.pattern

-- the pattern that a typing has where the variable comes from
abbrev pub pattern_by : Typing → Origin → Pat
pattern_by y (OfParameter f k) = y.param_patterns f k
pattern_by y (OfResult f) = y.result_patterns f
pattern_by y (OfNeed n x) = type_pattern (y.envs n x)

-- the variables, numbered from k, have the patterns that the typing has where they come from
abbrev pub GivesFrom : Typing → (ℕ → Pat) → ℕ → List Variable → Type 0
GivesFrom y s k [] = Unit {0}
GivesFrom y s k (v ∷ vs) = (s k ≡ pattern_by y v.origin) × GivesFrom y s (suc k) vs

-- what is found of the program, with its variables
abbrev pub typing_open : Program → Typing
typing_open p = typing_with p (λ n. lookup (nat_eq n) (inferred p).nodes)

-- the same with the variables replaced
abbrev pub typing_found : Program → (ℕ → Pat) → Typing
typing_found p s = typing_under s (typing_open p)
