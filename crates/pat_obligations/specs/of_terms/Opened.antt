-- The types of all signatures, as one pass makes them, where the first variable has number k.
use Rattle.std.specs.Prelude.{ℕ, ◌+◌, List, [], ◌∷◌, Option, Some, None}
use Rattle.pat_words_spec.specs.Patterns.{Pat, Var}
use Rattle.pat_semantics_spec.specs.Programs.{Sort, Function}
use Rattle.pat_type_system_spec.specs.Types.{MailboxType}
use Rattle.pat_type_system_spec.specs.Typings.{sort_type, result_of}
use Rattle.pat_type_schemes_spec.specs.Signatures.{omits, result_number}
use Rattle.pat_obligations.specs.Listed.{Signature}

-- the types of parameters
abbrev pub opened_params : ℕ → List Sort → List (Option MailboxType)
opened_params k [] = []
opened_params k (s ∷ ss) = sort_type (Var k) s ∷ opened_params (k + omits s) ss

-- the signature of a function
abbrev pub opened : ℕ → Function → Signature
opened k g = record { params = opened_params k g.params; result = result_of (Var (result_number k g)) g.result }

-- the signatures of functions
abbrev pub opened_from : ℕ → List Function → List Signature
opened_from k [] = []
opened_from k (g ∷ gs) = opened k g ∷ opened_from (result_number k g + omits g.result) gs

-- the written pattern, or this one
abbrev pub written_or : Pat → Option Pat → Pat
written_or e None = e
written_or e (Some f) = f

-- how many variables stand for a pattern: one, if it isn't written
abbrev pub omits_pattern : Option Pat → ℕ
omits_pattern None = 1
omits_pattern (Some f) = 0
