-- The types of signatures as one pass makes them, where variables are numbered on from k.
use Rattle.std.specs.Prelude.{ℕ, ◌+◌, List, [], ◌∷◌, Option}
use Rattle.pat_words_spec.specs.Patterns.{Var}
use Rattle.pat_semantics_spec.specs.Programs.{Sort, Function}
use Rattle.pat_type_system_spec.specs.Types.{MailboxType, TypeOf}
use Rattle.pat_type_system_spec.specs.Typings.{sort_type, result_of}
use Rattle.pat_type_schemes_spec.specs.Signatures.{omits}

-- the types of a function's signature
pub record Signature : Type 0 where
  pub params : List (Option MailboxType)
  pub result : TypeOf

-- the types of parameters, where the first variable has number k
abbrev pub open_params : ℕ → List Sort → List (Option MailboxType)
open_params k [] = []
open_params k (s ∷ ss) = sort_type (Var k) s ∷ open_params (k + omits s) ss

-- the number of the variable that comes next
abbrev pub params_end : ℕ → List Sort → ℕ
params_end k [] = k
params_end k (s ∷ ss) = params_end (k + omits s) ss

abbrev pub signature_of : ℕ → Function → Signature
signature_of k g = record { params = open_params k g.params; result = result_of (Var (params_end k g.params)) g.result }

abbrev pub signature_end : ℕ → Function → ℕ
signature_end k g = params_end k g.params + omits g.result

-- the signatures of functions
abbrev pub signatures_from : ℕ → List Function → List Signature
signatures_from k [] = []
signatures_from k (g ∷ gs) = signature_of k g ∷ signatures_from (signature_end k g) gs

abbrev pub signatures_end : ℕ → List Function → ℕ
signatures_end k [] = k
signatures_end k (g ∷ gs) = signatures_end (signature_end k g) gs
