-- The types of signatures, where a variable stands for each pattern that isn't written. Variables are numbered from 1:
-- the parameters of the first function, its result, those of the next function, and so on.
use Rattle.std.specs.Prelude.{ℕ, zero, suc, ◌+◌, List, [], ◌∷◌, ◌++◌, length, None, option_and_then, slice_get}
use Rattle.pat_inclusion_spec.specs.Patterns.{Var}
use Rattle.pat_type_system_spec.specs.Programs.{Polarity, Sort, MailboxSort, Function, Program}
use Rattle.pat_type_system_spec.specs.Types.{TypeOf, TypeEnv}
use Rattle.pat_type_system_spec.specs.Typings.{sort_type, result_of}

-- where a variable of patterns comes from: a parameter's or a result's pattern that isn't written, or what a node needs of a variable
pub data Origin : Type 0 where
  OfParameter : (function place : ℕ) → Origin
  OfResult : (function : ℕ) → Origin
  OfNeed : (node variable : ℕ) → Origin

-- a variable of patterns
pub record Variable : Type 0 where
  pub interface : ℕ
  pub polarity : Polarity
  pub origin : Origin

-- the variable of a type, if its pattern isn't written
abbrev pub omitted : Origin → Sort → List Variable
omitted origin (MailboxSort i q None) = record { interface = i; polarity = q; origin = origin } ∷ []
omitted origin _ = []

-- the variables of parameters, from a place on
abbrev pub params_omitted : ℕ → ℕ → List Sort → List Variable
params_omitted f k [] = []
params_omitted f k (s ∷ ss) = omitted (OfParameter f k) s ++ params_omitted f (suc k) ss

-- the variables of a function's signature
abbrev pub function_vars : ℕ → Function → List Variable
function_vars f g = params_omitted f 0 g.params ++ omitted (OfResult f) g.result

-- the variables of the functions, from a number of function on
abbrev pub functions_vars : ℕ → List Function → List Variable
functions_vars f [] = []
functions_vars f (g ∷ gs) = function_vars f g ++ functions_vars (suc f) gs

-- the variables of all signatures
abbrev pub signature_vars : Program → List Variable
signature_vars p = functions_vars 0 p.functions

-- how many variables a type has: one where its pattern isn't written
abbrev pub omits : Sort → ℕ
omits (MailboxSort i q None) = 1
omits _ = 0

-- the number of the variable of the type at a place, where the first that is omitted has number k
abbrev pub number_at : ℕ → List Sort → ℕ → ℕ
number_at k [] j = k
number_at k (s ∷ ss) zero = k
number_at k (s ∷ ss) (suc j) = number_at (k + omits s) ss j

-- the number of a result's variable, where the first of its function has number k
abbrev pub result_number : ℕ → Function → ℕ
result_number k g = number_at k g.params (length g.params)

-- the number of the first variable of a function, where the first of the first function has number k
abbrev pub function_number : ℕ → List Function → ℕ → ℕ
function_number k [] f = k
function_number k (g ∷ gs) zero = k
function_number k (g ∷ gs) (suc f) = function_number (result_number k g + omits g.result) gs f

-- the number of the first variable of a function's signature
abbrev pub first_number : Program → ℕ → ℕ
first_number p f = function_number 1 p.functions f

-- the type of a parameter at a place, if it is a mailbox
abbrev pub open_param : Program → ℕ → Function → TypeEnv
open_param p f g k = option_and_then (sort_type (Var (number_at (first_number p f) g.params k))) (slice_get g.params k)

-- the type of a function's result
abbrev pub open_result : Program → ℕ → Function → TypeOf
open_result p f g = result_of (Var (result_number (first_number p f) g)) g.result
