-- Which threads are out, and with how many steps.
use Rattle.std.specs.Prelude.{◌≡◌, ℕ, zero, suc, ◌+◌, List, [], ◌∷◌, ◌++◌, Option, Some, None, slice_get, slice_set, is_some, Bool}
use Rattle.pat_semantics_spec.specs.Steps.{Act, ActSpawn}

-- the allowances of the threads that are out, by thread number
abbrev pub Out : Type 0
Out = List (Option ℕ)

abbrev pub flat : Option (Option ℕ) → Option ℕ
flat None = None
flat (Some o) = o

-- the allowance of the thread, if it is out
abbrev pub allowance_of : Out → ℕ → Option ℕ
allowance_of out t = flat (slice_get out t)

-- whether the thread is out
abbrev pub is_out : Out → ℕ → Bool
is_out out t = is_some (allowance_of out t)

abbrev pub steps_of : Option ℕ → ℕ
steps_of None = 0
steps_of (Some n) = n

-- all allowances together
abbrev pub allowances : Out → ℕ
allowances [] = 0
allowances (o ∷ out) = steps_of o + allowances out

-- so many threads, none of which is out
abbrev pub all_in : ℕ → Out
all_in zero = []
all_in (suc n) = None ∷ all_in n

-- a thread that was spawned isn't out
abbrev pub newcomer : Option Act → Out
newcomer (Some ActSpawn) = None ∷ []
newcomer _ = []

-- after a commit of the thread with this shared act
abbrev pub committed_out : Out → ℕ → Option Act → Out
committed_out out t a = slice_set out t None ++ newcomer a

-- no thread is out
abbrev pub NoneOut : Out → Type 0
NoneOut out = (t : ℕ) → allowance_of out t ≡ None

-- a thread is out
abbrev pub SomeOut : Out → Type 0
SomeOut out = (t n : ℕ) × (allowance_of out t ≡ Some n)
