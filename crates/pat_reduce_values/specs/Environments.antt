-- The environments of a frame and of a call, and where a variable stands in an environment.
use Rattle.std.specs.Prelude.{◌≡◌, ℕ, suc, ◌≤◌, Bool, true, false, ◌&&◌, not, nat_eq, nat_le, nat_lt, if◌then◌else◌, List, [], ◌∷◌, ◌++◌, length, take, drop, Option, Some, None, slice_get, filter}
use Rattle.pat_primitives.specs.Values.{Value, Env, bind}
use Rattle.pat_primitives.specs.Programs.{Program, is_among, option_list, keep}
use Rattle.pat_reduce_values.specs.declared.values.Value.{Value as CodeValue}
use Rattle.pat_reduce_values.specs.ValueViews.{env_view}
use Rattle.pat_limits.specs.Limits.{number_count}

-- the variables ascend, from n on
abbrev pub ascends_from : ℕ → Env → Bool
ascends_from n [] = true
ascends_from n (e ∷ env) = nat_le n e.0 && ascends_from (suc e.0) env

-- the variables are less than n
abbrev pub all_less : ℕ → Env → Bool
all_less n [] = true
all_less n (e ∷ env) = nat_lt e.0 n && all_less n env

-- the values of just the node's free variables but the one that a let binds
abbrev pub keep_but : Program → ℕ → Option ℕ → Env → Env
keep_but p n y env = filter (λ b. not (is_among b.0 (option_list y))) (keep p n env)

-- the value under its number, where that is one of 32 bits
abbrev pub parameter : ℕ → Value → Env
parameter k v = if nat_lt k number_count then (k, v) ∷ [] else []

-- the values under the 32-bit numbers from k on
abbrev pub parameters_from : ℕ → List Value → Env
parameters_from k [] = []
parameters_from k (v ∷ vs) = parameter k v ++ parameters_from (suc k) vs

-- the variables before the place are less than this one, and the one at the place, if there is one, is not
pub record IsPlaceFor (env : List (ℕ × CodeValue)) (x i : ℕ) : Type 0 where
  pub within : i ≤ length env
  pub before : (v : Value) → bind (env_view env) x v ≡ env_view (take i env) ++ bind (env_view (drop i env)) x v
  pub here : (e : ℕ × CodeValue) → slice_get env i ≡ Some e → x ≤ e.0

-- whether it is this variable's entry
abbrev pub stands_at : ℕ → Option (ℕ × CodeValue) → Bool
stands_at x None = false
stands_at x (Some e) = nat_eq e.0 x
