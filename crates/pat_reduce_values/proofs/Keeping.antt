-- The values of a node's free variables, with none left out.
use Rattle.std.proofs.Common.{◌≡◌, ℕ, [], ◌∷◌, None, refl, ap}
use Rattle.pat_primitives.specs.Values.{Env}
use Rattle.pat_primitives.specs.Programs.{Program, is_among, option_list, keep}
use Rattle.std.specs.Prelude.{not, filter}
use Rattle.pat_reduce_values.specs.Environments.{keep_but}

all_pass : (env : Env) → filter (λ b. not (is_among b.0 (option_list None))) env ≡ env
all_pass [] = refl
all_pass (e ∷ env) = ap (λ l. e ∷ l) (all_pass env)

pub none_but : (p : Program) (n : ℕ) (env : Env) → keep_but p n None env ≡ keep p n env
none_but p n env = all_pass (keep p n env)
