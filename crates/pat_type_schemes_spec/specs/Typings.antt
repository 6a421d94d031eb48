-- Typings in whose patterns variables may stand, and those with the variables replaced.
use Rattle.std.specs.Prelude.{ℕ, Option, Some, None}
use Rattle.pat_inclusion_spec.specs.Patterns.{Pat, Zero, Var}
use Rattle.pat_type_system_spec.specs.Programs.{Function, Program, function_at}
use Rattle.pat_type_system_spec.specs.Typings.{Typing}
use Rattle.pat_inclusion_spec.specs.Values.{replaced}
use Rattle.pat_type_schemes_spec.specs.NodeTypes.{NodeType, result_open, env_open, need_under, result_under}
use Rattle.pat_type_schemes_spec.specs.Signatures.{number_at, result_number, first_number}

-- the variable of a parameter's pattern
abbrev pub param_pattern_open : Program → ℕ → ℕ → Option Function → Pat
param_pattern_open p f k None = Zero
param_pattern_open p f k (Some g) = Var (number_at (first_number p f) g.params k)

-- the variable of a result's pattern
abbrev pub result_pattern_open : Program → ℕ → Option Function → Pat
result_pattern_open p f None = Zero
result_pattern_open p f (Some g) = Var (result_number (first_number p f) g)

-- the typing that has these types of nodes, with variables for the patterns of signatures that aren't written
abbrev pub typing_with : Program → (ℕ → Option NodeType) → Typing
typing_with p nodes = record {
  results = λ n. result_open (nodes n);
  envs = λ n. env_open (nodes n);
  param_patterns = λ f k. param_pattern_open p f k (function_at p f);
  result_patterns = λ f. result_pattern_open p f (function_at p f);
}

-- ---- variables of patterns replaced as they stand

-- the typing with each variable replaced in all its patterns
abbrev pub typing_under : (ℕ → Pat) → Typing → Typing
typing_under s y = record {
  results = λ n. result_under s (y.results n);
  envs = λ n x. need_under s (y.envs n x);
  param_patterns = λ f k. replaced s (y.param_patterns f k);
  result_patterns = λ f. replaced s (y.result_patterns f);
}
