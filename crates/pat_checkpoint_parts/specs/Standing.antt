-- What a check of parts asks of the program.
use Rattle.std.specs.Prelude.{◌≡◌, ℕ, ◌<◌, true, is_some}
use Rattle.pat_semantics_spec.specs.Programs.{Program, core_at, is_free}
use Rattle.pat_semantics_spec.specs.Configs.{Frame}
use Rattle.pat_derivation_spec.specs.Scopes.{function_of}
use Rattle.pat_checkpoint_spec.specs.Kinds.{var_count, is_frame_of_let, let_with, has_name_of}

-- a free variable is one of its function's, each node has a function, and a frame is that of a let by the first let with its body
pub record StandsWell (p : Program) : Type 0 where
  pub below : (x n : ℕ) → is_free p x n ≡ true → x < var_count p n
  pub functions : (n : ℕ) → is_some (core_at p n) ≡ is_some (function_of p n)
  pub lets : (f : Frame) → is_some (core_at p f.body) ≡ true → is_frame_of_let p f ≡ has_name_of f (let_with p.nodes f.body)
