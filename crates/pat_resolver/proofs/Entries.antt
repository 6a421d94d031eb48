-- The first function called main, declaration by declaration.
use Rattle.std.proofs.Common.{ℕ, ◌+◌, Option, Some, None}
use Rattle.pat_resolver_spec.specs.Heads.{Definition}

-- what was found behind so many functions
abbrev pub behind : ℕ → Option (ℕ × Definition) → Option (ℕ × Definition)
behind n None = None
behind n (Some f) = Some (n + f.0, f.1)
