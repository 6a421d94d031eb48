-- A pattern of an interface asks for the tags of this interface alone.
use Rattle.std.proofs.Common.{◌≡◌, ℕ, ◌&&◌, refl, ap₂}
use Rattle.pat_words_spec.specs.Patterns.{Pat, Zero, One, Tag, Sum, Prod, Star, Var}
use Rattle.pat_inclusion_spec.specs.Values.{Scope, is_formed}
use Rattle.pat_certificate_values.specs.Symbols.{scope_with}

pub formed_with : (s : Scope) (i : ℕ) (e : Pat) → is_formed (scope_with (s.tags i) s.vars) i e ≡ is_formed s i e
formed_with s i Zero = refl
formed_with s i One = refl
formed_with s i (Tag m) = refl
formed_with s i (Sum e f) = ap₂ (λ a b. a && b) (formed_with s i e) (formed_with s i f)
formed_with s i (Prod e f) = ap₂ (λ a b. a && b) (formed_with s i e) (formed_with s i f)
formed_with s i (Star e) = formed_with s i e
formed_with s i (Var k) = refl
