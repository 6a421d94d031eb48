-- Which bytes end what is unfinished.
use Rattle.std.specs.Prelude.{◌≡◌, ℕ, Bool, true, false, not, ◌&&◌, ◌==◌, nat_lt, List, [], ◌∷◌}
use Rattle.pat_lexer_spec.specs.Characters.{is_digit}
use Rattle.pat_lexer.specs.fronts.Bytes.{is_name_byte}
use Rattle.pat_lexer.specs.declared.unfinished.Unfinished.{Unfinished}
use Rattle.pat_lexer.specs.declared.unfinished.Unfinished.TheVariants.{Name, Integer, Equals, Minus, Comment}

-- the byte is no part of what is unfinished, and ends it
abbrev pub ends : Unfinished → ℕ → Bool
ends Name b = nat_lt b 128 && not (is_name_byte b)
ends Integer b = not (is_digit b)
ends Equals b = not (b == 61)
ends Minus b = not (b == 62)
ends Comment b = b == 10
ends _ b = false

-- what follows ends what is unfinished: its first byte does, or the text ends
abbrev pub EndsAt : Unfinished → List ℕ → Type 0
EndsAt u [] = Unit {0}
EndsAt u (b ∷ rest) = ends u b ≡ true
