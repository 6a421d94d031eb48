-- What a call took from a source and gave to a sink, where these tell their bytes.
use Rattle.std.specs.Prelude.{◌≡◌, ◌<◌, ◌≤◌, ◌++◌, ℕ, List, length, take, ⊤, None, Some, IfOk, MatchResult, Result}
use Rattle.std.specs.declared.option.Option.{Option}
use Rattle.std.specs.Io.KnownBytes.{Appends}

-- a write takes at most the piece, and at least one byte of a piece that has one
abbrev pub WritesSome : {E : Type 0} → Result ℕ E → List ℕ → Type 0
WritesSome r piece = IfOk r (λ n. (n ≤ length piece) × (0 < length piece → 0 < n))

-- known bytes grow by a front of the piece, which may be all of it
abbrev pub AppendsFront : Option (List ℕ) → Option (List ℕ) → List ℕ → Type 0
AppendsFront None new piece = ⊤
AppendsFront (Some xs) None piece = ⊥
AppendsFront (Some xs) (Some ys) piece = (n : ℕ) × (n ≤ length piece) × (ys ≡ xs ++ take n piece)

-- a write handed over the bytes that it answers, and at an `Err` some front of the piece
abbrev pub HandsOver : {E : Type 0} → Option (List ℕ) → Option (List ℕ) → Result ℕ E → List ℕ → Type 0
HandsOver old new r piece = MatchResult r (λ n. Appends old new (take n piece)) (λ _. AppendsFront old new piece)
