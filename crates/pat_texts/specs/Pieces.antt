-- Parts of a text as the definitions see them.
use Rattle.std.specs.Prelude.{ℕ, suc, List, [], length, Option, Some, None, option_map}
use Rattle.std.specs.Borrow.{Bor}
use Rattle.pat_texts_spec.specs.Joined.{pieces}

-- the bytes behind a reference, if there is one
abbrev pub seen : Option (Bor (List ℕ)) → Option (List ℕ)
seen o = option_map (λ b. b.now) o

abbrev pub pair_seen : Option (Bor (List ℕ) × Bor (List ℕ)) → Option (List ℕ × List ℕ)
pair_seen o = option_map (λ r. (r.0.now, r.1.now)) o

-- the pieces that are left, if any are
abbrev pub pieces_left : ℕ → Option (Bor (List ℕ)) → List (List ℕ)
pieces_left c None = []
pieces_left c (Some b) = pieces c b.now

-- how much is left
abbrev pub left : Option (Bor (List ℕ)) → ℕ
left None = 0
left (Some b) = suc (length b.now)
