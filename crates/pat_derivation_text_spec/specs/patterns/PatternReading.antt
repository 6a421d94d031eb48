-- How the text of a pattern is read: part by part from the front. What waits for a part on its right stands on a list, the last on top;
-- so do the parts that are read. A part in brackets is taken just where its text needs them.
use Rattle.pat_texts_spec.specs.Fronts.{behind, agree}
use Rattle.std.specs.Prelude.{ℕ, zero, suc, ◌+◌, Bool, true, false, ◌&&◌, ◌==◌, not, nat_le, nat_lt, max, bytes_eq, if◌then◌else◌, List, [], ◌∷◌, length, Option, Some, None, option_map, option_and_then}
use Rattle.pat_words_spec.specs.Patterns.{Pat, Zero, One, Tag, Sum, Prod, Star, Var}
use Rattle.pat_texts_spec.specs.Numbers.{read_number}
use Rattle.pat_derivation_text_spec.specs.patterns.PatternText.{is_sum, is_sum_or_product, is_mark}
use Rattle.pat_limits.specs.Limits.{most_levels}

-- what waits: a star, an opened bracket, a sum or a product with its left side
pub data Op : Type 0 where
  Stars : Op
  Opens : Op
  Sums : Op
  Prods : Op

-- a part that is read: the pattern, its levels, and whether it stood in brackets
pub record Part : Type 0 where
  pub pattern : Pat
  pub levels : ℕ
  pub bracketed : Bool

-- what is read so far: whether a part is wanted next, what waits, and the parts
pub record Stage : Type 0 where
  pub wants : Bool
  pub ops : List Op
  pub parts : List Part

-- nothing is read
abbrev pub begun : Stage
begun = record { wants = true; ops = []; parts = [] }

-- a part is wanted next, or a part was read last
abbrev pub wanting : List Op → List Part → Stage
wanting ops parts = record { wants = true; ops = ops; parts = parts }

abbrev pub having : List Op → List Part → Stage
having ops parts = record { wants = false; ops = ops; parts = parts }

-- ---- parts made of parts

-- a part without brackets, if it has no more levels than are taken
abbrev pub part_of : Pat → ℕ → Option Part
part_of e n = if nat_le n most_levels then Some (record { pattern = e; levels = n; bracketed = false }) else None

abbrev pub star_part : Part → Option Part
star_part e = if agree e.bracketed (is_sum_or_product e.pattern) then part_of (Star e.pattern) (1 + e.levels) else None

abbrev pub product_part : Part → Part → Option Part
product_part e f =
    if agree e.bracketed (is_sum e.pattern) && agree f.bracketed (is_sum_or_product f.pattern) then part_of (Prod e.pattern f.pattern) (1 + max e.levels f.levels) else None

abbrev pub sum_part : Part → Part → Option Part
sum_part e f =
    if not e.bracketed && agree f.bracketed (is_sum f.pattern) then part_of (Sum e.pattern f.pattern) (1 + max e.levels f.levels) else None

-- ---- what waits is done

-- the part on top under a star
abbrev pub star_top : List Part → Option (List Part)
star_top (e ∷ es) = option_map (λ f. f ∷ es) (star_part e)
star_top _ = None

-- the two parts on top as a product, and as a sum, the lower one first
abbrev pub product_top : List Part → Option (List Part)
product_top (f ∷ e ∷ es) = option_map (λ g. g ∷ es) (product_part e f)
product_top _ = None

abbrev pub sum_top : List Part → Option (List Part)
sum_top (f ∷ e ∷ es) = option_map (λ g. g ∷ es) (sum_part e f)
sum_top _ = None

-- stars and products that waited for the part on top
abbrev pub settled : List Op → List Part → Option Stage
settled (Stars ∷ ops) es = option_and_then (settled ops) (star_top es)
settled (Prods ∷ ops) es = option_and_then (settled ops) (product_top es)
settled ops es = Some (having ops es)

-- a sum that waited for the part on top
abbrev pub summed : List Op → List Part → Option Stage
summed (Sums ∷ ops) es = option_map (having ops) (sum_top es)
summed ops es = Some (having ops es)

-- the part on top stood in brackets: just once
abbrev pub bracket_top : List Part → Option (List Part)
bracket_top (e ∷ es) =
    if e.bracketed then None else Some (record { pattern = e.pattern; levels = e.levels; bracketed = true } ∷ es)
bracket_top _ = None

-- the bracket that was opened last is closed
abbrev pub bracket_closed : List Op → List Part → Option Stage
bracket_closed (Opens ∷ ops) es = option_and_then (settled ops) (bracket_top es)
bracket_closed _ es = None

-- the pattern, where nothing waits
abbrev pub pattern_whole : List Op → List Part → Option Pat
pattern_whole [] (e ∷ []) = if e.bracketed then None else Some e.pattern
pattern_whole _ _ = None

-- ---- one step

-- one more waits, if they aren't too many: each takes a level or brackets round one
abbrev pub with_op : Op → Stage → Option Stage
with_op op s = if nat_lt (length s.ops) 32768 then Some (wanting (op ∷ s.ops) s.parts) else None

-- the place of a name in a list
abbrev pub place_of : List ℕ → List (List ℕ) → Option ℕ
place_of x [] = None
place_of x (name ∷ names) = if bytes_eq name x then Some zero else option_map suc (place_of x names)

-- the pattern of a tag, if its number is one that patterns may have
abbrev pub tag_pattern : ℕ → Option Pat
tag_pattern t = if nat_lt t 256 then Some (Tag t) else None

-- a pattern of one word
abbrev pub word_pattern : List (List ℕ) → List ℕ → Option Pat
word_pattern names [] = None
word_pattern names (b ∷ bs) =
    if b == 36 then option_map Var (read_number bs)
    else if bytes_eq (b ∷ bs) (48 ∷ []) then Some Zero
    else if bytes_eq (b ∷ bs) (49 ∷ []) then Some One
    else option_and_then tag_pattern (place_of (b ∷ bs) names)

-- the bytes up to the first mark, and the rest
abbrev pub word_front : List ℕ → List ℕ
word_front [] = []
word_front (b ∷ bs) = if is_mark b then [] else b ∷ word_front bs

abbrev pub word_rest : List ℕ → List ℕ
word_rest [] = []
word_rest (b ∷ bs) = if is_mark b then b ∷ bs else word_rest bs

-- what is left of the bytes beside the stage
abbrev pub beside : List ℕ → Option Stage → Option (Stage × List ℕ)
beside bs o = option_map (λ s. (s, bs)) o

-- a word is read
abbrev pub with_word : List (List ℕ) → Stage → List ℕ → Option Stage
with_word names s word =
    option_and_then (λ e. settled s.ops (record { pattern = e; levels = 1; bracketed = false } ∷ s.parts)) (word_pattern names word)

-- the sum with what was read before is made, and the next part of it is wanted
abbrev pub with_sum : Stage → Option Stage
with_sum s = option_and_then (λ t. with_op Sums t) (summed s.ops s.parts)

-- a bracket is closed
abbrev pub with_bracket : Stage → Option Stage
with_bracket s = option_and_then (λ t. bracket_closed t.ops t.parts) (summed s.ops s.parts)

-- where a part is wanted
abbrev pub want : List (List ℕ) → Stage → List ℕ → Option (Stage × List ℕ)
want names s [] = None
want names s (b ∷ bs) =
    if b == 40 then beside bs (with_op Opens s)
    else if b == 42 then beside bs (with_op Stars s)
    else beside (word_rest (b ∷ bs)) (with_word names s (word_front (b ∷ bs)))

-- where a part was read
abbrev pub have : Stage → List ℕ → Option (Stage × List ℕ)
have s [] = None
have s (b ∷ bs) =
    if b == 46 then beside bs (with_op Prods s)
    else if b == 41 then beside bs (with_bracket s)
    else option_and_then (λ rest. beside rest (with_sum s)) (behind (32 ∷ 43 ∷ 32 ∷ []) (b ∷ bs))

abbrev pub step : List (List ℕ) → Stage → List ℕ → Option (Stage × List ℕ)
step names s bytes = if s.wants then want names s bytes else have s bytes

-- at the end of the bytes
abbrev pub at_end : Stage → Option Pat
at_end s = if s.wants then None else option_and_then (λ t. pattern_whole t.ops t.parts) (summed s.ops s.parts)

-- all that the bytes spell, in so many steps
abbrev pub run : ℕ → List (List ℕ) → Stage → List ℕ → Option Pat
run k names s [] = at_end s
run zero names s (b ∷ bs) = None
run (suc k) names s (b ∷ bs) = option_and_then (λ n. run k names n.0 n.1) (step names s (b ∷ bs))

-- the pattern that the bytes spell by these names of tags, if they spell one; a step takes a byte
abbrev pub read_pattern : List (List ℕ) → List ℕ → Option Pat
read_pattern names bytes = run (length bytes) names begun bytes
