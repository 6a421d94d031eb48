-- The text of a pattern over the tags of an interface.
use Rattle.std.specs.Prelude.{ℕ, Bool, true, false, ◌&&◌, ◌||◌, ◌==◌, not, nat_lt, List, [], ◌∷◌, ◌++◌, length, slice_index_or}
use Rattle.std.specs.List.{list_all}
use Rattle.std.specs.Fmt.{decimal}
use Rattle.pat_words_spec.specs.Patterns.{Pat, Zero, One, Tag, Sum, Prod, Star, Var}
use Rattle.pat_words_spec.specs.Tags.{tags_below}
use Rattle.pat_derivation_spec.specs.Spelled.{has_numbers, is_shallow}

-- what stands before a part that needs brackets, and what behind it
abbrev pub opening : Bool → List ℕ
opening true = 40 ∷ []
opening false = []

abbrev pub closing : Bool → List ℕ
closing true = 41 ∷ []
closing false = []

-- in brackets where they are needed
abbrev pub enclosed : Bool → List ℕ → List ℕ
enclosed c text = opening c ++ (text ++ closing c)

-- whether a pattern needs brackets where a product is wanted, and where a factor is
abbrev pub is_sum : Pat → Bool
is_sum (Sum p q) = true
is_sum _ = false

abbrev pub is_sum_or_product : Pat → Bool
is_sum_or_product (Sum p q) = true
is_sum_or_product (Prod p q) = true
is_sum_or_product _ = false

-- the text of a pattern by these names; a variable is its number behind a dollar sign
abbrev pub pat_text : List (List ℕ) → Pat → List ℕ
pat_text names Zero = 48 ∷ []
pat_text names One = 49 ∷ []
pat_text names (Tag t) = slice_index_or names t []
pat_text names (Var k) = 36 ∷ decimal k
pat_text names (Sum p q) = pat_text names p ++ 32 ∷ 43 ∷ 32 ∷ enclosed (is_sum q) (pat_text names q)
pat_text names (Prod p q) = enclosed (is_sum p) (pat_text names p) ++ 46 ∷ enclosed (is_sum_or_product q) (pat_text names q)
pat_text names (Star p) = 42 ∷ enclosed (is_sum_or_product p) (pat_text names p)

-- ---- what is read again

-- a pattern over n tags that a reader takes
abbrev pub is_readable : ℕ → Pat → Bool
is_readable n e = tags_below n e && (has_numbers e && is_shallow e)

-- a byte that ends a name in a pattern: a bracket, a star, a point or a space
abbrev pub is_mark : ℕ → Bool
is_mark b = b == 40 || (b == 41 || (b == 42 || (b == 46 || b == 32)))

-- a name that can stand in a pattern and is seen to be one: it has no mark, and begins as no number and no variable does
abbrev pub is_plain_name : List ℕ → Bool
is_plain_name [] = false
is_plain_name (b ∷ bs) =
    not (b == 48 || (b == 49 || b == 36)) && list_all (λ c. not (is_mark c)) (b ∷ bs)
