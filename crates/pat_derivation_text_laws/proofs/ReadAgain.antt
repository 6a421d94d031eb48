-- The text of a pattern is read as this pattern.
use Rattle.std.proofs.Common.{◌≡◌, ℕ, zero, suc, ◌+◌, ◌*◌, ◌<◌, ◌≤◌, ◌==◌, Bool, true, false, List, [], ◌∷◌, ◌++◌, length, drop, take, get_or, refl, sym, ap, ◌∙◌, subst, arith, append_assoc, append-nil, if◌then◌else◌, ◌||◌}
use Rattle.std.specs.Prelude.{Option, Some, None, option_map, option_and_then, bytes_eq, slice_index_or, nat_le, nat_lt, max, not, ◌&&◌}
use Rattle.std.specs.List.{list_all}
use Rattle.std.specs.Fmt.{decimal}
use Rattle.std.specs.Str.Parse.{AllDigits}
use Rattle.std.proofs.lemmas.Bool.{and_parts, and_from, lt-ltb, leb-true, le-leb, ltb-true, eqb-true, eq-eqb, ne_eqb}
use Rattle.std.proofs.lemmas.Str.Parse.{digit_from_value}
use Rattle.std.proofs.lemmas.Fmt.{decimal_is_IsNumeral}
use Rattle.std.proofs.lemmas.Slice.Eq.{bytes_eq-Decides}
use Rattle.pat_words_spec.specs.Patterns.{Pat, Zero, One, Tag, Sum, Prod, Star, Var}
use Rattle.pat_words_spec.specs.Sizes.{levels_of}
use Rattle.pat_words_spec.specs.Tags.{tags_below}
use Rattle.pat_texts_spec.specs.Numbers.{is_number, read_number}
use Rattle.pat_derivation_spec.specs.Spelled.{has_numbers, is_shallow}
use Rattle.pat_derivation_text_spec.specs.patterns.PatternText.{enclosed, is_sum, is_sum_or_product, pat_text, is_readable, is_mark, is_plain_name}
use Rattle.pat_derivation_text_spec.specs.patterns.PatternReading.{Op, Stars, Opens, Sums, Prods, Part, Stage, wanting, having, begun, part_of, star_part, product_part, sum_part, star_top, product_top, sum_top, settled, summed, bracket_top, bracket_closed, pattern_whole, with_op, place_of, tag_pattern, word_pattern, word_front, word_rest, beside, with_word, with_sum, with_bracket, want, have, step, at_end, run, read_pattern}
use Rattle.pat_texts_spec.specs.Fronts.{agree, behind}
use Rattle.pat_derivation_text_laws.specs.patterns.Laws.{AreNames}
use Rattle.pat_texts_spec.proofs.Choices.{passed, skipped, negated, same_agree}
use Rattle.pat_texts_spec.proofs.Decimals.{number_read}
use Rattle.pat_derivation_text_laws.proofs.Running.{run_step, run_stuck}
use Rattle.pat_limits.specs.Limits.{most_levels, most_number}

plain_text : (x : List ℕ) → enclosed false x ≡ x
plain_text x = append-nil x

or_left : (a b : Bool) → (a || b) ≡ false → a ≡ false
or_left true b e = cc
or_left false b e = refl

or_right : (a b : Bool) → (a || b) ≡ false → b ≡ false
or_right true b e = cc
or_right false b e = e

max_left : (a b : ℕ) → a ≤ max a b
max_left a b = omega arith

max_right : (a b : ℕ) → b ≤ max a b
max_right a b = omega arith

-- the bytes begin with a mark, or there are none
abbrev stops : List ℕ → Bool
stops [] = true
stops (b ∷ bs) = is_mark b

-- the bytes don't begin with a point
abbrev NoPoint : List ℕ → Type 0
NoPoint [] = Unit {0}
NoPoint (b ∷ bs) = (b == 46) ≡ false

-- bytes without a mark
abbrev unmarked : List ℕ → Bool
unmarked w = list_all (λ c. not (is_mark c)) w

front_is : (w r : List ℕ) → unmarked w ≡ true → stops r ≡ true → (word_front (w ++ r) ≡ w) × (word_rest (w ++ r) ≡ r)
front_is [] [] u s = (refl, refl)
front_is [] (b ∷ bs) u s = (passed (is_mark b) [] (b ∷ word_front bs) s, passed (is_mark b) (b ∷ bs) (word_rest bs) s)
front_is (c ∷ w) r u s =
    let k = and_parts (not (is_mark c)) (unmarked w) u in
    let f = negated (is_mark c) k.0 in
    let d = front_is w r k.1 s in
    (skipped (is_mark c) [] (c ∷ word_front (w ++ r)) f ∙ ap (λ l. c ∷ l) d.0, skipped (is_mark c) (c ∷ (w ++ r)) (word_rest (w ++ r)) f ∙ d.1)

-- ---- steps

-- all that the bytes spell, from a stage on
abbrev full : List (List ℕ) → Stage → List ℕ → Option Pat
full names s bytes = run (length bytes) names s bytes

abbrev next : List (List ℕ) → Option (Stage × List ℕ) → Option Pat
next names o = option_and_then (λ n. full names n.0 n.1) o

-- from a stage on, if there is one
abbrev after : List (List ℕ) → List ℕ → Option Stage → Option Pat
after names r o = option_and_then (λ s. full names s r) o

next_beside : (names : List (List ℕ)) (r : List ℕ) (o : Option Stage) → next names (beside r o) ≡ after names r o
next_beside names r None = refl
next_beside names r (Some s) = refl

one_step : (names : List (List ℕ)) (s : Stage) (b : ℕ) (bs : List ℕ) (o : Option (Stage × List ℕ)) → step names s (b ∷ bs) ≡ o → full names s (b ∷ bs) ≡ next names o
one_step names s b bs None e = run_stuck names s b bs e
one_step names s b bs (Some n) e = run_step names s (b ∷ bs) n e

op_taken : (op : Op) (s : Stage) → length s.ops < 32768 → with_op op s ≡ Some (wanting (op ∷ s.ops) s.parts)
op_taken op s l = passed (nat_lt (length s.ops) 32768) (Some (wanting (op ∷ s.ops) s.parts)) None (lt-ltb (length s.ops) 32768 l)

-- ---- what a pattern's text is read as

-- the part that is read
abbrev part_at : Pat → Bool → Part
part_at p c = record { pattern = p; levels = levels_of p; bracketed = c }

-- nothing waits that a part on its right would end at once, and no sum
abbrev Calm : List Op → Type 0
Calm ops = (es : List Part) → settled ops es ≡ Some (having ops es)

abbrev Still : List Op → Type 0
Still ops = (es : List Part) → summed ops es ≡ Some (having ops es)

abbrev extra : Bool → ℕ
extra true = 1
extra false = 0

-- there is room for what waits within the pattern
abbrev Room : List Op → Pat → Bool → Type 0
Room ops p c = length ops + 2 * levels_of p + extra c ≤ 32768

made_part : (p : Pat) (n : ℕ) → n ≡ levels_of p → is_shallow p ≡ true → part_of p n ≡ Some (part_at p false)
made_part p n l s = ap (part_of p) l ∙ passed (nat_le (levels_of p) most_levels) (Some (part_at p false)) None s

module _ (names : List (List ℕ)) where
  -- where a factor is wanted
  abbrev AsFactor : Pat → Type 0
  AsFactor p = (ops : List Op) (es : List Part) (r : List ℕ) → Room ops p (is_sum_or_product p) → stops r ≡ true → full names (wanting ops es) (enclosed (is_sum_or_product p) (pat_text names p) ++ r) ≡ after names r (settled ops (part_at p (is_sum_or_product p) ∷ es))

  -- where a product is wanted
  abbrev AsProduct : Pat → Type 0
  AsProduct p = (ops : List Op) (es : List Part) (r : List ℕ) → Calm ops → Room ops p (is_sum p) → stops r ≡ true → full names (wanting ops es) (enclosed (is_sum p) (pat_text names p) ++ r) ≡ full names (having ops (part_at p (is_sum p) ∷ es)) r

  -- where a sum is wanted
  abbrev AsSum : Pat → Type 0
  AsSum p = (ops : List Op) (es : List Part) (r : List ℕ) → Calm ops → Still ops → Room ops p false → stops r ≡ true → NoPoint r → full names (wanting ops es) (pat_text names p ++ r) ≡ full names (having ops (part_at p false ∷ es)) r

  word_read : (w : List ℕ) (p : Pat) → unmarked w ≡ true → word_pattern names w ≡ Some p → levels_of p ≡ 1 → (ops : List Op) (es : List Part) (r : List ℕ) → stops r ≡ true → full names (wanting ops es) (enclosed false w ++ r) ≡ after names r (settled ops (part_at p false ∷ es))
  word_read [] p u e l ops es r s = absurd cc
  word_read (c ∷ w) p u e l ops es r s =
      let d = front_is (c ∷ w) r u s in
      let k = negated (is_mark c) (and_parts (not (is_mark c)) (unmarked w) u).0 in
      let none : (c == 40) ≡ false = or_left (c == 40) (c == 41 || (c == 42 || (c == 46 || c == 32))) k in
      let nostar : (c == 42) ≡ false = or_left (c == 42) (c == 46 || c == 32) (or_right (c == 41) (c == 42 || (c == 46 || c == 32)) (or_right (c == 40) (c == 41 || (c == 42 || (c == 46 || c == 32))) k)) in
      let bs = w ++ r in
      let words : Option (Stage × List ℕ) = beside (word_rest (c ∷ bs)) (with_word names (wanting ops es) (word_front (c ∷ bs))) in
      ap (λ t. full names (wanting ops es) (t ++ r)) (plain_text (c ∷ w))
      ∙ one_step names (wanting ops es) c bs (beside r (with_word names (wanting ops es) (c ∷ w)))
      (skipped (c == 40) (beside bs (with_op Opens (wanting ops es))) (if c == 42 then beside bs (with_op Stars (wanting ops es)) else words) none
      ∙ skipped (c == 42) (beside bs (with_op Stars (wanting ops es))) words nostar
      ∙ ap (λ t. beside t (with_word names (wanting ops es) (word_front (c ∷ bs)))) d.1 ∙ ap (λ t. beside r (with_word names (wanting ops es) t)) d.0)
      ∙ next_beside names r (with_word names (wanting ops es) (c ∷ w))
      ∙ ap (λ o. after names r (option_and_then (λ q. settled ops (record { pattern = q; levels = 1; bracketed = false } ∷ es)) o)) e
      ∙ ap (λ n. after names r (settled ops (record { pattern = p; levels = n; bracketed = false } ∷ es))) (sym l)

  factor_of_star : (q : Pat) → is_shallow (Star q) ≡ true → AsFactor q → AsFactor (Star q)
  factor_of_star q sh f ops es r room s =
      let X = enclosed (is_sum_or_product q) (pat_text names q) in
      let small : extra (is_sum_or_product q) ≤ 1 = at_most (is_sum_or_product q) in
      ap (λ t. full names (wanting ops es) (t ++ r)) (plain_text (42 ∷ X))
      ∙ one_step names (wanting ops es) 42 (X ++ r) (beside (X ++ r) (with_op Stars (wanting ops es))) refl
      ∙ next_beside names (X ++ r) (with_op Stars (wanting ops es))
      ∙ ap (after names (X ++ r)) (op_taken Stars (wanting ops es) (omega (arith, room)))
      ∙ f (Stars ∷ ops) es r (omega (arith, room, small)) s
      ∙ ap (λ o. after names r (option_and_then (settled ops) (option_map (λ g. g ∷ es) o)))
      (passed (agree (is_sum_or_product q) (is_sum_or_product q)) (part_of (Star q) (1 + levels_of q)) None (same_agree (is_sum_or_product q)) ∙ made_part (Star q) (1 + levels_of q) refl sh)
    where
      at_most : (c : Bool) → extra c ≤ 1
      at_most true = omega arith
      at_most false = omega arith

  -- in brackets
  bracketed_read : (p : Pat) → AsSum p → (ops : List Op) (es : List Part) (r : List ℕ) → Room ops p true → full names (wanting ops es) (enclosed true (pat_text names p) ++ r) ≡ after names r (settled ops (part_at p true ∷ es))
  bracketed_read p f ops es r room =
      let P = pat_text names p in
      ap (λ t. full names (wanting ops es) (40 ∷ t)) (append_assoc P (41 ∷ []) r)
      ∙ one_step names (wanting ops es) 40 (P ++ 41 ∷ r) (beside (P ++ 41 ∷ r) (with_op Opens (wanting ops es))) refl
      ∙ next_beside names (P ++ 41 ∷ r) (with_op Opens (wanting ops es))
      ∙ ap (after names (P ++ 41 ∷ r)) (op_taken Opens (wanting ops es) (omega (arith, room)))
      ∙ f (Opens ∷ ops) es (41 ∷ r) (λ _. refl) (λ _. refl) (omega (arith, room)) refl refl
      ∙ one_step names (having (Opens ∷ ops) (part_at p false ∷ es)) 41 r (beside r (settled ops (part_at p true ∷ es))) refl
      ∙ next_beside names r (settled ops (part_at p true ∷ es))

  product_of_factor : (p : Pat) → is_sum_or_product p ≡ is_sum p → AsFactor p → AsProduct p
  product_of_factor p same f ops es r calm room s =
      ap (λ c. full names (wanting ops es) (enclosed c (pat_text names p) ++ r)) (sym same)
      ∙ f ops es r (subst (λ c. Room ops p c) (sym same) room) s
      ∙ ap (λ c. after names r (settled ops (part_at p c ∷ es))) same
      ∙ ap (after names r) (calm (part_at p (is_sum p) ∷ es))

  sum_of_product : (p : Pat) → is_sum p ≡ false → AsProduct p → AsSum p
  sum_of_product p none f ops es r calm still room s point =
      ap (λ t. full names (wanting ops es) (t ++ r)) (sym (plain_text (pat_text names p)) ∙ ap (λ c. enclosed c (pat_text names p)) (sym none))
      ∙ f ops es r calm (subst (λ c. Room ops p c) (sym none) room) s
      ∙ ap (λ c. full names (having ops (part_at p c ∷ es)) r) none

  at_most_one : (c : Bool) → extra c ≤ 1
  at_most_one true = omega arith
  at_most_one false = omega arith

  product_of_two : (a b : Pat) → is_shallow (Prod a b) ≡ true → AsProduct a → AsFactor b → AsProduct (Prod a b)
  product_of_two a b sh f g ops es r calm room s =
      let A = enclosed (is_sum a) (pat_text names a) in
      let B = enclosed (is_sum_or_product b) (pat_text names b) in
      let e = part_at a (is_sum a) in
      let h = part_at b (is_sum_or_product b) in
      let la = max_left (levels_of a) (levels_of b) in
      let lb = max_right (levels_of a) (levels_of b) in
      ap (λ t. full names (wanting ops es) (t ++ r)) (plain_text (A ++ 46 ∷ B))
      ∙ ap (full names (wanting ops es)) (append_assoc A (46 ∷ B) r)
      ∙ f ops es (46 ∷ (B ++ r)) calm (omega (arith, room, la, at_most_one (is_sum a))) refl
      ∙ one_step names (having ops (e ∷ es)) 46 (B ++ r) (beside (B ++ r) (with_op Prods (having ops (e ∷ es)))) refl
      ∙ next_beside names (B ++ r) (with_op Prods (having ops (e ∷ es)))
      ∙ ap (after names (B ++ r)) (op_taken Prods (having ops (e ∷ es)) (omega (arith, room)))
      ∙ g (Prods ∷ ops) (e ∷ es) r (omega (arith, room, lb, at_most_one (is_sum_or_product b))) s
      ∙ ap (λ o. after names r (option_and_then (settled ops) (option_map (λ k. k ∷ es) o)))
      (passed (agree (is_sum a) (is_sum a) && agree (is_sum_or_product b) (is_sum_or_product b)) (part_of (Prod a b) (1 + max (levels_of a) (levels_of b))) None
      (and_from (agree (is_sum a) (is_sum a)) (agree (is_sum_or_product b) (is_sum_or_product b)) (same_agree (is_sum a)) (same_agree (is_sum_or_product b)))
      ∙ made_part (Prod a b) (1 + max (levels_of a) (levels_of b)) refl sh)
      ∙ ap (after names r) (calm (part_at (Prod a b) false ∷ es))

  -- a sum that waits is done where no point follows
  sum_done : (ops : List Op) (e f g : Part) (es : List Part) (r : List ℕ) → sum_part e f ≡ Some g → Still ops → NoPoint r → full names (having (Sums ∷ ops) (f ∷ e ∷ es)) r ≡ full names (having ops (g ∷ es)) r
  sum_done ops e f g es r made still point =
      let same : summed (Sums ∷ ops) (f ∷ e ∷ es) ≡ summed ops (g ∷ es) = ap (λ o. option_map (having ops) (option_map (λ k. k ∷ es) o)) made ∙ sym (still (g ∷ es)) in
      by r point same
    where
      by : (r : List ℕ) → NoPoint r → summed (Sums ∷ ops) (f ∷ e ∷ es) ≡ summed ops (g ∷ es) → full names (having (Sums ∷ ops) (f ∷ e ∷ es)) r ≡ full names (having ops (g ∷ es)) r
      by [] point same = ap (λ o. option_and_then (λ t. pattern_whole t.ops t.parts) o) same
      by (b ∷ bs) point same =
          let rest : Option Stage → Option (Stage × List ℕ) = λ o. if b == 41 then beside bs (option_and_then (λ t. bracket_closed t.ops t.parts) o) else option_and_then (λ u. beside u (option_and_then (λ t. with_op Sums t) o)) (behind (32 ∷ 43 ∷ 32 ∷ []) (b ∷ bs)) in
          one_step names (having (Sums ∷ ops) (f ∷ e ∷ es)) b bs (rest (summed (Sums ∷ ops) (f ∷ e ∷ es))) (skipped (b == 46) (beside bs (with_op Prods (having (Sums ∷ ops) (f ∷ e ∷ es)))) (rest (summed (Sums ∷ ops) (f ∷ e ∷ es))) point)
          ∙ ap (λ o. next names (rest o)) same
          ∙ sym (one_step names (having ops (g ∷ es)) b bs (rest (summed ops (g ∷ es))) (skipped (b == 46) (beside bs (with_op Prods (having ops (g ∷ es)))) (rest (summed ops (g ∷ es))) point))

  sum_of_two : (a b : Pat) → is_shallow (Sum a b) ≡ true → AsSum a → AsProduct b → AsSum (Sum a b)
  sum_of_two a b sh f g ops es r calm still room s point =
      let A = pat_text names a in
      let B = enclosed (is_sum b) (pat_text names b) in
      let e = part_at a false in
      let la = max_left (levels_of a) (levels_of b) in
      let lb = max_right (levels_of a) (levels_of b) in
      ap (full names (wanting ops es)) (append_assoc A (32 ∷ 43 ∷ 32 ∷ B) r)
      ∙ f ops es (32 ∷ 43 ∷ 32 ∷ (B ++ r)) calm still (omega (arith, room, la)) refl refl
      ∙ one_step names (having ops (e ∷ es)) 32 (43 ∷ 32 ∷ (B ++ r)) (beside (B ++ r) (with_sum (having ops (e ∷ es)))) refl
      ∙ next_beside names (B ++ r) (with_sum (having ops (e ∷ es)))
      ∙ ap (λ o. after names (B ++ r) (option_and_then (λ t. with_op Sums t) o)) (still (e ∷ es))
      ∙ ap (after names (B ++ r)) (op_taken Sums (having ops (e ∷ es)) (omega (arith, room)))
      ∙ g (Sums ∷ ops) (e ∷ es) r (λ _. refl) (omega (arith, room, lb, at_most_one (is_sum b))) s
      ∙ sum_done ops e (part_at b (is_sum b)) (part_at (Sum a b) false) es r
      (passed (not false && agree (is_sum b) (is_sum b)) (part_of (Sum a b) (1 + max (levels_of a) (levels_of b))) None (same_agree (is_sum b)) ∙ made_part (Sum a b) (1 + max (levels_of a) (levels_of b)) refl sh)
      still point

  -- ---- all patterns

  record Reads (p : Pat) : Type 0 where
    factor : AsFactor p
    product : AsProduct p
    total : AsSum p

  -- one that needs no brackets
  reads_plain : (p : Pat) → is_sum_or_product p ≡ false → is_sum p ≡ false → AsFactor p → Reads p
  reads_plain p n m f = let g = product_of_factor p (n ∙ sym m) f in record { factor = f; product = g; total = sum_of_product p m g }

  digits_unmarked : (ds : List ℕ) → AllDigits 10 ds → unmarked ds ≡ true
  digits_unmarked [] d = refl
  digits_unmarked (c ∷ cs) d =
      let k = digit_from_value c d.0 in
      let none : is_mark c ≡ false = rw (ne_eqb c 40 (λ z. omega (arith, z, k.0)), ne_eqb c 41 (λ z. omega (arith, z, k.0)), ne_eqb c 42 (λ z. omega (arith, z, k.0)), ne_eqb c 46 (λ z. omega (arith, z, k.0)), ne_eqb c 32 (λ z. omega (arith, z, k.0))) refl in
      and_from (not (is_mark c)) (unmarked cs) (ap not none) (digits_unmarked cs d.1)

  name_pattern : (w : List ℕ) (t : ℕ) → is_plain_name w ≡ true → place_of w names ≡ Some t → t < 256 → word_pattern names w ≡ Some (Tag t)
  name_pattern [] t h e l = absurd cc
  name_pattern (b ∷ bs) t h e l =
      let k = and_parts (not (b == 48 || (b == 49 || b == 36))) (unmarked (b ∷ bs)) h in
      let n = negated (b == 48 || (b == 49 || b == 36)) k.0 in
      let zero_not = or_left (b == 48) (b == 49 || b == 36) n in
      let others = or_right (b == 48) (b == 49 || b == 36) n in
      let one_not = or_left (b == 49) (b == 36) others in
      let var_not = or_right (b == 49) (b == 36) others in
      let tags : Option Pat = option_and_then tag_pattern (place_of (b ∷ bs) names) in
      skipped (b == 36) (option_map Var (read_number bs)) (if bytes_eq (b ∷ bs) (48 ∷ []) then Some Zero else if bytes_eq (b ∷ bs) (49 ∷ []) then Some One else tags) var_not
      ∙ skipped (bytes_eq (b ∷ bs) (48 ∷ [])) (Some Zero) (if bytes_eq (b ∷ bs) (49 ∷ []) then Some One else tags) (differs 48 (bytes_eq (b ∷ bs) (48 ∷ [])) refl zero_not)
      ∙ skipped (bytes_eq (b ∷ bs) (49 ∷ [])) (Some One) tags (differs 49 (bytes_eq (b ∷ bs) (49 ∷ [])) refl one_not)
      ∙ ap (option_and_then tag_pattern) e ∙ passed (nat_lt t 256) (Some (Tag t)) None (lt-ltb t 256 l)
    where
      differs : (d : ℕ) (c : Bool) → bytes_eq (b ∷ bs) (d ∷ []) ≡ c → (b == d) ≡ false → c ≡ false
      differs d false e n = refl
      differs d true e n = let same : b ≡ d = ap (λ l. get_or l 0 0) ((bytes_eq-Decides (b ∷ bs) (d ∷ [])).0 e) in absurd (clash d same n)
        where
          clash : (d : ℕ) → b ≡ d → (b == d) ≡ false → ⊥
          clash d same n = let yes = eq-eqb b d same in cc

  plain_unmarked : (w : List ℕ) → is_plain_name w ≡ true → unmarked w ≡ true
  plain_unmarked [] h = refl
  plain_unmarked (b ∷ bs) h = (and_parts (not (b == 48 || (b == 49 || b == 36))) (unmarked (b ∷ bs)) h).1

  shallow_part : (a p : Pat) → levels_of a ≤ levels_of p → is_shallow p ≡ true → is_shallow a ≡ true
  shallow_part a p l s = le-leb (levels_of a) most_levels (omega (arith, l, leb-true (levels_of p) most_levels s))

  reads : AreNames names → (p : Pat) → tags_below (length names) p ≡ true → has_numbers p ≡ true → is_shallow p ≡ true → Reads p
  reads n Zero t h s = reads_plain Zero refl refl (λ ops es r room. word_read (48 ∷ []) Zero refl refl refl ops es r)
  reads n One t h s = reads_plain One refl refl (λ ops es r room. word_read (49 ∷ []) One refl refl refl ops es r)
  reads n (Var k) t h s =
      let small = leb-true k most_number h in
      let d = decimal_is_IsNumeral k (omega (arith, small)) in
      reads_plain (Var k) refl refl (λ ops es r room. word_read (36 ∷ decimal k) (Var k) (digits_unmarked (decimal k) d.0.1) (ap (option_map Var) (number_read k h)) refl ops es r)
  reads n (Tag m) t h s =
      let l = ltb-true m (length names) t in
      let w = slice_index_or names m [] in
      let q = n.plain m l in
      reads_plain (Tag m) refl refl (λ ops es r room. word_read w (Tag m) (plain_unmarked w q) (name_pattern w m q (n.found m l) (omega (arith, l, n.few))) refl ops es r)
  reads n (Star q) t h s =
      let d = reads n q t h (shallow_part q (Star q) (omega arith) s) in
      reads_plain (Star q) refl refl (factor_of_star q s d.factor)
  reads n (Prod a b) t h s =
      let tt = and_parts (tags_below (length names) a) (tags_below (length names) b) t in
      let hh = and_parts (has_numbers a) (has_numbers b) h in
      let da = reads n a tt.0 hh.0 (shallow_part a (Prod a b) (omega (arith, max_left (levels_of a) (levels_of b))) s) in
      let db = reads n b tt.1 hh.1 (shallow_part b (Prod a b) (omega (arith, max_right (levels_of a) (levels_of b))) s) in
      let p = product_of_two a b s da.product db.factor in
      let u = sum_of_product (Prod a b) refl p in
      record { factor = λ ops es r room _. bracketed_read (Prod a b) u ops es r room; product = p; total = u }
  reads n (Sum a b) t h s =
      let tt = and_parts (tags_below (length names) a) (tags_below (length names) b) t in
      let hh = and_parts (has_numbers a) (has_numbers b) h in
      let da = reads n a tt.0 hh.0 (shallow_part a (Sum a b) (omega (arith, max_left (levels_of a) (levels_of b))) s) in
      let db = reads n b tt.1 hh.1 (shallow_part b (Sum a b) (omega (arith, max_right (levels_of a) (levels_of b))) s) in
      let u = sum_of_two a b s da.total db.product in
      let f : AsFactor (Sum a b) = λ ops es r room _. bracketed_read (Sum a b) u ops es r room in
      record { factor = f; product = product_of_factor (Sum a b) refl f; total = u }

  pub pattern_read : AreNames names → (p : Pat) → is_readable (length names) p ≡ true → read_pattern names (pat_text names p) ≡ Some p
  pattern_read n p h =
      let k = and_parts (tags_below (length names) p) (has_numbers p && is_shallow p) h in
      let l = and_parts (has_numbers p) (is_shallow p) k.1 in
      let small = leb-true (levels_of p) most_levels l.1 in
      let r = reads n p k.0 l.0 l.1 in
      ap (full names begun) (sym (append-nil (pat_text names p)))
      ∙ r.total [] [] [] (λ _. refl) (λ _. refl) (omega (arith, small)) refl tt
