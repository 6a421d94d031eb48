-- What is read of a pattern is its text.
use Rattle.std.proofs.Common.{◌≡◌, ℕ, zero, suc, ◌+◌, ◌<◌, ◌≤◌, ◌==◌, Bool, true, false, List, [], ◌∷◌, ◌++◌, length, drop, take, get_or, refl, sym, ap, ◌∙◌, subst, arith, append_assoc, append-nil, if◌then◌else◌}
use Rattle.std.specs.Prelude.{Option, Some, None, option_map, option_and_then, bytes_eq, slice_index_or, nat_le, nat_lt, max, not, ◌&&◌}
use Rattle.std.specs.Fmt.{decimal}
use Rattle.std.proofs.lemmas.Bool.{and_parts, and_from, cond_both, lt-ltb, leb-true, le-leb, eqb-true}
use Rattle.std.proofs.lemmas.List.{take-append-drop}
use Rattle.std.proofs.lemmas.Slice.Eq.{bytes_eq-Decides}
use Rattle.pat_words_spec.specs.Patterns.{Pat, Zero, One, Tag, Sum, Prod, Star, Var}
use Rattle.pat_words_spec.specs.Sizes.{levels_of}
use Rattle.pat_words_spec.specs.Tags.{tags_below}
use Rattle.pat_texts_spec.specs.Numbers.{read_number}
use Rattle.pat_derivation_spec.specs.Spelled.{has_numbers, is_shallow}
use Rattle.pat_derivation_text_spec.specs.patterns.PatternText.{enclosed, is_sum, is_sum_or_product, pat_text, is_readable, is_mark}
use Rattle.pat_derivation_text_spec.specs.patterns.PatternReading.{Op, Stars, Opens, Sums, Prods, Part, Stage, wanting, having, begun, part_of, star_part, product_part, sum_part, star_top, product_top, sum_top, settled, summed, bracket_top, bracket_closed, pattern_whole, with_op, place_of, tag_pattern, word_pattern, word_front, word_rest, beside, with_word, with_sum, with_bracket, want, have, step, at_end, run, read_pattern}
use Rattle.pat_texts_spec.specs.Fronts.{agree, behind}
use Rattle.pat_texts_spec.proofs.Choices.{taken, untaken, Made, made, made_next, agree_same, negated}
use Rattle.pat_texts_spec.proofs.Decimals.{number_spelled}
use Rattle.pat_limits.specs.Limits.{most_levels}

-- the part's text, in brackets where it stood in some
abbrev pub part_text : List (List ℕ) → Part → List ℕ
part_text names e = enclosed e.bracketed (pat_text names e.pattern)

-- a part is over these names, and its levels are counted
pub record Fine (names : List (List ℕ)) (e : Part) : Type 0 where
  pub levels : e.levels ≡ levels_of e.pattern
  pub shallow : is_shallow e.pattern ≡ true
  pub tags : tags_below (length names) e.pattern ≡ true
  pub numbers : has_numbers e.pattern ≡ true

-- the text before the part that is wanted
abbrev pub Before : List (List ℕ) → List Op → List Part → List ℕ → Type 0
Before names [] [] t = t ≡ []
Before names [] (e ∷ es) t = ⊥
Before names (Stars ∷ ops) es t = (u : List ℕ) × Before names ops es u × (t ≡ u ++ 42 ∷ [])
Before names (Opens ∷ ops) es t = (u : List ℕ) × Before names ops es u × (t ≡ u ++ 40 ∷ [])
Before names (Sums ∷ ops) [] t = ⊥
Before names (Sums ∷ ops) (e ∷ es) t = (u : List ℕ) × Before names ops es u × Fine names e × (t ≡ u ++ (part_text names e ++ 32 ∷ 43 ∷ 32 ∷ []))
Before names (Prods ∷ ops) [] t = ⊥
Before names (Prods ∷ ops) (e ∷ es) t = (u : List ℕ) × Before names ops es u × Fine names e × (t ≡ u ++ (part_text names e ++ 46 ∷ []))

-- the text up to the end of the part that is read
abbrev pub Upto : List (List ℕ) → List Op → List Part → List ℕ → Type 0
Upto names ops [] t = ⊥
Upto names ops (e ∷ es) t = (u : List ℕ) × Before names ops es u × Fine names e × (t ≡ u ++ part_text names e)

-- the text that is read so far
abbrev pub Stands : List (List ℕ) → Stage → List ℕ → Type 0
Stands names s t = by s.wants
  where
    by : Bool → Type 0
    by true = Before names s.ops s.parts t
    by false = Upto names s.ops s.parts t

plain : (x : List ℕ) → enclosed false x ≡ x
plain x = append-nil x

module _ (names : List (List ℕ)) where
  -- a part that is made stands where its text is
  part_stands : (p : Pat) (n : ℕ) (f : Part) → part_of p n ≡ Some f → n ≡ levels_of p → tags_below (length names) p ≡ true → has_numbers p ≡ true → (ops : List Op) (es : List Part) (u t : List ℕ) → Before names ops es u → t ≡ u ++ pat_text names p → Upto names ops (f ∷ es) t
  part_stands p n f e l tags numbers ops es u t before is =
      let own : Part = record { pattern = p; levels = n; bracketed = false } in
      let k = taken (nat_le n most_levels) (Some own) f e in
      let same : own ≡ f = cc in
      subst (λ f. Upto names ops (f ∷ es) t) same (u, before, record { levels = l; shallow = subst (λ m. nat_le m most_levels ≡ true) l k.0; tags = tags; numbers = numbers }, is ∙ ap (λ x. u ++ x) (sym (plain (pat_text names p))))

  star_stands : (ops : List Op) (es fs : List Part) (t : List ℕ) → Upto names (Stars ∷ ops) es t → star_top es ≡ Some fs → Upto names ops fs t
  star_stands ops [] fs t h e = absurd h
  star_stands ops (x ∷ es) fs t (v, (u, before, vis), fine, tis) e =
      let m = made (λ f. f ∷ es) (star_part x) fs e in
      let k = taken (agree x.bracketed (is_sum_or_product x.pattern)) (part_of (Star x.pattern) (1 + x.levels)) m.from m.there in
      let b = agree_same x.bracketed (is_sum_or_product x.pattern) k.0 in
      subst (λ fs. Upto names ops fs t) m.is
      (part_stands (Star x.pattern) (1 + x.levels) m.from k.1 (ap (λ n. 1 + n) fine.levels) fine.tags fine.numbers ops es u t before
      (tis ∙ ap (λ w. w ++ part_text names x) vis ∙ append_assoc u (42 ∷ []) (part_text names x) ∙ ap (λ c. u ++ 42 ∷ enclosed c (pat_text names x.pattern)) b))

  product_stands : (ops : List Op) (es fs : List Part) (t : List ℕ) → Upto names (Prods ∷ ops) es t → product_top es ≡ Some fs → Upto names ops fs t
  product_stands ops [] fs t h e = absurd h
  product_stands ops (y ∷ []) fs t h e = absurd cc
  product_stands ops (y ∷ x ∷ es) fs t (v, (u, before, left, vis), right, tis) e =
      let m = made (λ f. f ∷ es) (product_part x y) fs e in
      let k = taken (agree x.bracketed (is_sum x.pattern) && agree y.bracketed (is_sum_or_product y.pattern)) (part_of (Prod x.pattern y.pattern) (1 + max x.levels y.levels)) m.from m.there in
      let both = and_parts (agree x.bracketed (is_sum x.pattern)) (agree y.bracketed (is_sum_or_product y.pattern)) k.0 in
      let b = agree_same x.bracketed (is_sum x.pattern) both.0 in
      let c = agree_same y.bracketed (is_sum_or_product y.pattern) both.1 in
      let E = part_text names x in
      let F = part_text names y in
      subst (λ fs. Upto names ops fs t) m.is
      (part_stands (Prod x.pattern y.pattern) (1 + max x.levels y.levels) m.from k.1 (ap (λ n. 1 + max n y.levels) left.levels ∙ ap (λ n. 1 + max (levels_of x.pattern) n) right.levels)
      (and_from (tags_below (length names) x.pattern) (tags_below (length names) y.pattern) left.tags right.tags) (and_from (has_numbers x.pattern) (has_numbers y.pattern) left.numbers right.numbers) ops es u t before
      (tis ∙ ap (λ w. w ++ F) vis ∙ append_assoc u (E ++ 46 ∷ []) F ∙ ap (λ w. u ++ w) (append_assoc E (46 ∷ []) F)
      ∙ ap (λ d. u ++ (enclosed d (pat_text names x.pattern) ++ 46 ∷ F)) b ∙ ap (λ d. u ++ (enclosed (is_sum x.pattern) (pat_text names x.pattern) ++ 46 ∷ enclosed d (pat_text names y.pattern))) c))

  sum_stands : (ops : List Op) (es fs : List Part) (t : List ℕ) → Upto names (Sums ∷ ops) es t → sum_top es ≡ Some fs → Upto names ops fs t
  sum_stands ops [] fs t h e = absurd h
  sum_stands ops (y ∷ []) fs t h e = absurd cc
  sum_stands ops (y ∷ x ∷ es) fs t (v, (u, before, left, vis), right, tis) e =
      let m = made (λ f. f ∷ es) (sum_part x y) fs e in
      let k = taken (not x.bracketed && agree y.bracketed (is_sum y.pattern)) (part_of (Sum x.pattern y.pattern) (1 + max x.levels y.levels)) m.from m.there in
      let both = and_parts (not x.bracketed) (agree y.bracketed (is_sum y.pattern)) k.0 in
      let b = negated x.bracketed both.0 in
      let c = agree_same y.bracketed (is_sum y.pattern) both.1 in
      let E = part_text names x in
      let F = part_text names y in
      let P = pat_text names x.pattern in
      subst (λ fs. Upto names ops fs t) m.is
      (part_stands (Sum x.pattern y.pattern) (1 + max x.levels y.levels) m.from k.1 (ap (λ n. 1 + max n y.levels) left.levels ∙ ap (λ n. 1 + max (levels_of x.pattern) n) right.levels)
      (and_from (tags_below (length names) x.pattern) (tags_below (length names) y.pattern) left.tags right.tags) (and_from (has_numbers x.pattern) (has_numbers y.pattern) left.numbers right.numbers) ops es u t before
      (tis ∙ ap (λ w. w ++ F) vis ∙ append_assoc u (E ++ 32 ∷ 43 ∷ 32 ∷ []) F ∙ ap (λ w. u ++ w) (append_assoc E (32 ∷ 43 ∷ 32 ∷ []) F)
      ∙ ap (λ d. u ++ (enclosed d P ++ 32 ∷ 43 ∷ 32 ∷ F)) b ∙ ap (λ w. u ++ (w ++ 32 ∷ 43 ∷ 32 ∷ F)) (plain P) ∙ ap (λ d. u ++ (P ++ 32 ∷ 43 ∷ 32 ∷ enclosed d (pat_text names y.pattern))) c))

  settled_stands : (ops : List Op) (es : List Part) (t : List ℕ) (s : Stage) → Upto names ops es t → settled ops es ≡ Some s → Stands names s t
  settled_stands (Stars ∷ ops) es t s h e = let m = made_next (settled ops) (star_top es) s e in settled_stands ops m.from t s (star_stands ops es m.from t h m.there) m.is
  settled_stands (Prods ∷ ops) es t s h e = let m = made_next (settled ops) (product_top es) s e in settled_stands ops m.from t s (product_stands ops es m.from t h m.there) m.is
  settled_stands [] es t s h e = let same : having [] es ≡ s = cc in subst (λ s. Stands names s t) same h
  settled_stands (Opens ∷ ops) es t s h e = let same : having (Opens ∷ ops) es ≡ s = cc in subst (λ s. Stands names s t) same h
  settled_stands (Sums ∷ ops) es t s h e = let same : having (Sums ∷ ops) es ≡ s = cc in subst (λ s. Stands names s t) same h

  -- a stage at which a part was read last
  record Rested (s : Stage) (t : List ℕ) : Type 0 where
    has : s.wants ≡ false
    stands : Upto names s.ops s.parts t

  summed_stands : (ops : List Op) (es : List Part) (t : List ℕ) (s : Stage) → Upto names ops es t → summed ops es ≡ Some s → Rested s t
  summed_stands (Sums ∷ ops) es t s h e =
      let m = made (having ops) (sum_top es) s e in
      subst (λ s. Rested s t) m.is (record { has = refl; stands = sum_stands ops es m.from t h m.there })
  summed_stands [] es t s h e = let same : having [] es ≡ s = cc in subst (λ s. Rested s t) same (record { has = refl; stands = h })
  summed_stands (Opens ∷ ops) es t s h e = let same : having (Opens ∷ ops) es ≡ s = cc in subst (λ s. Rested s t) same (record { has = refl; stands = h })
  summed_stands (Stars ∷ ops) es t s h e = let same : having (Stars ∷ ops) es ≡ s = cc in subst (λ s. Rested s t) same (record { has = refl; stands = h })
  summed_stands (Prods ∷ ops) es t s h e = let same : having (Prods ∷ ops) es ≡ s = cc in subst (λ s. Rested s t) same (record { has = refl; stands = h })

  bracket_stands : (ops : List Op) (es fs : List Part) (t : List ℕ) → Upto names (Opens ∷ ops) es t → bracket_top es ≡ Some fs → Upto names ops fs (t ++ 41 ∷ [])
  bracket_stands ops [] fs t h e = absurd h
  bracket_stands ops (x ∷ es) fs t (v, (u, before, vis), fine, tis) e =
      let k = untaken x.bracketed (Some (record { pattern = x.pattern; levels = x.levels; bracketed = true } ∷ es)) fs e in
      let same : record { pattern = x.pattern; levels = x.levels; bracketed = true } ∷ es ≡ fs = cc in
      let P = pat_text names x.pattern in
      subst (λ fs. Upto names ops fs (t ++ 41 ∷ [])) same (
        u,
        before,
        record { levels = fine.levels; shallow = fine.shallow; tags = fine.tags; numbers = fine.numbers },
        ap (λ w. w ++ 41 ∷ []) (tis ∙ ap (λ w. w ++ part_text names x) vis ∙ ap (λ c. (u ++ 40 ∷ []) ++ enclosed c P) k.0 ∙ ap (λ w. (u ++ 40 ∷ []) ++ w) (plain P))
            ∙ append_assoc (u ++ 40 ∷ []) P (41 ∷ []) ∙ append_assoc u (40 ∷ []) (P ++ 41 ∷ []),
      )

  -- what a step read
  record Read (bytes t : List ℕ) (n : Stage × List ℕ) : Type 0 where
    own : List ℕ
    whole : bytes ≡ own ++ n.1
    stands : Stands names n.0 (t ++ own)

  -- the step leaves this beside a stage at which it stands
  read_beside : (bytes own rest t : List ℕ) (o : Option Stage) (n : Stage × List ℕ) → bytes ≡ own ++ rest → ((s : Stage) → o ≡ Some s → Stands names s (t ++ own)) → beside rest o ≡ Some n → Read bytes t n
  read_beside bytes own rest t o n is h e =
      let m = made (λ s. (s, rest)) o n e in
      subst (λ n. Read bytes t n) m.is (record { own = own; whole = is; stands = h m.from m.there })

  op_stands : (op : Op) (ops : List Op) (es : List Part) (s : Stage) (t : List ℕ) → Before names (op ∷ ops) es t → with_op op (wanting ops es) ≡ Some s → Stands names s t
  op_stands op ops es s t h e =
      let k = taken (nat_lt (length ops) 32768) (Some (wanting (op ∷ ops) es)) s e in
      let same : wanting (op ∷ ops) es ≡ s = cc in
      subst (λ s. Stands names s t) same h

  -- the name at its place
  place_is : (x : List ℕ) (ns : List (List ℕ)) (k : ℕ) → place_of x ns ≡ Some k → (k < length ns) × (slice_index_or ns k [] ≡ x)
  place_is x [] k e = absurd cc
  place_is x (n ∷ ns) k e = by (bytes_eq n x) refl e (λ j f. place_is x ns j f)
    where
      by : (b : Bool) → bytes_eq n x ≡ b → (if b then Some zero else option_map suc (place_of x ns)) ≡ Some k → ((j : ℕ) → place_of x ns ≡ Some j → (j < length ns) × (slice_index_or ns j [] ≡ x)) → (k < length (n ∷ ns)) × (slice_index_or (n ∷ ns) k [] ≡ x)
      by true t e deeper = let z : zero ≡ k = cc in subst (λ k. (k < length (n ∷ ns)) × (slice_index_or (n ∷ ns) k [] ≡ x)) z (omega arith, (bytes_eq-Decides n x).0 t)
      by false t e deeper =
          let m = made suc (place_of x ns) k e in
          let d = deeper m.from m.there in
          subst (λ k. (k < length (n ∷ ns)) × (slice_index_or (n ∷ ns) k [] ≡ x)) m.is (omega (arith, d.0), d.1)

  -- a pattern of one word: its text, and that a part of it is fine
  record Worded (w : List ℕ) (e : Pat) : Type 0 where
    text : pat_text names e ≡ w
    level : levels_of e ≡ 1
    tags : tags_below (length names) e ≡ true
    numbers : has_numbers e ≡ true

  word_is : (w : List ℕ) (e : Pat) → word_pattern names w ≡ Some e → Worded w e
  word_is [] e h = absurd cc
  word_is (b ∷ bs) e h = first (b == 36) refl h
    where
      named : (k : ℕ) → place_of (b ∷ bs) names ≡ Some k → tag_pattern k ≡ Some e → Worded (b ∷ bs) e
      named k p t =
          let own = taken (nat_lt k 256) (Some (Tag k)) e t in
          let same : Tag k ≡ e = cc in
          let is = place_is (b ∷ bs) names k p in
          subst (Worded (b ∷ bs)) same (record { text = is.1; level = refl; tags = lt-ltb k (length names) is.0; numbers = refl })

      third : (t : Bool) → bytes_eq (b ∷ bs) (49 ∷ []) ≡ t → (if t then Some One else option_and_then tag_pattern (place_of (b ∷ bs) names)) ≡ Some e → Worded (b ∷ bs) e
      third true t h = let same : One ≡ e = cc in subst (Worded (b ∷ bs)) same (record { text = sym ((bytes_eq-Decides (b ∷ bs) (49 ∷ [])).0 t); level = refl; tags = refl; numbers = refl })
      third false t h = let m = made_next tag_pattern (place_of (b ∷ bs) names) e h in named m.from m.there m.is

      second : (t : Bool) → bytes_eq (b ∷ bs) (48 ∷ []) ≡ t → (if t then Some Zero else if bytes_eq (b ∷ bs) (49 ∷ []) then Some One else option_and_then tag_pattern (place_of (b ∷ bs) names)) ≡ Some e → Worded (b ∷ bs) e
      second true t h = let same : Zero ≡ e = cc in subst (Worded (b ∷ bs)) same (record { text = sym ((bytes_eq-Decides (b ∷ bs) (48 ∷ [])).0 t); level = refl; tags = refl; numbers = refl })
      second false t h = third (bytes_eq (b ∷ bs) (49 ∷ [])) refl h

      first : (t : Bool) → (b == 36) ≡ t → (if t then option_map Var (read_number bs) else if bytes_eq (b ∷ bs) (48 ∷ []) then Some Zero else if bytes_eq (b ∷ bs) (49 ∷ []) then Some One else option_and_then tag_pattern (place_of (b ∷ bs) names)) ≡ Some e → Worded (b ∷ bs) e
      first true t h =
          let m = made Var (read_number bs) e h in
          let n = number_spelled bs m.from m.there in
          let at = eqb-true b 36 t in
          subst (Worded (b ∷ bs)) m.is (record { text = ap (λ c. c ∷ decimal m.from) (sym at) ∙ ap (λ ds. b ∷ ds) (sym n.0); level = refl; tags = refl; numbers = n.1 })
      first false t h = second (bytes_eq (b ∷ bs) (48 ∷ [])) refl h

  word_parts : (bytes : List ℕ) → bytes ≡ word_front bytes ++ word_rest bytes
  word_parts [] = refl
  word_parts (b ∷ bs) = by (is_mark b) (word_parts bs)
    where
      by : (t : Bool) → bs ≡ word_front bs ++ word_rest bs → b ∷ bs ≡ (if t then [] else b ∷ word_front bs) ++ (if t then b ∷ bs else word_rest bs)
      by true e = refl
      by false e = ap (λ l. b ∷ l) e

  word_stands : (ops : List Op) (es : List Part) (w t : List ℕ) (s : Stage) → Before names ops es t → with_word names (wanting ops es) w ≡ Some s → Stands names s (t ++ w)
  word_stands ops es w t s h e =
      let m = made_next (λ p. settled ops (record { pattern = p; levels = 1; bracketed = false } ∷ es)) (word_pattern names w) s e in
      let k = word_is w m.from m.there in
      settled_stands ops (record { pattern = m.from; levels = 1; bracketed = false } ∷ es) (t ++ w) s
      (t, h, record { levels = sym k.level; shallow = ap (λ n. nat_le n most_levels) k.level; tags = k.tags; numbers = k.numbers }, ap (λ x. t ++ x) (sym k.text ∙ sym (plain (pat_text names m.from)))) m.is

  want_reads : (ops : List Op) (es : List Part) (bytes t : List ℕ) (n : Stage × List ℕ) → Before names ops es t → want names (wanting ops es) bytes ≡ Some n → Read bytes t n
  want_reads ops es [] t n h e = absurd cc
  want_reads ops es (b ∷ bs) t n h e = first (b == 40) refl e
    where
      word : beside (word_rest (b ∷ bs)) (with_word names (wanting ops es) (word_front (b ∷ bs))) ≡ Some n → Read (b ∷ bs) t n
      word e = read_beside (b ∷ bs) (word_front (b ∷ bs)) (word_rest (b ∷ bs)) t _ n (word_parts (b ∷ bs)) (λ s k. word_stands ops es (word_front (b ∷ bs)) t s h k) e

      second : (c : Bool) → (b == 42) ≡ c → (if c then beside bs (with_op Stars (wanting ops es)) else beside (word_rest (b ∷ bs)) (with_word names (wanting ops es) (word_front (b ∷ bs)))) ≡ Some n → Read (b ∷ bs) t n
      second true c e = read_beside (b ∷ bs) (42 ∷ []) bs t _ n (ap (λ a. a ∷ bs) (eqb-true b 42 c)) (λ s k. op_stands Stars ops es s (t ++ 42 ∷ []) (t, h, refl) k) e
      second false c e = word e

      first : (c : Bool) → (b == 40) ≡ c → (if c then beside bs (with_op Opens (wanting ops es)) else if b == 42 then beside bs (with_op Stars (wanting ops es)) else beside (word_rest (b ∷ bs)) (with_word names (wanting ops es) (word_front (b ∷ bs)))) ≡ Some n → Read (b ∷ bs) t n
      first true c e = read_beside (b ∷ bs) (40 ∷ []) bs t _ n (ap (λ a. a ∷ bs) (eqb-true b 40 c)) (λ s k. op_stands Opens ops es s (t ++ 40 ∷ []) (t, h, refl) k) e
      first false c e = second (b == 42) refl e

  -- an operator behind the part that is read
  product_op : (ops : List Op) (es : List Part) (t : List ℕ) → Upto names ops es t → Before names (Prods ∷ ops) es (t ++ 46 ∷ [])
  product_op ops [] t h = h
  product_op ops (x ∷ es) t (u, before, fine, is) = (u, before, fine, ap (λ w. w ++ 46 ∷ []) is ∙ append_assoc u (part_text names x) (46 ∷ []))

  sum_op : (ops : List Op) (es : List Part) (t : List ℕ) → Upto names ops es t → Before names (Sums ∷ ops) es (t ++ 32 ∷ 43 ∷ 32 ∷ [])
  sum_op ops [] t h = h
  sum_op ops (x ∷ es) t (u, before, fine, is) = (u, before, fine, ap (λ w. w ++ 32 ∷ 43 ∷ 32 ∷ []) is ∙ append_assoc u (part_text names x) (32 ∷ 43 ∷ 32 ∷ []))

  sums_stand : (ops : List Op) (es : List Part) (t : List ℕ) (s : Stage) → Upto names ops es t → with_sum (having ops es) ≡ Some s → Stands names s (t ++ 32 ∷ 43 ∷ 32 ∷ [])
  sums_stand ops es t s h e =
      let m = made_next (λ s. with_op Sums s) (summed ops es) s e in
      let r = summed_stands ops es t m.from h m.there in
      op_stands Sums m.from.ops m.from.parts s (t ++ 32 ∷ 43 ∷ 32 ∷ []) (sum_op m.from.ops m.from.parts t r.stands) m.is

  closed_stands : (ops : List Op) (es : List Part) (t : List ℕ) (s : Stage) → Upto names ops es t → bracket_closed ops es ≡ Some s → Stands names s (t ++ 41 ∷ [])
  closed_stands (Opens ∷ ops) es t s h e =
      let m = made_next (settled ops) (bracket_top es) s e in
      settled_stands ops m.from (t ++ 41 ∷ []) s (bracket_stands ops es m.from t h m.there) m.is
  closed_stands [] es t s h e = absurd cc
  closed_stands (Stars ∷ ops) es t s h e = absurd cc
  closed_stands (Sums ∷ ops) es t s h e = absurd cc
  closed_stands (Prods ∷ ops) es t s h e = absurd cc

  brackets_stand : (ops : List Op) (es : List Part) (t : List ℕ) (s : Stage) → Upto names ops es t → with_bracket (having ops es) ≡ Some s → Stands names s (t ++ 41 ∷ [])
  brackets_stand ops es t s h e =
      let m = made_next (λ r. bracket_closed r.ops r.parts) (summed ops es) s e in
      let r = summed_stands ops es t m.from h m.there in
      closed_stands m.from.ops m.from.parts t s r.stands m.is

  pub behind_is : (own bytes rest : List ℕ) → behind own bytes ≡ Some rest → bytes ≡ own ++ rest
  behind_is own bytes rest e =
      let k = taken (bytes_eq (take (length own) bytes) own) (Some (drop (length own) bytes)) rest e in
      let same : drop (length own) bytes ≡ rest = cc in
      sym (take-append-drop (length own) bytes) ∙ ap (λ w. w ++ drop (length own) bytes) ((bytes_eq-Decides (take (length own) bytes) own).0 k.0) ∙ ap (λ w. own ++ w) same

  have_reads : (ops : List Op) (es : List Part) (bytes t : List ℕ) (n : Stage × List ℕ) → Upto names ops es t → have (having ops es) bytes ≡ Some n → Read bytes t n
  have_reads ops es [] t n h e = absurd cc
  have_reads ops es (b ∷ bs) t n h e = first (b == 46) refl e
    where
      sums : option_and_then (λ rest. beside rest (with_sum (having ops es))) (behind (32 ∷ 43 ∷ 32 ∷ []) (b ∷ bs)) ≡ Some n → Read (b ∷ bs) t n
      sums e =
          let m = made_next (λ rest. beside rest (with_sum (having ops es))) (behind (32 ∷ 43 ∷ 32 ∷ []) (b ∷ bs)) n e in
          read_beside (b ∷ bs) (32 ∷ 43 ∷ 32 ∷ []) m.from t _ n (behind_is (32 ∷ 43 ∷ 32 ∷ []) (b ∷ bs) m.from m.there) (λ s k. sums_stand ops es t s h k) m.is

      second : (c : Bool) → (b == 41) ≡ c → (if c then beside bs (with_bracket (having ops es)) else option_and_then (λ rest. beside rest (with_sum (having ops es))) (behind (32 ∷ 43 ∷ 32 ∷ []) (b ∷ bs))) ≡ Some n → Read (b ∷ bs) t n
      second true c e = read_beside (b ∷ bs) (41 ∷ []) bs t _ n (ap (λ a. a ∷ bs) (eqb-true b 41 c)) (λ s k. brackets_stand ops es t s h k) e
      second false c e = sums e

      first : (c : Bool) → (b == 46) ≡ c → (if c then beside bs (with_op Prods (having ops es)) else if b == 41 then beside bs (with_bracket (having ops es)) else option_and_then (λ rest. beside rest (with_sum (having ops es))) (behind (32 ∷ 43 ∷ 32 ∷ []) (b ∷ bs))) ≡ Some n → Read (b ∷ bs) t n
      first true c e = read_beside (b ∷ bs) (46 ∷ []) bs t _ n (ap (λ a. a ∷ bs) (eqb-true b 46 c)) (λ s k. op_stands Prods ops es s (t ++ 46 ∷ []) (product_op ops es t h) k) e
      first false c e = second (b == 41) refl e

  step_reads : (w : Bool) (ops : List Op) (es : List Part) (bytes t : List ℕ) (n : Stage × List ℕ) → Stands names (record { wants = w; ops = ops; parts = es }) t → step names (record { wants = w; ops = ops; parts = es }) bytes ≡ Some n → Read bytes t n
  step_reads true ops es bytes t n h e = want_reads ops es bytes t n h e
  step_reads false ops es bytes t n h e = have_reads ops es bytes t n h e

  -- a pattern that is read whole
  record Whole (p : Pat) (t : List ℕ) : Type 0 where
    text : t ≡ pat_text names p
    readable : is_readable (length names) p ≡ true

  pattern_is : (ops : List Op) (es : List Part) (p : Pat) (t : List ℕ) → Upto names ops es t → pattern_whole ops es ≡ Some p → Whole p t
  pattern_is [] (x ∷ []) p t (u, before, fine, is) e =
      let k = untaken x.bracketed (Some x.pattern) p e in
      let same : x.pattern ≡ p = cc in
      subst (λ p. Whole p t) same (record {
        text = is ∙ ap (λ w. w ++ part_text names x) before ∙ ap (λ c. enclosed c (pat_text names x.pattern)) k.0 ∙ plain (pat_text names x.pattern);
        readable = and_from (tags_below (length names) x.pattern) (has_numbers x.pattern && is_shallow x.pattern) fine.tags (and_from (has_numbers x.pattern) (is_shallow x.pattern) fine.numbers fine.shallow);
      })
  pattern_is [] [] p t h e = absurd cc
  pattern_is [] (x ∷ y ∷ es) p t h e = absurd cc
  pattern_is (op ∷ ops) es p t h e = absurd cc

  end_is : (w : Bool) (ops : List Op) (es : List Part) (p : Pat) (t : List ℕ) → Stands names (record { wants = w; ops = ops; parts = es }) t → at_end (record { wants = w; ops = ops; parts = es }) ≡ Some p → Whole p t
  end_is true ops es p t h e = absurd cc
  end_is false ops es p t h e =
      let m = made_next (λ r. pattern_whole r.ops r.parts) (summed ops es) p e in
      let r = summed_stands ops es t m.from h m.there in
      pattern_is m.from.ops m.from.parts p t r.stands m.is

  run_is : (k : ℕ) (s : Stage) (bytes t : List ℕ) (p : Pat) → Stands names s t → run k names s bytes ≡ Some p → Whole p (t ++ bytes)
  run_is k s [] t p h e = let w = end_is s.wants s.ops s.parts p t h e in record { text = append-nil t ∙ w.text; readable = w.readable }
  run_is zero s (b ∷ bs) t p h e = absurd cc
  run_is (suc k) s (b ∷ bs) t p h e =
      let m = made_next (λ n. run k names n.0 n.1) (step names s (b ∷ bs)) p e in
      let r = step_reads s.wants s.ops s.parts (b ∷ bs) t m.from h m.there in
      let w = run_is k m.from.0 m.from.1 (t ++ r.own) p r.stands m.is in
      record { text = ap (λ l. t ++ l) r.whole ∙ sym (append_assoc t r.own m.from.1) ∙ w.text; readable = w.readable }

  -- what is read is the pattern's text, and a reader takes the pattern
  pub pattern_spelled : (bytes : List ℕ) (p : Pat) → read_pattern names bytes ≡ Some p → (bytes ≡ pat_text names p) × (is_readable (length names) p ≡ true)
  pattern_spelled bytes p e = let w = run_is (length bytes) begun bytes [] p refl e in (w.text, w.readable)
