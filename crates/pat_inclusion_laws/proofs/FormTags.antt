-- The closed form is the same however many more tags are compared, also where it is too large.
use Rattle.std.proofs.Common.{◌≡◌, ℕ, zero, suc, ◌+◌, ◌≤◌, ◌<◌, Bool, true, false, ◌&&◌, List, [], ◌∷◌, ◌++◌, map, length, Option, Some, None, refl, sym, ap, ap₂, ◌∙◌, subst, arith}
use Rattle.std.specs.Prelude.{if◌then◌else◌, nat_le, nat_lt}
use Rattle.std.proofs.lemmas.Bool.{and_parts, and_from, lt-ltb, ltb-true, lt-leb, cond-false}
use Rattle.std.proofs.lemmas.List.{length-map}
use Rattle.pat_words_spec.specs.Words.{Word}
use Rattle.pat_words_spec.specs.Patterns.{Pat, Zero, One, Tag, Sum, Prod, Star, Var, subst_of}
use Rattle.pat_words_spec.specs.Sizes.{size_of, levels_of}
use Rattle.pat_words_spec.specs.Tags.{tags_below}
use Rattle.pat_inclusion_spec.specs.LinearSets.{LinearSet}
use Rattle.pat_inclusion_spec.specs.ClosedForms.{set_product, products, star_by, set_star, sets_of, only_empty, is_short, stars_are_short, lists_are_short, is_small, closed_form}
use Rattle.pat_inclusion_laws.proofs.Exact.{form_same}
use Rattle.pat_limits.specs.Limits.{most_sets}

-- how many sets there are in a product and in a star doesn't depend on the tags
join_length : (xs ys : List LinearSet) → length (xs ++ ys) ≡ length xs + length ys
join_length [] ys = omega arith
join_length (x ∷ xs) ys = let r = join_length xs ys in omega arith

products_length : (n m : ℕ) (xs ys zs bs : List LinearSet) → length xs ≡ length ys → length zs ≡ length bs → length (products m xs zs) ≡ length (products n ys bs)
products_length n m [] [] zs bs e f = refl
products_length n m [] (y ∷ ys) zs bs e f = absurd (omega arith)
products_length n m (x ∷ xs) [] zs bs e f = absurd (omega arith)
products_length n m (x ∷ xs) (y ∷ ys) zs bs e f =
    let shorter : length xs ≡ length ys = omega arith in
    join_length (map (set_product m x) zs) (products m xs zs)
    ∙ ap₂ (λ a b. a + b) (length-map zs (set_product m x) ∙ f ∙ sym (length-map bs (set_product n y))) (products_length n m xs ys zs bs shorter f)
    ∙ sym (join_length (map (set_product n y) bs) (products n ys bs))

star_length : (n m : ℕ) (base : Word) (ps : List Word) → length (star_by m base ps) ≡ length (star_by n base ps)
star_length n m base [] = refl
star_length n m base (p ∷ ps) = refl

next_length : (n m : ℕ) (xs ys : List LinearSet) (s : LinearSet) → length xs ≡ length ys → length (products m xs (set_star m s)) ≡ length (products n ys (set_star n s))
next_length n m xs ys s e = products_length n m xs ys (set_star m s) (set_star n s) e (star_length n m s.base s.periods)

stars_same : (n m : ℕ) (xs ys ss : List LinearSet) → length xs ≡ length ys → stars_are_short m xs ss ≡ stars_are_short n ys ss
stars_same n m xs ys [] e = refl
stars_same n m xs ys (s ∷ ss) e =
    let l = next_length n m xs ys s e in
    ap₂ (λ a b. a && b) (ap (λ k. nat_le k most_sets) l) (stars_same n m (products m xs (set_star m s)) (products n ys (set_star n s)) ss l)

lists_same : (n m : ℕ) (e : Pat) → n ≤ m → tags_below n e ≡ true → lists_are_short m e ≡ lists_are_short n e
lists_same n m Zero l h = refl
lists_same n m One l h = refl
lists_same n m (Tag t) l h = refl
lists_same n m (Var k) l h = refl
lists_same n m (Sum a b) l h =
    let p = and_parts (tags_below n a) (tags_below n b) h in
    ap₂ (λ x y. x && y) (ap₂ (λ x y. x && y) (lists_same n m a l p.0) (lists_same n m b l p.1)) (ap is_short (form_same n m (Sum a b) l h))
lists_same n m (Prod a b) l h =
    let p = and_parts (tags_below n a) (tags_below n b) h in
    ap₂ (λ x y. x && y) (ap₂ (λ x y. x && y) (lists_same n m a l p.0) (lists_same n m b l p.1)) (ap is_short (form_same n m (Prod a b) l h))
lists_same n m (Star a) l h =
    ap₂ (λ x y. x && y) (lists_same n m a l h)
    (ap (stars_are_short m (only_empty ∷ [])) (form_same n m a l h) ∙ stars_same n m (only_empty ∷ []) (only_empty ∷ []) (sets_of n a) refl)

pub closed_same : (n m : ℕ) (e : Pat) → n ≤ m → tags_below n e ≡ true → closed_form m e ≡ closed_form n e
closed_same n m e l h =
    ap₂ (λ b sets. if is_small e && b then Some sets else None) (lists_same n m e l h) (form_same n m e l h)

pub tags_more : (n m : ℕ) (e : Pat) → n ≤ m → tags_below n e ≡ true → tags_below m e ≡ true
tags_more n m Zero l h = refl
tags_more n m One l h = refl
tags_more n m (Tag t) l h = let a = ltb-true t n h in lt-ltb t m (omega arith)
tags_more n m (Var k) l h = refl
tags_more n m (Sum a b) l h =
    let p = and_parts (tags_below n a) (tags_below n b) h in and_from (tags_below m a) (tags_below m b) (tags_more n m a l p.0) (tags_more n m b l p.1)
tags_more n m (Prod a b) l h =
    let p = and_parts (tags_below n a) (tags_below n b) h in and_from (tags_below m a) (tags_below m b) (tags_more n m a l p.0) (tags_more n m b l p.1)
tags_more n m (Star a) l h = tags_more n m a l h
