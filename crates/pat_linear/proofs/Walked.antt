-- A closed form along a pattern's right parts: beginning, turns and end.
use Rattle.std.proofs.Common.{◌≡◌, ℕ, ◌+◌, ◌^◌, ◌≤◌, ◌<◌, Bool, true, false, ◌&&◌, List, [], ◌∷◌, ◌++◌, length, map, ⊎_elim, refl, sym, ap, ◌∙◌, subst, arith, append-nil, length-append}
use Rattle.std.proofs.lemmas.List.{length-map}
use Rattle.std.proofs.lemmas.Bool.{and_parts, and_from, leb-true, le-leb, cases_Bool}
use Rattle.pat_words_spec.specs.Patterns.{Pat, Zero, One, Tag, Sum, Prod, Star, Var}
use Rattle.pat_words_spec.specs.Sizes.{size_of, levels_of}
use Rattle.pat_inclusion_spec.specs.Counts.{most_tags}
use Rattle.pat_inclusion_spec.specs.LinearSets.{LinearSet, SetWithin, SetsWithin}
use Rattle.pat_inclusion_spec.specs.ClosedForms.{only_empty, set_product, products, sets_of, set_star, times_stars, is_short, stars_are_short, lists_are_short, is_small}
use Rattle.pat_inclusion_laws.proofs.FormCounts.{form_counts}
use Rattle.pat_linear.specs.Along.{along, IsAlong}
use Rattle.pat_linear.proofs.Standing.{small, sizes, small_down}
use Rattle.pat_linear.specs.Rooms.{HasRoom}
use Rattle.pat_linear.proofs.Together.{factor_on, form_alone}
use Rattle.pat_limits.specs.Limits.{most_sets}

-- ---- sizes

behind_size : (ls : List Pat) (e : Pat) → (1 ≤ size_of e) → (size_of (along ls One) ≤ size_of (along ls e)) × (levels_of (along ls One) ≤ levels_of (along ls e))
behind_size [] e s = (omega arith, level e)
  where
    level : (e : Pat) → levels_of One ≤ levels_of e
    level Zero = omega arith
    level One = omega arith
    level (Tag m) = omega arith
    level (Sum e f) = omega arith
    level (Prod e f) = omega arith
    level (Star e) = omega arith
    level (Var k) = omega arith
behind_size (l ∷ ls) e s = let r = behind_size ls e s in (omega arith, omega arith)

some_size : (e : Pat) → 1 ≤ size_of e
some_size Zero = omega arith
some_size One = omega arith
some_size (Tag m) = omega arith
some_size (Sum e f) = omega arith
some_size (Prod e f) = omega arith
some_size (Star e) = omega arith
some_size (Var k) = omega arith

factor_small : (ls : List Pat) (e : Pat) → is_small (along ls e) ≡ true → is_small (along ls One) ≡ true
factor_small ls e h =
    let s = sizes (along ls e) h in
    let b = behind_size ls e (some_size e) in
    small (along ls One) (omega arith) (omega arith)

pub rest_small : (ls : List Pat) (e : Pat) → is_small (along ls e) ≡ true → is_small e ≡ true
rest_small [] e h = h
rest_small (l ∷ ls) e h = rest_small ls e (small_down.prod l (along ls e) h).1

-- no count of the factor is too large
pub factor_within : (whole rest : Pat) (f : LinearSet) (done : List LinearSet) → IsAlong whole rest f done → SetWithin (2 ^ 27) (2 ^ 27) f
factor_within whole rest f done h =
    let one = (subst (SetsWithin (2 ^ 27) (2 ^ 27)) (h.behind One)
    (form_counts most_tags (along h.lefts One) (factor_small h.lefts rest h.small) (h.keeps One refl (omega arith)))).0 in
    (λ t. let k = one.0 t in omega arith, one.1)

-- ---- beginning

pub walk_begun : (p : Pat) → is_small p ≡ true → IsAlong p p only_empty []
walk_begun p h = record {
  lefts = [];
  behind = λ e. sym (form_alone most_tags e);
  keeps = λ e s l. s;
  small = h;
  sets = sym (form_alone most_tags p);
  down = λ s. s;
  up = λ s l. s;
}

-- ---- a form's list is short

times_short : (n : ℕ) (made ss : List LinearSet) → is_short made ≡ true → stars_are_short n made ss ≡ true → is_short (times_stars n made ss) ≡ true
times_short n made [] a h = a
times_short n made (s ∷ ss) a h =
    let next = products n made (set_star n s) in
    let both = and_parts (is_short next) (stars_are_short n next ss) h in
    times_short n next ss both.0 both.1

short_form : (n : ℕ) (e : Pat) → lists_are_short n e ≡ true → is_short (sets_of n e) ≡ true
short_form n Zero h = refl
short_form n One h = refl
short_form n (Tag m) h = refl
short_form n (Sum e f) h = (and_parts (lists_are_short n e && lists_are_short n f) (is_short (sets_of n (Sum e f))) h).1
short_form n (Prod e f) h = (and_parts (lists_are_short n e && lists_are_short n f) (is_short (sets_of n (Prod e f))) h).1
short_form n (Star e) h =
    times_short n (only_empty ∷ []) (sets_of n e) refl (and_parts (lists_are_short n e) (stars_are_short n (only_empty ∷ []) (sets_of n e)) h).1
short_form n (Var k) h = refl

-- ---- a sum

map_append : (f : LinearSet → LinearSet) (xs ys : List LinearSet) → map f (xs ++ ys) ≡ map f xs ++ map f ys
map_append f [] ys = refl
map_append f (x ∷ xs) ys = ap (λ l. f x ∷ l) (map_append f xs ys)

append_on : (xs ys zs : List LinearSet) → (xs ++ ys) ++ zs ≡ xs ++ (ys ++ zs)
append_on [] ys zs = refl
append_on (x ∷ xs) ys zs = ap (λ l. x ∷ l) (append_on xs ys zs)

short_sum : (l r : Pat) → lists_are_short most_tags l ≡ true → lists_are_short most_tags r ≡ true → length (sets_of most_tags l) + length (sets_of most_tags r) ≤ most_sets → lists_are_short most_tags (Sum l r) ≡ true
short_sum l r a b few =
    let both = length-append (sets_of most_tags l) (sets_of most_tags r) in
    and_from (lists_are_short most_tags l && lists_are_short most_tags r) (is_short (sets_of most_tags (Sum l r)))
    (and_from (lists_are_short most_tags l) (lists_are_short most_tags r) a b)
    (le-leb (length (sets_of most_tags (Sum l r))) most_sets (omega arith))

-- the product of the left parts with the rest stays small
less_small : (ls : List Pat) (e f : Pat) → size_of f ≤ size_of e → levels_of f ≤ levels_of e → is_small (along ls e) ≡ true → is_small (along ls f) ≡ true
less_small ls e f a b h =
    let s = sizes (along ls e) h in
    let k = less ls in
    small (along ls f) (omega arith) (omega arith)
  where
    less : (ls : List Pat) → (size_of (along ls f) ≤ size_of (along ls e)) × (levels_of (along ls f) ≤ levels_of (along ls e))
    less [] = (a, b)
    less (l ∷ ls) = let r = less ls in (omega arith, omega arith)

pub sum_walked : (whole l r : Pat) (f : LinearSet) (done new : List LinearSet) → IsAlong whole (Sum l r) f done → new ≡ done ++ map (set_product most_tags f) (sets_of most_tags l) → lists_are_short most_tags l ≡ true → IsAlong whole r f new
sum_walked whole l r f done new h is short = record {
  lefts = h.lefts;
  behind = h.behind;
  keeps = h.keeps;
  small = less_small h.lefts (Sum l r) r (omega arith) (omega arith) h.small;
  sets = h.sets ∙ ap (λ x. done ++ x) (map_append g (sets_of most_tags l) (sets_of most_tags r)) ∙ sym (append_on done (map g (sets_of most_tags l)) (map g (sets_of most_tags r))) ∙ ap (λ x. x ++ map g (sets_of most_tags r)) (sym is);
  down = λ s. (and_parts (lists_are_short most_tags l) (lists_are_short most_tags r) (and_parts (lists_are_short most_tags l && lists_are_short most_tags r) (is_short (sets_of most_tags (Sum l r))) (h.down s)).0).1;
  up = λ s few.
      let grown = ap length is ∙ length-append done (map g (sets_of most_tags l)) in
      let same = length-map (sets_of most_tags l) g in
      let both = length-append (sets_of most_tags l) (sets_of most_tags r) in
      h.up (short_sum l r short s (omega arith)) (omega arith);
}
  where
    g : LinearSet → LinearSet
    g = set_product most_tags f

-- ---- a product

along_last : (ls : List Pat) (l e : Pat) → along (ls ++ l ∷ []) e ≡ along ls (Prod l e)
along_last [] l e = refl
along_last (k ∷ ls) l e = ap (Prod k) (along_last ls l e)

-- products with the only set
one_row : (l : Pat) (a : LinearSet) (cs : List LinearSet) → sets_of most_tags l ≡ a ∷ [] → products most_tags (sets_of most_tags l) cs ≡ products most_tags (a ∷ []) cs
one_row l a cs is = ap (λ x. products most_tags x cs) is

one_length : (l : Pat) (a : LinearSet) (cs : List LinearSet) → sets_of most_tags l ≡ a ∷ [] → length (products most_tags (sets_of most_tags l) cs) ≡ length cs
one_length l a cs is =
    ap length (one_row l a cs is ∙ append-nil (map (set_product most_tags a) cs)) ∙ length-map cs (set_product most_tags a)

short_prod : (l r : Pat) (a : LinearSet) → sets_of most_tags l ≡ a ∷ [] → lists_are_short most_tags l ≡ true → lists_are_short most_tags r ≡ true → length (sets_of most_tags r) ≤ most_sets → lists_are_short most_tags (Prod l r) ≡ true
short_prod l r a is x y few =
    let same = one_length l a (sets_of most_tags r) is in
    and_from (lists_are_short most_tags l && lists_are_short most_tags r) (is_short (sets_of most_tags (Prod l r)))
    (and_from (lists_are_short most_tags l) (lists_are_short most_tags r) x y)
    (le-leb (length (sets_of most_tags (Prod l r))) most_sets (omega arith))

prod_behind : (f a : LinearSet) (l e : Pat) → sets_of most_tags l ≡ a ∷ [] → map (set_product most_tags f) (sets_of most_tags (Prod l e)) ≡ map (set_product most_tags (set_product most_tags f a)) (sets_of most_tags e)
prod_behind f a l e is =
    ap (map (set_product most_tags f)) (one_row l a (sets_of most_tags e) is) ∙ factor_on most_tags f a (sets_of most_tags e)

pub prod_walked : (whole l r : Pat) (f g a : LinearSet) (done : List LinearSet) → IsAlong whole (Prod l r) f done → sets_of most_tags l ≡ a ∷ [] → g ≡ set_product most_tags f a → lists_are_short most_tags l ≡ true → IsAlong whole r g done
prod_walked whole l r f g a done h is made short = subst (λ x. IsAlong whole r x done) (sym made) (record {
  lefts = h.lefts ++ l ∷ [];
  behind = λ e. ap (sets_of most_tags) (along_last h.lefts l e) ∙ h.behind (Prod l e) ∙ prod_behind f a l e is;
  keeps = λ e s few.
      let same = one_length l a (sets_of most_tags e) is in
      subst (λ x. lists_are_short most_tags x ≡ true) (sym (along_last h.lefts l e)) (h.keeps (Prod l e) (short_prod l e a is short s few) (omega arith));
  small = subst (λ x. is_small x ≡ true) (sym (along_last h.lefts l r)) h.small;
  sets = h.sets ∙ ap (λ x. done ++ x) (prod_behind f a l r is);
  down = λ s. (and_parts (lists_are_short most_tags l) (lists_are_short most_tags r) (and_parts (lists_are_short most_tags l && lists_are_short most_tags r) (is_short (sets_of most_tags (Prod l r))) (h.down s)).0).1;
  up = λ s few.
      let same = one_length l a (sets_of most_tags r) is in
      h.up (short_prod l r a is short s (omega arith)) (omega arith);
})

-- ---- end

pub walk_ended : (whole rest : Pat) (f : LinearSet) (done new : List LinearSet) → IsAlong whole rest f done → new ≡ done ++ map (set_product most_tags f) (sets_of most_tags rest) → lists_are_short most_tags rest ≡ true → length new ≤ most_sets → (new ≡ sets_of most_tags whole) × (lists_are_short most_tags whole ≡ true)
walk_ended whole rest f done new h is short few =
    let grown = ap length is ∙ length-append done (map (set_product most_tags f) (sets_of most_tags rest)) in
    let same = length-map (sets_of most_tags rest) (set_product most_tags f) in
    (is ∙ sym h.sets, h.up short (omega arith))

-- ---- what is too large

clash : (b : Bool) → (b ≡ true → ⊥) → b ≡ false
clash b never = ⊎_elim (λ y. absurd (never y)) (λ z. z) (cases_Bool b)

whole_few : (whole : Pat) → lists_are_short most_tags whole ≡ true → length (sets_of most_tags whole) ≤ most_sets
whole_few whole s = leb-true (length (sets_of most_tags whole)) most_sets (short_form most_tags whole s)

pub end_refused : (whole rest : Pat) (f : LinearSet) (done : List LinearSet) → IsAlong whole rest f done → (lists_are_short most_tags rest ≡ true → most_sets < length done + length (map (set_product most_tags f) (sets_of most_tags rest))) → lists_are_short most_tags whole ≡ false
end_refused whole rest f done h long =
    clash (lists_are_short most_tags whole) (λ s.
    let few = whole_few whole s in
    let many = long (h.down s) in
    let grown = ap length h.sets ∙ length-append done (map (set_product most_tags f) (sets_of most_tags rest)) in
    absurd (omega arith))

pub sum_refused : (whole l r : Pat) (f : LinearSet) (done : List LinearSet) → IsAlong whole (Sum l r) f done → (lists_are_short most_tags l ≡ true → most_sets < length done + length (map (set_product most_tags f) (sets_of most_tags l))) → lists_are_short most_tags whole ≡ false
sum_refused whole l r f done h long =
    clash (lists_are_short most_tags whole) (λ s.
    let few = whole_few whole s in
    let parts = (and_parts (lists_are_short most_tags l) (lists_are_short most_tags r) (and_parts (lists_are_short most_tags l && lists_are_short most_tags r) (is_short (sets_of most_tags (Sum l r))) (h.down s)).0) in
    let many = long parts.0 in
    let grown = ap length h.sets ∙ length-append done (map (set_product most_tags f) (sets_of most_tags (Sum l r))) in
    let all = length-map (sets_of most_tags (Sum l r)) (set_product most_tags f) in
    let own = length-map (sets_of most_tags l) (set_product most_tags f) in
    let both = length-append (sets_of most_tags l) (sets_of most_tags r) in
    absurd (omega arith))

pub prod_refused : (whole l r : Pat) (f : LinearSet) (done : List LinearSet) → IsAlong whole (Prod l r) f done → lists_are_short most_tags l ≡ false → lists_are_short most_tags whole ≡ false
prod_refused whole l r f done h long =
    clash (lists_are_short most_tags whole) (λ s.
    let parts = (and_parts (lists_are_short most_tags l) (lists_are_short most_tags r) (and_parts (lists_are_short most_tags l && lists_are_short most_tags r) (is_short (sets_of most_tags (Prod l r))) (h.down s)).0) in
    cc)

-- ---- room for the factor with each set of a part

pub factor_fits : (e : Pat) (f : LinearSet) (sets : List LinearSet) → is_small e ≡ true → SetWithin (2 ^ 27) (2 ^ 27) f → (sets ≡ sets_of most_tags e) × (lists_are_short most_tags e ≡ true) → HasRoom f sets
factor_fits e f sets sm within is =
    (2 ^ 27, 2 ^ 27, 2 ^ 27, within, subst (SetsWithin (2 ^ 27) (2 ^ 27)) (sym is.0) (form_counts most_tags e sm is.1), omega arith)
