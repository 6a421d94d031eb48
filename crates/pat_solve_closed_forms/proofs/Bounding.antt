-- Bounds of the sets of a pattern by bounds of those of its parts.
use Rattle.std.proofs.Common.{◌≡◌, ℕ, ◌+◌, ◌*◌, ◌-◌, ◌^◌, ◌≤◌, min, Bool, true, false, ◌&&◌, List, [], ◌∷◌, ◌++◌, length, map, Some, None, length-append, zero-mul, suc-mul, refl, sym, ap, ap₂, ◌∙◌, ⊎_elim, subst, arith}
use Rattle.std.specs.Prelude.{is_some}
use Rattle.std.specs.List.{AllByRecursion}
use Rattle.std.proofs.lemmas.Bool.{and_parts, and_from, cases_Bool, cond-true, le-leb}
use Rattle.std.proofs.lemmas.Nat.{mul-le}
use Rattle.std.proofs.lemmas.List.{length-map}
use Rattle.pat_words_spec.specs.Patterns.{Pat, Zero, One, Tag, Sum, Prod, Star}
use Rattle.pat_words_spec.specs.Words.{no_word}
use Rattle.pat_inclusion_spec.specs.Counts.{most_tags}
use Rattle.pat_inclusion_spec.specs.LinearSets.{LinearSet, linear_set}
use Rattle.pat_inclusion_spec.specs.ClosedForms.{add_period, add_periods, only_empty, set_product, products, star_by, set_star, times_stars, sets_of, is_short, is_small, stars_are_short, lists_are_short, closed_form}
use Rattle.pat_linear.specs.WordSets.{IsWord}
use Rattle.pat_solve_bounded.specs.Limits.{within}
use Rattle.pat_solve_elimination.proofs.Forms.{part_is}
use Rattle.pat_limits.specs.Limits.{most_sets}
use Rattle.pat_solve_closed_forms.specs.declared.bounds.SetBound.{SetBound}
use Rattle.pat_solve_closed_forms.specs.Bounds.{IsBound, Adds, SameAdds}
use Rattle.pat_solve_closed_forms.specs.declared.same.Comparison.TheVariants.{SameWithForm}
use Rattle.pat_solve_closed_forms.specs.Comparisons.{ComparesParts}

-- ---- words

all_words : (xs ys : List LinearSet) → AllByRecursion IsWord xs → AllByRecursion IsWord ys → AllByRecursion IsWord (xs ++ ys)
all_words [] ys a b = b
all_words (x ∷ xs) ys a b = (a.0, all_words xs ys a.1 b)

word_by_words : (n : ℕ) (a : LinearSet) (bs : List LinearSet) → IsWord a → AllByRecursion IsWord bs → AllByRecursion IsWord (map (set_product n a) bs)
word_by_words n a [] own h = tt
word_by_words n a (b ∷ bs) own h = (ap₂ (add_periods n) own h.0, word_by_words n a bs own h.1)

products_words : (n : ℕ) (xs ys : List LinearSet) → AllByRecursion IsWord xs → AllByRecursion IsWord ys → AllByRecursion IsWord (products n xs ys)
products_words n [] ys a b = tt
products_words n (x ∷ xs) ys a b =
    all_words (map (set_product n x) ys) (products n xs ys) (word_by_words n x ys a.0 b) (products_words n xs ys a.1 b)

-- ---- how many

products_length : (n : ℕ) (xs ys : List LinearSet) → length (products n xs ys) ≡ length xs * length ys
products_length n [] ys = sym (zero-mul (length ys))
products_length n (x ∷ xs) ys =
    let rest = products_length n xs ys in
    let row = length-map ys (set_product n x) in
    let both = length-append (map (set_product n x) ys) (products n xs ys) in
    let times = suc-mul (length xs) (length ys) in
    omega arith

-- ---- the star of words is a single set

record IsOne (made ss : List LinearSet) (n : ℕ) : Type 0 where
  one : length (times_stars n made ss) ≡ 1
  short : stars_are_short n made ss ≡ true

one_star : (n : ℕ) (ss : List LinearSet) → AllByRecursion IsWord ss → (made : LinearSet) → IsOne (made ∷ []) ss n
one_star n [] h made = record { one = refl; short = refl }
one_star n (s ∷ ss) h made =
    let next : products n (made ∷ []) (set_star n s) ≡ products n (made ∷ []) (star_by n s.base []) = ap (λ ps. products n (made ∷ []) (star_by n s.base ps)) h.0 in
    let rest = one_star n ss h.1 (set_product n made (linear_set no_word (add_period n [] s.base))) in
    record {
      one = ap (λ m. length (times_stars n m ss)) next ∙ rest.one;
      short = ap (λ m. is_short m && stars_are_short n m ss) next ∙ rest.short;
    }

-- ---- bounds of wholes

module _ (a b c : SetBound) (e f : Pat) (left : IsBound a e) (right : IsBound b f) where
  both_words : (c.are_words ≡ (a.are_words && b.are_words)) → c.are_words ≡ true → AllByRecursion IsWord (sets_of most_tags e) × AllByRecursion IsWord (sets_of most_tags f)
  both_words is own =
      let both = and_parts a.are_words b.are_words (sym is ∙ own) in (left.words both.0, right.words both.1)

  pub sum_bound : c.sets ≡ min (a.sets + b.sets) (2 ^ 64 - 1) → c.sets ≤ most_sets → c.are_words ≡ (a.are_words && b.are_words) → IsBound c (Sum e f)
  sum_bound sets few words =
      let own = length-append (sets_of most_tags e) (sets_of most_tags f) in
      let first = left.few in
      let second = right.few in
      let in_all : length (sets_of most_tags (Sum e f)) ≤ c.sets = omega arith in
      record {
        few = in_all;
        within = few;
        short =
            and_from (lists_are_short most_tags e && lists_are_short most_tags f) (is_short (sets_of most_tags (Sum e f)))
            (and_from (lists_are_short most_tags e) (lists_are_short most_tags f) left.short right.short)
            (le-leb (length (sets_of most_tags (Sum e f))) most_sets (omega arith));
        words = λ own. let both = both_words words own in all_words (sets_of most_tags e) (sets_of most_tags f) both.0 both.1;
      }

  pub product_bound : c.sets ≡ min (a.sets * b.sets) (2 ^ 64 - 1) → c.sets ≤ most_sets → c.are_words ≡ (a.are_words && b.are_words) → IsBound c (Prod e f)
  product_bound sets few words =
      let own = products_length most_tags (sets_of most_tags e) (sets_of most_tags f) in
      let most = mul-le (length (sets_of most_tags e)) (length (sets_of most_tags f)) a.sets b.sets left.few right.few in
      let in_all : length (sets_of most_tags (Prod e f)) ≤ c.sets = omega arith in
      record {
        few = in_all;
        within = few;
        short =
            and_from (lists_are_short most_tags e && lists_are_short most_tags f) (is_short (sets_of most_tags (Prod e f)))
            (and_from (lists_are_short most_tags e) (lists_are_short most_tags f) left.short right.short)
            (le-leb (length (sets_of most_tags (Prod e f))) most_sets (omega arith));
        words = λ own. let both = both_words words own in products_words most_tags (sets_of most_tags e) (sets_of most_tags f) both.0 both.1;
      }

pub star_bound : (a c : SetBound) (e : Pat) → IsBound a e → a.are_words ≡ true → c.sets ≡ 1 → c.are_words ≡ false → IsBound c (Star e)
star_bound a c e part words sets not =
    let star = one_star most_tags (sets_of most_tags e) (part.words words) only_empty in
    let one = star.one in
    record {
      few = omega arith;
      within = omega arith;
      short = and_from (lists_are_short most_tags e) (stars_are_short most_tags (only_empty ∷ []) (sets_of most_tags e)) part.short star.short;
      words = λ own. let clash : false ≡ true = sym not ∙ own in cc;
    }

-- ---- patterns without parts

pub zero_bound : (c : SetBound) → c.sets ≡ 0 → IsBound c Zero
zero_bound c h = record { few = omega arith; within = omega arith; short = refl; words = λ _. tt }

pub one_bound : (c : SetBound) → c.sets ≡ 1 → IsBound c One
one_bound c h = record { few = omega arith; within = omega arith; short = refl; words = λ _. (refl, tt) }

pub tag_bound : (c : SetBound) (m : ℕ) → c.sets ≡ 1 → IsBound c (Tag m)
tag_bound c m h = record { few = omega arith; within = omega arith; short = refl; words = λ _. (refl, tt) }

-- ---- a pattern that isn't too large has a closed form if the lists on the way to it are short

small_if : (e x : Pat) → Some x ≡ within e → is_small e ≡ true
small_if e x h =
    ⊎_elim (λ (s : is_small e ≡ true). s) (λ (l : is_small e ≡ false). absurd (clash (h ∙ (rw l refl)))) (cases_Bool (is_small e))
  where
    clash : Some x ≡ None → ⊥
    clash p = cc

pub short_form : (n : ℕ) (e x : Pat) → Some x ≡ within e → lists_are_short n x ≡ true → is_some (closed_form n e) ≡ true
short_form n e x h short =
    let own : lists_are_short n e ≡ true = subst (λ y. lists_are_short n y ≡ true) (part_is e x h) short in
    ap is_some (cond-true (is_small e && lists_are_short n e) (Some (sets_of n e)) None (and_from (is_small e) (lists_are_short n e) (small_if e x h) own))

-- ---- bounds added

pub added : (before own after : SetBound) (e : Pat) → after.sets ≡ min (before.sets + own.sets) (2 ^ 64 - 1) → after.are_words ≡ (before.are_words && own.are_words) → after.sets ≤ most_sets → (own.sets ≤ most_sets → IsBound own e) → Adds before after e
added before own after e sets words few h = record {
  own = own;
  bound = h (omega arith);
  sets = omega arith;
  words = words;
  within = few;
}

and_on : (a b c : Bool) → ((a && b) && c) ≡ (a && (b && c))
and_on true b c = refl
and_on false b c = refl

pub adds_sum : (a b c : SetBound) (e f : Pat) → Adds a b e → Adds b c f → Adds a c (Sum e f)
adds_sum a b c e f h k =
    let own : SetBound = record { sets = h.own.sets + k.own.sets; are_words = h.own.are_words && k.own.are_words } in
    let first = h.sets in
    let second = k.sets in
    let few = k.within in
    record {
      own = own;
      bound = sum_bound h.own k.own own e f h.bound k.bound (omega arith) (omega arith) refl;
      sets = omega arith;
      words = k.words ∙ ap (λ x. x && k.own.are_words) h.words ∙ and_on a.are_words h.own.are_words k.own.are_words;
      within = few;
    }

-- what is added to none is a bound
pub from_none : (before after : SetBound) (e : Pat) → before.sets ≡ 0 → before.are_words ≡ true → Adds before after e → IsBound after e
from_none before after e none words h =
    let sets = h.sets in
    let few = h.bound.few in
    record {
      few = omega arith;
      within = h.within;
      short = h.bound.short;
      words = λ own. h.bound.words (sym (h.words ∙ ap (λ x. x && h.own.are_words) words) ∙ own);
    }

-- ---- patterns that are the same

-- of no pattern
abbrev none : SetBound
none = record { sets = 0; are_words = true }

pub same_sum : (a b c : SetBound) (e f l r k m : Pat) → Sum l r ≡ e → Sum k m ≡ f → SameAdds a b l k → SameAdds b c r m → SameAdds a c e f
same_sum a b c e f l r k m left right first second =
    (sym left ∙ ap₂ Sum first.0 second.0 ∙ right, subst (Adds a c) right (adds_sum a b c k m first.1 second.1))

pub same_product : (before after a b own : SetBound) (e f l r k m : Pat) → Prod l r ≡ e → Prod k m ≡ f → SameAdds none a l k → SameAdds none b r m → own.sets ≡ min (a.sets * b.sets) (2 ^ 64 - 1) → own.are_words ≡ (a.are_words && b.are_words) → ((own.sets ≤ most_sets → IsBound own (Prod k m)) → Adds before after (Prod k m)) → SameAdds before after e f
same_product before after a b own e f l r k m left right first second sets words added =
    let bound = λ (few : own.sets ≤ most_sets). product_bound a b own k m (from_none none a k refl refl first.1) (from_none none b m refl refl second.1) sets few words in
    (sym left ∙ ap₂ Prod first.0 second.0 ∙ right, subst (Adds before after) right (added bound))

-- a tag before it changes nothing
abbrev word : SetBound
word = record { sets = 1; are_words = true }

pub same_after_tag : (before after : SetBound) (e f l r k m : Pat) (t : ℕ) → Prod l r ≡ e → Prod k m ≡ f → l ≡ Tag t → k ≡ Tag t → SameAdds before after r m → SameAdds before after e f
same_after_tag before after e f l r k m t left right first second rest = (
  sym left ∙ ap₂ Prod (first ∙ sym second) rest.0 ∙ right,
  subst (Adds before after) (ap (λ x. Prod x m) (sym second) ∙ right) (behind rest.1),
)
  where
    behind : Adds before after m → Adds before after (Prod (Tag t) m)
    behind h =
        let few = h.bound.within in
        record {
          own = h.own;
          bound = product_bound word h.own h.own (Tag t) m (tag_bound word t refl) h.bound (omega arith) few refl;
          sets = h.sets;
          words = h.words;
          within = h.within;
        }

pub same_star : (before after a own : SetBound) (e f p q : Pat) → Star p ≡ e → Star q ≡ f → SameAdds none a p q → a.are_words ≡ true → own.sets ≡ 1 → own.are_words ≡ false → ((own.sets ≤ most_sets → IsBound own (Star q)) → Adds before after (Star q)) → SameAdds before after e f
same_star before after a own e f p q left right part words one periods added =
    let bound = λ (few : own.sets ≤ most_sets). star_bound a own q (from_none none a q refl refl part.1) words one periods in
    (sym left ∙ ap Star part.0 ∙ right, subst (Adds before after) right (added bound))

pub same_few : (after : SetBound) (e f : Pat) → SameAdds none after e f → ComparesParts e f SameWithForm
same_few after e f h = (h.0, h.1.bound.short)
