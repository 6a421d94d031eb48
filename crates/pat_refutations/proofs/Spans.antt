-- Sums of multiples of the words of a list, one word after another.
use Rattle.std.proofs.Common.{◌≡◌, ℕ, zero, suc, ◌≤◌, List, [], ◌∷◌, ◌++◌, length, drop, inl, inr, ⊎_elim, refl, sym, ap, ◌∙◌, subst, arith}
use Rattle.std.proofs.Math.ListN.{drop_of_length-le}
use Rattle.pat_words_spec.specs.Words.{Word, no_word, plus, LiesIn}
use Rattle.pat_words_spec.specs.Patterns.{Language, Times, Pat, Star, In}
use Rattle.pat_words_laws.proofs.WordLaws.{count_eq, plus_assoc, none_plus, plus_swap}
use Rattle.pat_words_laws.proofs.FormLaws.{times_mono}
use Rattle.pat_bags.specs.declared.Bag.{Bag}
use Rattle.pat_bags.specs.Views.{word_of}
use Rattle.pat_refutations.specs.membership.Listings.{HasWord, Only, Within, multiple, Reached, ListsWords, PutsWords, JoinsOne}
use Rattle.pat_words_spec.specs.Languages.{StarOf}
use Rattle.pat_refutations.proofs.Rests.{Same}

-- w is a word of the set and a multiple of each bag's word
abbrev pub Spanned : Language → List Bag → Word → Type 0
Spanned L [] w = L w
Spanned L (b ∷ bs) w = (n : ℕ) × (v : Word) × Spanned L bs v × (w ≡ plus (multiple n (word_of b)) v)

pub span_mono : (L M : Language) → ((w : Word) → L w → M w) → (bs : List Bag) (w : Word) → Spanned L bs w → Spanned M bs w
span_mono L M into [] w h = into w h
span_mono L M into (b ∷ bs) w h = (h.0, h.1, span_mono L M into bs h.1 h.2, h.3)

-- the first bag's steps may be taken before the others
pub span_step : (L : Language) (b : Bag) (bs : List Bag) (w : Word) → Spanned L (b ∷ bs) w → Spanned (Reached L (word_of b)) bs w
span_step L b [] w h = h
span_step L b (c ∷ cs) w h =
    let r = h.2 in
    let rest : Word = plus (multiple h.0 (word_of b)) r.1 in
    (r.0, rest, span_step L b cs rest (h.0, r.1, r.2, refl), h.3 ∙ ap (λ (x : Word). plus (multiple h.0 (word_of b)) x) r.3 ∙ plus_swap (multiple h.0 (word_of b)) (multiple r.0 (word_of c)) r.1)

pub step_span : (L : Language) (b : Bag) (bs : List Bag) (w : Word) → Spanned (Reached L (word_of b)) bs w → Spanned L (b ∷ bs) w
step_span L b [] w h = h
step_span L b (c ∷ cs) w h =
    let r = step_span L b cs h.1 h.2 in
    (r.0, plus (multiple h.0 (word_of c)) r.1, (h.0, r.1, r.2, refl), h.3 ∙ ap (λ (x : Word). plus (multiple h.0 (word_of c)) x) r.3 ∙ plus_swap (multiple h.0 (word_of c)) (multiple r.0 (word_of b)) r.1)

-- the words that a word is made of lie in what it lies in
pub span_within : (limit : Word) (L : Language) (bs : List Bag) (w : Word) → LiesIn w limit → Spanned L bs w → Spanned (Within limit L) bs w
span_within limit L [] w lies h = (lies, h)
span_within limit L (b ∷ bs) w lies h =
    (h.0, h.1, span_within limit L bs h.1 (λ t. let l = lies t in let e = count_eq w (plus (multiple h.0 (word_of b)) h.1) h.3 t in omega arith) h.2, h.3)

multiple_none : (n : ℕ) (u : Word) → u ≡ no_word → multiple n u ≡ no_word
multiple_none zero u e = refl
multiple_none (suc n) u e = ap (λ (x : Word). plus x (multiple n u)) e ∙ none_plus (multiple n u) ∙ multiple_none n u e

-- one turn with a step that isn't empty
pub turn_step : (limit : Word) (words words' : List Bag) (b : Bag) (bs : List Bag) (T : Language) → Same (Within limit (Spanned (HasWord words) (b ∷ bs))) T → Same (HasWord words') (Within limit (Reached (HasWord words) (word_of b))) → Same (Within limit (Spanned (HasWord words') bs)) T
turn_step limit words words' b bs T inv new w = (
  λ h. (inv w).0 (h.0, step_span (HasWord words) b bs w (span_mono (HasWord words') (Reached (HasWord words) (word_of b)) (λ x k. ((new x).0 k).1) bs w h.1)),
  λ t. let h = (inv w).1 t in (
    h.0,
    span_mono (Within limit (Reached (HasWord words) (word_of b))) (HasWord words') (λ x. (new x).1) bs w
        (span_within limit (Reached (HasWord words) (word_of b)) bs w h.0 (span_step (HasWord words) b bs w h.1)),
  ),
)

-- one turn with an empty step
pub turn_empty : (limit : Word) (words : List Bag) (b : Bag) (bs : List Bag) (T : Language) → word_of b ≡ no_word → Same (Within limit (Spanned (HasWord words) (b ∷ bs))) T → Same (Within limit (Spanned (HasWord words) bs)) T
turn_empty limit words b bs T none inv w = (
  λ h. (inv w).0 (h.0, (0, w, h.1, sym (none_plus w))),
  λ t. let h = (inv w).1 t in
      let s = h.1 in
      let same : w ≡ s.1 = s.3 ∙ ap (λ (x : Word). plus x s.1) (multiple_none s.0 (word_of b) none) ∙ none_plus s.1 in
      (h.0, subst (Spanned (HasWord words) bs) (sym same) s.2),
)

more_times : (L : Language) (u : Word) → L u → (k n : ℕ) (w : Word) → Times n L w → StarOf L (plus (multiple k u) w)
more_times L u h zero n w t = (n, subst (Times n L) (sym (none_plus w)) t)
more_times L u h (suc k) n w t =
    let r = more_times L u h k n w t in (suc r.0, (u, plus (multiple k u) w, h, r.1, plus_assoc u (multiple k u) w))

-- sums of multiples are finite sums
pub span_sum : (bs : List Bag) (w : Word) → Spanned (Only no_word) bs w → StarOf (HasWord bs) w
span_sum [] w h = (0, sym h)
span_sum (b ∷ bs) w h =
    let r = span_sum bs h.1 h.2 in
    subst (StarOf (HasWord (b ∷ bs))) (sym h.3)
    (more_times (HasWord (b ∷ bs)) (word_of b) (inl refl) h.0 r.0 h.1
    (times_mono (HasWord bs) (HasWord (b ∷ bs)) (λ x k. inr k) r.0 h.1 r.1))

span_none : (bs : List Bag) → Spanned (Only no_word) bs no_word
span_none [] = refl
span_none (b ∷ bs) = (0, no_word, span_none bs, sym (none_plus no_word))

span_add : (L : Language) (bs : List Bag) (u v : Word) → HasWord bs u → Spanned L bs v → Spanned L bs (plus u v)
span_add L [] u v h s = absurd h
span_add L (b ∷ bs) u v h s =
    ⊎_elim
    (λ e. (suc s.0, s.1, s.2, ap (λ (x : Word). plus u x) s.3 ∙ ap (λ (x : Word). plus x (plus (multiple s.0 (word_of b)) s.1)) (sym e) ∙ sym (plus_assoc (word_of b) (multiple s.0 (word_of b)) s.1)))
    (λ k. (s.0, plus u s.1, span_add L bs u s.1 k s.2, ap (λ (x : Word). plus u x) s.3 ∙ plus_swap u (multiple s.0 (word_of b)) s.1))
    h

sum_times : (bs : List Bag) (n : ℕ) (w : Word) → Times n (HasWord bs) w → Spanned (Only no_word) bs w
sum_times bs zero w h = subst (Spanned (Only no_word) bs) (sym h) (span_none bs)
sum_times bs (suc n) w h =
    subst (Spanned (Only no_word) bs) (sym h.4) (span_add (Only no_word) bs h.0 h.1 h.2 (sum_times bs n h.1 h.3))

-- before the first turn
pub span_begun : (limit : Word) (words bs : List Bag) → Same (HasWord words) (Only no_word) → Same (Within limit (Spanned (HasWord words) bs)) (Within limit (StarOf (HasWord bs)))
span_begun limit words bs first w = (
  λ h. (h.0, span_sum bs w (span_mono (HasWord words) (Only no_word) (λ x. (first x).0) bs w h.1)),
  λ h. (h.0, span_mono (Only no_word) (HasWord words) (λ x. (first x).1) bs w (sum_times bs h.1.0 w h.1.1)),
)

-- ---- lists of the words of a pattern

times_inside : (limit : Word) (e : Pat) (part : List Bag) → ListsWords part e limit → (n : ℕ) (w : Word) → LiesIn w limit → Times n (In e) w → Times n (HasWord part) w
times_inside limit e part l zero w lies h = h
times_inside limit e part l (suc n) w lies h = (
  h.0,
  h.1,
  (l h.0).1 (λ t. let k = lies t in let q = count_eq w (plus h.0 h.1) h.4 t in omega arith, h.2),
  times_inside limit e part l n h.1 (λ t. let k = lies t in let q = count_eq w (plus h.0 h.1) h.4 t in omega arith) h.3,
  h.4,
)

pub lists_star : (e : Pat) (limit : Word) (part words : List Bag) → ListsWords part e limit → Same (HasWord words) (Within limit (StarOf (HasWord part))) → ListsWords words (Star e) limit
lists_star e limit part words l all w = (
  λ h. let p = (all w).0 h in
      (p.0, (p.1.0, times_mono (HasWord part) (In e) (λ x k. ((l x).0 k).1) p.1.0 w p.1.1)),
  λ h. (all w).1 (h.0, (h.1.0, times_inside limit e part l h.1.0 w h.0 h.1.1)),
)

-- ---- lists on a stack

pub puts_star : (e : Pat) (limit : Word) (old d1 new : List (List Bag)) → PutsWords old d1 e limit → JoinsOne (λ L. Within limit (StarOf L)) d1 new → PutsWords old new (Star e) limit
puts_star e limit old d1 new a j =
    let k = subst (λ d. JoinsOne (λ L. Within limit (StarOf L)) d new) a.1 j in
    (k.0, k.1, lists_star e limit a.0 k.0 a.2 k.2)

-- ---- the beginning and the end of the loop over the steps

-- a list of the empty bag has just the empty word
pub single : (words before : List Bag) (b : Bag) → before ≡ [] → words ≡ before ++ b ∷ [] → word_of b ≡ no_word → Same (HasWord words) (Only no_word)
single words before b none e empty =
    subst (λ l. Same (HasWord l) (Only no_word)) (sym (e ∙ ap (λ (l : List Bag). l ++ b ∷ []) none))
    (λ w. (⊎_elim (λ h. sym empty ∙ h) (λ h. absurd h), λ h. inl (empty ∙ h)))

pub none_lies : (w limit : Word) → no_word ≡ w → LiesIn w limit
none_lies w limit e t = let h = count_eq no_word w e t in omega arith

-- no step is left
pub spans_left : (limit : Word) (words steps : List Bag) (i : ℕ) (T : Language) → length steps ≤ i → ((w : Word) → HasWord words w → LiesIn w limit) → Same (Within limit (Spanned (HasWord words) (drop i steps))) T → Same (HasWord words) T
spans_left limit words steps i T past lies inv w =
    let here = subst (λ l. Same (Within limit (Spanned (HasWord words) l)) T) (drop_of_length-le steps past) inv in
    (λ h. (here w).0 (lies w h, h), λ t. ((here w).1 t).1)
