-- The star of sets without periods.
use Rattle.std.proofs.Common.{◌≡◌, ℕ, zero, suc, ◌+◌, ◌<◌, true, false, ◌||◌, List, [], ◌∷◌, ◌++◌, length, map, get_or, drop, refl, sym, ap, ◌∙◌, subst, ⊎_elim, arith}
use Rattle.std.specs.Prelude.{◌&&◌, Result, Ok, Err, OnOk, if◌then◌else◌}
use Rattle.std.specs.List.{AllByRecursion}
use Rattle.std.proofs.lemmas.Bool.{cases_Bool}
use Rattle.pat_words_spec.specs.Words.{Word, no_word}
use Rattle.pat_bags.specs.Views.{word_of}
use Rattle.pat_inclusion_spec.specs.Counts.{is_empty_below, has_word}
use Rattle.pat_inclusion_spec.specs.LinearSets.{LinearSet, linear_set}
use Rattle.pat_inclusion_spec.specs.ClosedForms.{add_period, add_periods, only_empty, products, star_by, set_star, times_stars, is_short, stars_are_short}
use Rattle.pat_patterns.specs.declared.postfix_form.Head.TheVariants.{Star as StarHead}
use Rattle.pat_linear.specs.declared.set.LinearSet.{LinearSet as CodeSet}
use Rattle.pat_linear.specs.Views.{set_view, sets_view, forms_view}
use Rattle.pat_linear.specs.Flat.{top_of}
use Rattle.pat_linear.specs.Forms.{CanJoin, after, after_is_short}
use Rattle.pat_linear.specs.WordSets.{IsWord, base_of}
use Rattle.pat_linear.proofs.StarSteps.{drop_at}

-- all sets are words, if those from the place on are
abbrev pub AreWordsFrom : List CodeSet → ℕ → Type 0
AreWordsFrom sets i = AllByRecursion IsWord (drop i (sets_view sets)) → AllByRecursion IsWord (sets_view sets)

pub word_turn : (sets : List CodeSet) (i : ℕ) (set : CodeSet) → AreWordsFrom sets i → i < length sets → set ≡ get_or sets i set → IsWord (set_view set) → AreWordsFrom sets (i + 1)
word_turn sets i set inv below here word rest =
    let next : suc i ≡ i + 1 = omega arith in
    let others : AllByRecursion IsWord (drop (suc i) (sets_view sets)) = subst (λ j. AllByRecursion IsWord (drop j (sets_view sets))) (sym next) rest in
    inv (subst (AllByRecursion IsWord) (sym (drop_at sets i set below here)) (word, others))

-- ---- their star

code_here : (xs : List CodeSet) (i : ℕ) (d : CodeSet) → i < length xs → sets_view (drop i xs) ≡ set_view (get_or xs i d) ∷ sets_view (drop (suc i) xs)
code_here [] i d l = absurd (omega arith)
code_here (x ∷ xs) zero d l = refl
code_here (x ∷ xs) (suc i) d l = code_here xs i d (omega arith)

-- the word of a further set has been added to the periods
pub word_added : (n : ℕ) (whole now next : List Word) (sets : List CodeSet) (i : ℕ) (set : CodeSet) → i < length sets → set ≡ get_or sets i set → next ≡ add_period n now (word_of set.base) → add_periods n now (map base_of (sets_view (drop i sets))) ≡ whole → add_periods n next (map base_of (sets_view (drop (i + 1) sets))) ≡ whole
word_added n whole now next sets i set below here is inv =
    let place : suc i ≡ i + 1 = omega arith in
    let rest : List LinearSet = sets_view (drop (suc i) sets) in
    let at : sets_view (drop i sets) ≡ set_view set ∷ rest = subst (λ x. sets_view (drop i sets) ≡ set_view x ∷ rest) (sym here) (code_here sets i set below) in
    subst (λ j. add_periods n next (map base_of (sets_view (drop j sets))) ≡ whole) place
    (ap (λ ps. add_periods n ps (map base_of rest)) is ∙ sym (ap (λ ss. add_periods n now (map base_of ss)) at) ∙ inv)

once : (n : ℕ) (ps : List Word) (w : Word) → add_periods n ps (add_period n [] w) ≡ add_period n ps w
once n ps w =
    ⊎_elim
    (λ (empty : is_empty_below n w ≡ true).
    ap (λ b. add_periods n ps (if b || false then [] else w ∷ [])) empty
    ∙ sym (ap (λ b. if b || has_word n ps w then ps else ps ++ w ∷ []) empty))
    (λ (some : is_empty_below n w ≡ false). ap (λ b. add_periods n ps (if b || false then [] else w ∷ [])) some)
    (cases_Bool (is_empty_below n w))

module _ (n : ℕ) where
  -- the product of such a star with that of a further word
  next_star : (ps : List Word) (s : LinearSet) → IsWord s → products n (linear_set no_word ps ∷ []) (set_star n s) ≡ linear_set no_word (add_period n ps s.base) ∷ []
  next_star ps s word =
      ap (λ qs. products n (linear_set no_word ps ∷ []) (star_by n s.base qs)) word
      ∙ ap (λ qs. linear_set no_word qs ∷ []) (once n ps s.base)

  words_star : (ps : List Word) (ss : List LinearSet) → AllByRecursion IsWord ss → times_stars n (linear_set no_word ps ∷ []) ss ≡ linear_set no_word (add_periods n ps (map base_of ss)) ∷ []
  words_star ps [] h = refl
  words_star ps (s ∷ ss) h =
      ap (λ next. times_stars n next ss) (next_star ps s h.0) ∙ words_star (add_period n ps s.base) ss h.1

  words_short : (ps : List Word) (ss : List LinearSet) → AllByRecursion IsWord ss → stars_are_short n (linear_set no_word ps ∷ []) ss ≡ true
  words_short ps [] h = refl
  words_short ps (s ∷ ss) h =
      ap (λ next. is_short next && stars_are_short n next ss) (next_star ps s h.0) ∙ words_short (add_period n ps s.base) ss h.1

-- the sets on top are gone, and their star stands in their place
pub repeated : {E : Type 0} (r : Result Unit E) (n : ℕ) (old middle new : List (List CodeSet)) (top : List CodeSet) (star : CodeSet) → AllByRecursion IsWord (sets_view (top_of old)) → top ≡ top_of old → middle ≡ [] ∷ drop 1 old → set_view star ≡ linear_set no_word (add_periods n [] (map base_of (sets_view top))) → OnOk r (new ≡ (top_of middle ++ star ∷ []) ∷ drop 1 middle) → OnOk r (forms_view new ≡ times_stars n (only_empty ∷ []) (sets_view (top_of old)) ∷ forms_view (drop 1 old))
repeated (Err e) n old middle new top star words there gone is put = tt
repeated (Ok u) n old middle new top star words there gone is put =
    let now : new ≡ (star ∷ []) ∷ drop 1 old = put ∙ ap (λ ls. (top_of ls ++ star ∷ []) ∷ drop 1 ls) gone in
    ap forms_view now
    ∙ ap (λ s. (s ∷ []) ∷ forms_view (drop 1 old)) is
    ∙ ap (λ sets. (linear_set no_word (add_periods n [] (map base_of (sets_view sets))) ∷ []) ∷ forms_view (drop 1 old)) there
    ∙ ap (λ l. l ∷ forms_view (drop 1 old)) (sym (words_star n [] (sets_view (top_of old)) words))

-- the star of the sets on top has been joined
pub words_joined : (n : ℕ) (old new : List (List CodeSet)) → CanJoin n StarHead (forms_view old) → AllByRecursion IsWord (sets_view (top_of old)) → forms_view new ≡ times_stars n (only_empty ∷ []) (sets_view (top_of old)) ∷ forms_view (drop 1 old) → (forms_view new ≡ after n StarHead (forms_view old)) × (after_is_short n StarHead (forms_view old) ≡ true)
words_joined n [] new can words is = absurd can
words_joined n (a ∷ old) new can words is = (is, words_short n [] (sets_view a) words)
