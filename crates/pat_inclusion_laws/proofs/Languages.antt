-- Sets of words: sums of a word of each, and finite sums of words of one.
use Rattle.std.proofs.Common.{◌≡◌, ℕ, zero, suc, inl, inr, ⊎_elim, refl, sym, ap, ◌∙◌, subst, arith, suc-mul, zero-mul}
use Rattle.pat_words_spec.specs.Words.{Word, no_word, plus}
use Rattle.pat_words_spec.specs.Patterns.{Language, Times}
use Rattle.pat_words_laws.proofs.WordLaws.{word_ext, plus_comm, plus_assoc, plus_none, none_plus}
use Rattle.pat_words_laws.proofs.FormLaws.{times_mono}
use Rattle.pat_words_spec.specs.Languages.{SumOf, StarOf, EitherOf}
use Rattle.pat_inclusion_spec.specs.Counts.{scaled}

-- each word of L is one of M
abbrev pub Into : Language → Language → Type 0
Into L M = (w : Word) → L w → M w

-- ---- sums of words

pub plus_four : (a b c d : Word) → plus (plus a b) (plus c d) ≡ plus (plus a c) (plus b d)
plus_four a b c d = word_ext (plus (plus a b) (plus c d)) (plus (plus a c) (plus b d)) (λ t. omega arith)

pub scaled_zero : (u : Word) → scaled 0 u ≡ no_word
scaled_zero u = word_ext (scaled 0 u) no_word (λ t. zero-mul (u t))

pub scaled_suc : (c : ℕ) (u : Word) → scaled (suc c) u ≡ plus u (scaled c u)
scaled_suc c u = word_ext (scaled (suc c) u) (plus u (scaled c u)) (λ t. let h = suc-mul c (u t) in omega arith)

-- ---- sums of two sets

pub sum_mono : (L M L' M' : Language) → Into L L' → Into M M' → Into (SumOf L M) (SumOf L' M')
sum_mono L M L' M' f g w h = (h.0, h.1, f h.0 h.2, g h.1 h.3, h.4)

pub sum_turned : (L M : Language) → Into (SumOf L M) (SumOf M L)
sum_turned L M w h = (h.1, h.0, h.3, h.2, h.4 ∙ plus_comm h.0 h.1)

pub sum_assoc_to : (L M N : Language) → Into (SumOf (SumOf L M) N) (SumOf L (SumOf M N))
sum_assoc_to L M N w h =
    let k = h.2 in
    (k.0, plus k.1 h.1, k.2, (k.1, h.1, k.3, h.3, refl), h.4 ∙ ap (λ (x : Word). plus x h.1) k.4 ∙ plus_assoc k.0 k.1 h.1)

pub sum_assoc_from : (L M N : Language) → Into (SumOf L (SumOf M N)) (SumOf (SumOf L M) N)
sum_assoc_from L M N w h =
    let k = h.3 in
    (plus h.0 k.0, k.1, (h.0, k.0, h.2, k.2, refl), k.3, h.4 ∙ ap (λ (x : Word). plus h.0 x) k.4 ∙ sym (plus_assoc h.0 k.0 k.1))

-- ---- finite sums

pub star_none : (L : Language) → StarOf L no_word
star_none L = (0, refl)

pub star_one : (L : Language) → Into L (StarOf L)
star_one L w h = (1, (w, no_word, h, refl, sym (plus_none w)))

star_more : (L : Language) (m : ℕ) (u v : Word) → Times m L u → StarOf L v → StarOf L (plus u v)
star_more L zero u v h s = subst (StarOf L) (sym (ap (λ (x : Word). plus x v) h ∙ none_plus v)) s
star_more L (suc m) u v h s =
    let r = star_more L m h.1 v h.3 s in
    (suc r.0, (h.0, plus h.1 v, h.2, r.1, ap (λ (x : Word). plus x v) h.4 ∙ plus_assoc h.0 h.1 v))

pub star_sum : (L : Language) (u v : Word) → StarOf L u → StarOf L v → StarOf L (plus u v)
star_sum L u v h s = star_more L h.0 u v h.1 s

pub star_mono : (L M : Language) → Into L M → Into (StarOf L) (StarOf M)
star_mono L M f w h = (h.0, times_mono L M f h.0 w h.1)

least_times : (L P : Language) → P no_word → ((u v : Word) → P u → P v → P (plus u v)) → Into L P → (n : ℕ) (w : Word) → Times n L w → P w
least_times L P none sum each zero w h = subst P (sym h) none
least_times L P none sum each (suc n) w h =
    subst P (sym h.4) (sum h.0 h.1 (each h.0 h.2) (least_times L P none sum each n h.1 h.3))

-- the finite sums are the least set with the words that has the empty word and all sums
pub star_least : (L P : Language) → P no_word → ((u v : Word) → P u → P v → P (plus u v)) → Into L P → Into (StarOf L) P
star_least L P none sum each w h = least_times L P none sum each h.0 w h.1

-- finite sums of finite sums are finite sums
pub star_flat : (L M : Language) → Into L (StarOf M) → Into (StarOf L) (StarOf M)
star_flat L M f = star_least L (StarOf M) (star_none M) (star_sum M) f

-- any number of times a word of the set
pub star_scaled : (L : Language) (c : ℕ) (p : Word) → StarOf L p → StarOf L (scaled c p)
star_scaled L zero p h = subst (StarOf L) (sym (scaled_zero p)) (star_none L)
star_scaled L (suc c) p h = subst (StarOf L) (sym (scaled_suc c p)) (star_sum L p (scaled c p) h (star_scaled L c p h))

-- a finite sum of words of either set is one of the first and one of the second together
pub star_either_to : (L M : Language) → Into (StarOf (EitherOf L M)) (SumOf (StarOf L) (StarOf M))
star_either_to L M =
    star_least (EitherOf L M) (SumOf (StarOf L) (StarOf M))
    (no_word, no_word, star_none L, star_none M, sym (plus_none no_word))
    (λ u v h k. (
      plus h.0 k.0,
      plus h.1 k.1,
      star_sum L h.0 k.0 h.2 k.2,
      star_sum M h.1 k.1 h.3 k.3,
      ap (λ (x : Word). plus x v) h.4 ∙ ap (λ (x : Word). plus (plus h.0 h.1) x) k.4 ∙ plus_four h.0 h.1 k.0 k.1,
    ))
    (λ w h. ⊎_elim
    (λ l. (w, no_word, star_one L w l, star_none M, sym (plus_none w)))
    (λ m. (no_word, w, star_none L, star_one M w m, sym (none_plus w)))
    h)

pub star_either_from : (L M : Language) → Into (SumOf (StarOf L) (StarOf M)) (StarOf (EitherOf L M))
star_either_from L M w h =
    subst (StarOf (EitherOf L M)) (sym h.4)
    (star_sum (EitherOf L M) h.0 h.1
    (star_mono L (EitherOf L M) (λ u k. inl k) h.0 h.2)
    (star_mono M (EitherOf L M) (λ u k. inr k) h.1 h.3))
