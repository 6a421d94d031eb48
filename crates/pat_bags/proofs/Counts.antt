-- Lists of 32 counts, seen as words.
use Rattle.std.proofs.Common.{◌≡◌, ◌≢◌, ℕ, ◌<◌, ◌≤◌, List, length, get_or, set, replicate, Bool, true, false, sym, ◌∙◌, arith, ⊎_elim, nat_eq, subst}
use Rattle.std.proofs.lemmas.List.{get_or_past, get_or-set_same, get_or-set_other, get_or-replicate, length-replicate}
use Rattle.std.proofs.lemmas.Bool.{cases_lt, cond_both, eqb-true, eq-eqb}
use Rattle.pat_words_spec.specs.Words.{Word, no_word, one, LiesIn}
use Rattle.pat_words_laws.proofs.WordLaws.{word_ext, count_eq}
use Rattle.pat_bags.specs.Views.{counted}

-- a list of zeros counts nothing
pub zeros : (n : ℕ) → counted (replicate n 0) ≡ no_word
zeros n = word_ext (counted (replicate n 0)) no_word (zero_at n)
  where
    zero_at : (n t : ℕ) → counted (replicate n 0) t ≡ 0
    zero_at n t =
        ⊎_elim (λ h. get_or-replicate n t 0 0 h)
        (λ h. get_or_past (replicate n 0) t 0 (subst (λ k. k ≤ t) (sym (length-replicate n 0)) h))
        (cases_lt t n)

-- a list of zeros with a 1 at the place of the tag counts one such message
pub one_at : (xs : List ℕ) (m : ℕ) → counted xs ≡ no_word → m < length xs → counted (set xs m 1) ≡ one m
one_at xs m none h = word_ext (counted (set xs m 1)) (one m) (λ t.
    cond_both (nat_eq t m) 1 0 (λ k. get_or (set xs m 1) t 0 ≡ k)
    (λ e. subst (λ x. get_or (set xs m 1) x 0 ≡ 1) (sym (eqb-true t m e)) (get_or-set_same xs m 1 0 h))
    (λ e. let other : t ≢ m = λ s. differ (nat_eq t m) (eq-eqb t m s) e in get_or-set_other xs m t 1 0 other ∙ count_eq (counted xs) no_word none t))
  where
    differ : (b : Bool) → b ≡ true → b ≡ false → ⊥
    differ b p q = cc

-- words that lie in one another are the same
pub same_lies : (u v : Word) → LiesIn u v → LiesIn v u → u ≡ v
same_lies u v a b = word_ext u v (λ t. let h = a t in let k = b t in omega arith)

-- a word lies in one that is the same
pub lies_same : (u v : Word) → u ≡ v → LiesIn u v
lies_same u v e t = let h = count_eq u v e t in omega arith
