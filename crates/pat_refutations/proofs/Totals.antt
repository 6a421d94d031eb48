-- How many messages a word has with the first tags.
use Rattle.std.proofs.Common.{◌≡◌, ℕ, zero, suc, ◌+◌, ◌-◌, ◌<◌, ◌≤◌, arith, ⊎_elim, subst, sym, ap, List, length}
use Rattle.std.proofs.lemmas.List.{get_or_past}
use Rattle.pat_bags.specs.Views.{counted}
use Rattle.std.proofs.lemmas.Bool.{cases_lt}
use Rattle.pat_words_spec.specs.Words.{Word, no_word, plus, LiesIn}
use Rattle.pat_words_laws.proofs.WordLaws.{word_ext}

-- the messages with the first n tags
abbrev pub total : ℕ → Word → ℕ
total zero w = 0
total (suc n) w = w n + total n w

pub total_plus : (n : ℕ) (u v : Word) → total n (plus u v) ≡ total n u + total n v
total_plus zero u v = omega arith
total_plus (suc n) u v = let h = total_plus n u v in omega arith

pub total_lies : (n : ℕ) (u v : Word) → LiesIn u v → total n u ≤ total n v
total_lies zero u v h = omega arith
total_lies (suc n) u v h = let k = total_lies n u v h in let l = h n in omega arith

pub total_none : (n : ℕ) (u : Word) → total n u ≡ 0 → (t : ℕ) → t < n → u t ≡ 0
total_none zero u h t lt = absurd (omega arith)
total_none (suc n) u h t lt =
    ⊎_elim (λ below. total_none n u (omega arith) t below) (λ at. let same : t ≡ n = omega arith in subst (λ x. u x ≡ 0) (sym same) (omega arith)) (cases_lt t n)

-- a list of counts that has none
pub total_empty : (counts : List ℕ) → total (length counts) (counted counts) ≡ 0 → counted counts ≡ no_word
total_empty counts h = word_ext (counted counts) no_word (λ t.
    ⊎_elim (λ below. total_none (length counts) (counted counts) h t below) (λ past. get_or_past counts t 0 past) (cases_lt t (length counts)))

-- one step more brings a word nearer to its limit
pub nearer : (counts : List ℕ) (limit u s : Word) → (counted counts ≡ no_word → ⊥) → s ≡ plus u (counted counts) → LiesIn s limit → total (length counts) limit - total (length counts) s < total (length counts) limit - total (length counts) u
nearer counts limit u s some e lies =
    let n = length counts in
    let both = ap (total n) e in
    let parts = total_plus n u (counted counts) in
    let below = total_lies n s limit lies in
    ⊎_elim (λ h. omega arith) (λ none. absurd (some (total_empty counts (omega arith)))) (cases_lt 0 (total n (counted counts)))
