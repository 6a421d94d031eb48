-- A step takes a byte, so as many steps as bytes are enough.
use Rattle.std.proofs.Common.{◌≡◌, ℕ, zero, suc, ◌<◌, ◌≤◌, ◌==◌, Bool, true, false, List, [], ◌∷◌, length, drop, take, refl, sym, ap, ◌∙◌, subst, arith, if◌then◌else◌}
use Rattle.std.specs.Prelude.{Option, Some, None, option_map, option_and_then, bytes_eq}
use Rattle.std.proofs.lemmas.Bool.{cond_both}
use Rattle.std.proofs.lemmas.List.{length-drop}
use Rattle.pat_derivation_text_spec.specs.patterns.PatternText.{is_mark}
use Rattle.pat_derivation_text_spec.specs.patterns.PatternReading.{Stage, beside, word_front, word_rest, with_op, with_word, with_sum, with_bracket, Opens, Stars, Prods, want, have, step, at_end, run}
use Rattle.pat_texts_spec.specs.Fronts.{behind}

-- what is left beside a stage
beside_is : (bs : List ℕ) (o : Option Stage) (n : Stage × List ℕ) → beside bs o ≡ Some n → n.1 ≡ bs
beside_is bs None n e = absurd cc
beside_is bs (Some s) n e = let same : (s, bs) ≡ n = cc in sym (ap (λ p. p.1) same)

abbrev Shrinks : ℕ → Option (Stage × List ℕ) → Type 0
Shrinks k o = (n : Stage × List ℕ) → o ≡ Some n → length n.1 < k

beside_shrinks : (bs : List ℕ) (o : Option Stage) (k : ℕ) → length bs < k → Shrinks k (beside bs o)
beside_shrinks bs o k l n e = omega (arith, l, ap length (beside_is bs o n e))

word_rest_le : (bs : List ℕ) → length (word_rest bs) ≤ length bs
word_rest_le [] = omega arith
word_rest_le (b ∷ bs) = cond_both (is_mark b) (b ∷ bs) (word_rest bs) (λ r. length r ≤ suc (length bs)) (λ _. omega arith) (λ _. omega (arith, word_rest_le bs))

-- a word that is read has a byte
word_shrinks : (names : List (List ℕ)) (s : Stage) (b : ℕ) (bs : List ℕ) (t : Bool) → Shrinks (suc (length bs)) (beside (if t then b ∷ bs else word_rest bs) (with_word names s (if t then [] else b ∷ word_front bs)))
word_shrinks names s b bs true n e = absurd cc
word_shrinks names s b bs false n e = beside_shrinks (word_rest bs) (with_word names s (b ∷ word_front bs)) (suc (length bs)) (omega (arith, word_rest_le bs)) n e

none_shrinks : (k : ℕ) → Shrinks k None
none_shrinks k n e = absurd cc

want_shrinks : (names : List (List ℕ)) (s : Stage) (bytes : List ℕ) → Shrinks (length bytes) (want names s bytes)
want_shrinks names s [] = none_shrinks 0
want_shrinks names s (b ∷ bs) =
    cond_both (b == 40) (beside bs (with_op Opens s)) (if b == 42 then beside bs (with_op Stars s) else beside (word_rest (b ∷ bs)) (with_word names s (word_front (b ∷ bs)))) (Shrinks (suc (length bs)))
    (λ _. beside_shrinks bs (with_op Opens s) (suc (length bs)) (omega arith))
    (λ _. cond_both (b == 42) (beside bs (with_op Stars s)) (beside (word_rest (b ∷ bs)) (with_word names s (word_front (b ∷ bs)))) (Shrinks (suc (length bs)))
    (λ _. beside_shrinks bs (with_op Stars s) (suc (length bs)) (omega arith))
    (λ _. word_shrinks names s b bs (is_mark b)))

behind_shrinks : (a : ℕ) (own : List ℕ) (b : ℕ) (bs : List ℕ) (f : List ℕ → Option (Stage × List ℕ)) → ((r : List ℕ) → length r < suc (length bs) → Shrinks (suc (length bs)) (f r)) → Shrinks (suc (length bs)) (option_and_then f (behind (a ∷ own) (b ∷ bs)))
behind_shrinks a own b bs f h =
    cond_both (bytes_eq (take (length (a ∷ own)) (b ∷ bs)) (a ∷ own)) (Some (drop (length (a ∷ own)) (b ∷ bs))) None (λ o. Shrinks (suc (length bs)) (option_and_then f o))
    (λ _. h (drop (length own) bs) (omega (arith, length-drop (length own) bs)))
    (λ _. none_shrinks (suc (length bs)))

have_shrinks : (s : Stage) (bytes : List ℕ) → Shrinks (length bytes) (have s bytes)
have_shrinks s [] = none_shrinks 0
have_shrinks s (b ∷ bs) =
    let sums : Option (Stage × List ℕ) = option_and_then (λ rest. beside rest (with_sum s)) (behind (32 ∷ 43 ∷ 32 ∷ []) (b ∷ bs)) in
    cond_both (b == 46) (beside bs (with_op Prods s)) (if b == 41 then beside bs (with_bracket s) else sums) (Shrinks (suc (length bs)))
    (λ _. beside_shrinks bs (with_op Prods s) (suc (length bs)) (omega arith))
    (λ _. cond_both (b == 41) (beside bs (with_bracket s)) sums (Shrinks (suc (length bs)))
    (λ _. beside_shrinks bs (with_bracket s) (suc (length bs)) (omega arith))
    (λ _. behind_shrinks 32 (43 ∷ 32 ∷ []) b bs (λ rest. beside rest (with_sum s)) (λ r l. beside_shrinks r (with_sum s) (suc (length bs)) l)))

pub step_shrinks : (names : List (List ℕ)) (s : Stage) (bytes : List ℕ) (n : Stage × List ℕ) → step names s bytes ≡ Some n → length n.1 < length bytes
step_shrinks names s bytes =
    cond_both s.wants (want names s bytes) (have s bytes) (Shrinks (length bytes)) (λ _. want_shrinks names s bytes) (λ _. have_shrinks s bytes)

pub run_enough : (j k : ℕ) (names : List (List ℕ)) (s : Stage) (bytes : List ℕ) → length bytes ≤ j → length bytes ≤ k → run j names s bytes ≡ run k names s bytes
run_enough j k names s [] l m = refl
run_enough zero k names s (b ∷ bs) l m = absurd (omega arith)
run_enough (suc j) zero names s (b ∷ bs) l m = absurd (omega arith)
run_enough (suc j) (suc k) names s (b ∷ bs) l m = by (step names s (b ∷ bs)) refl (λ n less. run_enough j k names n.0 n.1 (omega (arith, less, l)) (omega (arith, less, m)))
  where
    by : (o : Option (Stage × List ℕ)) → step names s (b ∷ bs) ≡ o → ((n : Stage × List ℕ) → length n.1 < suc (length bs) → run j names n.0 n.1 ≡ run k names n.0 n.1) → option_and_then (λ n. run j names n.0 n.1) o ≡ option_and_then (λ n. run k names n.0 n.1) o
    by None e again = refl
    by (Some n) e again = again n (step_shrinks names s (b ∷ bs) n e)

-- a step, and then the others
pub run_step : (names : List (List ℕ)) (s : Stage) (bytes : List ℕ) (n : Stage × List ℕ) → step names s bytes ≡ Some n → run (length bytes) names s bytes ≡ run (length n.1) names n.0 n.1
run_step names s [] n e = let less = step_shrinks names s [] n e in absurd (omega (arith, less))
run_step names s (b ∷ bs) n e =
    let less = step_shrinks names s (b ∷ bs) n e in
    ap (λ o. option_and_then (λ m. run (length bs) names m.0 m.1) o) e ∙ run_enough (length bs) (length n.1) names n.0 n.1 (omega (arith, less)) (omega arith)

-- no step
pub run_stuck : (names : List (List ℕ)) (s : Stage) (b : ℕ) (bs : List ℕ) → step names s (b ∷ bs) ≡ None → run (length (b ∷ bs)) names s (b ∷ bs) ≡ None
run_stuck names s b bs e = ap (λ o. option_and_then (λ m. run (length bs) names m.0 m.1) o) e
