-- Values put in their places from the last one on.
use Rattle.std.proofs.Common.{◌≡◌, ℕ, zero, suc, ◌-◌, ◌<◌, List, [], ◌∷◌, ◌++◌, length, drop, get_or, map, slice_set, refl, sym, ap, ◌∙◌, arith}
use Rattle.std.proofs.lemmas.List.{append-nil, append_assoc, length-append}
use lib.Seq.{drop-cons}
use Rattle.pat_inclusion_spec.specs.Values.{VarLine}
use Rattle.pat_derivations.specs.declared.data.VarValue.{VarValue as CodeValue}
use Rattle.pat_derivations.specs.Views.{value_view, var_view}
use Rattle.pat_solve.specs.Steps.{put_lines, IsPut}

put_none : (i : ℕ) (ks : List ℕ) (lines : List VarLine) → put_lines i ks [] lines ≡ lines
put_none i [] lines = refl
put_none i (k ∷ ks) lines = refl

module _ (i : ℕ) (variables : List ℕ) (all : List CodeValue) (before : List VarLine) where
  pub put_begins : IsPut i variables all before all before
  put_begins = record { behind = []; whole = sym (append-nil all); put = λ long. sym (put_none i (drop (length all) variables) before) }

  pub put_next : (left rest : List CodeValue) (x : CodeValue) (lines new : List VarLine) (k : ℕ) → IsPut i variables all before left lines → left ≡ rest ++ x ∷ [] → k ≡ get_or variables (length rest) 0 → new ≡ slice_set lines (k - 1) (var_view (i, x)) → length rest < length variables → IsPut i variables all before rest new
  put_next left rest x lines new k is last at set within = record {
    behind = x ∷ is.behind;
    whole = is.whole ∙ ap (λ l. l ++ is.behind) last ∙ append_assoc rest (x ∷ []) is.behind;
    put = λ long.
        let count : length left ≡ length (rest ++ x ∷ []) = ap length last in
        let more = length-append rest (x ∷ []) in
        let one : length left ≡ suc (length rest) = omega (arith, count, more) in
        set
        ∙ ap (λ l. slice_set l (k - 1) (var_view (i, x))) (is.put long ∙ ap (λ n. put_lines i (drop n variables) (map value_view is.behind) before) one)
        ∙ ap (λ j. slice_set (put_lines i (drop (suc (length rest)) variables) (map value_view is.behind) before) (j - 1) (var_view (i, x))) at
        ∙ ap (λ ks. put_lines i ks (value_view x ∷ map value_view is.behind) before) (sym (drop-cons variables (length rest) 0 within));
  }

  -- a value without a variable: there are as many, so there is none
  pub put_past : (left rest : List CodeValue) (x : CodeValue) (lines : List VarLine) → IsPut i variables all before left lines → left ≡ rest ++ x ∷ [] → (length rest < length variables → ⊥) → IsPut i variables all before rest lines
  put_past left rest x lines is last past = record {
    behind = x ∷ is.behind;
    whole = is.whole ∙ ap (λ l. l ++ is.behind) last ∙ append_assoc rest (x ∷ []) is.behind;
    put = λ long.
        let count : length all ≡ length (left ++ is.behind) = ap length is.whole in
        let parts = length-append left is.behind in
        let left_long : length left ≡ length (rest ++ x ∷ []) = ap length last in
        let more = length-append rest (x ∷ []) in
        absurd (past (omega (arith, long, count, parts, left_long, more)));
  }

  pub put_ends : (left : List CodeValue) (lines : List VarLine) → left ≡ [] → IsPut i variables all before left lines → length all ≡ length variables → lines ≡ put_lines i variables (map value_view all) before
  put_ends left lines none is long =
      let whole : all ≡ is.behind = is.whole ∙ ap (λ l. l ++ is.behind) none in
      is.put long
      ∙ ap (λ l. put_lines i (drop (length l) variables) (map value_view is.behind) before) none
      ∙ ap (λ vs. put_lines i variables (map value_view vs) before) (sym whole)

-- a place that is set, seen item by item
pub map_set : {A B : Type 0} (f : A → B) (xs : List A) (n : ℕ) (y : A) → map f (slice_set xs n y) ≡ slice_set (map f xs) n (f y)
map_set f [] n y = refl
map_set f (x ∷ xs) zero y = refl
map_set f (x ∷ xs) (suc n) y = ap (λ l. f x ∷ l) (map_set f xs n y)
