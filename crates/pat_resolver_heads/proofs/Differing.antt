-- Names that differ, the last first.
use Rattle.std.proofs.Common.{◌≡◌, ℕ, List, [], ◌∷◌, ◌++◌, map, reverse, refl, ap, sym, ◌∙◌}
use Rattle.std.specs.Borrow.{Bor}
use Rattle.std.specs.Prelude.{bytes_eq, ◌||◌}
use Rattle.std.specs.List.{list_any}
use Rattle.std.proofs.lemmas.List.Sorted.{list_any-IsPermutation, IsPermutation-reverse}
use Rattle.std.proofs.lemmas.List.Folds.{list_any-append}
use Rattle.pat_resolver_spec.specs.Scopes.{is_one_of}
use Rattle.pat_resolver_heads.proofs.Places.{eq_sym}

in_order : (x : List ℕ) (keys : List (Bor (List ℕ))) → list_any (λ k. bytes_eq x k.now) keys ≡ is_one_of x (map (λ k. k.now) keys)
in_order x [] = refl
in_order x (k ∷ keys) = ap (λ b. b || list_any (λ k. bytes_eq x k.now) keys) (eq_sym x k.now) ∙ ap (λ b. bytes_eq k.now x || b) (in_order x keys)

-- a name is among the few, or it is a key of the others
pub one_of_both : (x : List ℕ) (few : List (List ℕ)) (keys : List (Bor (List ℕ))) → is_one_of x (reverse (few ++ map (λ k. k.now) keys)) ≡ (is_one_of x few || list_any (λ k. bytes_eq x k.now) keys)
one_of_both x few keys =
    let names : List (List ℕ) = few ++ map (λ k. k.now) keys in
    sym (list_any-IsPermutation (λ y. bytes_eq y x) names (reverse names) (IsPermutation-reverse names))
    ∙ list_any-append (λ y. bytes_eq y x) few (map (λ k. k.now) keys)
    ∙ ap (λ b. is_one_of x few || b) (sym (in_order x keys))
