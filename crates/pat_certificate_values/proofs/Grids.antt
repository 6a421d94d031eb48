-- Words of values that are sets of points.
use Rattle.std.proofs.Common.{◌≡◌, ℕ, Bool, true, false, List, [], ◌∷◌, map, length, refl, sym, ap, ◌∙◌}
use Rattle.std.specs.Prelude.{not, nat_eq, nat_lt}
use Rattle.std.specs.Cmp.{both_ways}
use Rattle.std.proofs.Math.Dec.{eqb-suc-zero}
use Rattle.std.specs.List.{list_any}
use Rattle.std.proofs.lemmas.Bool.{and_parts}
use Rattle.pat_bags.specs.declared.Bag.{Bag}
use Rattle.pat_words_spec.specs.Words.{no_word}
use Rattle.pat_words_spec.specs.Patterns.{is_nullable, is_inhabited}
use Rattle.pat_inclusion_spec.specs.Counts.{counted, same_below}
use Rattle.pat_inclusion_spec.specs.Points.{points_fit, points_pattern}
use Rattle.pat_inclusion_spec.specs.Values.{GridForm, value_fits}
use Rattle.pat_inclusion_laws.proofs.UnderLaws.{point_tests}
use Rattle.pat_derivations.specs.Views.{counts_of}

pub grid_nullable : (n k : ℕ) (points : List Bag) → value_fits n (GridForm k (map counts_of points)) ≡ true → list_any (λ p. same_below n no_word (counted p)) (map counts_of points) ≡ is_nullable (points_pattern k n (map counts_of points))
grid_nullable n k points h =
    let fits = (and_parts (nat_lt 0 n) (points_fit k n (map counts_of points)) h).1 in
    let law = (point_tests k n (map counts_of points) fits).0 in
    both_ways (list_any (λ p. same_below n no_word (counted p)) (map counts_of points)) (is_nullable (points_pattern k n (map counts_of points))) law.1 law.0

pub grid_inhabited : (n k : ℕ) (points : List Bag) → value_fits n (GridForm k (map counts_of points)) ≡ true → not (nat_eq (length points) 0) ≡ is_inhabited (points_pattern k n (map counts_of points))
grid_inhabited n k [] h = refl
grid_inhabited n k (p ∷ ps) h =
    let fits = (and_parts (nat_lt 0 n) (points_fit k n (map counts_of (p ∷ ps))) h).1 in
    ap not (eqb-suc-zero (length ps)) ∙ sym ((point_tests k n (map counts_of (p ∷ ps)) fits).1.1 (λ e. cc))
