-- What is made of parts that aren't too large.
use Rattle.std.proofs.Common.{◌≡◌, true, Some, refl, sym, ap, ◌∙◌}
use Rattle.pat_words_spec.specs.Patterns.{Pat, prod_of, star_of}
use Rattle.pat_inclusion_spec.specs.ClosedForms.{is_small}
use Rattle.pat_solve_bounded.specs.Limits.{within, prod_within, star_within}
use Rattle.pat_solve_bounded.proofs.Limited.{within_prod}

-- the product of a star with a small pattern
pub starred_is : (s b : Pat) → is_small b ≡ true → prod_within (star_within (Some s)) (Some b) ≡ within (prod_of (star_of s) b)
starred_is s b small =
    let own : within b ≡ Some b = rw small refl in
    sym (ap (λ x. prod_within (within (star_of s)) x) own) ∙ sym (within_prod (star_of s) b)
