-- What a part gives way to is made of what its parts give way to.
use Rattle.std.proofs.Common.{◌≡◌, ℕ, Option, sym, ap, ap₂, ◌∙◌}
use Rattle.pat_words_spec.specs.Patterns.{Pat, Sum, Prod, subst_of}
use Rattle.pat_solve_bounded.specs.Limits.{within, sum_within, prod_within}
use Rattle.pat_solve_bounded.proofs.Limited.{within_sum, within_prod}

module _ (values : ℕ → Pat) where
  pub sum_turn : (e f : Pat) → within (subst_of values (Sum e f)) ≡ sum_within (within (subst_of values e)) (within (subst_of values f))
  sum_turn e f = within_sum (subst_of values e) (subst_of values f)

  pub prod_turn : (e f : Pat) → within (subst_of values (Prod e f)) ≡ prod_within (within (subst_of values e)) (within (subst_of values f))
  prod_turn e f = within_prod (subst_of values e) (subst_of values f)

  -- factors that are the same give way to the same
  pub square_turn : (e f : Pat) (o : Option Pat) → e ≡ f → o ≡ within (subst_of values e) → prod_within o o ≡ within (subst_of values (Prod e f))
  square_turn e f o same is =
      ap₂ prod_within is (is ∙ ap (λ x. within (subst_of values x)) same) ∙ sym (prod_turn e f)
