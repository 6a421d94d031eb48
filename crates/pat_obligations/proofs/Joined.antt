-- Names that pass, one list behind another.
use Rattle.std.proofs.Common.{◌≡◌, ℕ, List, [], ◌∷◌, ◌++◌, append_assoc, refl, sym, ap, ◌∙◌}
use Rattle.pat_type_schemes_spec.specs.NodeTypes.{Needs, need_of}
use Rattle.pat_derivation_spec.specs.Demands.{Demand, Pass}
use Rattle.pat_obligations.specs.Listed.{passes_in}

passes_both : (xs ys : List ℕ) (g h : Needs) → passes_in (xs ++ ys) g h ≡ passes_in xs g h ++ passes_in ys g h
passes_both [] ys g h = refl
passes_both (x ∷ xs) ys g h = ap (λ ds. Pass (need_of g x) (need_of h x) ∷ ds) (passes_both xs ys g h)

-- what passes by the first names, and then by the others, passes by all
pub passes_on : (out more whole : List Demand) (xs ys all : List ℕ) (g h : Needs) → more ≡ out ++ passes_in xs g h → xs ++ ys ≡ all → whole ≡ more ++ passes_in ys g h → whole ≡ out ++ passes_in all g h
passes_on out more whole xs ys all g h first names second =
    second
    ∙ ap (λ ds. ds ++ passes_in ys g h) first
    ∙ append_assoc out (passes_in xs g h) (passes_in ys g h)
    ∙ ap (λ ds. out ++ ds) (sym (passes_both xs ys g h))
    ∙ ap (λ ns. out ++ passes_in ns g h) names
