-- The values of an interface's variables, as a list and by their numbers.
use Rattle.std.proofs.Common.{◌≡◌, ℕ, suc, ◌<◌, ◌≤◌, Bool, true, false, cond, nat_eq, if◌then◌else◌, List, [], ◌∷◌, length, map, Option, Some, None, slice_get, refl, sym, ap, ◌∙◌, subst, arith}
use Rattle.std.specs.Map.{lookup}
use Rattle.std.proofs.lemmas.Bool.{eq-eqb, ne_eqb}
use Rattle.pat_words_spec.specs.Patterns.{Pat}
use Rattle.pat_bags.specs.declared.Bag.{Bag}
use Rattle.pat_inclusion_spec.specs.Values.{VarValue, PatternForm, GridForm}
use Rattle.pat_derivations.specs.Views.{counts_of}
use Rattle.pat_type_schemes_spec.specs.Signatures.{Variable}
use Rattle.pat_solve_spec.specs.Assignments.{Values, value_or_zero, value_in, vars_in}
use Rattle.pat_solve_bounded.specs.replacing.Ascending.{paired}
use Rattle.pat_solve_grids.specs.Renaming.{place_in}
use Rattle.pat_solve_grids.specs.Points.{counts_in, points_by}

module _ {A : Type 0} (f g : ℕ → A) (i : ℕ) where
  -- what is the same from a number on is the same of variables from there on
  pub same_on : (n : ℕ) (vs : List Variable) → ((k : ℕ) → n ≤ k → f k ≡ g k) → map f (vars_in i n vs) ≡ map g (vars_in i n vs)
  same_on n [] each = refl
  same_on n (v ∷ vs) each = go (nat_eq v.interface i) (same_on (suc n) vs (λ k l. each k (omega (arith, l))))
    where
      go : (b : Bool) → map f (vars_in i (suc n) vs) ≡ map g (vars_in i (suc n) vs) → map f (if b then n ∷ vars_in i (suc n) vs else vars_in i (suc n) vs) ≡ map g (if b then n ∷ vars_in i (suc n) vs else vars_in i (suc n) vs)
      go false h = h
      go true h =
          ap (λ x. x ∷ map f (vars_in i (suc n) vs)) (each n (omega arith)) ∙ ap (λ xs. g n ∷ xs) h

-- the value of the first variable, and that of another one
value_first : (n : ℕ) (e : Pat) (rest : Values) → value_in ((n, e) ∷ rest) n ≡ e
value_first n e rest = ap (λ b. value_or_zero (cond b (Some e) (lookup (nat_eq n) rest))) (eq-eqb n n refl)

value_later : (n k : ℕ) (e : Pat) (rest : Values) → suc n ≤ k → value_in ((n, e) ∷ rest) k ≡ value_in rest k
value_later n k e rest later =
    ap (λ b. value_or_zero (cond b (Some e) (lookup (nat_eq k) rest))) (ne_eqb k n (λ same. omega (arith, same, later)))

-- patterns
with_pattern : (i n : ℕ) (vs : List Variable) (b : Bool) (es : List Pat) → length es ≡ length (if b then n ∷ vars_in i (suc n) vs else vars_in i (suc n) vs) → ((gs : List Pat) → length gs ≡ length (vars_in i (suc n) vs) → map (λ k. PatternForm (value_in (paired (vars_in i (suc n) vs) gs) k)) (vars_in i (suc n) vs) ≡ map PatternForm gs) → map (λ k. PatternForm (value_in (paired (if b then n ∷ vars_in i (suc n) vs else vars_in i (suc n) vs) es) k)) (if b then n ∷ vars_in i (suc n) vs else vars_in i (suc n) vs) ≡ map PatternForm es
with_pattern i n vs false es l rest = rest es l
with_pattern i n vs true [] l rest = absurd (omega (arith, l))
with_pattern i n vs true (f ∷ fs) l rest =
    ap (λ x. PatternForm x ∷ map (λ k. PatternForm (value_in ((n, f) ∷ paired (vars_in i (suc n) vs) fs) k)) (vars_in i (suc n) vs)) (value_first n f (paired (vars_in i (suc n) vs) fs))
    ∙ ap (λ xs. PatternForm f ∷ xs)
    (same_on (λ k. PatternForm (value_in ((n, f) ∷ paired (vars_in i (suc n) vs) fs) k)) (λ k. PatternForm (value_in (paired (vars_in i (suc n) vs) fs) k)) i (suc n) vs
    (λ k later. ap PatternForm (value_later n k f (paired (vars_in i (suc n) vs) fs) later))
    ∙ rest fs (omega (arith, l)))

pub patterns_are : (i n : ℕ) (vs : List Variable) (es : List Pat) → length es ≡ length (vars_in i n vs) → map (λ k. PatternForm (value_in (paired (vars_in i n vs) es) k)) (vars_in i n vs) ≡ map PatternForm es
patterns_are i n [] [] long = refl
patterns_are i n [] (e ∷ es) long = absurd (omega (arith, long))
patterns_are i n (v ∷ vs) es long = with_pattern i n vs (nat_eq v.interface i) es long (λ gs m. patterns_are i (suc n) vs gs m)

-- points
first_points : (n : ℕ) (ks : List ℕ) (p : List Bag) (ps : List (List Bag)) → points_by (n ∷ ks) (p ∷ ps) n ≡ map counts_of p
first_points n ks p ps =
    ap (λ b. counts_in (slice_get (p ∷ ps) (if b then 0 else suc (place_in ks n)))) (eq-eqb n n refl)

later_points : (n k : ℕ) (ks : List ℕ) (p : List Bag) (ps : List (List Bag)) → suc n ≤ k → points_by (n ∷ ks) (p ∷ ps) k ≡ points_by ks ps k
later_points n k ks p ps later =
    ap (λ b. counts_in (slice_get (p ∷ ps) (if b then 0 else suc (place_in ks k)))) (ne_eqb n k (λ same. omega (arith, same, later)))

with_points : (i b n : ℕ) (vs : List Variable) (c : Bool) (ps : List (List Bag)) → length ps ≡ length (if c then n ∷ vars_in i (suc n) vs else vars_in i (suc n) vs) → ((rs : List (List Bag)) → length rs ≡ length (vars_in i (suc n) vs) → map (λ k. GridForm b (points_by (vars_in i (suc n) vs) rs k)) (vars_in i (suc n) vs) ≡ map (λ p. GridForm b (map counts_of p)) rs) → map (λ k. GridForm b (points_by (if c then n ∷ vars_in i (suc n) vs else vars_in i (suc n) vs) ps k)) (if c then n ∷ vars_in i (suc n) vs else vars_in i (suc n) vs) ≡ map (λ p. GridForm b (map counts_of p)) ps
with_points i b n vs false ps l rest = rest ps l
with_points i b n vs true [] l rest = absurd (omega (arith, l))
with_points i b n vs true (q ∷ qs) l rest =
    ap (λ x. GridForm b x ∷ map (λ k. GridForm b (points_by (n ∷ vars_in i (suc n) vs) (q ∷ qs) k)) (vars_in i (suc n) vs)) (first_points n (vars_in i (suc n) vs) q qs)
    ∙ ap (λ xs. GridForm b (map counts_of q) ∷ xs)
    (same_on (λ k. GridForm b (points_by (n ∷ vars_in i (suc n) vs) (q ∷ qs) k)) (λ k. GridForm b (points_by (vars_in i (suc n) vs) qs k)) i (suc n) vs
    (λ k later. ap (GridForm b) (later_points n k (vars_in i (suc n) vs) q qs later))
    ∙ rest qs (omega (arith, l)))

pub grids_are : (i b n : ℕ) (vs : List Variable) (ps : List (List Bag)) → length ps ≡ length (vars_in i n vs) → map (λ k. GridForm b (points_by (vars_in i n vs) ps k)) (vars_in i n vs) ≡ map (λ p. GridForm b (map counts_of p)) ps
grids_are i b n [] [] long = refl
grids_are i b n [] (p ∷ ps) long = absurd (omega (arith, long))
grids_are i b n (v ∷ vs) ps long = with_points i b n vs (nat_eq v.interface i) ps long (λ rs m. grids_are i b (suc n) vs rs m)
