-- Of two right solutions of a program each variable has one value, but for how its points are listed.
use Rattle.std.proofs.Common.{◌≡◌, ◌<◌, ℕ, zero, suc, List, [], ◌∷◌, length, Option, Some, refl, sym, ap, ◌∙◌}
use Rattle.std.specs.Prelude.{nat_eq, option_map, slice_get}
use mathlib.Core.Path.{fun_ext}
use Rattle.pat_semantics_spec.specs.Programs.{Node, Program}
use Rattle.pat_inclusion_spec.specs.Points.{points_pattern}
use Rattle.pat_inclusion_spec.specs.Values.{VarLine, var_at, line_pattern, plain_or_var}
use Rattle.pat_inclusion_spec.specs.Certificates.{Cert, has_bound}
use Rattle.pat_type_schemes_spec.specs.Signatures.{Variable}
use Rattle.pat_type_schemes_spec.specs.Typings.{typing_with}
use Rattle.pat_infer_spec.specs.Walk.{all_vars}
use Rattle.pat_derivation_spec.specs.Derivations.{type_at, written_typing}
use Rattle.pat_solve_spec.specs.Derived.{Form, Patterns, Grids, lines_from, derivation_with}
use Rattle.pat_solve_spec.specs.Answers.{Solved, tags_of, grid_bound, FormIs, value_by, values_from, solution, IsRight}
use Rattle.pat_solve_spec.specs.Laws.{AreThere}
use Rattle.pat_command_checkpoint.proofs.Points.{points_once}

-- the two have the same pattern, whether that is a pattern's or a set's of points, and the same bound
pub record AreAlike (tags : ℕ → ℕ) (v w : Option VarLine) : Type 0 where
  pub pattern : line_pattern tags v ≡ line_pattern tags w
  pub plain : (k : ℕ) → plain_or_var k v ≡ plain_or_var k w
  pub bound : (k : ℕ) → has_bound k v ≡ has_bound k w

module _ (p : Program) (f g : ℕ → Form) (a b : ℕ → ℕ → List (List ℕ)) where
  by_forms : (i k : ℕ) (x y : Form) → FormIs p a i x → FormIs p b i y → AreAlike (tags_of p) (Some (record { interface = i; value = value_by p a x i k })) (Some (record { interface = i; value = value_by p b y i k }))
  by_forms i k Patterns Patterns h l = record { pattern = refl; plain = λ n. refl; bound = λ n. refl }
  by_forms i k Patterns (Grids c) h l = absurd (l.0.other h)
  by_forms i k (Grids c) Patterns h l = absurd (h.0.other l)
  by_forms i k (Grids c) (Grids e) h l =
      let n = tags_of p i in
      let m = grid_bound p i in
      let own = h.2 k in
      let other = l.2 k in
      let once : points_pattern m n (a i k) ≡ points_pattern m n (b i k) =
      points_once m n (a i k) (b i k) own.0 other.0 (λ u point found. (other.1 u point).1 ((own.1 u point).0 found)) (λ u point found. (own.1 u point).1 ((other.1 u point).0 found)) in
      record {
        pattern = ap (λ z. points_pattern z n (a i k)) h.1 ∙ once ∙ ap (λ z. points_pattern z n (b i k)) (sym l.1);
        plain = λ z. refl;
        bound = λ z. ap (λ o. nat_eq o z) (h.1 ∙ sym l.1);
      }

  module _ (r : IsRight p (Solved f a)) (s : IsRight p (Solved g b)) where
    lines_alike : (k : ℕ) (vs : List Variable) → ((j : ℕ) (v : Variable) → slice_get vs j ≡ Some v → v.interface < length p.interfaces) → (j : ℕ) → AreAlike (tags_of p) (slice_get (values_from p f a k vs) j) (slice_get (values_from p g b k vs) j)
    lines_alike k [] within zero = record { pattern = refl; plain = λ n. refl; bound = λ n. refl }
    lines_alike k [] within (suc j) = record { pattern = refl; plain = λ n. refl; bound = λ n. refl }
    lines_alike k (v ∷ vs) within zero =
        let l = within zero v refl in
        by_forms v.interface k (f v.interface) (g v.interface) (r.1 v.interface l) (s.1 v.interface l)
    lines_alike k (v ∷ vs) within (suc j) = lines_alike (suc k) vs (λ i u h. within (suc i) u h) j

    pub values_alike : AreThere p → (k : ℕ) → AreAlike (tags_of p) (var_at (solution p f a) k) (var_at (solution p g b) k)
    values_alike there zero = record { pattern = refl; plain = λ n. refl; bound = λ n. refl }
    values_alike there (suc k) = lines_alike 1 (all_vars p) (λ j v h. there.variables (suc j) v (j, refl, h)) k

-- the types that stand at nodes are those that were found, whatever the values and the certificates
module _ (p : Program) (vs us : List VarLine) (cs ks : ℕ → List Cert) where
  types_from : (k : ℕ) (ds : List Node) (n : ℕ) → option_map (λ l. l.of) (slice_get (lines_from p cs k ds) n) ≡ option_map (λ l. l.of) (slice_get (lines_from p ks k ds) n)
  types_from k [] zero = refl
  types_from k [] (suc n) = refl
  types_from k (d ∷ ds) zero = refl
  types_from k (d ∷ ds) (suc n) = types_from (suc k) ds n

  types_alike : type_at (derivation_with p vs cs) ≡ type_at (derivation_with p us ks)
  types_alike = fun_ext (λ n. types_from 0 p.nodes n)

  pub one_typing : written_typing p (derivation_with p vs cs) ≡ written_typing p (derivation_with p us ks)
  one_typing = ap (typing_with p) types_alike
