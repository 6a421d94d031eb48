-- What inference finds, and the lines of the derivation that is made of it: the same types, with variables and with values.
use Rattle.std.proofs.Common.{◌≡◌, ℕ, zero, suc, ◌+◌, List, [], ◌∷◌, Option, Some, None, refl, sym, ap, ◌∙◌, arith}
use Rattle.std.specs.Prelude.{option_map, slice_get}
use mathlib.Core.Path.{fun_ext}
use Rattle.pat_words_spec.specs.Patterns.{Pat}
use Rattle.pat_semantics_spec.specs.Programs.{Program, Node, node_at}
use Rattle.pat_inclusion_spec.specs.Values.{VarLine, Scope, pattern_of}
use Rattle.pat_inclusion_spec.specs.Certificates.{Cert}
use Rattle.pat_type_schemes_spec.specs.NodeTypes.{need_of, NodeType, result_open, env_open, need_under, result_under}
use Rattle.pat_derivation_spec.specs.Derivations.{Line, line_at}
use Rattle.pat_derivation_laws.proofs.Names.{put_all}
use Rattle.pat_infer_spec.specs.Solutions.{typing_open, typing_found}
use Rattle.pat_solve_spec.specs.Derived.{type_or_unit, found_of, found_line, lines_from, derivation_with}

-- ---- look-ups

lines_at : (p : Program) (certs : ℕ → List Cert) (c : ℕ) (ds : List Node) (n : ℕ) → slice_get (lines_from p certs c ds) n ≡ option_map (λ (d : Node). found_line p (c + n) (certs (c + n))) (slice_get ds n)
lines_at p certs c [] n = refl
lines_at p certs c (d ∷ ds) zero = let q : c ≡ c + 0 = omega arith in ap (λ k. Some (found_line p k (certs k))) q
lines_at p certs c (d ∷ ds) (suc n) =
    let q : suc c + n ≡ c + suc n = omega arith in
    lines_at p certs (suc c) ds n ∙ ap (λ k. option_map (λ (e : Node). found_line p k (certs k)) (slice_get ds n)) q

lines_first : (p : Program) (certs : ℕ → List Cert) (n : ℕ) → slice_get (lines_from p certs 0 p.nodes) n ≡ option_map (λ (d : Node). found_line p n (certs n)) (node_at p n)
lines_first p certs n =
    let q : 0 + n ≡ n = omega arith in
    lines_at p certs 0 p.nodes n ∙ ap (λ k. option_map (λ (e : Node). found_line p k (certs k)) (slice_get p.nodes n)) q

-- a node of the program has its line
pub line_there : (p : Program) (vars : List VarLine) (certs : ℕ → List Cert) (n : ℕ) (d : Node) → node_at p n ≡ Some d → line_at (derivation_with p vars certs) n ≡ Some (found_line p n (certs n))
line_there p vars certs n d at =
    lines_first p certs n ∙ ap (option_map (λ (e : Node). found_line p n (certs n))) at

-- another number has none
pub line_none : (p : Program) (vars : List VarLine) (certs : ℕ → List Cert) (n : ℕ) → node_at p n ≡ None → line_at (derivation_with p vars certs) n ≡ None
line_none p vars certs n at =
    lines_first p certs n ∙ ap (option_map (λ (e : Node). found_line p n (certs n))) at

pub line_is : (p : Program) (vars : List VarLine) (certs : ℕ → List Cert) (n : ℕ) (l : Line) → line_at (derivation_with p vars certs) n ≡ Some l → l ≡ found_line p n (certs n)
line_is p vars certs n l h = go (node_at p n) refl
  where
    go : (o : Option Node) → node_at p n ≡ o → l ≡ found_line p n (certs n)
    go None q = let e = sym (line_none p vars certs n q) ∙ h in cc
    go (Some d) q = let e = sym (line_there p vars certs n d q) ∙ h in cc

-- ---- nodes

env_line : (o : Option NodeType) (x : ℕ) → env_open o x ≡ need_of (type_or_unit o).needs x
env_line None x = refl
env_line (Some t) x = refl

result_line : (o : Option NodeType) → result_open o ≡ (type_or_unit o).result
result_line None = refl
result_line (Some t) = refl

module _ (p : Program) (n : ℕ) where
  -- with variables
  pub open_env : (typing_open p).envs n ≡ need_of (type_or_unit (found_of p n)).needs
  open_env = fun_ext (env_line (found_of p n))

  pub open_type : (typing_open p).results n ≡ (type_or_unit (found_of p n)).result
  open_type = result_line (found_of p n)

  -- and with values
  pub env_under : (v : ℕ → Pat) → (typing_found p v).envs n ≡ (λ x. need_under v (need_of (type_or_unit (found_of p n)).needs x))
  env_under v = fun_ext (λ x. ap (need_under v) (env_line (found_of p n) x))

  pub type_under : (v : ℕ → Pat) → (typing_found p v).results n ≡ result_under v (type_or_unit (found_of p n)).result
  type_under v = ap (result_under v) (result_line (found_of p n))

  pub env_is : (s : Scope) → (typing_found p (pattern_of s)).envs n ≡ put_all s (need_of (type_or_unit (found_of p n)).needs)
  env_is s = env_under (pattern_of s)

  pub type_is : (s : Scope) → (typing_found p (pattern_of s)).results n ≡ result_under (pattern_of s) (type_or_unit (found_of p n)).result
  type_is s = type_under (pattern_of s)
