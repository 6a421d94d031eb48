-- Lines of what inference finds.
use Rattle.std.proofs.Common.{◌≡◌, ℕ, suc, ◌+◌, List, [], ◌∷◌, Some, length, refl, ap, ap₂, ◌∙◌, arith}
use Rattle.std.specs.Prelude.{map, slice_get}
use Rattle.std.proofs.lemmas.List.{length-map}
use Rattle.pat_semantics_spec.specs.Programs.{Node, Program}
use Rattle.pat_inclusion_spec.specs.Values.{VarLine}
use Rattle.pat_inclusion_spec.specs.Certificates.{Cert}
use Rattle.pat_type_schemes_spec.specs.NodeTypes.{NodeType}
use Rattle.pat_derivation_spec.specs.Derivations.{Line}
use Rattle.pat_solve_spec.specs.Derived.{Form, ValuesShow, found_of, found_line, type_or_unit, no_certs, lines_from}
use Rattle.pat_infer_spec.specs.Walk.{inferred}
use Rattle.pat_types.specs.declared.types.NodeType.{NodeType as CodeType}
use Rattle.pat_types.specs.Views.{node_type_view}
use Rattle.pat_solve_derivation.specs.Lines.{IsFound, bare_line, bare_lines}
use Rattle.pat_solve_derivation.specs.Made.{IsBare}

module _ (p : Program) where
  found_lines : (ts : List NodeType) (k : ℕ) (ds : List Node) → length ts ≡ length ds → ((n : ℕ) (c : Node) → slice_get ds n ≡ Some c → slice_get ts n ≡ found_of p (k + n)) → bare_lines ts ≡ lines_from p no_certs k ds
  found_lines [] k [] l h = refl
  found_lines [] k (d ∷ ds) l h = absurd (cc)
  found_lines (t ∷ ts) k [] l h = absurd (cc)
  found_lines (t ∷ ts) k (d ∷ ds) l h =
      let here : k + 0 ≡ k = omega arith in
      let there : Some t ≡ found_of p k = h 0 d refl ∙ ap (found_of p) here in
      let first : bare_line t ≡ found_line p k [] = ap (λ o. bare_line (type_or_unit o)) there in
      let as_many : length ts ≡ length ds = omega (arith, l) in
      ap₂ (λ (x : Line) (xs : List Line). x ∷ xs) first (found_lines ts (suc k) ds as_many (λ n c q. h (suc n) c q ∙ ap (found_of p) (next n)))
    where
      next : (n : ℕ) → k + suc n ≡ suc k + n
      next n = omega arith

  pub bare_found : (types : List CodeType) → IsFound p types → bare_lines (map node_type_view types) ≡ lines_from p no_certs 0 p.nodes
  bare_found types f = found_lines (map node_type_view types) 0 p.nodes (length-map types node_type_view ∙ f.count) (λ n c q. f.at n c q ∙ ap (found_of p) (start n))
    where
      start : (n : ℕ) → n ≡ 0 + n
      start n = omega arith

  pub lines_count : (certs : ℕ → List Cert) (k : ℕ) (ds : List Node) → length (lines_from p certs k ds) ≡ length ds
  lines_count certs k [] = refl
  lines_count certs k (d ∷ ds) = ap suc (lines_count certs (suc k) ds)

  pub is_bare : (vars : List VarLine) (forms : ℕ → Form) (types : List CodeType) (lines : List Line) → (inferred p).findings ≡ [] → ValuesShow p vars forms → IsFound p types → lines ≡ bare_lines (map node_type_view types) → IsBare p forms (record { vars = vars; lines = lines })
  is_bare vars forms types lines clean show found e = record {
    clean = clean;
    show = show;
    is = ap (λ (xs : List Line). record { vars = vars; lines = xs }) (e ∙ bare_found types found);
  }
