-- A turn of the loop over the clauses of a guard.
use Rattle.std.proofs.Common.{◌≡◌, ℕ, List, [], ◌∷◌, ◌++◌, Option, map, drop, get_or, length, ◌+◌, ◌<◌, refl, sym, ap, ◌∙◌}
use Rattle.std.proofs.lemmas.List.{drop_more}
use Rattle.pat_words_spec.specs.Patterns.{Pat}
use Rattle.pat_semantics_spec.specs.Programs.{Program}
use Rattle.pat_core.specs.declared.program.Clause.{Clause}
use Rattle.pat_core.specs.Views.{clause_view}
use Rattle.pat_type_schemes_spec.specs.NodeTypes.{Needs}
use Rattle.pat_derivation_spec.specs.Derivations.{Derivation}
use Rattle.pat_derivation_spec.specs.Demands.{Demand}
use Rattle.pat_obligations.specs.Listed.{waits_after, listed_one, listed_clauses}

append_assoc : {A : Type 0} (xs ys zs : List A) → (xs ++ ys) ++ zs ≡ xs ++ (ys ++ zs)
append_assoc [] ys zs = refl
append_assoc (x ∷ xs) ys zs = ap (λ l. x ∷ l) (append_assoc xs ys zs)

module _ (p : Program) (d : Derivation) (needs : Needs) (x i : ℕ) (e : Pat) where
  pub clause_turn : (free next : Option ℕ) (r : Clause) (rest all : List Clause) (out more whole : List Demand) → out ++ listed_clauses p d needs x i e free (map clause_view all) ≡ whole → all ≡ r ∷ rest → next ≡ waits_after free (clause_view r).body → more ≡ out ++ listed_one p d needs x i e free (clause_view r) → more ++ listed_clauses p d needs x i e next (map clause_view rest) ≡ whole
  clause_turn free next r rest all out more whole h is n m =
      let one = listed_one p d needs x i e free (clause_view r) in
      let later = listed_clauses p d needs x i e (waits_after free (clause_view r).body) (map clause_view rest) in
      ap (λ o. more ++ listed_clauses p d needs x i e o (map clause_view rest)) n
      ∙ ap (λ l. l ++ later) m
      ∙ append_assoc out one later
      ∙ sym (ap (λ rs. out ++ listed_clauses p d needs x i e free (map clause_view rs)) is)
      ∙ h

  pub clause_at : (free next : Option ℕ) (place : ℕ) (item : Clause) (all : List Clause) (out more whole : List Demand) → out ++ listed_clauses p d needs x i e free (map clause_view (drop place all)) ≡ whole → place < length all → item ≡ get_or all place item → next ≡ waits_after free (clause_view item).body → more ≡ out ++ listed_one p d needs x i e free (clause_view item) → more ++ listed_clauses p d needs x i e next (map clause_view (drop (place + 1) all)) ≡ whole
  clause_at free next place item all out more whole h l is n m =
      clause_turn free next item (drop (place + 1) all) (drop place all) out more whole h (drop_more all place item l ∙ ap (λ r. r ∷ drop (place + 1) all) (sym is)) n m
