-- Rows by key are the index.
use Rattle.std.proofs.Common.{◌≡◌, ℕ, ◌+◌, ◌<◌, List, [], ◌++◌, length, Option, Some, sym, ap, ◌∙◌, subst, arith}
use Rattle.std.specs.Prelude.{get_or, replicate}
use Rattle.std.proofs.lemmas.List.{length-replicate, get_or-replicate}
use Rattle.pat_infer_problems.specs.declared.problem.Constraint.{Constraint}
use Rattle.pat_infer_problems.specs.declared.problem.VarDecl.{VarDecl}
use Rattle.pat_infer_problems.specs.declared.problem.Problem.{Problem}
use Rattle.pat_solve_bounds.specs.declared.lower_bounds.indexing.Index.{Index}
use Rattle.pat_solve_bounds.specs.lower_bounds.Rows.{numbers, is_key, put_all}
use Rattle.pat_solve_bounds.specs.lower_bounds.Indexes.{IsIndexOf, right_variable}
use Rattle.pat_solve_bounds.proofs.Numbering.{all_length, row_is}

rows_length : {A : Type 0} (key : A → Option ℕ) (n count : ℕ) (xs : List A) → length (put_all key n xs (replicate count [])) ≡ count
rows_length key n count xs = all_length key n xs (replicate count []) ∙ length-replicate count []

rows_are : {A : Type 0} (key : A → Option ℕ) (n count : ℕ) (xs : List A) (rows : List (List ℕ)) (i : ℕ) → rows ≡ put_all key n xs (replicate count []) → i < count → get_or rows i [] ≡ numbers (λ x. is_key i (key x)) n xs
rows_are key n count xs rows i e l =
    ap (λ rs. get_or rs i []) e
    ∙ row_is key i n xs (replicate count []) (subst (λ m. i < m) (sym (length-replicate count [])) l)
    ∙ ap (λ r. r ++ numbers (λ x. is_key i (key x)) n xs) (get_or-replicate count i [] [] l)

module _ (q : Problem) (x : Index) (count : ℕ) where
  pub is_index : x.constraints ≡ put_all (λ (c : Constraint). Some c.interface) 0 q.constraints (replicate count []) → x.variables ≡ put_all (λ (v : VarDecl). Some v.interface) 1 q.vars (replicate count []) → x.lefts ≡ put_all (λ (c : Constraint). right_variable c.right) 0 q.constraints (replicate (length q.vars + 1) []) → IsIndexOf q x × (length x.constraints ≡ count)
  is_index a b c =
      let many : length x.constraints ≡ count = ap length a ∙ rows_length (λ (d : Constraint). Some d.interface) 0 count q.constraints in
      let vars_many : length x.variables ≡ count = ap length b ∙ rows_length (λ (v : VarDecl). Some v.interface) 1 count q.vars in
      let lefts_many : length x.lefts ≡ length q.vars + 1 = ap length c ∙ rows_length (λ (d : Constraint). right_variable d.right) 0 (length q.vars + 1) q.constraints in (
        record {
          as_many = vars_many ∙ sym many;
          constraints = λ i l. rows_are (λ (d : Constraint). Some d.interface) 0 count q.constraints x.constraints i a (subst (λ m. i < m) many l);
          variables = λ i l. rows_are (λ (v : VarDecl). Some v.interface) 1 count q.vars x.variables i b (subst (λ m. i < m) many l);
          each = omega (arith, lefts_many);
          lefts = λ k l. rows_are (λ (d : Constraint). right_variable d.right) 0 (length q.vars + 1) q.constraints x.lefts k c (omega arith);
        },
        many,
      )
