-- Sums over threads, where one is exchanged or taken out, or others come behind.
use Rattle.std.proofs.Common.{◌≡◌, ℕ, ◌+◌, true, false, cond, nat_eq, List, [], ◌∷◌, ◌++◌, Some, ap, arith}
use Rattle.std.specs.Map.{lookup, set_value, remove_entry}
use Rattle.pat_semantics_spec.specs.Configs.{Thread}
use Rattle.pat_machine_laws.specs.refcounts.Naming.{sum_of_threads}

module _ (f : Thread → ℕ) where
  pub set_sum : (t : ℕ) (ts : List (ℕ × Thread)) (s r : Thread) → lookup (nat_eq t) ts ≡ Some s → sum_of_threads f (set_value (nat_eq t) ts r) + f s ≡ sum_of_threads f ts + f r
  set_sum t [] s r h = cc
  set_sum t (e ∷ es) s r h =
      (elim (nat_eq t e.0) as (λ v. cond v (Some e.1) (lookup (nat_eq t) es) ≡ Some s → sum_of_threads f (cond v ((e.0, r) ∷ es) (e ∷ set_value (nat_eq t) es r)) + f s ≡ sum_of_threads f (e ∷ es) + f r) [
        | true ↦ λ k. let same : e.1 ≡ s = cc in let number = ap f same in omega arith
        | false ↦ λ k. let rest = set_sum t es s r k in omega arith
      ]) h

  pub remove_sum : (t : ℕ) (ts : List (ℕ × Thread)) (s : Thread) → lookup (nat_eq t) ts ≡ Some s → sum_of_threads f (remove_entry (nat_eq t) ts) + f s ≡ sum_of_threads f ts
  remove_sum t [] s h = cc
  remove_sum t (e ∷ es) s h =
      (elim (nat_eq t e.0) as (λ v. cond v (Some e.1) (lookup (nat_eq t) es) ≡ Some s → sum_of_threads f (cond v es (e ∷ remove_entry (nat_eq t) es)) + f s ≡ sum_of_threads f (e ∷ es)) [
        | true ↦ λ k. let same : e.1 ≡ s = cc in let number = ap f same in omega arith
        | false ↦ λ k. let rest = remove_sum t es s k in omega arith
      ]) h

  pub join_sums : (ts us : List (ℕ × Thread)) → sum_of_threads f (ts ++ us) ≡ sum_of_threads f ts + sum_of_threads f us
  join_sums [] us = omega arith
  join_sums (e ∷ es) us = let rest = join_sums es us in omega arith
