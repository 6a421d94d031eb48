-- The best point of a search.
use Rattle.std.proofs.Common.{◌≡◌, ℕ, ◌+◌, ◌<◌, ◌≤◌, ⊎_elim, List, Option, Some, None, refl, sym, subst, arith}
use Rattle.std.specs.Prelude.{IfSome, IfNone}
use Rattle.std.proofs.lemmas.Bool.{cases_lt}
use Rattle.pat_inclusion_spec.specs.bounds.Tables.{Setting, IsKnown}
use Rattle.pat_inclusion_spec.specs.bounds.Numbers.{points_in}
use Rattle.pat_grid.specs.tables.Moves.{entry_at}
use Rattle.pat_counterexample_search.specs.Readings.{IsMissing, IsFirstLeast, IsBest}

module _ (g : Setting) (entries : List ℕ) (s r most : ℕ) where
  pub begins : IsBest g entries s r most 0 None (most + 1)
  begins = record {
    within = omega arith;
    best = λ d l missing. absurd (omega (arith, l));
    taken = refl;
  }

  -- at numbers without a tree nothing is missing
  pub goes_on : (m next : ℕ) (found : Option ℕ) (size : ℕ) → most ≤ g.limit + 1 → ((c : ℕ) → m ≤ c → c < next → IsKnown g.limit (entry_at g entries s c) → ⊥) → IsBest g entries s r most m found size → IsBest g entries s r most next found size
  goes_on m next found size l unknown best = record {
    within = best.within;
    best = λ d below missing. ⊎_elim
        (λ before. best.best d before missing)
        (λ behind. absurd (unknown d behind below (let e = missing.1 in omega (arith, e, l))))
        (cases_lt d m);
    taken = best.taken;
  }

  -- one that isn't smaller, or isn't missing, leaves the best as it is
  pub stays : (m : ℕ) (found : Option ℕ) (size : ℕ) → (IsMissing g entries s r most m → size ≤ entry_at g entries s m) → IsBest g entries s r most m found size → IsBest g entries s r most (m + 1) found size
  stays m found size own best = record {
    within = best.within;
    best = λ d below missing. ⊎_elim
        (λ before. best.best d before missing)
        (λ behind. let e : m ≡ d = omega (arith, below, behind) in
        subst (λ x. size ≤ entry_at g entries s x) e (own (subst (IsMissing g entries s r most) (sym e) missing)))
        (cases_lt d m);
    taken = best.taken;
  }

  -- a smaller one is the best
  pub takes : (m size : ℕ) (found : Option ℕ) → m < points_in g.bound g.tags → (IsKnown g.limit (entry_at g entries r m) → ⊥) → entry_at g entries s m < size → IsBest g entries s r most m found size → IsBest g entries s r most (m + 1) (Some m) (entry_at g entries s m)
  takes m size found there out less best =
      let w = best.within in
      record {
        within = omega (arith, w, less);
        best = λ d below missing. ⊎_elim
            (λ before. let k = best.best d before missing in omega (arith, k, less))
            (λ behind. let e : m ≡ d = omega (arith, below, behind) in
            subst (λ x. entry_at g entries s m ≤ entry_at g entries s x) e (omega arith))
            (cases_lt d m);
        taken = (
          (there, omega (arith, w, less), out),
          refl,
          λ d before missing. let k = best.best d before missing in omega (arith, k, less),
        );
      }

  -- at the end
  pub first_least : (m c size : ℕ) → points_in g.bound g.tags ≤ m → IsBest g entries s r most m (Some c) size → IsFirstLeast g entries s r most c
  first_least m c size end best =
      let found = best.taken in
      let e = found.1 in
      record {
        missing = found.0;
        least = λ d missing. let l = missing.0 in let k = best.best d (omega (arith, l, end)) missing in omega (arith, k, e);
        first = λ d before missing. let k = found.2 d before missing in omega (arith, k, e);
      }

  pub none_missing : (m size : ℕ) → points_in g.bound g.tags ≤ m → IsBest g entries s r most m None size → (c : ℕ) → IsMissing g entries s r most c → ⊥
  none_missing m size end best c missing =
      let l = missing.0 in
      let small = missing.1 in
      let k = best.best c (omega (arith, l, end)) missing in
      let e = best.taken in
      omega (arith, small, k, e)

  pub some_end : (m size : ℕ) (found : Option ℕ) → points_in g.bound g.tags ≤ m → IsBest g entries s r most m found size → IfSome found (λ c. IsFirstLeast g entries s r most c)
  some_end m size None end best = tt
  some_end m size (Some c) end best = first_least m c size end best

  pub none_end : (m size : ℕ) (found : Option ℕ) → points_in g.bound g.tags ≤ m → IsBest g entries s r most m found size → IfNone found ((c : ℕ) → IsMissing g entries s r most c → ⊥)
  none_end m size None end best = none_missing m size end best
  none_end m size (Some c) end best = tt
