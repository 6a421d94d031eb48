-- One name of one mailbox.
use Rattle.std.proofs.Common.{◌≡◌, ℕ, zero, suc, ◌+◌, ◌<◌, ◌≤◌, List, [], ◌∷◌, length, get_or, nat_eq, refl, ap, subst, arith}
use Rattle.std.proofs.lemmas.Bool.{eq-eqb}
use Rattle.pat_semantics_spec.specs.WellFormed.{count_if}
use Rattle.pat_machine_laws.specs.refcounts.Counting.{count_at}
use Rattle.pat_machine_indexes.specs.declared.refcounts.names.RefCounts.{RefCounts}
use Rattle.pat_machine_indexes.specs.declared.refcounts.changing.Change.{Change}
use Rattle.pat_machine_indexes.specs.declared.refcounts.changing.Change.TheVariants.{Come, Go}
use Rattle.pat_machine_indexes.specs.refcounts.Changes.{Fits}
use Rattle.pat_limits.specs.Limits.{number_count}

once : (m : ℕ) → count_if (nat_eq m m) ≡ 1
once m = ap count_if (eq-eqb m m refl)

-- what is counted has a place
pub has_place : (xs : List ℕ) (m : ℕ) → 1 ≤ get_or xs m 0 → m < length xs
has_place [] m h = absurd (omega arith)
has_place (x ∷ xs) zero h = omega arith
has_place (x ∷ xs) (suc m) h = let rest = has_place xs m h in omega arith

pub come_fits : (change : Change) (ns : RefCounts) (m : ℕ) → change ≡ Come → Fits change ns (λ a. count_if (nat_eq a m)) → (m < length ns.times.items) × (count_at ns.times.items m + 1 < number_count)
come_fits change ns m is fits =
    let e = once m in
    let both = (subst (λ (k : Change). Fits k ns (λ a. count_if (nat_eq a m))) is fits) m (omega arith) in
    (both.0, omega (arith, both.1))

pub go_fits : (change : Change) (ns : RefCounts) (m : ℕ) → change ≡ Go → Fits change ns (λ a. count_if (nat_eq a m)) → 1 ≤ count_at ns.times.items m
go_fits change ns m is fits =
    let e = once m in
    let some = (subst (λ (k : Change). Fits k ns (λ a. count_if (nat_eq a m))) is fits) m in
    omega arith
