-- Whether there are few points.
use Rattle.std.proofs.Common.{◌≡◌, ℕ, suc, ◌+◌, ◌*◌, ◌<◌, false, sym, ap, arith}
use Rattle.std.specs.Prelude.{nat_le}
use Rattle.std.proofs.lemmas.Bool.{lt-leb}
use Rattle.std.proofs.Math.Nat.{pow-suc}
use Rattle.pat_inclusion_spec.specs.bounds.Numbers.{points_in}
use Rattle.pat_grid_points.proofs.Digits.{fewer_points}
use Rattle.pat_limits.specs.Limits.{most_points}

-- so many points with some of the tags are too many with all
pub too_many : (k n i points : ℕ) → i < n → points ≡ points_in k i → most_points < points * (k + 1) → false ≡ nat_le (points_in k n) most_points
too_many k n i points l e h =
    let more = pow-suc (k + 1) i in
    let p : points * (k + 1) ≡ points_in k i * (k + 1) = ap (λ x. x * (k + 1)) e in
    let fewer = fewer_points k (suc i) n l in
    sym (lt-leb (points_in k n) most_points (omega arith))
