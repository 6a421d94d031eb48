-- Tests in another order.
use Rattle.std.proofs.Common.{◌≡◌, Bool, true, false, ◌&&◌, refl}

-- tests of an item that comes before all others of the list
pub behind_three : (a b c r : Bool) → (r && (a && (b && c))) ≡ (a && (b && (c && r)))
behind_three true true true true = refl
behind_three true true true false = refl
behind_three true true false true = refl
behind_three true true false false = refl
behind_three true false c true = refl
behind_three true false c false = refl
behind_three false b c true = refl
behind_three false b c false = refl

pub behind_one : (a r : Bool) → (r && a) ≡ (a && r)
behind_one true true = refl
behind_one true false = refl
behind_one false true = refl
behind_one false false = refl

-- a test in whose place another stands once a first one passes
pub with_other : (a b d c : Bool) → (b ≡ true → a ≡ d) → ((b && d) && c) ≡ (a && (b && c))
with_other a true d c h = go a d c (h refl)
  where
    go : (a d c : Bool) → a ≡ d → ((true && d) && c) ≡ (a && (true && c))
    go true true c q = refl
    go true false c q = absurd cc
    go false true c q = absurd cc
    go false false c q = refl
with_other true false d c h = refl
with_other false false d c h = refl
