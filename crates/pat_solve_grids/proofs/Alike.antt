-- Symbols that are the same.
use Rattle.std.proofs.Common.{◌≡◌, ℕ, true, ◌&&◌, ap, ap₂}
use Rattle.std.specs.Prelude.{nat_eq}
use Rattle.std.proofs.lemmas.Bool.{and_parts, eqb-true}
use Rattle.pat_grid_points.specs.declared.symbols.symbol.Symbol.{Symbol}
use Rattle.pat_grid_points.specs.declared.symbols.symbol.Symbol.TheVariants.{Tag, Sum, Prod, Star, Lower}

two : (f : ℕ → ℕ → Symbol) (a b c d : ℕ) → (nat_eq a c && nat_eq b d) ≡ true → f a b ≡ f c d
two f a b c d h =
    let both = and_parts (nat_eq a c) (nat_eq b d) h in ap₂ f (eqb-true a c both.0) (eqb-true b d both.1)

pub same_tag : (a b : ℕ) → nat_eq a b ≡ true → Tag a ≡ Tag b
same_tag a b h = ap Tag (eqb-true a b h)

pub same_sum : (a b c d : ℕ) → (nat_eq a c && nat_eq b d) ≡ true → Sum a b ≡ Sum c d
same_sum a b c d h = two Sum a b c d h

pub same_product : (a b c d : ℕ) → (nat_eq a c && nat_eq b d) ≡ true → Prod a b ≡ Prod c d
same_product a b c d h = two Prod a b c d h

pub same_star : (a b : ℕ) → nat_eq a b ≡ true → Star a ≡ Star b
same_star a b h = ap Star (eqb-true a b h)

pub same_lower : (a b : ℕ) → nat_eq a b ≡ true → Lower a ≡ Lower b
same_lower a b h = ap Lower (eqb-true a b h)
