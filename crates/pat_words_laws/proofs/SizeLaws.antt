-- Bounds on the levels and the degree of a pattern.
use Rattle.std.proofs.Common.{◌≤◌, arith}
use Rattle.pat_words_spec.specs.Patterns.{Pat, Zero, One, Tag, Sum, Prod, Star, Var}
use Rattle.pat_words_spec.specs.Flats.{degree_of}
use Rattle.pat_words_spec.specs.Sizes.{size_of, levels_of}

pub levels_some : (e : Pat) → 1 ≤ levels_of e
levels_some Zero = omega arith
levels_some One = omega arith
levels_some (Tag m) = omega arith
levels_some (Sum e f) = omega arith
levels_some (Prod e f) = omega arith
levels_some (Star e) = omega arith
levels_some (Var k) = omega arith

pub levels_size : (e : Pat) → levels_of e ≤ size_of e
levels_size Zero = omega arith
levels_size One = omega arith
levels_size (Tag m) = omega arith
levels_size (Sum e f) = let a = levels_size e in let b = levels_size f in omega arith
levels_size (Prod e f) = let a = levels_size e in let b = levels_size f in omega arith
levels_size (Star e) = let a = levels_size e in omega arith
levels_size (Var k) = omega arith

pub degree_size : (e : Pat) → degree_of e ≤ size_of e
degree_size Zero = omega arith
degree_size One = omega arith
degree_size (Tag m) = omega arith
degree_size (Sum e f) = let a = degree_size e in let b = degree_size f in omega arith
degree_size (Prod e f) = let a = degree_size e in let b = degree_size f in omega arith
degree_size (Star e) = omega arith
degree_size (Var k) = omega arith
