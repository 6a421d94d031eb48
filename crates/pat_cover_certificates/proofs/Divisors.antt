-- Common divisors of periods' counts, and of the counts that they make.
use Rattle.std.proofs.Common.{ℕ, ◌<◌, List, [], ◌∷◌, sym, subst}
use Rattle.std.specs.Int.{◌∣◌}
use Rattle.std.specs.List.{AllByRecursion}
use Rattle.std.proofs.Math.Nat.{dvd-add, dvd-mul_left_of_dvd}
use Rattle.std.proofs.lemmas.Nat.Gcd.{dvd-zero}
use Rattle.pat_words_spec.specs.Words.{Word}
use Rattle.pat_inclusion_spec.specs.LinearSets.{combined}
use Rattle.pat_cover_certificates.specs.coefficients.Numbers.{NoNumbers}
use Rattle.pat_cover_certificates.proofs.Making.{made}

-- it divides what they make
divides_combined : (g t : ℕ) (cs : List ℕ) (ps : List Word) → AllByRecursion (λ p. g ∣ p t) ps → g ∣ combined cs ps t
divides_combined g t [] ps h = dvd-zero g
divides_combined g t (c ∷ cs) [] h = dvd-zero g
divides_combined g t (c ∷ cs) (p ∷ ps) h = dvd-add g (dvd-mul_left_of_dvd g h.0 c) (divides_combined g t cs ps h.1)

-- so a word with a count that it doesn't divide isn't made
pub not_made : (n g t : ℕ) (ps : List Word) (w : Word) → t < n → AllByRecursion (λ p. g ∣ p t) ps → (g ∣ w t → ⊥) → NoNumbers n ps w
not_made n g t ps w l all apart cs m =
    apart (subst (λ k. g ∣ k) (sym ((made n ps cs w m).1 t l)) (divides_combined g t cs ps all))
