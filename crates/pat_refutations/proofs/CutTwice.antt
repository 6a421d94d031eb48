-- A cut word, cut again.
use Rattle.std.proofs.Common.{◌≡◌, ℕ, ◌<◌, ◌+◌, min, arith, sym, subst}
use Rattle.pat_words_spec.specs.Words.{Word}
use Rattle.pat_words_spec.specs.Cuts.{cut_at}
use Rattle.pat_words_laws.proofs.WordLaws.{word_ext}
use Rattle.pat_refutations.specs.membership.Shortened.{IsCutAbove}

pub cut_above : (most : ℕ) (w short : Word) → short ≡ cut_at (most + 1) w → IsCutAbove most w short
cut_above most w short e =
    (most + 1, omega arith, subst (λ (x : Word). cut_at (most + 1) x ≡ cut_at (most + 1) w) (sym e) (word_ext (cut_at (most + 1) (cut_at (most + 1) w)) (cut_at (most + 1) w) (λ t. omega arith)))
