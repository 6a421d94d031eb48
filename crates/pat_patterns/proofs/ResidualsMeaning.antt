-- What the calls answer, in words.
use Rattle.std.proofs.Common.{◌≡◌, ℕ, ◌%◌, ◌^◌, ◌<◌, ◌≤◌, Bool, nat_eq, nat_lt, ◌↔◌, IsTrue, sym, ap, ◌∙◌, subst, arith}
use Rattle.std.proofs.Math.Nat.{div-eq_of_lt}
use Rattle.std.proofs.Math.Pow.{pow_mono}
use Rattle.std.proofs.lemmas.Bool.{le-ltb}
use Rattle.pat_words_spec.specs.Words.{Word, no_word, one, plus}
use Rattle.pat_words_spec.specs.Patterns.{Pat, In, Covers, is_nullable, is_inhabited, covers, residual}
use Rattle.pat_words_laws.proofs.PatternLaws.{nullable_to, nullable_from, inhabited_to, inhabited_from, residual_to, residual_from}
use Rattle.pat_words_laws.proofs.CoverLaws.{covers_to, covers_from}
use Rattle.pat_patterns.specs.residuals.Received.{is_received}

-- a test that is that of the empty word says whether it is a word
pub nullable_words : (b : Bool) (e : Pat) → b ≡ is_nullable e → IsTrue b ↔ In e no_word
nullable_words b e q = (λ h. nullable_to e (sym q ∙ h), λ i. q ∙ nullable_from e i)

-- a test that is that of any word says whether there is one
pub inhabited_words : (b : Bool) (e : Pat) → b ≡ is_inhabited e → IsTrue b ↔ ((w : Word) × In e w)
inhabited_words b e q = (λ h. inhabited_to e (sym q ∙ h), λ i. q ∙ inhabited_from e i.0 i.1)

-- a test that is that of the clauses says whether they cover the pattern
pub covers_words : (b : Bool) (e : Pat) (received : ℕ → Bool) (free : Bool) → b ≡ covers e received free → IsTrue b ↔ Covers e received free
covers_words b e received free q = (λ h. covers_to e received free (sym q ∙ h), λ i. q ∙ covers_from e received free i)

-- a pattern that is the residual has its words
pub residual_words : (r e : Pat) (m : ℕ) → r ≡ residual e m → (w : Word) → In r w ↔ In e (plus w (one m))
residual_words r e m q w =
    (λ h. residual_to e m w (subst (λ p. In p w) q h), λ i. subst (λ p. In p w) (sym q) (residual_from e m w i))

-- a number has no bit beyond its width
pub no_bit : (received t : ℕ) → received < 2 ^ 32 → 32 ≤ t → nat_lt t 32 ≡ is_received received t
no_bit received t fits beyond =
    let bound = pow_mono beyond in
    let small : received < 2 ^ t = omega arith in
    let none = div-eq_of_lt small in
    le-ltb t 32 beyond ∙ sym (ap (λ n. nat_eq (n % 2) 1) none)
