-- A byte of a string.
use Rattle.std.proofs.Common.{◌≡◌, ℕ, ◌==◌, ◌||◌, Bool, true, false, List, [], ◌∷◌, ◌++◌, refl, sym, ap, ◌∙◌, append_assoc, if◌then◌else◌}
use Rattle.std.specs.Prelude.{Option, Some, None, option_map}
use Rattle.std.specs.Prelude.{IsUtf8}
use Rattle.std.specs.Str.{is_utf8}
use Rattle.std.proofs.lemmas.Str.{is_utf8-from_IsUtf8, IsUtf8-from_is_utf8}
use Rattle.pat_lexer_spec.specs.Characters.{is_plain}
use Rattle.pat_texts_spec.proofs.Choices.{passed, skipped}
use Rattle.pat_texts_spec.specs.Joined.{then_read}
use Rattle.pat_checkpoint_spec.specs.text.ValueReading.{unquoted, read_quoted}

-- what is read behind a byte stands behind it
kept : (own : List ℕ) (b : ℕ) (o : Option (List ℕ)) → then_read (own ++ b ∷ []) o ≡ then_read own (option_map (λ s. b ∷ s) o)
kept own b None = refl
kept own b (Some s) = ap Some (append_assoc own (b ∷ []) s)

abbrev behind : ℕ → List ℕ → Option (List ℕ)
behind b bs = option_map (λ s. b ∷ s) (unquoted false bs)

took : (old new : List ℕ) (t : Bool) (b : ℕ) (bs : List ℕ) → new ≡ old ++ b ∷ [] → unquoted t (b ∷ bs) ≡ behind b bs → then_read new (unquoted false bs) ≡ then_read old (unquoted t (b ∷ bs))
took old new t b bs grown e = ap (λ l. then_read l (unquoted false bs)) grown ∙ kept old b (unquoted false bs) ∙ ap (then_read old) (sym e)

pub special_taken : (old new : List ℕ) (t : Bool) (b : ℕ) → t ≡ true → (b == 34 || b == 92) ≡ true → new ≡ old ++ b ∷ [] → (bs : List ℕ) → then_read new (unquoted false bs) ≡ then_read old (unquoted t (b ∷ bs))
special_taken old new true b e s grown bs = took old new true b bs grown (passed (b == 34 || b == 92) (behind b bs) None s)
special_taken old new false b e s grown bs = absurd cc

pub none_behind : (t : Bool) (b : ℕ) → t ≡ true → (b == 34 || b == 92) ≡ false → (bs : List ℕ) → unquoted t (b ∷ bs) ≡ None
none_behind true b e s bs = skipped (b == 34 || b == 92) (behind b bs) None s
none_behind false b e s bs = absurd cc

pub slash_taken : (old : List ℕ) (t : Bool) (b : ℕ) → t ≡ false → (b == 92) ≡ true → (bs : List ℕ) → then_read old (unquoted true bs) ≡ then_read old (unquoted t (b ∷ bs))
slash_taken old true b e s bs = absurd cc
slash_taken old false b e s bs = ap (then_read old) (sym (passed (b == 92) (unquoted true bs) (if is_plain b then behind b bs else None) s))

pub plain_taken : (old new : List ℕ) (t : Bool) (b : ℕ) → t ≡ false → (b == 92) ≡ false → is_plain b ≡ true → new ≡ old ++ b ∷ [] → (bs : List ℕ) → then_read new (unquoted false bs) ≡ then_read old (unquoted t (b ∷ bs))
plain_taken old new true b e s p grown bs = absurd cc
plain_taken old new false b e s p grown bs =
    took old new false b bs grown (skipped (b == 92) (unquoted true bs) (if is_plain b then behind b bs else None) s ∙ passed (is_plain b) (behind b bs) None p)

pub none_plain : (t : Bool) (b : ℕ) → t ≡ false → (b == 92) ≡ false → is_plain b ≡ false → (bs : List ℕ) → unquoted t (b ∷ bs) ≡ None
none_plain true b e s p bs = absurd cc
none_plain false b e s p bs = skipped (b == 92) (unquoted true bs) (if is_plain b then behind b bs else None) s ∙ skipped (is_plain b) (behind b bs) None p

-- one turn of the loop
pub turned : (own new : List ℕ) (t e : Bool) (b : ℕ) (left more : List ℕ) (whole : Option (List ℕ)) → ((bs : List ℕ) → then_read new (unquoted e bs) ≡ then_read own (unquoted t (b ∷ bs))) → left ≡ b ∷ more → then_read own (unquoted t left) ≡ whole → then_read new (unquoted e more) ≡ whole
turned own new t e b left more whole h same was = h more ∙ ap (λ l. then_read own (unquoted t l)) (sym same) ∙ was

pub stopped : (own : List ℕ) (t : Bool) (b : ℕ) (left more : List ℕ) (whole : Option (List ℕ)) → ((bs : List ℕ) → unquoted t (b ∷ bs) ≡ None) → left ≡ b ∷ more → then_read own (unquoted t left) ≡ whole → whole ≡ None
stopped own t b left more whole h same was = sym was ∙ ap (λ l. then_read own (unquoted t l)) same ∙ ap (then_read own) (h more)

pub text_quoted : (raw : List ℕ) → IsUtf8 raw → read_quoted raw ≡ unquoted false raw
text_quoted raw u = passed (is_utf8 raw) (unquoted false raw) None (is_utf8-from_IsUtf8 raw u)

pub no_text_quoted : (raw : List ℕ) → (IsUtf8 raw → ⊥) → read_quoted raw ≡ None
no_text_quoted raw other = skipped (is_utf8 raw) (unquoted false raw) None (by (is_utf8 raw) refl)
  where
    by : (t : Bool) → is_utf8 raw ≡ t → t ≡ false
    by false e = refl
    by true e = absurd (other (IsUtf8-from_is_utf8 raw e))
