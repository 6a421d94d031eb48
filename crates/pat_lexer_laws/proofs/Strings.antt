-- Strings from their first byte on.
use Rattle.std.proofs.Common.{◌≡◌, ◌==◌, ℕ, true, false, List, [], ◌∷◌, ◌++◌, refl, ap, sym, subst, ◌∙◌}
use Rattle.pat_lexer_spec.specs.Characters.{is_plain, Each, Quotes, nothing, plain, quote, backslash}
use Rattle.pat_lexer_laws.proofs.Runs.{both}

-- the first of a list, and what follows it
abbrev pub first_of : List ℕ → ℕ
first_of [] = 0
first_of (x ∷ xs) = x

abbrev pub rest_of : List ℕ → List ℕ
rest_of [] = []
rest_of (x ∷ xs) = xs

-- numbers that a test tells apart
pub apart : (b c : ℕ) → (b == b) ≡ true → (b == c) ≡ false → b ≡ c → ⊥
apart b c same other e = both (b == c) (subst (λ x. (b == x) ≡ true) e same) other

-- what is left of a string's inside behind a front that needs no more
pub record GoesOn (raw whole tail after : List ℕ) : Type 0 where
  pub more : List ℕ
  pub text : List ℕ
  pub quotes : Quotes more text
  pub whole_is : whole ≡ raw ++ more
  pub tail_is : tail ≡ more ++ 34 ∷ after

not_plain : (b c : ℕ) → is_plain b ≡ true → b ≡ c → is_plain c ≡ false → ⊥
not_plain b c p e n = both (is_plain b) p (ap is_plain e ∙ n)

-- a string goes on behind each front of its inside that needs no more
pub goes_on : {raw text whole other : List ℕ} (tail after : List ℕ) → Quotes raw text → Quotes whole other → raw ++ tail ≡ whole ++ 34 ∷ after → GoesOn raw whole tail after
goes_on {whole = whole} {other = other} tail after nothing q' e = record { more = whole; text = other; quotes = q'; whole_is = refl; tail_is = e }
goes_on tail after (plain {b} p q) nothing e = absurd (not_plain b 34 p (ap first_of e) refl)
goes_on tail after (quote q) nothing e = absurd (apart 92 34 refl refl (ap first_of e))
goes_on tail after (backslash q) nothing e = absurd (apart 92 34 refl refl (ap first_of e))
goes_on tail after (plain {b} {raw} p q) (plain {b = b'} {raw = raw'} p' q') e =
    let more = goes_on tail after q q' (ap rest_of e) in
    record { more = more.more; text = more.text; quotes = more.quotes; whole_is = ap (λ h. h ∷ raw') (sym (ap first_of e)) ∙ ap (λ l. b ∷ l) more.whole_is; tail_is = more.tail_is }
goes_on tail after (plain {b} p q) (quote q') e = absurd (not_plain b 92 p (ap first_of e) refl)
goes_on tail after (plain {b} p q) (backslash q') e = absurd (not_plain b 92 p (ap first_of e) refl)
goes_on tail after (quote q) (plain {b} p q') e = absurd (not_plain b 92 p (sym (ap first_of e)) refl)
goes_on tail after (backslash q) (plain {b} p q') e = absurd (not_plain b 92 p (sym (ap first_of e)) refl)
goes_on tail after (quote q) (backslash q') e = absurd (apart 34 92 refl refl (ap (λ l. first_of (rest_of l)) e))
goes_on tail after (backslash q) (quote q') e = absurd (apart 92 34 refl refl (ap (λ l. first_of (rest_of l)) e))
goes_on tail after (quote {raw} q) (quote {raw = raw'} q') e =
    let more = goes_on tail after q q' (ap (λ l. rest_of (rest_of l)) e) in
    record { more = more.more; text = more.text; quotes = more.quotes; whole_is = ap (λ l. 92 ∷ 34 ∷ l) more.whole_is; tail_is = more.tail_is }
goes_on tail after (backslash {raw} q) (backslash {raw = raw'} q') e =
    let more = goes_on tail after q q' (ap (λ l. rest_of (rest_of l)) e) in
    record { more = more.more; text = more.text; quotes = more.quotes; whole_is = ap (λ l. 92 ∷ 92 ∷ l) more.whole_is; tail_is = more.tail_is }

-- nothing stands between a place in a string and its closing quote there
pub nothing_left : {more text : List ℕ} (after rest : List ℕ) → Quotes more text → 34 ∷ rest ≡ more ++ 34 ∷ after → more ≡ []
nothing_left after rest nothing e = refl
nothing_left after rest (plain {b} p q) e = absurd (not_plain b 34 p (sym (ap first_of e)) refl)
nothing_left after rest (quote q) e = absurd (apart 34 92 refl refl (ap first_of e))
nothing_left after rest (backslash q) e = absurd (apart 34 92 refl refl (ap first_of e))

-- one part of a string's inside behind another
pub quotes_append : {raw text more others : List ℕ} → Quotes raw text → Quotes more others → Quotes (raw ++ more) (text ++ others)
quotes_append nothing r = r
quotes_append (plain p q) r = plain p (quotes_append q r)
quotes_append (quote q) r = quote (quotes_append q r)
quotes_append (backslash q) r = backslash (quotes_append q r)

-- plain bytes stand for themselves
pub quotes_plain : (raw : List ℕ) → Each is_plain raw → Quotes raw raw
quotes_plain [] each = nothing
quotes_plain (b ∷ raw) each = plain each.0 (quotes_plain raw each.1)
