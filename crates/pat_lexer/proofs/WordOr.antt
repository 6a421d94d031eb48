-- Bytes are those of a word, or of none.
use Rattle.std.proofs.Common.{◌≡◌, ◌≢◌, ◌⊎◌, inl, inr, ℕ, true, false, List, [], ◌∷◌, refl}
use Rattle.std.proofs.lemmas.Slice.Eq.{bytes_eq-Decides}
use Rattle.std.specs.Str.{bytes_eq}
use Rattle.pat_lexer_spec.specs.Words.{Reserved, word_bytes, Interface, Def, Let, In, If, Else, Print, New, Spawn, Guard, Free, Fail, Receive, From, TrueWord, FalseWord, UnitWord, BoolWord, IntWord, StringWord}
use Rattle.pat_lexer_spec.specs.Tokens.{Token, Name, Word}
use Rattle.pat_lexer_laws.proofs.Runs.{both}
use Rattle.pat_lexer.specs.fronts.Spelled.{IsNameToken, name, word}

-- the word is one of these
data IsOne : Reserved → List Reserved → Type 0 where
  first : {w : Reserved} {ws : List Reserved} → IsOne w (w ∷ ws)
  later : {w v : Reserved} {ws : List Reserved} → IsOne w ws → IsOne w (v ∷ ws)

abbrev words : List Reserved
words = Interface ∷ Def ∷ Let ∷ In ∷ If ∷ Else ∷ Print ∷ New ∷ Spawn ∷ Guard ∷ Free ∷ Fail ∷ Receive ∷ From ∷ TrueWord ∷ FalseWord ∷ UnitWord ∷ BoolWord ∷ IntWord ∷ StringWord ∷ []

is_word : (w : Reserved) → IsOne w words
is_word Interface = first
is_word Def = later (first)
is_word Let = later (later (first))
is_word In = later (later (later (first)))
is_word If = later (later (later (later (first))))
is_word Else = later (later (later (later (later (first)))))
is_word Print = later (later (later (later (later (later (first))))))
is_word New = later (later (later (later (later (later (later (first)))))))
is_word Spawn = later (later (later (later (later (later (later (later (first))))))))
is_word Guard = later (later (later (later (later (later (later (later (later (first)))))))))
is_word Free = later (later (later (later (later (later (later (later (later (later (first))))))))))
is_word Fail = later (later (later (later (later (later (later (later (later (later (later (first)))))))))))
is_word Receive = later (later (later (later (later (later (later (later (later (later (later (later (first))))))))))))
is_word From = later (later (later (later (later (later (later (later (later (later (later (later (later (first)))))))))))))
is_word TrueWord = later (later (later (later (later (later (later (later (later (later (later (later (later (later (first))))))))))))))
is_word FalseWord = later (later (later (later (later (later (later (later (later (later (later (later (later (later (later (first)))))))))))))))
is_word UnitWord = later (later (later (later (later (later (later (later (later (later (later (later (later (later (later (later (first))))))))))))))))
is_word BoolWord = later (later (later (later (later (later (later (later (later (later (later (later (later (later (later (later (later (first)))))))))))))))))
is_word IntWord = later (later (later (later (later (later (later (later (later (later (later (later (later (later (later (later (later (later (first))))))))))))))))))
is_word StringWord = later (later (later (later (later (later (later (later (later (later (later (later (later (later (later (later (later (later (later (first)))))))))))))))))))

same_or : (own : List ℕ) (w : Reserved) → (own ≡ word_bytes w) ⊎ (own ≢ word_bytes w)
same_or own w = elim (bytes_eq own (word_bytes w)) as (λ b. (b ≡ true → own ≡ word_bytes w) × (own ≡ word_bytes w → b ≡ true) → (own ≡ word_bytes w) ⊎ (own ≢ word_bytes w)) [ true ↦ λ d. inl (d.0 refl) | false ↦ λ d. inr (λ e. both false (d.1 e) refl) ] (bytes_eq-Decides own (word_bytes w))

among : (own : List ℕ) (ws : List Reserved) → ((w : Reserved) × (own ≡ word_bytes w)) ⊎ ((w : Reserved) → IsOne w ws → own ≢ word_bytes w)
among own [] = inr (λ w i e. elim i [ ])
among own (v ∷ ws) = from (same_or own v) (among own ws)
  where
    from : (own ≡ word_bytes v) ⊎ (own ≢ word_bytes v) → ((w : Reserved) × (own ≡ word_bytes w)) ⊎ ((w : Reserved) → IsOne w ws → own ≢ word_bytes w) → ((w : Reserved) × (own ≡ word_bytes w)) ⊎ ((w : Reserved) → IsOne w (v ∷ ws) → own ≢ word_bytes w)
    from (inl e) m = inl (v, e)
    from (inr n) (inl m) = inl m
    from (inr n) (inr m) = inr (split n m)
      where
        split : (own ≢ word_bytes v) → ((w : Reserved) → IsOne w ws → own ≢ word_bytes w) → (w : Reserved) → IsOne w (v ∷ ws) → own ≢ word_bytes w
        split n m w first = n
        split n m w (later i) = m w i

-- bytes are a name or a word
pub name_or_word : (own : List ℕ) → (t : Token) × IsNameToken own t
name_or_word own = from (among own words)
  where
    from : ((w : Reserved) × (own ≡ word_bytes w)) ⊎ ((w : Reserved) → IsOne w words → own ≢ word_bytes w) → (t : Token) × IsNameToken own t
    from (inl w) = (Word w.0, word w.1)
    from (inr n) = (Name own, name (λ w. n w (is_word w)))
