-- What bytes begin with that have no whole character before their last byte.
use Rattle.std.proofs.Common.{◌≡◌, ◌≢◌, ◌<◌, ◌⊎◌, inl, inr, ℕ, zero, suc, true, List, [], ◌∷◌, ◌++◌, length, get_or, take, drop, refl, ap, sym, subst, ◌∙◌, arith, length-append, append-nil}
use Rattle.std.proofs.lemmas.List.{take-append-drop}
use Rattle.std.proofs.lemmas.Str.{IsUtf8-encode, encode_same}
use Rattle.std.specs.Str.{IsUtf8, StartsWithNoChar, encode_utf8_all, all_scalars}
use Rattle.std.specs.Char.{encode_utf8, IsScalar}
use Rattle.pat_lexer_laws.proofs.Texts.{utf8_front, scalars_first, encode_some}
use Rattle.pat_lexer.specs.fronts.Fronts.{IsCut}

-- the same list without its last
last_off : (front rest before : List ℕ) (last : ℕ) → front ++ rest ≡ before ++ last ∷ [] → (rest ≡ []) ⊎ ((more : List ℕ) × (before ≡ front ++ more))
last_off front [] before last e = inl refl
last_off [] (x ∷ rest) before last e = inr (before, refl)
last_off (f ∷ front) (x ∷ rest) [] last e = absurd (short (ap length e))
  where
    short : length (f ∷ (front ++ x ∷ rest)) ≡ 1 → ⊥
    short l = omega (arith, l, length-append front (x ∷ rest))
last_off (f ∷ front) (x ∷ rest) (b ∷ before) last e = from (last_off front (x ∷ rest) before last (ap tail_of e))
  where
    tail_of : List ℕ → List ℕ
    tail_of l = drop 1 l

    from : (x ∷ rest ≡ []) ⊎ ((more : List ℕ) × (before ≡ front ++ more)) → (x ∷ rest ≡ []) ⊎ ((more : List ℕ) × (b ∷ before ≡ f ∷ front ++ more))
    from (inl nil) = inl nil
    from (inr m) = inr (m.0, ap (λ l. b ∷ l) m.1 ∙ ap (λ h. h ∷ (front ++ m.0)) (sym (ap (λ l. get_or l 0 0) e)))

-- a character at the front is all of the bytes
pub cut_whole : (bytes rest : List ℕ) (c : ℕ) → IsCut bytes → IsScalar c → bytes ≡ encode_utf8 c ++ rest → bytes ≡ encode_utf8 c
cut_whole bytes rest c cut s e = from (last_off (encode_utf8 c) rest cut.before cut.last (sym e ∙ cut.split))
  where
    from : (rest ≡ []) ⊎ ((more : List ℕ) × (cut.before ≡ encode_utf8 c ++ more)) → bytes ≡ encode_utf8 c
    from (inl nil) = e ∙ ap (λ l. encode_utf8 c ++ l) nil ∙ append-nil (encode_utf8 c)
    from (inr m) = absurd (cut.none c m.0 s m.1)

-- bytes that aren't UTF-8 begin with no character
pub cut_none : (bytes : List ℕ) → IsCut bytes → (IsUtf8 bytes → ⊥) → StartsWithNoChar bytes
cut_none bytes cut bad c rest s e = bad (subst IsUtf8 (sym (cut_whole bytes rest c cut s e)) (IsUtf8-encode c s))

-- so no front of them is UTF-8
pub cut_front : (bytes : List ℕ) (n : ℕ) → IsCut bytes → (IsUtf8 bytes → ⊥) → IsUtf8 (take n bytes) → 0 < n → ⊥
cut_front bytes n cut bad u some = utf8_front (take n bytes) (drop n bytes) u (taken n bytes some (cut_some bytes cut)) (subst StartsWithNoChar (sym (take-append-drop n bytes)) (cut_none bytes cut bad))
  where
    cut_some : (bytes : List ℕ) → IsCut bytes → 0 < length bytes
    cut_some [] cut = absurd (omega (arith, cut.high))
    cut_some (b ∷ bytes) cut = omega arith

    taken : (n : ℕ) (bytes : List ℕ) → 0 < n → 0 < length bytes → take n bytes ≢ []
    taken zero bytes some there e = absurd (omega (arith, some))
    taken (suc n) [] some there e = absurd (omega (arith, there))
    taken (suc n) (b ∷ bytes) some there e = let no : ⊥ = cc in no

pub cut_length : (bytes : List ℕ) → IsCut bytes → 0 < length bytes
cut_length [] cut = absurd (omega (arith, cut.high))
cut_length (b ∷ bytes) cut = omega arith

-- the character at the front of a text is one
pub scalar_front : (bytes rest : List ℕ) (c : ℕ) → IsUtf8 bytes → bytes ≡ encode_utf8 c ++ rest → IsScalar c
scalar_front bytes rest c u e = from u.0 u.1.0 u.1.1
  where
    from : (cs : List ℕ) → all_scalars cs ≡ true → encode_utf8_all cs ≡ bytes → IsScalar c
    from [] s is = absurd (encode_some c rest (sym e ∙ sym is))
    from (d ∷ cs) s is = let same = encode_same d c (encode_utf8_all cs) rest (is ∙ e) in subst IsScalar same.0 (scalars_first d cs s)
