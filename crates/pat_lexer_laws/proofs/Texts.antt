-- UTF-8 and where it may be cut.
use Rattle.std.proofs.Common.{◌≡◌, ◌≢◌, ◌&&◌, ℕ, Bool, true, false, List, [], ◌∷◌, ◌++◌, length, take, drop, refl, ap, sym, subst, ◌∙◌, arith, length-append, append_assoc}
use Rattle.std.proofs.lemmas.List.{take_at, drop_at}
use Rattle.std.proofs.lemmas.Str.{IsCharBoundary-from_take, IsUtf8-drop, length-encode, len_utf8_bounds}
use Rattle.std.specs.Str.{IsUtf8, encode_utf8_all, all_scalars, StartsWithNoChar}
use Rattle.std.specs.Char.{encode_utf8, IsScalar}
use lib.Utf8.{scalar}

both_true : (a b : Bool) → (a && b) ≡ true → (a ≡ true) × (b ≡ true)
both_true true true e = (refl, refl)
both_true true false e = (refl, e)
both_true false b e = cc

pub scalars_first : (c : ℕ) (cs : List ℕ) → all_scalars (c ∷ cs) ≡ true → IsScalar c
scalars_first c cs e = (both_true (scalar c) (all_scalars cs) e).0

pub scalars_rest : (c : ℕ) (cs : List ℕ) → all_scalars (c ∷ cs) ≡ true → all_scalars cs ≡ true
scalars_rest c cs e = (both_true (scalar c) (all_scalars cs) e).1

-- what is left of a text behind a text is a text
pub utf8_rest : (xs ys : List ℕ) → IsUtf8 xs → IsUtf8 (xs ++ ys) → IsUtf8 ys
utf8_rest xs ys u w =
    let front : take (length xs) (xs ++ ys) ≡ xs = take_at xs ys (length xs) refl in
    let back : drop (length xs) (xs ++ ys) ≡ ys = drop_at xs ys (length xs) refl in
    subst IsUtf8 back (IsUtf8-drop (xs ++ ys) (length xs) w (IsCharBoundary-from_take (xs ++ ys) (length xs) w (omega (arith, length-append xs ys)) (subst IsUtf8 (sym front) u)))

-- a character has a byte
pub encode_some : (c : ℕ) (rest : List ℕ) → encode_utf8 c ++ rest ≡ [] → ⊥
encode_some c rest e = omega (arith, ap length e, length-append (encode_utf8 c) rest, length-encode c, len_utf8_bounds c)

-- a text that isn't empty begins with a character
pub utf8_front : (bs after : List ℕ) → IsUtf8 bs → bs ≢ [] → StartsWithNoChar (bs ++ after) → ⊥
utf8_front bs after u some none = from u.0 u.1.0 u.1.1
  where
    from : (cs : List ℕ) → all_scalars cs ≡ true → encode_utf8_all cs ≡ bs → ⊥
    from [] s e = some (sym e)
    from (c ∷ cs) s e = none c (encode_utf8_all cs ++ after) (scalars_first c cs s) (ap (λ l. l ++ after) (sym e) ∙ append_assoc (encode_utf8 c) (encode_utf8_all cs) after)
