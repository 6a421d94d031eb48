-- Texts that are cut at a byte that stands in none of their front.
use Rattle.std.proofs.Common.{◌≡◌, ◌<◌, ℕ, ◌==◌, Bool, true, false, List, [], ◌∷◌, ◌++◌, length, refl, ap, ◌∙◌, subst, arith}
use Rattle.std.specs.Prelude.{Option, Some, None, option_map, not, ◌&&◌}
use Rattle.std.specs.List.{AllByRecursion, list_all}
use Rattle.std.specs.Fmt.{decimal}
use Rattle.std.specs.Str.Parse.{AllDigits}
use Rattle.std.proofs.lemmas.Bool.{and_parts, leb-true, eq-eqb, ne_eqb}
use Rattle.std.proofs.lemmas.Str.Parse.{digit_from_value}
use Rattle.std.proofs.lemmas.Fmt.{decimal_is_IsNumeral}
use Rattle.pat_texts_spec.specs.Numbers.{is_number}
use Rattle.pat_texts_spec.proofs.Choices.{passed, skipped, negated}
use Rattle.pat_texts_spec.specs.Joined.{cut}
use Rattle.pat_texts_spec.proofs.Cutting.{CutInPieces, cut_pieces}
use Rattle.pat_limits.specs.Limits.{most_number}

-- the byte is none of the text
abbrev pub Lacks : ℕ → List ℕ → Type 0
Lacks c w = AllByRecursion (λ b. b ≡ c → ⊥) w

-- by a test of each byte
pub lacks_by : (c : ℕ) (w : List ℕ) → list_all (λ b. not (b == c)) w ≡ true → Lacks c w
lacks_by c [] t = tt
lacks_by c (b ∷ w) t =
    let k = and_parts (not (b == c)) (list_all (λ b. not (b == c)) w) t in
    (λ e. (let yes = eq-eqb b c e in let no = negated (b == c) k.0 in cc), lacks_by c w k.1)

pub cut_at : (c : ℕ) (w r : List ℕ) → Lacks c w → cut c (w ++ c ∷ r) ≡ Some (w, r)
cut_at c [] r l =
    let own : Option (List ℕ × List ℕ) = Some ([], r) in
    passed (c == c) own (option_map (λ s. (c ∷ s.0, s.1)) (cut c r)) (eq-eqb c c refl)
cut_at c (b ∷ w) r l =
    let own : Option (List ℕ × List ℕ) = Some ([], w ++ c ∷ r) in
    skipped (b == c) own (option_map (λ s. (b ∷ s.0, s.1)) (cut c (w ++ c ∷ r))) (ne_eqb b c l.0) ∙ ap (option_map (λ s. (b ∷ s.0, s.1))) (cut_at c w r l.1)

pub cut_is : (c : ℕ) (bs : List ℕ) (r : List ℕ × List ℕ) → cut c bs ≡ Some r → bs ≡ r.0 ++ c ∷ r.1
cut_is c bs r e = (subst (CutInPieces c bs) e (cut_pieces c bs)).2

pub cut_shorter : (c : ℕ) (bs : List ℕ) (r : List ℕ × List ℕ) → cut c bs ≡ Some r → length r.1 < length bs
cut_shorter c bs r e = (subst (CutInPieces c bs) e (cut_pieces c bs)).1

pub lacks_both : (c : ℕ) (v w : List ℕ) → Lacks c v → Lacks c w → Lacks c (v ++ w)
lacks_both c [] w l m = m
lacks_both c (b ∷ v) w l m = (l.0, lacks_both c v w l.1 m)

digits_lack : (c : ℕ) → c < 48 → (ds : List ℕ) → AllDigits 10 ds → Lacks c ds
digits_lack c low [] d = tt
digits_lack c low (b ∷ bs) d = let k = digit_from_value b d.0 in ((λ e. omega (arith, e, low, k.0)), digits_lack c low bs d.1)

-- a number's text has digits alone
pub number_lacks : (c n : ℕ) → c < 48 → is_number n ≡ true → Lacks c (decimal n)
number_lacks c n low s = let small = leb-true n most_number s in digits_lack c low (decimal n) (decimal_is_IsNumeral n (omega (arith, small))).0.1
