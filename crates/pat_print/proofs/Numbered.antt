-- Patterns over numbered tags: the names of the tags, and the text of one without variables.
use Rattle.std.proofs.Common.{◌≡◌, ℕ, zero, suc, Bool, true, false, List, [], ◌∷◌, ◌++◌, map, refl, sym, ap, ◌∙◌, append_assoc, append-nil, ◌<◌, length, get_or, subst, arith}
use Rattle.std.specs.Prelude.{slice_index_or, nat_lt, IsTrue, ◌&&◌}
use Rattle.std.proofs.lemmas.Bool.Decides.{nat_tests}
use Rattle.pat_words_spec.specs.Patterns.{Pat, Zero, One, Tag, Sum, Prod, Star, Var, is_closed}
use Rattle.pat_print_spec.specs.Canonical.{bracketed, opens_sum_pattern, opens_factor, pattern_onto}
use Rattle.pat_print_spec.specs.Text.{text_of}
use Rattle.pat_core.specs.declared.program.TagDecl.{TagDecl}
use Rattle.pat_core.specs.Views.{tag_view}
use Rattle.pat_parser_spec.specs.Trees as trees
use Rattle.pat_derivation_text_spec.specs.patterns.PatternText.{enclosed, is_sum, is_sum_or_product, pat_text}
use Rattle.pat_print.specs.patterns.PatternText.{written_with}
use Rattle.pat_print.proofs.Lines.{part_is, sum_is, prod_is, zero_is, one_is}

pub tag_name : (ts us : List TagDecl) (k : ℕ) (d : TagDecl) → us ≡ ts → true ≡ nat_lt k (length us) → d ≡ get_or us k d → get_or (map (λ t. t.name) (map tag_view ts)) k [] ≡ d.name
tag_name ts us k d same test e = let within : k < length us = grind (arith, nat_tests) in from ts k (subst (λ l. k < length l) same within) (e ∙ ap (λ l. get_or l k d) same)
  where
    from : (ts : List TagDecl) (k : ℕ) → k < length ts → d ≡ get_or ts k d → get_or (map (λ t. t.name) (map tag_view ts)) k [] ≡ d.name
    from [] k within e = absurd (omega arith)
    from (t ∷ ts) zero within e = ap (λ x. x.name) (sym e)
    from (t ∷ ts) (suc k) within e = from ts k (omega arith) e

left_true : (a b : Bool) → IsTrue (a && b) → IsTrue a
left_true true b h = refl
left_true false b h = h

right_true : (a b : Bool) → IsTrue (a && b) → IsTrue b
right_true true b h = h
right_true false b h = absurd cc

sum_same : (names : List (List ℕ)) (p : Pat) → opens_sum_pattern (written_with names p) ≡ is_sum p
sum_same names Zero = refl
sum_same names One = refl
sum_same names (Tag t) = refl
sum_same names (Var k) = refl
sum_same names (Sum p q) = refl
sum_same names (Prod p q) = refl
sum_same names (Star p) = refl

factor_same : (names : List (List ℕ)) (p : Pat) → opens_factor (written_with names p) ≡ is_sum_or_product p
factor_same names Zero = refl
factor_same names One = refl
factor_same names (Tag t) = refl
factor_same names (Var k) = refl
factor_same names (Sum p q) = refl
factor_same names (Prod p q) = refl
factor_same names (Star p) = refl

-- a part in brackets, where its text is that of the written part
enclosed_is : (c d : Bool) (text : List ℕ) (p : trees.Pattern) → d ≡ c → text ≡ text_of (pattern_onto p []) → enclosed c text ≡ text_of (bracketed d (pattern_onto p) [])
enclosed_is true d text p s e = rw s (ap (λ l. 40 ∷ (l ++ 41 ∷ [])) e ∙ part_is [] p)
enclosed_is false d text p s e = rw s (append-nil text ∙ e)

pub text_same : (names : List (List ℕ)) (p : Pat) → IsTrue (is_closed p) → pat_text names p ≡ text_of (pattern_onto (written_with names p) [])
text_same names Zero h = sym zero_is
text_same names One h = sym one_is
text_same names (Tag t) h = sym (append-nil (slice_index_or names t []))
text_same names (Var k) h = absurd cc
text_same names (Sum p q) h =
    let a = text_same names p (left_true (is_closed p) (is_closed q) h) in
    let b = enclosed_is (is_sum q) (opens_sum_pattern (written_with names q)) (pat_text names q) (written_with names q) (sum_same names q) (text_same names q (right_true (is_closed p) (is_closed q) h)) in
    ap (λ l. l ++ 32 ∷ 43 ∷ 32 ∷ enclosed (is_sum q) (pat_text names q)) a
    ∙ ap (λ l. text_of (pattern_onto (written_with names p) []) ++ 32 ∷ 43 ∷ 32 ∷ l) b
    ∙ sym (append_assoc (text_of (pattern_onto (written_with names p) [])) (32 ∷ 43 ∷ 32 ∷ []) _)
    ∙ sum_is [] (opens_sum_pattern (written_with names q)) (written_with names p) (written_with names q)
text_same names (Prod p q) h =
    let a = enclosed_is (is_sum p) (opens_sum_pattern (written_with names p)) (pat_text names p) (written_with names p) (sum_same names p) (text_same names p (left_true (is_closed p) (is_closed q) h)) in
    let b = enclosed_is (is_sum_or_product q) (opens_factor (written_with names q)) (pat_text names q) (written_with names q) (factor_same names q) (text_same names q (right_true (is_closed p) (is_closed q) h)) in
    ap (λ l. l ++ 46 ∷ enclosed (is_sum_or_product q) (pat_text names q)) a
    ∙ ap (λ l. text_of (bracketed (opens_sum_pattern (written_with names p)) (pattern_onto (written_with names p)) []) ++ 46 ∷ l) b
    ∙ sym (append_assoc (text_of (bracketed (opens_sum_pattern (written_with names p)) (pattern_onto (written_with names p)) [])) (46 ∷ []) _)
    ∙ prod_is [] (opens_sum_pattern (written_with names p)) (opens_factor (written_with names q)) (written_with names p) (written_with names q)
text_same names (Star p) h =
    ap (λ l. 42 ∷ l) (enclosed_is (is_sum_or_product p) (opens_factor (written_with names p)) (pat_text names p) (written_with names p) (factor_same names p) (text_same names p h))
