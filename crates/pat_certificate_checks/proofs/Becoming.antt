-- What a side becomes once values are put in, by what its parts become.
use Rattle.std.proofs.Common.{◌≡◌, ℕ, zero, suc, ◌<◌, true, false, ◌||◌, List, [], ◌∷◌, length, get_or, refl, sym, ap, ap₂, ◌∙◌, arith}
use Rattle.std.proofs.lemmas.Bool.{or_parts, ltb-true}
use Rattle.pat_words_spec.specs.Patterns.{Pat, Sum, Prod, Star, Var, is_zero, is_one, pat_eq, sum_of, prod_of, star_of, subst_of}
use Rattle.pat_words_spec.specs.Substitutions.{has_values}
use Rattle.pat_words_laws.proofs.PatternLaws.{pat_eq_same}
use Rattle.pat_patterns.specs.declared.pattern.Pattern.{Pattern}
use Rattle.pat_patterns.specs.Views.{pattern_view, patterns_view, value_at}

pub sum_becomes : (values : ℕ → Pat) (e f g h : Pat) → sum_of g h ≡ Sum g h → subst_of values e ≡ g → subst_of values f ≡ h → subst_of values (Sum e f) ≡ Sum g h
sum_becomes values e f g h kept a b = ap₂ sum_of a b ∙ kept

kept_prod : (e f : Pat) → (is_zero e || is_one e) ≡ false → (is_zero f || is_one f) ≡ false → prod_of e f ≡ Prod e f
kept_prod e f a b =
    let p = or_parts (is_zero e) (is_one e) a in
    let q = or_parts (is_zero f) (is_one f) b in
    rw (p.0, p.1, q.0, q.1) refl

pub prod_becomes : (values : ℕ → Pat) (e f g h : Pat) → (is_zero g || is_one g) ≡ false → (is_zero h || is_one h) ≡ false → subst_of values e ≡ g → subst_of values f ≡ h → subst_of values (Prod e f) ≡ Prod g h
prod_becomes values e f g h p q a b = ap₂ prod_of a b ∙ kept_prod g h p q

pub star_becomes : (values : ℕ → Pat) (e g : Pat) → (is_zero g || is_one g) ≡ false → subst_of values e ≡ g → subst_of values (Star e) ≡ Star g
star_becomes values e g p a = ap star_of a ∙ rw p refl

value_is : (values : List Pattern) (k : ℕ) (p : Pattern) → k < length values → p ≡ get_or values k p → value_at (patterns_view values) k ≡ pattern_view p
value_is [] k p l e = absurd (omega arith)
value_is (q ∷ qs) zero p l e = ap pattern_view (sym e)
value_is (q ∷ qs) (suc k) p l e = value_is qs k p (omega arith) e

pub var_becomes : (values : List Pattern) (k : ℕ) (p : Pattern) (f : Pat) → has_values (length values) (Var k) ≡ true → p ≡ get_or values k p → pat_eq (pattern_view p) f ≡ true → subst_of (value_at (patterns_view values)) (Var k) ≡ f
var_becomes values k p f h e same = value_is values k p (ltb-true k (length values) h) e ∙ pat_eq_same (pattern_view p) f same
