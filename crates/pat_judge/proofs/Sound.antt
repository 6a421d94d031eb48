-- Products of patterns of an interface that have words.
use Rattle.std.proofs.Common.{◌≡◌, ℕ, true, ◌&&◌, refl, sym, ap₂, ◌∙◌}
use Rattle.pat_words_spec.specs.Patterns.{Pat, Prod, is_inhabited, subst_of}
use Rattle.pat_inclusion_spec.specs.Values.{Scope, pattern_of, is_formed}
use Rattle.pat_inclusion_laws.proofs.UnderLaws.{inhabited_subst}

pub formed_product : (s : Scope) (i : ℕ) (e f : Pat) → is_formed s i e ≡ true → is_formed s i f ≡ true → is_formed s i (Prod e f) ≡ true
formed_product s i e f a b = ap₂ (λ x y. x && y) a b

pub inhabited_product : (s : Scope) (e f : Pat) → is_inhabited (subst_of (pattern_of s) e) ≡ true → is_inhabited (subst_of (pattern_of s) f) ≡ true → is_inhabited (subst_of (pattern_of s) (Prod e f)) ≡ true
inhabited_product s e f a b =
    inhabited_subst (pattern_of s) (Prod e f)
    ∙ ap₂ (λ x y. x && y) (sym (inhabited_subst (pattern_of s) e) ∙ a) (sym (inhabited_subst (pattern_of s) f) ∙ b)
