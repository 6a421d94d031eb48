-- The closed form of a pattern of an interface with all values put in: over its own tags it is what it is over the most.
use Rattle.std.proofs.Common.{◌≡◌, ℕ, ◌≤◌, ◌<◌, true, ◌&&◌, List, Option, Some, None, sym, ap, ◌∙◌, subst, arith}
use Rattle.std.specs.Prelude.{nat_le}
use Rattle.std.proofs.lemmas.Bool.{lt-leb, cond-false}
use Rattle.pat_words_spec.specs.Patterns.{Pat, subst_of}
use Rattle.pat_words_spec.specs.Sizes.{size_of, levels_of}
use Rattle.pat_words_spec.specs.Tags.{tags_below}
use Rattle.pat_inclusion_spec.specs.Counts.{most_tags}
use Rattle.pat_inclusion_spec.specs.LinearSets.{LinearSet}
use Rattle.pat_inclusion_spec.specs.ClosedForms.{sets_of, lists_are_short, is_small, closed_form}
use Rattle.pat_inclusion_spec.specs.Values.{Scope, pattern_of, is_formed, values_fit}
use Rattle.pat_inclusion_laws.proofs.Exact.{tags_are}
use Rattle.pat_inclusion_laws.proofs.FormTags.{closed_same, tags_more}
use Rattle.pat_inclusion_laws.proofs.Shown.{replaced_tags}
use Rattle.pat_limits.specs.Limits.{most_levels, most_nodes}

few : (n : ℕ) → n < 33 → n ≤ most_tags
few n l = let t = tags_are in omega arith

replaced_few : (s : Scope) (i : ℕ) (e : Pat) → s.tags i < 33 → values_fit s ≡ true → is_formed s i e ≡ true → tags_below most_tags (subst_of (pattern_of s) e) ≡ true
replaced_few s i e l fit h = tags_more (s.tags i) most_tags (subst_of (pattern_of s) e) (few (s.tags i) l) (replaced_tags s i e fit h)

replaced_form : (s : Scope) (i : ℕ) (e : Pat) → s.tags i < 33 → values_fit s ≡ true → is_formed s i e ≡ true → closed_form most_tags (subst_of (pattern_of s) e) ≡ closed_form (s.tags i) (subst_of (pattern_of s) e)
replaced_form s i e l fit h = closed_same (s.tags i) most_tags (subst_of (pattern_of s) e) (few (s.tags i) l) (replaced_tags s i e fit h)

large_has_none : (n : ℕ) (e : Pat) → most_nodes < size_of e → closed_form n e ≡ None
large_has_none n e l =
    cond-false (is_small e && lists_are_short n e) (Some (sets_of n e)) None
    (ap (λ b. (b && nat_le (levels_of e) most_levels) && lists_are_short n e) (lt-leb (size_of e) most_nodes l))

-- ---- where the pattern stands by another name

pub few_in : (s : Scope) (i : ℕ) (e p : Pat) → s.tags i < 33 → values_fit s ≡ true → is_formed s i e ≡ true → p ≡ subst_of (pattern_of s) e → tags_below most_tags p ≡ true
few_in s i e p l fit h q = subst (λ x. tags_below most_tags x ≡ true) (sym q) (replaced_few s i e l fit h)

pub form_in : (s : Scope) (i : ℕ) (e p : Pat) (form : Option (List LinearSet)) → s.tags i < 33 → values_fit s ≡ true → is_formed s i e ≡ true → p ≡ subst_of (pattern_of s) e → form ≡ closed_form most_tags p → form ≡ closed_form (s.tags i) (subst_of (pattern_of s) e)
form_in s i e p form l fit h q f = f ∙ ap (closed_form most_tags) q ∙ replaced_form s i e l fit h

pub none_in : (n : ℕ) (e : Pat) → most_nodes < size_of e → None ≡ closed_form n e
none_in n e l = sym (large_has_none n e l)
