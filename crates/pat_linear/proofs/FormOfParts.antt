-- When the forms of a small pattern's parts can be joined, and that one with few nodes is small.
use Rattle.std.proofs.Common.{◌≡◌, ℕ, ◌≤◌, ◌^◌, ◌<◌, true, List, ◌∷◌, sym, ap, ◌∙◌, subst, arith}
use Rattle.std.proofs.lemmas.Bool.{ltb-true}
use Rattle.pat_words_spec.specs.Patterns.{Pat, Tag, Prod, Star}
use Rattle.pat_words_spec.specs.Tags.{tags_below}
use Rattle.pat_words_spec.specs.Sizes.{size_of}
use Rattle.pat_words_laws.proofs.SizeLaws.{levels_size}
use Rattle.pat_inclusion_spec.specs.Counts.{most_tags}
use Rattle.pat_inclusion_spec.specs.LinearSets.{LinearSet}
use Rattle.pat_inclusion_spec.specs.ClosedForms.{sets_of, lists_are_short, is_small}
use Rattle.pat_inclusion_laws.proofs.FormCounts.{form_counts, form_clean}
use Rattle.pat_inclusion_laws.proofs.Exact.{tags_are}
use Rattle.pat_patterns.specs.declared.postfix_form.Head.TheVariants.{Prod as ProdHead, Star as StarHead}
use Rattle.pat_linear.specs.Forms.{CanJoin}
use Rattle.pat_linear.proofs.Standing.{small, small_down}
use Rattle.pat_limits.specs.Limits.{most_levels}

pub few_nodes : (e : Pat) → size_of e ≤ most_levels → is_small e ≡ true
few_nodes e few = let levels = levels_size e in small e (omega arith) (omega arith)

pub tag_below : (e : Pat) (m : ℕ) → e ≡ Tag m → tags_below most_tags e ≡ true → m < 32
tag_below e m is tags =
    let own : tags_below most_tags (Tag m) ≡ true = subst (λ x. tags_below most_tags x ≡ true) is tags in
    subst (λ n. m < n) tags_are (ltb-true m most_tags own)

-- the form of the pattern was put on top of others, and is short
abbrev pub IsPut : Pat → List (List LinearSet) → List (List LinearSet) → Type 0
IsPut e old new = (new ≡ sets_of most_tags e ∷ old) × (lists_are_short most_tags e ≡ true)

pub can_multiply : (whole e f : Pat) (old middle new : List (List LinearSet)) → Prod e f ≡ whole → is_small whole ≡ true → IsPut e old middle → IsPut f middle new → CanJoin most_tags ProdHead new
can_multiply whole e f old middle new is sm first second =
    let parts = small_down.prod e f (subst (λ x. is_small x ≡ true) (sym is) sm) in
    let both : new ≡ sets_of most_tags f ∷ sets_of most_tags e ∷ old = second.0 ∙ ap (λ forms. sets_of most_tags f ∷ forms) first.0 in
    subst (CanJoin most_tags ProdHead) (sym both)
    (2 ^ 27, 2 ^ 27, 2 ^ 27, form_counts most_tags e parts.0 first.1, form_counts most_tags f parts.1 second.1, omega arith)

pub can_repeat : (whole e : Pat) (old new : List (List LinearSet)) → Star e ≡ whole → is_small whole ≡ true → IsPut e old new → CanJoin most_tags StarHead new
can_repeat whole e old new is sm put =
    let part = small_down.star e (subst (λ x. is_small x ≡ true) (sym is) sm) in
    subst (CanJoin most_tags StarHead) (sym put.0) (form_counts most_tags e part put.1, form_clean most_tags e)
