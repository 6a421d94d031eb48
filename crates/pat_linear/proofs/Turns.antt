-- The turns of the walk along right parts, by what the code's steps answer.
use Rattle.std.proofs.Common.{◌≡◌, Bool, true, false, List, [], map, sym, subst, ap, ◌∙◌}
use Rattle.std.specs.Prelude.{Ok, Err}
use Rattle.std.proofs.lemmas.Bool.{and_parts}
use Rattle.pat_words_spec.specs.Patterns.{Pat, Sum, Prod}
use Rattle.pat_words_spec.specs.Tags.{tags_below}
use Rattle.pat_inclusion_spec.specs.Counts.{most_tags}
use Rattle.pat_inclusion_spec.specs.LinearSets.{LinearSet}
use Rattle.pat_inclusion_spec.specs.ClosedForms.{only_empty, set_product, sets_of, lists_are_short, is_small}
use Rattle.pat_linear.specs.declared.error.FormError.{FormError}
use Rattle.pat_linear.specs.declared.error.FormError.TheVariants.{TooLarge, NoMemory}
use Rattle.pat_linear.specs.Forms.{GivesSets}
use Rattle.pat_linear.specs.Along.{IsAlong, Appends, Multiplies}
use Rattle.pat_linear.proofs.Standing.{small_down}
use Rattle.pat_linear.proofs.Walked.{walk_begun, rest_small, sum_walked, prod_walked, end_refused, sum_refused, prod_refused}

-- ---- what the parts keep of the rest

pub walk_small : (whole rest : Pat) (f : LinearSet) (done : List LinearSet) → IsAlong whole rest f done → is_small rest ≡ true
walk_small whole rest f done h = rest_small h.lefts rest h.small

pub sum_small : (whole rest l r : Pat) (f : LinearSet) (done : List LinearSet) → Sum l r ≡ rest → IsAlong whole rest f done → is_small l ≡ true
sum_small whole rest l r f done is h =
    (small_down.sum l r (subst (λ x. is_small x ≡ true) (sym is) (walk_small whole rest f done h))).0

pub prod_small : (whole rest l r : Pat) (f : LinearSet) (done : List LinearSet) → Prod l r ≡ rest → IsAlong whole rest f done → is_small l ≡ true
prod_small whole rest l r f done is h =
    (small_down.prod l r (subst (λ x. is_small x ≡ true) (sym is) (walk_small whole rest f done h))).0

-- the tags of both parts
pub sum_tags : (rest l r : Pat) → Sum l r ≡ rest → tags_below most_tags rest ≡ true → (tags_below most_tags l ≡ true) × (tags_below most_tags r ≡ true)
sum_tags rest l r is h = and_parts (tags_below most_tags l) (tags_below most_tags r) (ap (tags_below most_tags) is ∙ h)

pub prod_tags : (rest l r : Pat) → Prod l r ≡ rest → tags_below most_tags rest ≡ true → (tags_below most_tags l ≡ true) × (tags_below most_tags r ≡ true)
prod_tags rest l r is h = and_parts (tags_below most_tags l) (tags_below most_tags r) (ap (tags_below most_tags) is ∙ h)

-- ---- turns

pub walk_starts : (p : Pat) (f : LinearSet) (done : List LinearSet) → is_small p ≡ true → f ≡ only_empty → done ≡ [] → IsAlong p p f done
walk_starts p f done sm fe de =
    subst (λ x. IsAlong p p x done) (sym fe) (subst (IsAlong p p only_empty) (sym de) (walk_begun p sm))

pub sum_turn : (whole rest l r : Pat) (f : LinearSet) (done new : List LinearSet) (u : Unit {0}) → Sum l r ≡ rest → IsAlong whole rest f done → Appends (Ok u) (lists_are_short most_tags l) (map (set_product most_tags f) (sets_of most_tags l)) done new → IsAlong whole r f new
sum_turn whole rest l r f done new u is h made =
    sum_walked whole l r f done new (subst (λ x. IsAlong whole x f done) (sym is) h) made.0 made.1

pub prod_turn : (whole rest l r : Pat) (f g : LinearSet) (done : List LinearSet) (single : Bool) → Prod l r ≡ rest → IsAlong whole rest f done → single ≡ true → Multiplies (Ok single) (lists_are_short most_tags l) (sets_of most_tags l) f g → IsAlong whole r g done
prod_turn whole rest l r f g done false is h one made = absurd (cc)
prod_turn whole rest l r f g done true is h one made =
    prod_walked whole l r f g made.0 done (subst (λ x. IsAlong whole x f done) (sym is) h) made.1 made.2 made.3

-- the factor stays
pub factor_stays : (l : Pat) (f g : LinearSet) (single : Bool) → single ≡ false → Multiplies (Ok single) (lists_are_short most_tags l) (sets_of most_tags l) f g → g ≡ f
factor_stays l f g false none made = made
factor_stays l f g true none made = absurd (cc)

pub factor_still : (whole rest : Pat) (f g : LinearSet) (done : List LinearSet) → IsAlong whole rest f done → g ≡ f → IsAlong whole rest g done
factor_still whole rest f g done h same = subst (λ x. IsAlong whole rest x done) (sym same) h

-- ---- refusals

pub sum_stops : (whole rest l r : Pat) (f : LinearSet) (done new : List LinearSet) (error : FormError) → Sum l r ≡ rest → IsAlong whole rest f done → Appends (Err error) (lists_are_short most_tags l) (map (set_product most_tags f) (sets_of most_tags l)) done new → GivesSets (Err error) (lists_are_short most_tags whole) (sets_of most_tags whole)
sum_stops whole rest l r f done new NoMemory is h made = tt
sum_stops whole rest l r f done new TooLarge is h made =
    sum_refused whole l r f done (subst (λ x. IsAlong whole x f done) (sym is) h) made

pub prod_stops : (whole rest l r : Pat) (f g : LinearSet) (done : List LinearSet) (error : FormError) → Prod l r ≡ rest → IsAlong whole rest f done → Multiplies (Err error) (lists_are_short most_tags l) (sets_of most_tags l) f g → GivesSets (Err error) (lists_are_short most_tags whole) (sets_of most_tags whole)
prod_stops whole rest l r f g done NoMemory is h made = tt
prod_stops whole rest l r f g done TooLarge is h made =
    prod_refused whole l r f done (subst (λ x. IsAlong whole x f done) (sym is) h) made

pub end_stops : (whole rest : Pat) (f : LinearSet) (done new : List LinearSet) (error : FormError) → IsAlong whole rest f done → Appends (Err error) (lists_are_short most_tags rest) (map (set_product most_tags f) (sets_of most_tags rest)) done new → GivesSets (Err error) (lists_are_short most_tags whole) (sets_of most_tags whole)
end_stops whole rest f done new NoMemory h made = tt
end_stops whole rest f done new TooLarge h made = end_refused whole rest f done h made
